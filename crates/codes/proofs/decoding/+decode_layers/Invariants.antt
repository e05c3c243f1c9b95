-- The measure is `layers`, one less for the layers after, whose values are as many as the ones counted. Where these are decoded and small
-- `merge_by_width` has the layer's values; where a test fails, `decoded_layers` has none, either.
use Rattle.codes.proofs.decoding.+decode_layers.Given as goal

abbrev pub decreases-decode_layers : goal.decreases-decode_layers
decreases-decode_layers l = l.layers
