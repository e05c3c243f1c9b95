-- Ones of a part, counted in streams.
use Rattle.std.specs.Prelude.{ℕ, zero, suc, ◌+◌, ◌*◌, List, take, drop}
use Rattle.codes.specs.Bits.{sum, bits_of}

-- the ones of k streams of n words each, the first from byte `first` on, each `step` bytes after the one before
unfoldable pub in_streams : ℕ → ℕ → List ℕ → ℕ → ℕ → ℕ
in_streams zero n bytes first step = 0
in_streams (suc k) n bytes first step = in_streams k n bytes first step + sum (take (n * 64) (drop ((first + k * step) * 8) (bits_of bytes)))
