-- What `pinlist` prints for any input, byte by byte. What stands in quotes is 01's, of the program.
use Rattle.std.specs.Prelude.{cond, List, [], ◌∷◌, ◌++◌, ℕ, zero, suc, ◌+◌, ◌/◌, ltb, length, get_or}
use Prim.Native.Char.{code}
use Prim.Native.String.{String, [] as []ˢ, ◌∷◌ as ◌∷ˢ◌}
use Rattle.io.specs.Digits.{last_digits}
use Rattle.tree.specs.Outcomes.{follow}
use Rattle.strip.specs.Calls.{check_of, plain_list}

-- the bytes of a text in ASCII
abbrev pub ascii : String → List ℕ
ascii []ˢ = []
ascii (c ∷ˢ s) = code c ∷ ascii s

-- how many digits a number has: one below 10, else one more than the number without its last digit; f + 1 at most
unfoldable pub places_in : ℕ → ℕ → ℕ
places_in zero n = 1
places_in (suc f) n = let more = suc (places_in f (n / 10)) in cond (ltb n 10) 1 more

-- a number in decimal, of 20 digits at most, as many as 64 bits take
unfoldable pub decimal : ℕ → List ℕ
decimal n = last_digits 10 (places_in 19 n) n

-- a number in decimal, then one byte
unfoldable pub numeral : ℕ → ℕ → List ℕ
numeral x after = decimal x ++ after ∷ []

-- "header then position and time": the header
unfoldable pub header : ℕ → List ℕ
header n = ascii "pins " ++ numeral n (code "\n")

-- a line of two numbers, as position and time
unfoldable pub line : ℕ → ℕ → List ℕ
line x y = numeral x (code " ") ++ numeral y (code "\n")

-- the most bytes of a line
abbrev pub most_in_line : ℕ
most_in_line = 42

-- the lines of k positions of a list, from position i on
unfoldable pub lines_from : List ℕ → ℕ → ℕ → List ℕ
lines_from xs i zero = []
lines_from xs i (suc k) = lines_from xs i k ++ line (i + k) (get_or xs (i + k) 0)

-- what is printed for a list: the header, then the lines of all positions
abbrev pub listing : List ℕ → List ℕ
listing xs = header (length xs) ++ lines_from xs 0 (length xs)

-- "a line such as `refused 13 0`, the number and what it carries"
unfoldable pub refusal_line : ℕ → ℕ → List ℕ
refusal_line number carried = ascii "refused " ++ line number carried

-- "a strip of at most 65,536 bytes"
abbrev pub most_bytes : ℕ
most_bytes = 65536

-- "Longer input prints `too long`. It checks, then lists by access; a refused check prints only a line such as `refused 13 0`"
unfoldable pub printed : List ℕ → List ℕ
printed s = cond (ltb most_bytes (length s)) (ascii "too long\n") (follow refusal_line (check_of s) (λ n. listing (plain_list s)))
