-- Bits, highest first, and the bytes that they fill.
use Rattle.std.specs.Prelude.{ℕ, zero, suc, ◌+◌, ◌*◌, ◌/◌, ◌%◌, ◌^◌, List, [], ◌∷◌, ◌++◌, length, take, drop, replicate}

-- the w lowest bits of x, highest first
unfoldable pub bits : ℕ → ℕ → List ℕ
bits zero x = []
bits (suc w) x = (x / 2 ^ w % 2) ∷ bits w x

-- the number that bits spell
unfoldable pub number : List ℕ → ℕ
number [] = 0
number (b ∷ bs) = b * 2 ^ length bs + number bs

-- the sum of numbers: of bits, how many are 1
unfoldable pub sum : List ℕ → ℕ
sum [] = 0
sum (x ∷ xs) = x + sum xs

-- numbers one after the other, each in w bits
unfoldable pub fixed : ℕ → List ℕ → List ℕ
fixed w [] = []
fixed w (v ∷ vs) = bits w v ++ fixed w vs

-- the bits of bytes: bits fill bytes from the top
abbrev pub bits_of : List ℕ → List ℕ
bits_of bytes = fixed 8 bytes

-- the first n numbers that bits spell, each in w bits
unfoldable pub numbers : ℕ → ℕ → List ℕ → List ℕ
numbers w zero bs = []
numbers w (suc n) bs = number (take w bs) ∷ numbers w n (drop w bs)

-- the first k bytes that bits fill
abbrev pub bytes_of : ℕ → List ℕ → List ℕ
bytes_of k bs = numbers 8 k bs

-- the fewest whole bytes that hold n bits; `ExactParts.fewest` in Promises says so
abbrev pub bytes_for : ℕ → ℕ
bytes_for n = (n + 7) / 8

-- bits padded with zero bits to whole bytes
unfoldable pub padded : List ℕ → List ℕ
padded bs = bytes_of (bytes_for (length bs)) (bs ++ replicate 7 0)
