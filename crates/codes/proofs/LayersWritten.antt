-- One layer of the chunked code as it is written: its continuation bits, its chunks, and what is left of the values after it.
use Rattle.std.proofs.Common.{◌≡◌, ℕ, ◌+◌, ◌*◌, ◌/◌, ◌%◌, ◌^◌, ◌<◌, ◌≤◌, Bool, true, false, cond, eqb, List, [], ◌∷◌, ◌++◌, map, length, get_or, take, drop, set, sym, refl, append_assoc, append-nil, le_trans, le_refl, add-zero, mul-le-mul_left, div-mul-le_self, add-one, arith, length-append, length-take-le, take-suc, take-suc-set, take-add, pow_mono}
use Rattle.std.proofs.lemmas.Bool.{eqb-false}
use Rattle.std.proofs.lemmas.List.{map_more, length-map, take-set-le}
use Rattle.codes.specs.Bits.{bits, number, sum, fixed}
use Rattle.codes.specs.Codes.{continuation, rest, chunked, Within}
use Rattle.codes.proofs.Bits.{length-bits, length-fixed, number_append, number-bits, fixed-append}
use Rattle.codes.proofs.Layers.{rest-append, chunked-step}

-- ---- continuation bits

-- one bit more
pub number-continuations-suc : (b : ℕ) (vs : List ℕ) (i : ℕ) → i < length vs
    → number (map (continuation b) (take i vs)) * 2 + continuation b (get_or vs i 0) ≡ number (map (continuation b) (take (i + 1) vs))
unfolding number
number-continuations-suc b vs i h = rw (map_more (continuation b) vs i 0 h, number_append (map (continuation b) (take i vs)) (continuation b (get_or vs i 0) ∷ [])) (omega arith)

-- ---- chunks

-- one value more in w bits
pub fixed-suc : (w : ℕ) (vs : List ℕ) (i : ℕ) → i < length vs → fixed w (take (i + 1) vs) ≡ fixed w (take i vs) ++ bits w (get_or vs i 0)
unfolding fixed
fixed-suc w vs i h =
    rw (add-one i, take-suc vs i 0 h, fixed-append w (take i vs) (get_or vs i 0 ∷ []), append-nil (bits w (get_or vs i 0)))

pub fixed-add : (w : ℕ) (vs : List ℕ) (i k : ℕ) → fixed w (take (i + k) vs) ≡ fixed w (take i vs) ++ fixed w (take k (drop i vs))
fixed-add w vs i k = rw (take-add i k vs) (fixed-append w (take i vs) (take k (drop i vs)))

pub length-fixed-take : (w : ℕ) (vs : List ℕ) (i : ℕ) → i ≤ length vs → length (fixed w (take i vs)) ≡ i * w
length-fixed-take w vs i h = rw (length-fixed w (take i vs), length-take-le i vs h)

pub number-fixed-suc : (w : ℕ) (vs : List ℕ) (i : ℕ) → i < length vs
    → number (fixed w (take i vs)) * 2 ^ w + get_or vs i 0 % 2 ^ w ≡ number (fixed w (take (i + 1) vs))
number-fixed-suc w vs i h =
    let x = get_or vs i 0 in
    sym (rw (fixed-suc w vs i h, number_append (fixed w (take i vs)) (bits w x), length-bits w x, number-bits w x))

-- ---- what is left

pub rest-add : (b : ℕ) (vs : List ℕ) (i k : ℕ) → rest b (take (i + k) vs) ≡ rest b (take i vs) ++ rest b (take k (drop i vs))
rest-add b vs i k = rw (take-add i k vs) (rest-append b (take i vs) (take k (drop i vs)))

-- value i of ws, stored after what is left of those before it, and counted where it goes on
pub rest-suc : (b k i : ℕ) (vs ws front : List ℕ) → k < length vs → i < length ws → take k vs ≡ front ++ rest b (take i ws)
    → take (k + continuation b (get_or ws i 0)) (set vs k (get_or ws i 0 / 2 ^ b)) ≡ front ++ rest b (take (i + 1) ws)
unfolding rest
rest-suc b k i vs ws front l h e =
    rw (add-one i, take-suc ws i 0 h, rest-append b (take i ws) (get_or ws i 0 ∷ []), ← (append_assoc front (rest b (take i ws)) (rest b (get_or ws i 0 ∷ []))), ← e) (go (eqb q 0))
  where
    q : ℕ
    q = get_or ws i 0 / 2 ^ b

    go : (t : Bool) → take (k + cond t 0 1) (set vs k q) ≡ take k vs ++ cond t [] (q ∷ [])
    go true = rw (add-zero k, take-set-le k vs k q (le_refl k), append-nil (take k vs))
    go false = rw (add-one k, take-suc-set vs k q l)

-- the number of values left, and their sum, are together at most the sum of the values
pub rest_sum : (b : ℕ) (vs : List ℕ) → 1 ≤ b → length (rest b vs) + sum (rest b vs) ≤ sum vs
unfolding rest sum
rest_sum b [] h = omega arith
rest_sum b (v ∷ vs) h = go (eqb (v / 2 ^ b) 0) refl (rest_sum b vs h)
  where
    half : v / 2 ^ b * 2 ≤ v
    half = le_trans (mul-le-mul_left (v / 2 ^ b) (pow_mono {i = 1} {j = b} h)) (div-mul-le_self v (2 ^ b))

    go : (t : Bool) → eqb (v / 2 ^ b) 0 ≡ t → length (rest b vs) + sum (rest b vs) ≤ sum vs
        → length (cond t (rest b vs) (v / 2 ^ b ∷ rest b vs)) + sum (cond t (rest b vs) (v / 2 ^ b ∷ rest b vs)) ≤ v + sum vs
    go true e k = omega arith
    go false e k = let z = eqb-false (v / 2 ^ b) 0 e in omega (arith, half)

-- ---- the layers

-- the whole code has room for the first layer of the values that are left
pub layer-room : (b : ℕ) (vs bs total : List ℕ) → 1 ≤ b → Within 32 vs → bs ++ chunked b vs ≡ total → length bs + (length vs + length vs * b) ≤ length total
layer-room b vs bs total hb h e = rw (← e, chunked-step b vs hb h) (simp (length-append, length-map, length-fixed) (omega arith))

-- and with that layer written, the code of what is left remains
pub layer-next : (b : ℕ) (vs r bs total : List ℕ) → 1 ≤ b → Within 32 vs → bs ++ chunked b vs ≡ total → r ≡ rest b vs
    → ((bs ++ map (continuation b) vs) ++ fixed b vs) ++ chunked b r ≡ total
layer-next b vs r bs total hb h e q = rw q (simp append_assoc (rw (chunked-step b vs hb h) at e))
