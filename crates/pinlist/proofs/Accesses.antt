-- What demand 2 says of a strip that check accepts: its pin count, and that no access is refused.
use mathlib.Core.Path.{◌≡◌, sym, ap, subst, ◌∙◌}
use mathlib.Core.List.{List}
use Prim.Native.Nat.{ℕ, ◌≤◌, ◌<◌}
use native.Mathlib.Omega.{arith}
use lib.ListN.{length, get_or}
use Rattle.std.specs.Prelude.{Result, Ok, Err}
use Rattle.tree.specs.Outcomes.{gives}
use Rattle.tree.specs.Walks.{found, toward}
use Rattle.strip.specs.declared.refusals.Refusal.{Refusal}
use Rattle.strip.specs.Refusals.{outcome}
use Rattle.strip.specs.Layout.{max_pins}
use Rattle.strip.specs.Calls.{access_of, check_of, plain_list}
use Rattle.strip.specs.Demands.{Accepted}
use Rattle.pinlist.specs.Promises.{ListsByAccess}
use Rattle.tree.proofs.Promises.{outcome-laws}
use Rattle.strip.proofs.Demands.{demand-2}
use Rattle.strip.proofs.Promises.{round_trip}

pub access-time : ListsByAccess
access-time s (xs, w, (out, to)) i h =
    let one = demand-2.one_list s xs out w to in
    ap (λ (l : List ℕ). access_of l i) (demand-2.one_strip xs s out to)
    ∙ (round_trip xs one.0).access i (subst (λ (l : List ℕ). i < length l) (sym one.1) h)
    ∙ ap (λ (l : List ℕ). gives (found (get_or l i 0) (length (toward (length l) i)))) one.1

few-pins : (s : List ℕ) → Accepted s → length (plain_list s) ≤ max_pins
few-pins s (xs, w, (out, to)) = let one = demand-2.one_list s xs out w to in rw (← one.1) one.0.few

module _ (s : List ℕ) {n : ℕ} (e : check_of s ≡ gives n) where
  pub accepted : Accepted s
  accepted = (demand-2.accepts s).0 (n, e)

  pub pins_are : n ≡ length (plain_list s)
  pins_are = outcome-laws.same (sym e ∙ demand-2.pin_count s accepted)

  pub pins-few : n ≤ max_pins
  pins-few = omega (arith, pins_are, few-pins s accepted)

-- an answer that gives something is not refused
pub answer-given : {A : Type 0} {a : A} (r : Result A Refusal) → outcome r ≡ gives a → r ≡ Ok a
answer-given (Ok b) e = ap Ok (outcome-laws.same e)
answer-given (Err r) e = absurd (outcome-laws.never (sym e))
