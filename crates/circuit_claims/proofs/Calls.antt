-- The accepted calls of a list one after the other, for any call that keeps its state when it is refused. Assumes nothing.
use Prim.Native.Nat.{ℕ, zero, suc, ◌≤◌}
use mathlib.Core.Bool.{Bool, true, false}
use mathlib.Core.List.{List, [], ◌∷◌, map}
use mathlib.Core.Option.{some, none}
use mathlib.Core.Path.{◌≡◌, refl, ap, subst}
use borrow.Author.Tests.{eqb-true, eqb-false}
use native.Mathlib.Omega.{arith}
use lib.Dec.{eqb}
use lib.ListN.{get_or}
use Rattle.algebra.specs.Choice.{choose}
use Rattle.number.proofs.Places.{split}
use Rattle.circuit_claims.specs.Calls.{CallMade, accepted_calls, IsCall}

pub some_is : {A : Type 0} {x y : A} → some x ≡ some y → x ≡ y
some_is e = cc

pub none-some : {A : Type 0} {x : A} → none ≡ some x → ⊥
none-some {A} {x} e = let z : ◌≡◌ {A = ℕ} 0 1 = cc in omega arith

-- there is a call before a call
pub call_before : {L O : Type 0} (k : ℕ) (ms : List (CallMade L O)) {m : CallMade L O} → IsCall ms (suc k) m → (a : CallMade L O) × IsCall ms k a
call_before k [] e = absurd (none-some e)
call_before zero (x ∷ ms) e = (x, refl)
call_before (suc k) (x ∷ ms) e = call_before k ms e

pub call_at : {L O : Type 0} (k n : ℕ) (ms : List (CallMade L O)) {m : CallMade L O} → IsCall ms k m → n ≤ k → (a : CallMade L O) × IsCall ms n a
call_at zero n ms {m} e h = (m, subst (λ (j : ℕ). IsCall ms j m) {x = 0} {y = n} (omega arith) e)
call_at (suc k) n ms {m} e h =
    split k n (λ g. (m, subst (λ (j : ℕ). IsCall ms j m) {x = suc k} {y = n} (omega arith) e))
    (λ g. let b = call_before k ms e in call_at k n ms b.1 g)

-- what a list has of each call, at a call
pub made_at : {L O A : Type 0} (f : CallMade L O → A) (d : A) (ms : List (CallMade L O)) (k : ℕ) {m : CallMade L O} → IsCall ms k m → get_or (map f ms) k d ≡ f m
made_at f d [] k e = absurd (none-some e)
made_at f d (x ∷ ms) zero e = ap f (some_is e)
made_at f d (x ∷ ms) (suc k) e = made_at f d ms k e

module _ {L S O : Type 0} (call : L → S → O) (number : O → ℕ) (state : O → S) where
  -- a refused call keeps its state
  abbrev pub Keeps : Type 0
  Keeps = (l : L) (s : S) → (number (call l s) ≡ 0 → ⊥) → state (call l s) ≡ s

  -- m is an accepted call on a state
  abbrev pub MadeOn : S → CallMade L O → Type 0
  MadeOn s m = (m.gave ≡ call m.got s) × (number (call m.got s) ≡ 0)

  -- each call is on the state that the one before left
  unfoldable Chain : S → List (CallMade L O) → Type 0
  Chain s [] = Unit {0}
  Chain s (m ∷ ms) = MadeOn s m × Chain (state m.gave) ms

  abbrev calls-from : S → List L → List (CallMade L O)
  calls-from s calls = accepted_calls call number state s calls

  chain_of : Keeps → (s : S) (calls : List L) → Chain s (calls-from s calls)
  unfolding Chain accepted_calls
  chain_of keeps s [] = tt
  chain_of keeps s (l ∷ ls) = of (eqb (number (call l s)) 0) refl (chain_of keeps (state (call l s)) ls)
    where
      of : (b : Bool) → eqb (number (call l s)) 0 ≡ b → Chain (state (call l s)) (calls-from (state (call l s)) ls)
          → Chain s (choose b (record { got = l; gave = call l s } ∷ calls-from (state (call l s)) ls) (calls-from (state (call l s)) ls))
      of true e later = ((refl, eqb-true _ _ e), later)
      of false e later =
          subst (λ (z : S). Chain z (calls-from (state (call l s)) ls)) (keeps l s (eqb-false _ _ e)) later

  first_in : (s : S) (ms : List (CallMade L O)) → Chain s ms → {m : CallMade L O} → IsCall ms 0 m → MadeOn s m
  unfolding Chain
  first_in s [] h e = absurd (none-some e)
  first_in s (x ∷ ms) h {m} e = subst (MadeOn s) (some_is e) h.0

  next_in : (k : ℕ) (s : S) (ms : List (CallMade L O)) → Chain s ms → {a m : CallMade L O} → IsCall ms k a → IsCall ms (suc k) m → MadeOn (state a.gave) m
  unfolding Chain
  next_in k s [] h e f = absurd (none-some e)
  next_in zero s (x ∷ ms) h {a} {m} e f = subst (λ (y : CallMade L O). MadeOn (state y.gave) m) (some_is e) (first_in (state x.gave) ms h.1 f)
  next_in (suc k) s (x ∷ ms) h e f = next_in k (state x.gave) ms h.1 e f

  -- the first is on the state that the list begins with, a later one on the state that the one before left
  module _ (keeps : Keeps) (s : S) (calls : List L) where
    pub first_made : {m : CallMade L O} → IsCall (calls-from s calls) 0 m → MadeOn s m
    first_made = first_in s (calls-from s calls) (chain_of keeps s calls)

    pub next-made : (k : ℕ) {a m : CallMade L O} → IsCall (calls-from s calls) k a
        → IsCall (calls-from s calls) (suc k) m → MadeOn (state a.gave) m
    next-made k = next_in k s (calls-from s calls) (chain_of keeps s calls)
