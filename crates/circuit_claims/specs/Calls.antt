-- Lists of calls of one end, steps (document 02, 9) or rounds (circuits in rounds): each call on the state that the call before left.
-- Refused calls may stand anywhere among them.
use Rattle.std.specs.Prelude.{ℕ, List, [], ◌∷◌, ◌≡◌, eqb}
use Rattle.std.proofs.Math.Option.{some}
use Rattle.std.proofs.Math.ListN.{get_elem?}
use Rattle.algebra.specs.Choice.{choose}
use Rattle.answer.specs.Numbers.{accepted}

-- a call: what it got, and what it gave
pub record CallMade (Lent Outcome : Type 0) : Type 0 where
  pub got : Lent
  pub gave : Outcome

-- the accepted calls among calls that get these in turn, from a state on; an outcome has a number and a state
unfoldable pub accepted_calls : {Lent State Outcome : Type 0} → (Lent → State → Outcome) → (Outcome → ℕ) → (Outcome → State)
    → State → List Lent → List (CallMade Lent Outcome)
accepted_calls call number state s [] = []
accepted_calls call number state s (l ∷ ls) =
    choose (eqb (number (call l s)) accepted)
    (record { got = l; gave = call l s } ∷ accepted_calls call number state (state (call l s)) ls)
    (accepted_calls call number state (state (call l s)) ls)

-- m is accepted call k, from 0
abbrev pub IsCall : {Lent Outcome : Type 0} → List (CallMade Lent Outcome) → ℕ → CallMade Lent Outcome → Type 0
IsCall calls k m = get_elem? calls k ≡ some m
