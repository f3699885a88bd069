-- Calls that get the values of a function in turn, all of them accepted. Assumes nothing.
use Prim.Native.Nat.{ℕ, zero, suc, ◌<◌}
use mathlib.Core.List.{List, ◌∷◌}
use mathlib.Core.Path.{◌≡◌, refl, sym, ap, ◌∙◌}
use borrow.Author.Tests.{eq-eqb}
use native.Mathlib.Omega.{arith}
use lib.ListN.{get_elem?}
use Rattle.circuit_claims.proofs.CircuitCalls.{CircuitCall}
use Rattle.circuit_claims.specs.Calls.{CallMade, accepted_calls, IsCall}
use Rattle.circuit_hidden.proofs.Lists.{from, from_at, from_is}
use Rattle.number.proofs.Places.{choose_yes}

module _ {L S O : Type 0} (K : CircuitCall L S O) where
  -- the state before each call
  unfoldable pub before : S → (ℕ → L) → ℕ → S
  before s lent zero = s
  before s lent (suc j) = K.state (K.call (lent j) (before s lent j))

  module _ (s : S) (lent : ℕ → L) where
    pub before_first : before s lent 0 ≡ s
    unfolding before
    before_first = refl

    pub before_next : (j : ℕ) → before s lent (suc j) ≡ K.state (K.call (lent j) (before s lent j))
    unfolding before
    before_next j = refl

    abbrev pub made : ℕ → CallMade L O
    made j = record { got = lent j; gave = K.call (lent j) (before s lent j) }

    abbrev pub Accepted : ℕ → Type 0
    Accepted j = K.number (K.call (lent j) (before s lent j)) ≡ 0

    abbrev pub AllAccepted : ℕ → Type 0
    AllAccepted n = (j : ℕ) → j < n → Accepted j

  chain : (n : ℕ) (l : ℕ → L) (s : ℕ → S) → ((j : ℕ) → s (suc j) ≡ K.state (K.call (l j) (s j)))
      → ((j : ℕ) → j < n → K.number (K.call (l j) (s j)) ≡ 0)
      → accepted_calls K.call K.number K.state (s 0) (from l n) ≡ from (λ j. record { got = l j; gave = K.call (l j) (s j) }) n
  unfolding accepted_calls from
  chain zero l s next all = refl
  chain (suc n) l s next all =
      choose_yes {A = List (CallMade L O)} _ _ (eq-eqb _ 0 (all 0 (omega arith)))
      ∙ ap (λ (t : List (CallMade L O)). record { got = l 0; gave = K.call (l 0) (s 0) } ∷ t)
      (ap (λ (z : S). accepted_calls K.call K.number K.state z (from (λ j. l (suc j)) n)) (sym (next 0))
      ∙ chain n (λ j. l (suc j)) (λ j. s (suc j)) (λ j. next (suc j)) (λ j h. all (suc j) (omega arith)))

  module _ (s : S) (lent : ℕ → L) (n : ℕ) (all : AllAccepted s lent n) where
    played : accepted_calls K.call K.number K.state s (from lent n) ≡ from (made s lent) n
    played =
        ap (λ (z : S). accepted_calls K.call K.number K.state z (from lent n)) (sym (before_first s lent))
        ∙ chain n lent (before s lent) (before_next s lent) all

    pub played_at : (j : ℕ) → j < n → IsCall (accepted_calls K.call K.number K.state s (from lent n)) j (made s lent j)
    played_at j h = ap (λ (l : List (CallMade L O)). get_elem? l j) played ∙ from_at (made s lent) n j h

    pub played_is : (j : ℕ) {m : CallMade L O} → IsCall (accepted_calls K.call K.number K.state s (from lent n)) j m
        → (made s lent j ≡ m) × (j < n)
    played_is j h = from_is (made s lent) n j (sym (ap (λ (l : List (CallMade L O)). get_elem? l j) played) ∙ h)
