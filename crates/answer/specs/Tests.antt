-- The tests of a call, in the documents' order, and the number of the first that finds a fault (document 01, 'Numbers of the
-- calls'). A call's list has one test a line: what is asked, `or` the number that is returned where it is not so.
use Rattle.std.specs.Prelude.{◌≡◌, Bool, true, not, List, [], ◌∷◌, ℕ, ◌≤◌, leb, eqb, get_or}
use Rattle.algebra.specs.Choice.{choose}
use Rattle.answer.specs.Numbers.{accepted}
use Rattle.answer.specs.Bytes.{any_above}

infix 69 ◌is◌
infix 69 ◌at_most◌
infix 68 ◌or◌
-- what a test asks
pub data Ask : Type 0 where
  -- a number is another
  ◌is◌ : ℕ → ℕ → Ask
  -- a number is at most another
  ◌at_most◌ : ℕ → ℕ → Ask
  -- each byte of a slice is at most a limit
  all_at_most : ℕ → List ℕ → Ask
  -- what the call itself defines holds
  holds : Bool → Ask

-- the fact that it asks for
abbrev pub Says : Ask → Type 0
Says (a is b) = a ≡ b
Says (a at_most b) = a ≤ b
Says (all_at_most limit bytes) = (k : ℕ) → get_or bytes k 0 ≤ limit
Says (holds t) = t ≡ true

-- whether it is so
unfoldable pub is_met : Ask → Bool
is_met (a is b) = eqb a b
is_met (a at_most b) = leb a b
is_met (all_at_most limit bytes) = not (any_above limit bytes)
is_met (holds t) = t

-- a test: what it asks, or the number of its fault
pub data Test : Type 0 where
  ◌or◌ : Ask → ℕ → Test

-- the number of the first test that is not met, in their order; 0 where all are met
unfoldable pub first_fault : List Test → ℕ
first_fault [] = accepted
first_fault (a or n ∷ tests) = choose (is_met a) (first_fault tests) n

-- all that the tests ask for
abbrev pub AllSaid : List Test → Type 0
AllSaid [] = Unit {0}
AllSaid (a or n ∷ tests) = Says a × AllSaid tests

-- every test is met: what is asked is so
pub record AllMet (tests : List Test) : Type 0 where
  pub all : AllSaid tests
