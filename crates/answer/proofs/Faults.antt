-- The first fault of a list of tests, one by one as code has them, and what is known where there is none. `chain` closes each return of
-- a function that gives a call's number.
use mathlib.Core.Path.{◌≡◌, refl, sym, ◌∙◌}
use mathlib.Core.Bool.{Bool, true, false, not, false≢true}
use mathlib.Core.List.{List, [], ◌∷◌, ◌++◌}
use Prim.Native.Nat.{ℕ, zero, suc, ◌≤◌, ◌<◌}
use native.Mathlib.Omega.{arith}
use lib.Dec.{ltb, eqb}
use borrow.Author.Tests.{leb-true, ltb-true, ltb-false, eqb-true, eqb-false, le-leb, lt-leb, lt-ltb, le-ltb, eq-eqb, ne_eqb, not-true, not-false}
use Rattle.algebra.specs.Choice.{choose}
use Rattle.algebra.proofs.Tests.{and_left, and_right}
use Rattle.answer.specs.Bytes.{any_above}
use Rattle.answer.specs.Tests.{Ask, ◌is◌, ◌at_most◌, all_at_most, holds, Says, is_met, Test, ◌or◌, first_fault, AllSaid, AllMet}
use Rattle.answer.specs.Inner.Numbered.{numbered, apart}
use Rattle.answer.proofs.Above.{none_above, above-none}

-- ---- a test is met or not, by what the code has

module _ (a b : ℕ) where
  pub is_so : a ≡ b → is_met (a is b) ≡ true
  unfolding is_met
  is_so = eq-eqb a b

  pub is_not : (a ≡ b → ⊥) → is_met (a is b) ≡ false
  unfolding is_met
  is_not = ne_eqb a b

  pub at-most : a ≤ b → is_met (a at_most b) ≡ true
  unfolding is_met
  at-most = le-leb a b

  pub above : b < a → is_met (a at_most b) ≡ false
  unfolding is_met
  above = lt-leb a b

  -- by a function that tests for it
  pub is_by : (t : Bool) → t ≡ eqb a b → t ≡ true → is_met (a is b) ≡ true
  unfolding is_met
  is_by t e g = sym e ∙ g

  pub is_not_by : (t : Bool) → t ≡ eqb a b → t ≡ false → is_met (a is b) ≡ false
  unfolding is_met
  is_not_by t e g = sym e ∙ g

  pub at_most_by : (t : Bool) → t ≡ ltb b a → t ≡ false → is_met (a at_most b) ≡ true
  at_most_by t e g = at-most (ltb-false b a (sym e ∙ g))

  pub above_by : (t : Bool) → t ≡ ltb b a → t ≡ true → is_met (a at_most b) ≡ false
  above_by t e g = above (ltb-true b a (sym e ∙ g))

-- by an order that the call itself asks for
module _ (a b : ℕ) where
  pub below : a < b → is_met (holds (ltb a b)) ≡ true
  unfolding is_met
  below = lt-ltb a b

  pub not-below : b ≤ a → is_met (holds (ltb a b)) ≡ false
  unfolding is_met
  not-below = le-ltb a b

-- by a function that gives the number that is to be at most another
module _ (a b given : ℕ) (e : given ≡ a) where
  pub given_at_most : given ≤ b → is_met (a at_most b) ≡ true
  given_at_most h = at-most a b (omega arith)

  pub given_above : b < given → is_met (a at_most b) ≡ false
  given_above h = above a b (omega arith)

module _ (limit : ℕ) (bytes : List ℕ) (t : Bool) where
  pub none_so : t ≡ any_above limit bytes → t ≡ false → is_met (all_at_most limit bytes) ≡ true
  unfolding is_met
  none_so e g = rw (sym e ∙ g)

  pub some_so : t ≡ any_above limit bytes → t ≡ true → is_met (all_at_most limit bytes) ≡ false
  unfolding is_met
  some_so e g = rw (sym e ∙ g)

module _ (s t : Bool) where
  pub held : t ≡ s → t ≡ true → is_met (holds s) ≡ true
  unfolding is_met
  held e g = sym e ∙ g

  pub broken : t ≡ s → t ≡ false → is_met (holds s) ≡ false
  unfolding is_met
  broken e g = sym e ∙ g

-- ---- the first fault, test by test

module _ (a : Ask) (n : ℕ) (tests : List Test) where
  pub fault_here : is_met a ≡ false → n ≡ first_fault (a or n ∷ tests)
  unfolding first_fault
  fault_here e = rw e

  pub fault_later : (k : ℕ) → is_met a ≡ true → k ≡ first_fault tests → k ≡ first_fault (a or n ∷ tests)
  unfolding first_fault
  fault_later k e g = rw e g

pub fault_nowhere : 0 ≡ first_fault []
unfolding first_fault
fault_nowhere = refl

pub ruleset chain = (
  fault_here,
  fault_later,
  fault_nowhere,
  is_so,
  is_not,
  at-most,
  above,
  is_by,
  is_not_by,
  at_most_by,
  above_by,
  none_so,
  some_so,
  held,
  broken,
  not-true,
  not-false,
)

-- ---- no fault: all that is asked is so

met : (a : Ask) → is_met a ≡ true → Says a
unfolding is_met
met (a is b) e = eqb-true a b e
met (a at_most b) e = leb-true a b e
met (all_at_most limit bytes) e = none_above limit bytes (not-true (any_above limit bytes) e)
met (holds t) e = e

meets : (a : Ask) → Says a → is_met a ≡ true
unfolding is_met
meets (a is b) s = eq-eqb a b s
meets (a at_most b) s = le-leb a b s
meets (all_at_most limit bytes) s = rw (above-none limit bytes (λ k h. s k))
meets (holds t) s = s

-- a fault's number is not 0
passed : (t : Bool) (n rest : ℕ) → choose t rest (suc n) ≡ 0 → (t ≡ true) × (rest ≡ 0)
passed true n rest e = (refl, e)
passed false n rest e = absurd (omega arith)

said : (tests : List Test) → numbered tests ≡ true → first_fault tests ≡ 0 → AllSaid tests
unfolding first_fault
said [] r e = tt
said (a or zero ∷ tests) r e = absurd (false≢true r)
said (a or suc n ∷ tests) r e = let p = passed (is_met a) n (first_fault tests) e in (met a p.0, said tests r p.1)

pub all_met : (tests : List Test) → numbered tests ≡ true → first_fault tests ≡ 0 → AllMet tests
all_met tests r e = record { all = said tests r e }

-- all that is asked is so, by the number that a function gives
pub admitted_by : (tests : List Test) (n : ℕ) → numbered tests ≡ true → n ≡ first_fault tests → n ≡ 0 → AllMet tests
admitted_by tests n r e z = all_met tests r (sym e ∙ z)

-- and all that is asked being so, there is no fault
unfaulted : (tests : List Test) → AllSaid tests → first_fault tests ≡ 0
unfolding first_fault
unfaulted [] s = refl
unfaulted (a or n ∷ tests) s = rw (meets a s.0) (unfaulted tests s.1)

pub no_fault : (tests : List Test) → AllMet tests → first_fault tests ≡ 0
no_fault tests m = unfaulted tests m.all

-- ---- tests after others

-- with the others met, the first fault is theirs
after-said : (tests more : List Test) → AllSaid tests → first_fault (tests ++ more) ≡ first_fault more
unfolding first_fault
after-said [] more s = refl
after-said (a or n ∷ tests) more s = rw (meets a s.0) (after-said tests more s.1)

pub fault-after : (tests more : List Test) (n k : ℕ) → numbered tests ≡ true → n ≡ first_fault tests → n ≡ 0 → k ≡ first_fault more
    → k ≡ first_fault (tests ++ more)
fault-after tests more n k r e z g = g ∙ sym (after-said tests more (admitted_by tests n r e z).all)

-- a fault before them stays the first
pub fault_before : (tests more : List Test) (n : ℕ) → n ≡ first_fault tests → (n ≡ 0 → ⊥) → n ≡ first_fault (tests ++ more)
unfolding first_fault
fault_before [] more n e h = absurd (h e)
fault_before (a or k ∷ tests) more n e h = by (is_met a) e (λ g. fault_before tests more n g h)
  where
    by : (t : Bool) → n ≡ choose t (first_fault tests) k → (n ≡ first_fault tests → n ≡ first_fault (tests ++ more))
        → n ≡ choose t (first_fault (tests ++ more)) k
    by true g later = later g
    by false g later = g

-- a last test: a number that is not its own is that of the tests before it
pub last-not : (a : Ask) (k : ℕ) (tests : List Test) → (first_fault (tests ++ (a or k ∷ [])) ≡ k → ⊥)
    → first_fault (tests ++ (a or k ∷ [])) ≡ first_fault tests
unfolding first_fault
last-not a k [] = by (is_met a)
  where
    by : (t : Bool) → (choose t 0 k ≡ k → ⊥) → choose t 0 k ≡ 0
    by true h = refl
    by false h = absurd (h refl)
last-not a k (b or n ∷ tests) = by (is_met b) (last-not a k tests)
  where
    by : (t : Bool) {x y : ℕ} → ((x ≡ k → ⊥) → x ≡ y) → (choose t x n ≡ k → ⊥) → choose t x n ≡ choose t y n
    by true later h = later h
    by false later h = refl

-- and its own, which is no other test's, says that those are met
pub last_only : (a : Ask) (k : ℕ) (tests : List Test) → apart k tests ≡ true → first_fault (tests ++ (a or k ∷ [])) ≡ k → first_fault tests ≡ 0
unfolding first_fault
last_only a k [] r e = refl
last_only a k (b or n ∷ tests) r e =
    by (is_met b) (last_only a k tests (and_right (not (eqb n k)) (apart k tests) r)) (not-true (eqb n k) (and_left (not (eqb n k)) (apart k tests) r)) e
  where
    by : (t : Bool) {x y : ℕ} → (x ≡ k → y ≡ 0) → eqb n k ≡ false → choose t x n ≡ k → choose t y n ≡ 0
    by true later other g = later g
    by false later other g = absurd (eqb-false n k other g)
