-- What a call returns, by its number, and that it returns 0 exactly if its tests are all met.
use mathlib.Core.Path.{◌≡◌, refl, sym, ap, ◌∙◌}
use mathlib.Core.Bool.{true, false, true≢false}
use mathlib.Core.List.{List}
use mathlib.Core.Logic.{◌↔◌}
use Prim.Native.Nat.{ℕ, zero, suc}
use lib.Dec.{eqb, eqb-suc-zero}
use borrow.Author.Tests.{ne_eqb}
use Rattle.answer.specs.Tests.{Test, first_fault, AllMet}
use Rattle.answer.specs.declared.TwoLengths.{TwoLengths}
use Rattle.answer.specs.Outcome.{by_number, answered, Outcome, TwoWritten, outcome_two, refused_none, refused_one, refused_two, wrote}
use Rattle.answer.specs.Inner.Numbered.{numbered}
use Rattle.answer.proofs.Faults.{all_met, admitted_by, no_fault}
use Rattle.answer.proofs.Refusals.{refusal-counts}

module _ {O : Type 0} (refusal : ℕ → O) (acceptance : O) where
  by_fault : (n : ℕ) → eqb n 0 ≡ false → refusal n ≡ by_number n refusal acceptance
  unfolding by_number
  by_fault zero h = absurd (true≢false h)
  by_fault (suc n) h = refl

  by_none : (n : ℕ) → n ≡ 0 → acceptance ≡ by_number n refusal acceptance
  unfolding by_number
  by_none n e = rw e

module _ {O : Type 0} (tests : List Test) (refusal : ℕ → O) (acceptance x : O) (n : ℕ) (e : n ≡ first_fault tests) where
  -- refused with a number
  pub refused-with : eqb n 0 ≡ false → x ≡ refusal n → x ≡ answered tests refusal acceptance
  unfolding answered
  refused-with h g = g ∙ rw (← e) (by_fault refusal acceptance n h)

  -- accepted
  pub accepted_with : n ≡ 0 → x ≡ acceptance → x ≡ answered tests refusal acceptance
  unfolding answered
  accepted_with z g = g ∙ rw (← e) (by_none refusal acceptance n z)

-- accepted where the code has met every test
pub accepted_now : {O : Type 0} (tests : List Test) (refusal : ℕ → O) (acceptance x : O)
    → 0 ≡ first_fault tests → x ≡ acceptance → x ≡ answered tests refusal acceptance
accepted_now tests refusal acceptance x e g = accepted_with tests refusal acceptance x 0 e refl g

-- with all tests met a call answers as accepted
pub accepted_if : {O : Type 0} (tests : List Test) (refusal : ℕ → O) (acceptance : O) → AllMet tests → answered tests refusal acceptance ≡ acceptance
accepted_if tests refusal acceptance m = sym (accepted_now tests refusal acceptance acceptance (sym (no_fault tests m)) refl)

-- what holds of each refusal and of what is accepted
pub answered_either : {O : Type 0} (Q : O → Type 0) (tests : List Test) (refusal : ℕ → O) (acceptance : O) → ((n : ℕ) → Q (refusal n)) → Q acceptance
    → Q (answered tests refusal acceptance)
unfolding answered by_number
answered_either Q tests refusal acceptance refuses accepts = by (first_fault tests)
  where
    by : (n : ℕ) → Q (by_number n refusal acceptance)
    by zero = accepts
    by (suc n) = refuses (suc n)

-- what is made of a call's answer, made of its refusal and of its acceptance
pub answered-map : {O R : Type 0} (f : O → R) (tests : List Test) (refusal : ℕ → O) (acceptance : O)
    → f (answered tests refusal acceptance) ≡ answered tests (λ n. f (refusal n)) (f acceptance)
unfolding answered by_number
answered-map {O} {R} f tests refusal acceptance = by (first_fault tests)
  where
    by : (n : ℕ) → f (by_number n refusal acceptance) ≡ by_number n (λ k. f (refusal k)) (f acceptance)
    by zero = refl
    by (suc n) = refl

-- tests with the same first fault
pub answered-same : {O : Type 0} (tests others : List Test) (refusal : ℕ → O) (acceptance : O) → first_fault tests ≡ first_fault others
    → answered tests refusal acceptance ≡ answered others refusal acceptance
unfolding answered
answered-same tests others refusal acceptance e = ap (λ (n : ℕ). by_number n refusal acceptance) e

-- a number and lengths, refused
refused_is : {Written Lent : Type 0} (zeros : Written) (lent : Lent) (tests : List Test) (acceptance : Outcome Written Lent) (n : ℕ)
    → n ≡ first_fault tests → eqb n 0 ≡ false
    → record { number = n; written = zeros; lent = lent } ≡ answered tests (λ k. record { number = k; written = zeros; lent = lent }) acceptance
refused_is zeros lent tests acceptance n e h = refused-with tests _ acceptance _ n e h refl

-- as the three kinds of answers have it
module _ {Lent : Type 0} (lent : Lent) (tests : List Test) (n : ℕ) (e : n ≡ first_fault tests) (h : eqb n 0 ≡ false) where
  pub refused_none_lem : (acceptance : Outcome (Unit {0}) Lent) → record { number = n; written = tt; lent = lent } ≡ answered tests (refused_none lent) acceptance
  refused_none_lem acceptance = refused_is tt lent tests acceptance n e h

  pub refused-one : (acceptance : Outcome ℕ Lent) → record { number = n; written = 0; lent = lent } ≡ answered tests (refused_one lent) acceptance
  refused-one acceptance = refused_is 0 lent tests acceptance n e h

  pub refused-two : (acceptance : Outcome TwoWritten Lent)
      → record { number = n; written = record { first_written = 0; second_written = 0 }; lent = lent } ≡ answered tests (refused_two lent) acceptance
  refused-two acceptance = refused_is (record { first_written = 0; second_written = 0 }) lent tests acceptance n e h

-- closes each refused return
pub ruleset refused = (refused_none_lem, refused-one, refused-two, refusal-counts, ne_eqb)

-- ---- accepted exactly if all tests are met

-- for any answer that has a number
module _ {O : Type 0} (number : O → ℕ) (refusal : ℕ → O) (acceptance : O) (gives : (n : ℕ) → number (refusal n) ≡ n) (none : number acceptance ≡ 0) where
  by_number_lem : (n : ℕ) → number (by_number n refusal acceptance) ≡ n
  unfolding by_number
  by_number_lem zero = none
  by_number_lem (suc n) = gives (suc n)

  pub number_of : (tests : List Test) → number (answered tests refusal acceptance) ≡ first_fault tests
  unfolding answered
  number_of tests = by_number_lem (first_fault tests)

  pub accepts_by : (tests : List Test) → numbered tests ≡ true → AllMet tests ↔ number (answered tests refusal acceptance) ≡ 0
  accepts_by tests r = (
    λ m. number_of tests ∙ no_fault tests m,
    λ e. all_met tests r (sym (number_of tests) ∙ e),
  )

  -- what an accepted call answers
  pub accepted_is : (tests : List Test) → number (answered tests refusal acceptance) ≡ 0 → answered tests refusal acceptance ≡ acceptance
  unfolding answered by_number
  accepted_is tests e = ap (λ (n : ℕ). by_number n refusal acceptance) (sym (number_of tests) ∙ e)

-- a call is accepted with all its tests met, or refused with the number of a fault
pub answered_cases {ℓ} : {O : Type 0} {C : Type ℓ} (tests : List Test) (refusal : ℕ → O) (acceptance : O) → numbered tests ≡ true
    → (AllMet tests → answered tests refusal acceptance ≡ acceptance → C)
    → ((n : ℕ) → answered tests refusal acceptance ≡ refusal (suc n) → C) → C
answered_cases {O} {C} tests refusal acceptance r met not-met = cases (first_fault tests) refl
  where
    cases : (n : ℕ) → n ≡ first_fault tests → C
    cases zero e = met (admitted_by tests 0 r e refl) (sym (accepted_now tests refusal acceptance acceptance e refl))
    cases (suc n) e = not-met n (sym (refused-with tests refusal acceptance (refusal (suc n)) (suc n) e (eqb-suc-zero n) refl))

-- which calls are accepted, where the answer is a number and lengths
module _ {Written Lent : Type 0} (zeros written : Written) (lent after : Lent) (tests : List Test) where
  abbrev call : Outcome Written Lent
  call = answered tests (λ k. record { number = k; written = zeros; lent = lent }) (wrote written after)

  pub outcome-accepts : numbered tests ≡ true → AllMet tests ↔ call.number ≡ 0
  outcome-accepts = accepts_by (λ (o : Outcome Written Lent). o.number) _ _ (λ n. refl) refl tests

  pub outcome-number : call.number ≡ first_fault tests
  outcome-number = number_of (λ (o : Outcome Written Lent). o.number) _ _ (λ n. refl) refl tests

  pub outcome_is : call.number ≡ 0 → call ≡ wrote written after
  outcome_is = accepted_is (λ (o : Outcome Written Lent). o.number) _ _ (λ n. refl) refl tests

-- what is returned with no length written
pub answers-two : {Lent : Type 0} {lent : Lent} {x : Outcome TwoWritten Lent} {r : TwoLengths} {n : ℕ}
    → r ≡ record { number = n; first_written = 0; second_written = 0 } → refused_two lent n ≡ x → outcome_two r lent ≡ x
answers-two e g = rw e g
