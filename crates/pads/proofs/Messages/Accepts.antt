-- Each call returns 0 exactly if its tests are all met; and what the calls' returns need.
use mathlib.Core.Path.{◌≡◌, refl, sym, subst}
use mathlib.Core.List.{List}
use Prim.Native.Nat.{ℕ, ◌*◌}
use native.Mathlib.Omega.{arith}
use mir.Syntax.{w64}
use mir.Val.{Fits}
use Rattle.answer.specs.Tests.{Test, AllMet, first_fault}
use Rattle.answer.proofs.Faults.{admitted_by}
use Rattle.answer.proofs.Answers.{outcome-accepts}
use Rattle.pads.specs.Messages.Calls.{mask_tests, unmask_tests, correction_bits, mask_messages, unmask_messages, Accepts}

pub accepts : Accepts
unfolding correction_bits mask_messages unmask_messages
accepts =
    record {
      correction = λ count l. outcome-accepts _ _ _ _ _ refl;
      mask = λ count l. outcome-accepts _ _ _ _ _ refl;
      unmask = λ count l. outcome-accepts _ _ _ _ _ refl;
    }

-- the lengths that are returned are words
pub mask_fit : (count : ℕ) (bits pads messages : List ℕ) (room n : ℕ) → n ≡ first_fault (mask_tests count bits pads messages room) → n ≡ 0
    → Fits w64 (32 * count)
mask_fit count bits pads messages room n e z = omega (arith, (admitted_by _ n refl e z).all)

pub unmask_fit : (count : ℕ) (wanted pads answers : List ℕ) (room n : ℕ) → n ≡ first_fault (unmask_tests count wanted pads answers room) → n ≡ 0
    → Fits w64 (16 * count)
unmask_fit count wanted pads answers room n e z = omega (arith, (admitted_by _ n refl e z).all)

-- tests that are met for a count are so for a length that is that count
pub by_length : {n count : ℕ} (tests : ℕ → List Test) → n ≡ count → AllMet (tests count) → AllMet (tests n)
by_length tests e a = subst (λ m. AllMet (tests m)) (sym e) a
