-- Each pad call returns 0 exactly if its tests are all met, whatever the rule; and Δ's bytes have one above 0 exactly if Δ is not zero.
use mathlib.Core.Path.{◌≡◌, refl, sym, ap, ◌∙◌}
use mathlib.Core.Logic.{⊎_elim}
use mathlib.Core.Bool.{Bool, true, false, true≢false}
use mathlib.Core.List.{List}
use Prim.Native.Nat.{ℕ, zero, suc, ◌≤◌, ◌<◌}
use native.Mathlib.Nat.{eq-or-lt_of_le, le_of_suc-le-suc}
use native.Mathlib.Omega.{arith}
use lib.ListN.{length, get_or}
use Rattle.algebra.specs.Coding.{at}
use Rattle.answer.specs.Bytes.{any_above}
use Rattle.answer.proofs.Above.{none_above, above-none}
use Rattle.answer.proofs.Answers.{outcome-accepts}
use Rattle.field.specs.declared.block.Block.{Block}
use Rattle.field.specs.Binary.{block_zero}
use Rattle.field.specs.Bytes.{le_number, word_at}
use Rattle.pads.specs.Bytes.{block_bytes}
use Rattle.pads.specs.Pad.{Rule}
use Rattle.pads.specs.Calls.{noise_pads_by, scalar_pads_by, Accepts}

-- what holds of each number below n, written out
abbrev Each : (ℕ → Type 0) → ℕ → Type 0
Each P zero = Unit {0}
Each P (suc n) = Each P n × P n

each : (P : ℕ → Type 0) (n : ℕ) → Each P n → (k : ℕ) → k < n → P k
each P zero all k h = absurd (omega arith)
each P (suc n) all k h = ⊎_elim (λ e. rw e all.1) (λ s. each P n all.0 k s) (eq-or-lt_of_le (le_of_suc-le-suc h))

-- a block is zero exactly if none of its bytes is above 0
zero-bytes : (bytes : List ℕ) → any_above 0 bytes ≡ false → at block_bytes bytes 0 ≡ block_zero
unfolding word_at le_number
zero-bytes bytes none =
    let z : (k : ℕ) → get_or bytes k 0 ≡ 0 = λ k. omega (arith, none_above 0 bytes none k) in
    simp z

bytes-zero : (bytes : List ℕ) → length bytes ≡ 16 → at block_bytes bytes 0 ≡ block_zero → any_above 0 bytes ≡ false
unfolding word_at le_number
bytes-zero bytes size e =
    let low = ap (λ (b : Block). b.low) e in
    let high = ap (λ (b : Block). b.high) e in
    let all : Each (λ k. get_or bytes k 0 ≤ 0) 16 = omega arith in
    above-none 0 bytes (λ k h. each (λ k. get_or bytes k 0 ≤ 0) 16 all k (omega arith))

-- a test that does not fail holds
is_true : (t : Bool) → (t ≡ false → ⊥) → t ≡ true
is_true true h = refl
is_true false h = absurd (h refl)

pub accepts : (rule : Rule) → Accepts rule
unfolding noise_pads_by scalar_pads_by
accepts rule =
    record {
      noise = λ first count v choices pads. outcome-accepts _ _ _ _ _ refl;
      scalar = λ first count w delta pads. outcome-accepts _ _ _ _ _ refl;
      nonzero = λ delta size. (
        λ t z. true≢false (sym t ∙ bytes-zero delta size z),
        λ h. is_true (any_above 0 delta) (λ none. h (zero-bytes delta none)),
      );
    }
