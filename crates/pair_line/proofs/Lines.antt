-- A line's parts written one after the other are the line over the buffer's front. Assumes nothing.
use mathlib.Core.Path.{◌≡◌, ap, ap₂, ◌∙◌}
use mathlib.Core.List.{List, ◌++◌}
use Prim.Native.Nat.{ℕ, ◌≤◌}
use native.Mathlib.Omega.{arith}
use native.Mathlib.Nat.{zero-add}
use lib.ListN.{length, drop, length-append}
use lib.Seq.{sets-eq}
use Rattle.number.specs.Inner.Written.{Room, Wrote}
use Rattle.pairing.specs.Line.{text, printed}
use Rattle.std.specs.Prelude.{Result, Ok}
use Rattle.answer.specs.declared.Refusal.{Refusal}
use Rattle.pairing.specs.declared.Finding.{Finding}
use Rattle.pairing.specs.Answer.{verdict_of}
use Rattle.pairing.specs.Verdict as verdict
use Rattle.pairing.specs.Verdict.{Verdict, TooLarge, Different, Checked}
use Rattle.pair_line.proofs.Digits.{digits-most}

-- a line takes at most 64 bytes
text_most : (v : Verdict) → length (text v) ≤ 64
unfolding text
text_most (verdict.Refusal k) = let m = digits-most 9 k in simp length-append (omega arith)
text_most TooLarge = omega arith
text_most Different = omega arith
text_most (Checked n held) = let m = digits-most 9 n in let k = digits-most 9 held in simp length-append (omega arith)

module _ (out : List ℕ) (room : 64 ≤ length out) where
  pub line_room : (v : Verdict) → Room out 0 (text v)
  line_room v = let m = text_most v in record { fits = omega arith }

  pub as_printed : (v : Verdict) {b : List ℕ} {r : ℕ} → Wrote out 0 (text v) r b → (b, r) ≡ printed v out
  unfolding printed
  as_printed v w =
      let m = text_most v in
      ap₂ (λ (x : List ℕ) (y : ℕ). (x, y))
      (w.stored ∙ sets-eq (text v) out 0 (omega arith) ∙ ap (λ (n : ℕ). text v ++ drop n out) (zero-add (length (text v))))
      (w.place ∙ zero-add (length (text v)))

-- what is found of two accepted records, and its line
pub line_found : (found : Result Finding Refusal) (x y : Finding) (out : List ℕ) {b : List ℕ} {r : ℕ} → found ≡ Ok x → x ≡ y
    → (b, r) ≡ printed (verdict_of (Ok y)) out → (b, r) ≡ printed (verdict_of found) out
line_found found x y out e f t = rw (e ∙ ap Ok f) t
