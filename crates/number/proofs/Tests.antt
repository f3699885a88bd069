-- A test of what was read, and the definition's. Assumes nothing.
use Rattle.std.proofs.Common.{ℕ, Bool, true, false, ◌≡◌, refl, sym, ap, ◌∙◌, subst}
use Rattle.std.specs.Prelude.{Result, Ok, Err, IfOk}
use Rattle.answer.specs.declared.Refusal.{Refusal}
use Rattle.answer.specs.Refused.{number_of}
use Rattle.number.specs.Answer.{number_read}
use Rattle.number.specs.Reading.{Whole, Refused, Parsed, choose, tested}
use Rattle.number.specs.Inner.Tested.{Tested}

-- what a reader gives of a result, by what it makes of a value
abbrev pub parsed : {A C : Type 0} → (A → C) → Result (A × ℕ) Refusal → Parsed C
parsed f (Ok read) = Whole (f read.0, read.1)
parsed f (Err refusal) = Refused (number_of refusal)

module _ {A C : Type 0} (f : A → C) (ok : C → Bool) (reason : Refusal) where
  passes : (b : Bool) (x : A × ℕ) → parsed f (choose b (Ok x) (Err reason)) ≡ choose b (Whole (f x.0, x.1)) (Refused (number_of reason))
  passes true x = refl
  passes false x = refl

  pub tested_parsed : {answers : A → Bool → Type 0} (read result : Result (A × ℕ) Refusal) → Tested answers reason read result
      → ((x : A) (b : Bool) → answers x b → b ≡ ok (f x)) → parsed f result ≡ tested (parsed f read) ok (number_of reason)
  unfolding tested
  tested_parsed (Ok x) result t agree =
      ap (parsed f) t.2 ∙ passes t.0 x ∙ ap (λ (b : Bool). choose b (Whole (f x.0, x.1)) (Refused (number_of reason))) (agree x.0 t.0 t.1)
  tested_parsed (Err refusal) result t agree = ap (parsed f) t

-- of a number
pub tested_number : (ok : ℕ → Bool) (reason : Refusal) {answers : ℕ → Bool → Type 0} (read result : Result (ℕ × ℕ) Refusal)
    → Tested answers reason read result → ((x : ℕ) (b : Bool) → answers x b → b ≡ ok x)
    → number_read result ≡ tested (number_read read) ok (number_of reason)
tested_number ok reason read result t agree =
    same result ∙ tested_parsed (λ x. x) ok reason read result t agree ∙ ap (λ (r : Parsed ℕ). tested r ok (number_of reason)) (sym (same read))
  where
    same : (r : Result (ℕ × ℕ) Refusal) → number_read r ≡ parsed (λ x. x) r
    same (Ok read) = refl
    same (Err refusal) = refl

-- what holds of what was read holds of what passed
pub tested_keeps : {A : Type 0} (P : A × ℕ → Type 0) (answers : A → Bool → Type 0) (reason : Refusal) (read result : Result (A × ℕ) Refusal)
    → Tested answers reason read result → IfOk read P → IfOk result P
tested_keeps {A} P answers reason (Ok x) result t p = subst (λ (r : Result (A × ℕ) Refusal). IfOk r P) (sym t.2) (of t.0)
  where
    of : (b : Bool) → IfOk (choose b (Ok x) (Err reason)) P
    of true = p
    of false = tt
tested_keeps {A} P answers reason (Err refusal) result t p = subst (λ (r : Result (A × ℕ) Refusal). IfOk r P) (sym t) tt
