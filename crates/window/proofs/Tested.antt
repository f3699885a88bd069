-- A window under round keys, tested as its rows are summed in memory of its own, and written if the words that they use pass.
use mathlib.Core.Bool.{Bool, true, false}
use mathlib.Core.List.{List, ◌++◌}
use mathlib.Core.Path.{◌≡◌, refl, sym, ap, ◌∙◌}
use Prim.Native.Nat.{ℕ, ◌*◌}
use native.Mathlib.Nat.{mul-one}
use lib.ListN.{take, drop}
use denote.Ref.{Bor}
use Rattle.std.specs.Prelude.{Ok}
use Rattle.algebra.specs.Choice.{choose}
use Rattle.algebra.proofs.Flats.{front-over}
use Rattle.answer.specs.Numbers.{accepted, not_element}
use Rattle.answer.specs.Refused.{number_of}
use Rattle.answer.specs.declared.Refusal.{Refusal}
use Rattle.answer.specs.declared.Refusal.TheVariants.{NotElement}
use Rattle.answer.proofs.Refusals.{refusal-some}
use Rattle.code.specs.declared.Shape.{Shape}
use Rattle.field.specs.Kind.{kind_of, element_words}
use Rattle.field.proofs.BothKinds.{kind_laws}
use Rattle.window.specs.declared.Accumulated.{Accumulated}
use Rattle.window.specs.declared.Accumulated.TheVariants.{Noise, Scalar}
use Rattle.window.specs.declared.WindowRows.{WindowRows}
use Rattle.window.specs.Inner.Written.{all_used, elements_over, Filled, WindowWritten}

-- ---- what an answer says of the test of words

pub test-passed : (b : Bool) → accepted ≡ choose b accepted not_element → b ≡ true
test-passed true e = refl
test-passed false e = absurd (refusal-some NotElement (sym e))

pub test-failed : (b : Bool) (e : Refusal) → number_of e ≡ choose b accepted not_element → b ≡ false
test-failed true e h = absurd (refusal-some e h)
test-failed false e h = refl

-- ---- the window

module _ (keys : List (List (List ℕ))) (s : Shape) (r : WindowRows) where
  -- written, where all words are known to pass
  window-written : (vectors : Accumulated) {u_out out a b : List ℕ} → all_used keys s r vectors ≡ true → Filled keys s r vectors u_out out a b
      → WindowWritten keys s r vectors u_out out (Ok tt) a b
  window-written vectors e f = record { told = rw e refl; u_is = rw e f.u_is; elements_are = rw e f.elements_are }

  -- copied from memory of its own
  module _ {u_own own x y : List ℕ} {width : ℕ} (we : width ≡ element_words r.field) where
    front-elements : (out : List ℕ) (vectors : Accumulated) → Filled keys s r vectors u_own own x y
        → {b : List ℕ} → b ≡ take (r.window.count * width) y ++ drop (r.window.count * width) out → b ≡ elements_over keys s r vectors out
    front-elements out vectors f be =
        front-over (kind_of r.field).field.elements (kind_laws r.field).field.elements r.window.count _ own out f.elements_are (ap (λ (n : ℕ). r.window.count * n) we) be

    module _ {noise v : Bor (List ℕ)} where
      pub noise-copied : {u_out out : List ℕ} → accepted ≡ choose (all_used keys s r (Noise noise v)) accepted not_element → Filled keys s r (Noise noise v) u_own own x y
          → {a : List ℕ} → a ≡ take r.window.count x ++ drop r.window.count u_out
          → {b : List ℕ} → b ≡ take (r.window.count * width) y ++ drop (r.window.count * width) out
          → WindowWritten keys s r (Noise noise v) u_out out (Ok tt) a b
      noise-copied {u_out} {out} e f ae be =
          let F = (kind_of r.field).field in
          let one : r.window.count ≡ r.window.count * F.noise_values.width =
          sym (ap (λ (n : ℕ). r.window.count * n) (kind_laws r.field).noise-width ∙ mul-one r.window.count) in
          window-written (Noise noise v) (test-passed _ e)
          (record {
            u_is = front-over F.noise_values (kind_laws r.field).field.noise_values r.window.count _ u_own u_out f.u_is one ae;
            elements_are = front-elements out (Noise noise v) f be;
          })

    module _ {w : Bor (List ℕ)} where
      pub scalar-copied : {u_out out : List ℕ} → accepted ≡ choose (all_used keys s r (Scalar w)) accepted not_element → Filled keys s r (Scalar w) u_own own x y
          → {b : List ℕ} → b ≡ take (r.window.count * width) y ++ drop (r.window.count * width) out
          → WindowWritten keys s r (Scalar w) u_out out (Ok tt) u_out b
      scalar-copied {u_out} {out} e f be = window-written (Scalar w) (test-passed _ e) (record { u_is = refl; elements_are = front-elements out (Scalar w) f be })
