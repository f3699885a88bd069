-- Inner: no promise cites this file. A window written over the fronts of its buffers, if its words pass their test.
use Rattle.std.specs.Prelude.{Bool, ◌&&◌, List, ◌≡◌, ℕ, Result}
use Rattle.algebra.specs.Choice.{choose}
use Rattle.algebra.specs.Inner.Put.{put}
use Rattle.answer.specs.Numbers.{accepted, not_element}
use Rattle.answer.specs.Refused.{fault}
use Rattle.answer.specs.declared.Refusal.{Refusal}
use Rattle.code.specs.declared.Shape.{Shape}
use Rattle.field.specs.Kind.{Kind, kind_of}
use Rattle.window.specs.declared.Accumulated.{Accumulated}
use Rattle.window.specs.declared.Accumulated.TheVariants.{Noise, Scalar}
use Rattle.window.specs.declared.WindowRows.{WindowRows}
use Rattle.window.specs.Head.{of_noise}
use Rattle.window.specs.Inner.Outputs.{output_at, window_over}
use Rattle.window.specs.Inner.Testing.{row_used, elements_used}

-- the vector of elements
abbrev pub elements_of : Accumulated → List ℕ
elements_of (Noise noise v) = v.now
elements_of (Scalar w) = w.now

-- the test of the words that the rows use, of the noise too where there is one
abbrev pub all_used : List (List (List ℕ)) → Shape → WindowRows → Accumulated → Bool
all_used keys s r (Noise noise v) = elements_used (of_noise (kind_of r.field).field) keys s r noise.now && elements_used (kind_of r.field).field keys s r v.now
all_used keys s r (Scalar w) = elements_used (kind_of r.field).field keys s r w.now

-- the windows over the fronts of both buffers; the scalar end gives no u, and that buffer stays as it is
abbrev pub u_over : List (List (List ℕ)) → Shape → WindowRows → Accumulated → List ℕ → List ℕ
u_over keys s r (Noise noise v) u_out = window_over (of_noise (kind_of r.field).field) (kind_of r.field).coefficient keys s r noise.now u_out
u_over keys s r (Scalar w) u_out = u_out

abbrev pub elements_over : List (List (List ℕ)) → Shape → WindowRows → Accumulated → List ℕ → List ℕ
elements_over keys s r vectors out = window_over (kind_of r.field).field (kind_of r.field).coefficient keys s r (elements_of vectors) out

-- the windows are written
pub record Filled (keys : List (List (List ℕ))) (s : Shape) (r : WindowRows) (vectors : Accumulated) (u_out out u_after after : List ℕ) : Type 0 where
  pub u_is : u_after ≡ u_over keys s r vectors u_out
  pub elements_are : after ≡ elements_over keys s r vectors out

-- the test of the words that row k uses, and its word of u in the buffer
abbrev pub all_row_used : Kind → List (List (List ℕ)) → Shape → WindowRows → Accumulated → ℕ → Bool
all_row_used K keys s r (Noise noise v) k = row_used (of_noise K.field) keys s r noise.now k && row_used K.field keys s r v.now k
all_row_used K keys s r (Scalar w) k = row_used K.field keys s r w.now k

abbrev pub u_put : Kind → List (List (List ℕ)) → Shape → WindowRows → Accumulated → ℕ → List ℕ → List ℕ
u_put K keys s r (Noise noise v) k u_out = put K.field.noise_values u_out k (output_at (of_noise K.field) K.coefficient keys s r noise.now k)
u_put K keys s r (Scalar w) k u_out = u_out

-- output k of the window is written, at the noise end with its word of u; the test of the words that the row uses is told
pub record RowWritten (K : Kind) (keys : List (List (List ℕ))) (s : Shape) (r : WindowRows) (k : ℕ) (vectors : Accumulated) (u_out out : List ℕ)
    (passed : Bool) (u_after after : List ℕ) : Type 0 where
  pub told : passed ≡ all_row_used K keys s r vectors k
  pub u_is : u_after ≡ u_put K keys s r vectors k u_out
  pub element_is : after ≡ put K.field.elements out k (output_at K.field K.coefficient keys s r (elements_of vectors) k)

-- the windows are written if all words pass the test, else nothing is, and the answer is 8
pub record WindowWritten (keys : List (List (List ℕ))) (s : Shape) (r : WindowRows) (vectors : Accumulated) (u_out out : List ℕ)
    (answer : Result Unit Refusal) (u_after after : List ℕ) : Type 0 where
  pub told : fault answer ≡ choose (all_used keys s r vectors) accepted not_element
  pub u_is : u_after ≡ choose (all_used keys s r vectors) (u_over keys s r vectors u_out) u_out
  pub elements_are : after ≡ choose (all_used keys s r vectors) (elements_over keys s r vectors out) out
