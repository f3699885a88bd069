-- What the two calls' steps ask and their returns need: what was read, which tests were passed, and the outputs written.
use mathlib.Core.Path.{◌≡◌, refl, sym, ap, ap₂, ◌∙◌}
use mathlib.Core.List.{List, []}
use Prim.Native.Nat.{ℕ, ◌+◌, ◌*◌, ◌≤◌}
use native.Mathlib.Omega.{arith}
use lib.ListN.{length}
use Rattle.algebra.specs.Coding.{over}
use Rattle.answer.specs.Outcome.{Outcome, TwoWritten, refused_one, refused_two, wrote}
use Rattle.answer.specs.Tests.{first_fault}
use Rattle.answer.proofs.Answers.{accepted_now}
use Rattle.answer.proofs.Faults.{admitted_by}
use Rattle.code.specs.declared.Window.{Window}
use Rattle.field.specs.Kind.{element_words}
use Rattle.field.proofs.BothKinds.{kind_laws}
use Rattle.number.specs.Reading.{Refused}
use Rattle.number.proofs.Records.{read-refused, read_whole}
use Rattle.record.specs.Reading.{read_noise, read_scalar}
use Rattle.record.specs.Answer.{head_of}
use Rattle.record.specs.Inner.Heads.{head_from}
use Rattle.record.specs.declared.Layout.{Layout}
use Rattle.aes128.specs.Cipher.{aes}
use Rattle.code.specs.Row.{term_block}
use Rattle.code.specs.Inner.Rows.{term_block_by}
use Rattle.window.specs.Inner.Outputs.{code_keys}
use Rattle.ends.specs.Inner.Noise as noise_ready
use Rattle.ends.specs.Inner.Scalar as scalar_ready
use Rattle.ends.specs.Noise.Bench as noise
use Rattle.ends.specs.Scalar.Bench as scalar
use Rattle.ends_bench.specs.Inner.Calls.{NoiseFits, ScalarFits}
use Rattle.ends_bench_leaves.specs.Inner.Made.{IsVector}
use Rattle.ends_bench_leaves.specs.Inner.Vectors.{field_for, values_of}
use Rattle.ends_bench_leaves.specs.declared.vector.Vector.{Vector}
use Rattle.ends_bench.specs.Inner.Rows.{output_of, row_in}

-- ---- the noise end

-- room for the outputs of a vector, and the outputs themselves, by what it was made of
module _ {v : Vector} {n : ℕ} {s : List ℕ} {f : Layout} (made : IsVector v n s f) where
  made_room : (count : ℕ) {room : ℕ} → count * (field_for n f.field).elements.width ≤ room
      → count * (field_for v.number v.layout.field).elements.width ≤ room
  made_room count h = rw (made.number, made.layout) h

  made_outputs : (code : List (List (List ℕ))) (first count : ℕ) (out : List ℕ) {l : List ℕ}
      → l ≡ over (field_for v.number v.layout.field).elements count (λ k. output_of v.number v.source.now code v.layout (first + k)) out
      → l ≡ over (field_for n f.field).elements count (λ k. output_of n s code f (first + k)) out
  made_outputs code first count out e = rw (← made.number, ← made.source, ← made.layout) e

-- outputs under the record's code key
keyed : (vector : ℕ) (s : List ℕ) (f : Layout) (first count : ℕ) {code : List (List (List ℕ))} → code ≡ code_keys (head_of s f) → (out : List ℕ) {l : List ℕ}
    → l ≡ over (field_for vector f.field).elements count (λ k. output_of vector s code f (first + k)) out
    → l ≡ over (field_for vector f.field).elements count (λ k. output_of vector s (code_keys (head_of s f)) f (first + k)) out
keyed vector s f first count e out p =
    p ∙ ap (λ (c : List (List (List ℕ))). over (field_for vector f.field).elements count (λ k. output_of vector s c f (first + k)) out) e

module _ {s : List ℕ} {f : Layout} {w : Window} {u_room v_room : ℕ} (fits : NoiseFits f w u_room v_room) where
  pub u_fits : {mu : Vector} → IsVector mu 1 s f → w.count * (field_for mu.number mu.layout.field).elements.width ≤ u_room
  u_fits made = made_room made w.count (rw (kind_laws f.field).noise-width fits.u_enough)

  pub v_fits : {v0 : Vector} → IsVector v0 2 s f → w.count * (field_for v0.number v0.layout.field).elements.width ≤ v_room
  v_fits made = made_room made w.count fits.enough

module _ {s : List ℕ} {f : Layout} {mu v0 : Vector} (first : IsVector mu 1 s f) (second : IsVector v0 2 s f) (w : Window) where
  pub both-filled : {code : List (List (List ℕ))} → code ≡ code_keys (head_of s f) → (u_out v_out : List ℕ) {u v : List ℕ}
      → u ≡ over (field_for mu.number mu.layout.field).elements w.count
      (λ k. output_of mu.number mu.source.now code mu.layout (w.first + k)) u_out
      → v ≡ over (field_for v0.number v0.layout.field).elements w.count
      (λ k. output_of v0.number v0.source.now code v0.layout (w.first + k)) v_out
      → noise.lent_with s u v ≡ noise.filled (noise_ready.content_of s f) (noise.lent_with s u_out v_out) w.first w.count
  unfolding noise.filled noise.u_at noise.v_at output_of values_of row_in term_block term_block_by aes
  both-filled {code} e u_out v_out p q =
      let x = keyed 1 s f w.first w.count e u_out (made_outputs first code w.first w.count u_out p) in
      let y = keyed 2 s f w.first w.count e v_out (made_outputs second code w.first w.count v_out q) in
      λ i. record { source = s; u_out = x i; v_out = y i }

module _ (f : Layout) (w : Window) (u_room v_room : ℕ)
    (e : 0 ≡ first_fault (noise.bench_tests (head_from f [] []) w.first w.count u_room v_room)) where
  pub noise-within : f.outputs ≤ 32768 → w.first + w.count ≤ 32768
  noise-within h = omega (arith, (admitted_by _ 0 refl e refl).all)

  pub noise-fits : f.outputs ≤ 32768 → NoiseFits f w u_room v_room
  noise-fits h =
      let m = (admitted_by _ 0 refl e refl).all in
      record { within = noise-within h; u_enough = omega (arith, m); enough = omega (arith, m) }

module _ (s u_out v_out : List ℕ) where
  pub noise-written : (f : Layout) (w : Window) {words : ℕ} {u v : List ℕ}
      → 0 ≡ first_fault (noise.bench_tests (head_from f [] []) w.first w.count (length u_out) (length v_out))
      → words ≡ w.count * element_words f.field
      → noise.lent_with s u v ≡ noise.filled (noise_ready.content_of s f) (noise.lent_with s u_out v_out) w.first w.count
      → wrote {Written = TwoWritten} (record { first_written = w.count; second_written = words }) (noise.lent_with s u v)
      ≡ noise.bench_window (noise_ready.content_of s f) (noise.lent_with s u_out v_out) w.first w.count
  unfolding noise.bench_window
  noise-written f w e k q =
      accepted_now _ _ _ _ e (ap₂ (λ (m : ℕ) (l : noise.Lent). wrote {Written = TwoWritten} (record { first_written = w.count; second_written = m }) l) k q)

  module _ (first count : ℕ) where
    pub noise-fault : {k : ℕ} → Refused k ≡ read_noise s
        → refused_two (noise.lent_with s u_out v_out) k ≡ noise.bench_expansion (noise.lent_with s u_out v_out) first count
    unfolding noise.bench_expansion
    noise-fault {k} opens = read-refused _ _ _ _ k (sym opens) refl

    pub noise-opened : {f : Layout} → noise_ready.Ready s f
        → {o : Outcome TwoWritten noise.Lent} → o ≡ noise.bench_window (noise_ready.content_of s f) (noise.lent_with s u_out v_out) first count
        → o ≡ noise.bench_expansion (noise.lent_with s u_out v_out) first count
    unfolding noise.bench_expansion
    noise-opened ready q = read_whole _ _ _ _ _ ready.read q

-- ---- the scalar end

module _ {s : List ℕ} {f : Layout} {w0 : Vector} (made : IsVector w0 3 s f) (w : Window) where
  pub w_fits : {room : ℕ} → ScalarFits f w room → w.count * (field_for w0.number w0.layout.field).elements.width ≤ room
  w_fits fits = made_room made w.count fits.enough

  pub w_filled : {code : List (List (List ℕ))} → code ≡ code_keys (head_of s f) → (w_out : List ℕ) {l : List ℕ}
      → l ≡ over (field_for w0.number w0.layout.field).elements w.count
      (λ k. output_of w0.number w0.source.now code w0.layout (w.first + k)) w_out
      → scalar.lent_with s l ≡ scalar.filled (scalar_ready.content_of s f) (scalar.lent_with s w_out) w.first w.count
  unfolding scalar.filled scalar.w_at output_of values_of row_in term_block term_block_by aes
  w_filled {code} e w_out p =
      let x = keyed 3 s f w.first w.count e w_out (made_outputs made code w.first w.count w_out p) in
      λ i. record { source = s; w_out = x i }

module _ (f : Layout) (w : Window) (room : ℕ)
    (e : 0 ≡ first_fault (scalar.bench_tests (head_from f [] []) w.first w.count room)) where
  pub scalar-within : f.outputs ≤ 32768 → w.first + w.count ≤ 32768
  scalar-within h = omega (arith, (admitted_by _ 0 refl e refl).all)

  pub scalar_fits : f.outputs ≤ 32768 → ScalarFits f w room
  scalar_fits h = record { within = scalar-within h; enough = omega (arith, (admitted_by _ 0 refl e refl).all) }

module _ (s w_out : List ℕ) where
  pub scalar-written : (f : Layout) (w : Window) {words : ℕ} {v : List ℕ}
      → 0 ≡ first_fault (scalar.bench_tests (head_from f [] []) w.first w.count (length w_out))
      → words ≡ w.count * element_words f.field
      → scalar.lent_with s v ≡ scalar.filled (scalar_ready.content_of s f) (scalar.lent_with s w_out) w.first w.count
      → wrote words (scalar.lent_with s v) ≡ scalar.bench_window (scalar_ready.content_of s f) (scalar.lent_with s w_out) w.first w.count
  unfolding scalar.bench_window
  scalar-written f w e k q = accepted_now _ _ _ _ e (ap₂ (λ (m : ℕ) (l : scalar.Lent). wrote m l) k q)

  module _ (first count : ℕ) where
    pub scalar-fault : {k : ℕ} → Refused k ≡ read_scalar s
        → refused_one (scalar.lent_with s w_out) k ≡ scalar.bench_expansion (scalar.lent_with s w_out) first count
    unfolding scalar.bench_expansion
    scalar-fault {k} opens = read-refused _ _ _ _ k (sym opens) refl

    pub scalar-opened : {f : Layout} → scalar_ready.Ready s f
        → {o : Outcome ℕ scalar.Lent} → o ≡ scalar.bench_window (scalar_ready.content_of s f) (scalar.lent_with s w_out) first count
        → o ≡ scalar.bench_expansion (scalar.lent_with s w_out) first count
    unfolding scalar.bench_expansion
    scalar-opened ready q = read_whole _ _ _ _ _ ready.read q
