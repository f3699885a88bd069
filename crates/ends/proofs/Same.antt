-- The expansion for the bench is the online call on the record's offline vectors, at both ends.
use mathlib.Core.Path.{◌≡◌, refl, sym, ap, ◌∙◌}
use mathlib.Core.Bool.{true, false}
use mathlib.Core.List.{List}
use Prim.Native.Nat.{ℕ, suc, ◌+◌, ◌*◌, ◌≤◌, ◌<◌}
use native.Mathlib.Omega.{arith}
use Rattle.answer.specs.Tests.{Test, holds, first_fault}
use Rattle.answer.specs.Outcome.{TwoWritten, answered, refused_one, refused_two, wrote}
use Rattle.answer.specs.Inner.Numbered.{apart}
use Rattle.answer.proofs.Answers.{answered-map}
use Rattle.answer.proofs.Faults.{fault_before, last_only}
use Rattle.algebra.specs.Coding.{Coding, CodingLaws, at, flat, over}
use Rattle.algebra.specs.Group.{Group, GroupLaws, Element, Scaled, ScaledLaws, itself}
use Rattle.algebra.specs.Row.{output, entry, row_times}
use Rattle.algebra.specs.Sum.{accumulate}
use Rattle.algebra.proofs.Coding.{at_flat, flat_cong}
use Rattle.algebra.proofs.Common.{common_facts}
use Rattle.algebra.proofs.Sum.{sum-element, itself_laws}
use Rattle.field.proofs.BothKinds.{kind_laws}
use Rattle.record.specs.Content.{Head, NoisePart, ScalarPart}
use Rattle.record.proofs.Callers.{head_ranges}
use Rattle.record.proofs.Parts.{noise_parts, scalar_parts}
use Rattle.window.specs.Head.{field_of, places, row}
use Rattle.window.proofs.Rows.{row_within, row_output}
use Rattle.ends.specs.Noise.Vectors.{mu, v0}
use Rattle.ends.specs.Noise.Offline as noise_offline
use Rattle.ends.specs.Noise.Online as noise_online
use Rattle.ends.proofs.noise.Laws as noise_laws
use Rattle.ends.specs.Scalar.Vectors.{w0}
use Rattle.ends.specs.Scalar.Offline as scalar_offline
use Rattle.ends.specs.Scalar.Online as scalar_online
use Rattle.ends.proofs.scalar.Laws as scalar_laws
use Rattle.ends.specs.Bench.{noise_online_call, scalar_online_call, noise_seen, scalar_seen, Bench}
use Rattle.ends.specs.Noise.Bench as noise
use Rattle.ends.specs.Scalar.Bench as scalar

-- row x's output on the words of an accumulated vector is row x of the code matrix times the vector
row_same : (h : Head) → h.terms ≤ places h → (x : ℕ) (S : Scaled (field_of h).ring) → ScaledLaws (field_of h).ring S
    → (C : Coding S.group.Of) → CodingLaws C → (f : ℕ → S.group.Of) (words : List ℕ) → words ≡ flat C (places h) (accumulate S.group f)
    → output S (row h x) (at C words) ≡ row_times S (places h) (entry (row h x)) f
row_same h full x S L C K f words e =
    row_output h full x S (at C words) (accumulate S.group f) (λ j l. rw e (at_flat C K (places h) (accumulate S.group f) j l))
    ∙ (common_facts (field_of h).ring S (kind_laws h.field).field.ring L).matrix (places h) (row h x) (row_within h full x) f

-- a number that is no test's is not returned
never : (k : ℕ) (tests : List Test) → apart k tests ≡ true → (k ≡ 0 → ⊥) → {n : ℕ} → n ≡ first_fault tests → n ≡ k → ⊥
never k tests r z told e =
    let is = sym told ∙ e in z (sym is ∙ last_only (holds false) k tests r (sym (fault_before tests _ k (sym is) z)))

-- ---- the noise end

accumulated-elements : (G : Group) → GroupLaws G → (n : ℕ) (f : ℕ → G.Of) (j : ℕ) → j < n → Element G (accumulate G f j)
unfolding accumulate
accumulated-elements G L n f j k = sum-element G L (suc j) f

module _ {h : Head} (E : noise_offline.Expanded h) (first count : ℕ) (u_out v_out : List ℕ) where
  abbrev part : NoisePart
  part = noise_offline.content E

  abbrev lent : noise_online.Lent
  lent = noise_online.lent_with E.source (noise_offline.noise_of (noise_offline.after E)) (noise_offline.v_of (noise_offline.after E)) u_out v_out

  accepted : noise_laws.Accepted part E.source (noise_offline.after E)
  accepted = noise_laws.offline-accepted E.source E.noise_buffer E.v_buffer E.read E.number

  full : h.terms ≤ places h
  full = (head_ranges 1 E.source (noise_parts E.source E.read).2).terms-leaves

  listed : noise_online_call E first count u_out v_out
      ≡ answered (noise_laws.listed_tests h lent first count) (refused_two lent) (noise_laws.written h lent first count)
  listed =
      noise_laws.online-listed lent part (accumulate (field_of h).ring.group (mu part)) (accumulate (field_of h).scaled.group (v0 part))
      E.read accepted.noise accepted.v (accumulated-elements _ (kind_laws h.field).field.ring.group _ (mu part))
      (accumulated-elements _ (kind_laws h.field).field.scaled.group _ (v0 part)) first count

  u_same : (k : ℕ) → output (itself (field_of h).ring) (row h (first + k)) (at (field_of h).noise_values lent.noise)
      ≡ noise.u_at part (first + k)
  unfolding noise.u_at
  u_same k =
      row_same h full (first + k) (itself (field_of h).ring) (itself_laws (field_of h).ring (kind_laws h.field).field.ring)
      (field_of h).noise_values (kind_laws h.field).field.noise_values (mu part) lent.noise accepted.noise

  v_same : (k : ℕ) → output (field_of h).scaled (row h (first + k)) (at (field_of h).elements lent.v)
      ≡ noise.v_at part (first + k)
  unfolding noise.v_at
  v_same k =
      row_same h full (first + k) (field_of h).scaled (kind_laws h.field).field.scaled
      (field_of h).elements (kind_laws h.field).field.elements (v0 part) lent.v accepted.v

  abbrev here : noise.Lent
  here = noise.lent_with E.source u_out v_out

  abbrev seen_lent : noise_online.Lent → noise.Lent
  seen_lent l = record { source = l.source; u_out = l.u_out; v_out = l.v_out }

  filled-same : noise.filled part here first count ≡ seen_lent (noise_online.filled h lent first count)
  unfolding noise.filled noise_online.filled over
  filled-same =
      let u = flat_cong (field_of h).noise_values (kind_laws h.field).field.noise_values count _ _ (λ k l. sym (u_same k)) in
      let v = flat_cong (field_of h).elements (kind_laws h.field).field.elements count _ _ (λ k l. sym (v_same k)) in
      cc

  pub noise-same : noise.bench_expansion here first count ≡ noise_seen (noise_online_call E first count u_out v_out)
  unfolding noise.bench_window
  noise-same =
      let tests : List Test = noise_laws.listed_tests h lent first count in
      let words : TwoWritten = record { first_written = count; second_written = count * (field_of h).elements.width } in
      noise_laws.bench_whole here first count E.read
      ∙ ap (λ (l : noise.Lent). answered tests (refused_two here) (wrote words l)) filled-same
      ∙ sym (ap noise_seen listed ∙ answered-map noise_seen tests (refused_two lent) (noise_laws.written h lent first count))

  numbers : (noise_online_call E first count u_out v_out).number ≡ first_fault (noise_laws.listed_tests h lent first count)
  numbers =
      noise_laws.online-number lent part (accumulate (field_of h).ring.group (mu part)) (accumulate (field_of h).scaled.group (v0 part))
      E.read accepted.noise accepted.v (accumulated-elements _ (kind_laws h.field).field.ring.group _ (mu part))
      (accumulated-elements _ (kind_laws h.field).field.scaled.group _ (v0 part)) first count

  pub noise-vectors : ((noise_online_call E first count u_out v_out).number ≡ 3 → ⊥) × ((noise_online_call E first count u_out v_out).number ≡ 8 → ⊥)
  noise-vectors =
      let tests = noise_laws.listed_tests h lent first count in (never 3 tests refl (λ z. omega arith) numbers, never 8 tests refl (λ z. omega arith) numbers)

-- ---- the scalar end

module _ {h : Head} (D : scalar_offline.Expanded h) (first count : ℕ) (w_out : List ℕ) where
  abbrev whole : ScalarPart
  whole = scalar_offline.content D

  abbrev lent_w : scalar_online.Lent
  lent_w = scalar_online.lent_with D.source (scalar_offline.w_of (scalar_offline.after D)) w_out

  accepted_w : scalar_laws.Accepted whole D.source (scalar_offline.after D)
  accepted_w = scalar_laws.offline-accepted D.source D.w_buffer D.delta_buffer D.read D.number

  full_w : h.terms ≤ places h
  full_w = (head_ranges 2 D.source (scalar_parts D.source D.read).3).terms-leaves

  listed_w : scalar_online_call D first count w_out
      ≡ answered (scalar_laws.listed_tests h lent_w first count) (refused_one lent_w) (scalar_laws.written h lent_w first count)
  listed_w =
      scalar_laws.online-listed lent_w whole (accumulate (field_of h).scaled.group (w0 whole)) D.read accepted_w.w
      (accumulated-elements _ (kind_laws h.field).field.scaled.group _ (w0 whole)) first count

  w_same : (k : ℕ) → output (field_of h).scaled (row h (first + k)) (at (field_of h).elements lent_w.w)
      ≡ scalar.w_at whole (first + k)
  unfolding scalar.w_at
  w_same k =
      row_same h full_w (first + k) (field_of h).scaled (kind_laws h.field).field.scaled
      (field_of h).elements (kind_laws h.field).field.elements (w0 whole) lent_w.w accepted_w.w

  abbrev here_w : scalar.Lent
  here_w = scalar.lent_with D.source w_out

  filled_w : scalar.filled whole here_w first count
      ≡ record { source = D.source; w_out = (scalar_online.filled h lent_w first count).w_out }
  unfolding scalar.filled scalar_online.filled over
  filled_w = cc (flat_cong (field_of h).elements (kind_laws h.field).field.elements count _ _ (λ k l. sym (w_same k)))

  pub scalar-same : scalar.bench_expansion here_w first count ≡ scalar_seen (scalar_online_call D first count w_out)
  unfolding scalar.bench_window scalar_online.filled
  scalar-same =
      let tests : List Test = scalar_laws.listed_tests h lent_w first count in
      let words : ℕ = count * (field_of h).elements.width in
      scalar_laws.bench_whole here_w first count D.read
      ∙ ap (λ (l : scalar.Lent). answered tests (refused_one here_w) (wrote words l)) filled_w
      ∙ sym (ap scalar_seen listed_w ∙ answered-map scalar_seen tests (refused_one lent_w) (scalar_laws.written h lent_w first count))

  numbers_w : (scalar_online_call D first count w_out).number ≡ first_fault (scalar_laws.listed_tests h lent_w first count)
  numbers_w =
      scalar_laws.online-number lent_w whole (accumulate (field_of h).scaled.group (w0 whole)) D.read accepted_w.w
      (accumulated-elements _ (kind_laws h.field).field.scaled.group _ (w0 whole)) first count

  pub scalar_vector : ((scalar_online_call D first count w_out).number ≡ 3 → ⊥) × ((scalar_online_call D first count w_out).number ≡ 8 → ⊥)
  scalar_vector =
      let tests = scalar_laws.listed_tests h lent_w first count in
      (never 3 tests refl (λ z. omega arith) numbers_w, never 8 tests refl (λ z. omega arith) numbers_w)

-- the statement
pub bench : Bench
bench =
    record { noise-same = λ h. noise-same; scalar-same = λ h. scalar-same; noise-vectors = λ h. noise-vectors; scalar_vector = λ h. scalar_vector }
