-- Laws of the scalar end's calls: what an accepted offline call leaves, what an online call on a whole vector of elements
-- gives, and that every online call leaves the record and the vector as they were.
use mathlib.Core.Path.{◌≡◌, refl, sym, ap, ◌∙◌}
use mathlib.Core.Bool.{true}
use mathlib.Core.List.{List, [], ◌∷◌}
use Prim.Native.Nat.{ℕ, ◌+◌, ◌*◌, ◌≤◌, ◌<◌}
use lib.ListN.{length, take}
use Rattle.answer.specs.Numbers.{window_past_end, buffer_short}
use Rattle.answer.specs.Tests.{Test, ◌at_most◌, ◌or◌, first_fault}
use Rattle.answer.specs.Outcome.{Outcome, TwoWritten, answered, refused_one, refused_two, wrote}
use Rattle.answer.proofs.Answers.{accepted_if, answered_either, answered-same, outcome-number, outcome_is}
use Rattle.answer.proofs.Faults.{is_so, held}
use Rattle.algebra.specs.Coding.{CodingLaws, at, flat}
use Rattle.algebra.specs.Field.{Value}
use Rattle.algebra.specs.Group.{Element}
use Rattle.algebra.specs.Row.{output}
use Rattle.algebra.specs.Sum.{accumulate}
use Rattle.field.proofs.BothKinds.{kind_laws}
use Rattle.number.specs.Reading.{Whole}
use Rattle.number.proofs.Records.{read_whole, read_either}
use Rattle.record.specs.Content.{Head, ScalarPart}
use Rattle.record.specs.Reading.{read_scalar}
use Rattle.record.proofs.Callers.{head_ranges}
use Rattle.record.proofs.Parts.{scalar_parts}
use Rattle.window.specs.Head.{field_of, places, row}
use Rattle.window.specs.Usable.{window_usable}
use Rattle.window.proofs.Rows.{window-usable}
use Rattle.ends.specs.Parts.{vector_words}
use Rattle.ends.specs.Scalar.Vectors.{w0, delta_out}
use Rattle.ends.specs.Scalar.Offline.{OfflineLent, offline_with, offline_tests, expanded, offline}
use Rattle.ends.specs.Scalar.Online.{Lent, usable, filled, online_tests, online}
use Rattle.ends.specs.Scalar.Bench as bench
use Rattle.ends.proofs.Vectors.{front-taken, vector_length, vector_usable, window_at}

-- ---- offline

-- what an accepted call leaves: the lengths, and the vectors at the fronts of those lengths
pub record Accepted (P : ScalarPart) (source : List ℕ) (o : Outcome TwoWritten OfflineLent) : Type 0 where
  pub record-kept : o.lent.source ≡ source
  pub number : o.number ≡ 0
  pub first_written : o.written.first_written ≡ vector_words P.head
  pub second_written : o.written.second_written ≡ 2
  pub w : take o.written.first_written o.lent.w ≡ flat (field_of P.head).elements (places P.head) (accumulate (field_of P.head).scaled.group (w0 P))
  pub delta : take o.written.second_written o.lent.delta ≡ delta_out P

module _ (source : List ℕ) {P : ScalarPart} (w delta : List ℕ) (e : read_scalar source ≡ Whole P) where
  abbrev done : Outcome TwoWritten OfflineLent
  done = wrote (record { first_written = vector_words P.head; second_written = 2 }) (expanded P source w delta)

  pub offline-whole : offline source w delta ≡ answered (offline_tests P w delta) (refused_two (offline_with source w delta)) done
  unfolding offline
  offline-whole = sym (read_whole (read_scalar source) (refused_two (offline_with source w delta)) _ _ P e refl)

  left : offline source w delta ≡ done → Accepted P source (offline source w delta)
  unfolding expanded
  left q =
      rw q (record {
        record-kept = refl;
        number = refl;
        first_written = refl;
        second_written = refl;
        w = front-taken P.head (field_of P.head).scaled _ (kind_laws P.head.field).field.elements (w0 P) w refl;
        delta = refl;
      })

  -- with room in both buffers the call is accepted
  pub offline-accepts : vector_words P.head ≤ length w → 2 ≤ length delta → Accepted P source (offline source w delta)
  offline-accepts h k = left (offline-whole ∙ accepted_if _ _ _ (record { all = (h, (k, tt)) }))

  -- a call that returns 0 left what an accepted call leaves
  pub offline-accepted : (offline source w delta).number ≡ 0 → Accepted P source (offline source w delta)
  offline-accepted n =
      left (offline-whole ∙ outcome_is _ _ _ _ (offline_tests P w delta) (ap (λ (o : Outcome TwoWritten OfflineLent). o.number) (sym offline-whole) ∙ n))

-- ---- online

-- the tests 7 and 13, and what an accepted call leaves
abbrev pub listed_tests : Head → Lent → ℕ → ℕ → List Test
listed_tests h l first count =
    (first + count) at_most h.outputs or window_past_end
    ∷ count * (field_of h).elements.width at_most length l.w_out or buffer_short
    ∷ []

abbrev pub written : Head → Lent → ℕ → ℕ → Outcome ℕ Lent
written h l first count = wrote (count * (field_of h).elements.width) (filled h l first count)

pub online-whole : (l : Lent) {P : ScalarPart} (first count : ℕ) → read_scalar l.source ≡ Whole P
    → online l first count ≡ answered (online_tests P.head l first count) (refused_one l) (written P.head l first count)
unfolding online
online-whole l {P} first count e = sym (read_whole (read_scalar l.source) (refused_one l) _ _ P e refl)

-- an outcome has the record and the vector as they were lent
pub record Kept (l : Lent) (o : Outcome ℕ Lent) : Type 0 where
  pub source : o.lent.source ≡ l.source
  pub w : o.lent.w ≡ l.w

-- every online call leaves the record and the vector as they were
pub online-kept : (l : Lent) (first count : ℕ) → Kept l (online l first count)
unfolding online filled
online-kept l first count =
    let refused : (n : ℕ) → Kept l (refused_one l n) = λ n. record { source = refl; w = refl } in
    read_either (Kept l) (read_scalar l.source) (refused_one l) _ refused
    (λ P. answered_either (Kept l) (online_tests P.head l first count) (refused_one l) (written P.head l first count) refused
    (record { source = refl; w = refl }))

-- a call on the record of P and the words of a vector f of elements
module _ (l : Lent) (P : ScalarPart) (f : ℕ → Value (field_of P.head)) (read : read_scalar l.source ≡ Whole P)
    (whole : l.w ≡ flat (field_of P.head).elements (places P.head) f)
    (elements : (j : ℕ) → j < places P.head → Element (field_of P.head).scaled.group (f j))
    (first count : ℕ) where
  full : P.head.terms ≤ places P.head
  full = (head_ranges 2 l.source (scalar_parts l.source read).3).terms-leaves

  coding : CodingLaws (field_of P.head).elements
  coding = (kind_laws P.head.field).field.elements

  all-usable : window_usable (usable (field_of P.head) l) P.head first count ≡ true
  unfolding usable
  all-usable =
      window-usable (usable (field_of P.head) l) P.head full first count (vector_usable P.head (field_of P.head).scaled _ coding f whole elements)

  -- the tests 3 and 8 are met
  faults : first_fault (online_tests P.head l first count) ≡ first_fault (listed_tests P.head l first count)
  unfolding first_fault
  faults =
      rw (
        is_so (length l.w) (vector_words P.head) (vector_length P.head (field_of P.head).scaled _ coding f whole),
        held (window_usable (usable (field_of P.head) l) P.head first count) _ refl all-usable,
      )

  -- what the call gives: 7, 13, or the window
  pub online-listed : online l first count ≡ answered (listed_tests P.head l first count) (refused_one l) (written P.head l first count)
  online-listed = online-whole l first count read ∙ answered-same _ _ _ _ faults

  -- 7 if the window passes n, else 13 if the buffer is too short, else 0
  pub online-number : (online l first count).number ≡ first_fault (listed_tests P.head l first count)
  online-number = ap (λ (o : Outcome ℕ Lent). o.number) online-listed ∙ outcome-number _ _ _ _ (listed_tests P.head l first count)

  accepted : (online l first count).number ≡ 0 → online l first count ≡ written P.head l first count
  accepted n =
      online-listed ∙ outcome_is _ _ _ _ (listed_tests P.head l first count) (ap (λ (o : Outcome ℕ Lent). o.number) (sym online-listed) ∙ n)

  -- an accepted call's element k is the output of row first + k
  pub online-values : (online l first count).number ≡ 0 → (k : ℕ) → k < count
      → at (field_of P.head).elements (online l first count).lent.w_out k
      ≡ output (field_of P.head).scaled (row P.head (first + k)) f
  unfolding filled
  online-values n k h = rw (accepted n) (window_at P.head (field_of P.head).scaled _ coding f whole full first count l.w_out k h)

-- ---- the expansion for the bench

pub bench_whole : (l : bench.Lent) {P : ScalarPart} (first count : ℕ) → read_scalar l.source ≡ Whole P
    → bench.bench_expansion l first count ≡ bench.bench_window P l first count
unfolding bench.bench_expansion
bench_whole l {P} first count e = sym (read_whole _ _ _ _ P e refl)

-- an accepted call wrote the words of c elements
pub bench_length : (P : ScalarPart) (l : bench.Lent) (first count : ℕ) → (bench.bench_window P l first count).number ≡ 0
    → (bench.bench_window P l first count).written ≡ count * (field_of P.head).elements.width
unfolding bench.bench_window
bench_length P l first count n =
    ap (λ (o : Outcome ℕ bench.Lent). o.written) (outcome_is _ _ _ _ (bench.bench_tests P.head first count (length l.w_out)) n)
