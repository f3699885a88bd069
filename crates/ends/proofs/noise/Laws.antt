-- Laws of the noise end's calls: what an accepted offline call leaves, what an online call on whole vectors of elements
-- gives, and that every online call leaves the record and the vectors as they were.
use mathlib.Core.Path.{◌≡◌, refl, sym, ap, ◌∙◌}
use mathlib.Core.Bool.{true}
use mathlib.Core.List.{List, [], ◌∷◌}
use Prim.Native.Nat.{ℕ, ◌+◌, ◌*◌, ◌≤◌, ◌<◌}
use lib.ListN.{length, take, drop}
use Rattle.answer.specs.Numbers.{window_past_end, buffer_short}
use Rattle.answer.specs.Tests.{Test, ◌at_most◌, ◌or◌, first_fault}
use Rattle.answer.specs.Outcome.{Outcome, TwoWritten, answered, refused_two, wrote}
use Rattle.answer.proofs.Answers.{accepted_if, answered_either, answered-same, outcome-number, outcome_is}
use Rattle.answer.proofs.Faults.{is_so, held, chain}
use Rattle.algebra.specs.Coding.{CodingLaws, at, flat}
use Rattle.algebra.specs.Field.{NoiseValue, Value}
use Rattle.algebra.specs.Group.{Element, itself}
use Rattle.algebra.specs.Row.{output}
use Rattle.algebra.specs.Sum.{accumulate}
use Rattle.algebra.proofs.Tests.{and_both}
use Rattle.field.proofs.BothKinds.{kind_laws}
use Rattle.number.specs.Reading.{Whole, Refused}
use Rattle.number.proofs.Records.{read-refused, read_whole, read_either}
use Rattle.record.specs.Content.{Head, NoisePart}
use Rattle.record.specs.Reading.{read_noise}
use Rattle.record.proofs.Callers.{head_ranges}
use Rattle.record.proofs.Parts.{noise_parts}
use Rattle.window.specs.Head.{field_of, places, row}
use Rattle.window.specs.Usable.{window_usable}
use Rattle.window.proofs.Rows.{window-usable}
use Rattle.ends.specs.Parts.{vector_words}
use Rattle.ends.specs.Noise.Vectors.{mu, v0}
use Rattle.ends.specs.Noise.Offline.{OfflineLent, offline_with, offline_tests, expanded, offline}
use Rattle.ends.specs.Noise.Online.{Lent, usable, filled, online_tests, online}
use Rattle.ends.specs.Noise.Bench as bench
use Rattle.ends.proofs.Vectors.{one_word, noise_past, front-taken, vector_length, vector_usable, window_at}

-- ---- offline

-- what an accepted call leaves: the lengths, and the vectors at the fronts of those lengths
pub record Accepted (P : NoisePart) (source : List ℕ) (o : Outcome TwoWritten OfflineLent) : Type 0 where
  pub record-kept : o.lent.source ≡ source
  pub number : o.number ≡ 0
  pub first_written : o.written.first_written ≡ places P.head
  pub second_written : o.written.second_written ≡ vector_words P.head
  pub noise : take o.written.first_written o.lent.noise
      ≡ flat (field_of P.head).noise_values (places P.head) (accumulate (field_of P.head).ring.group (mu P))
  pub v : take o.written.second_written o.lent.v
      ≡ flat (field_of P.head).elements (places P.head) (accumulate (field_of P.head).scaled.group (v0 P))

-- a record that is refused gives its number, zero lengths, and all that is lent as it was
pub offline-refused : (source noise v : List ℕ) (k : ℕ) → read_noise source ≡ Refused k → offline source noise v ≡ refused_two (offline_with source noise v) k
unfolding offline
offline-refused source noise v k e = sym (read-refused (read_noise source) (refused_two (offline_with source noise v)) _ _ k e refl)

module _ (source : List ℕ) {P : NoisePart} (noise v : List ℕ) (e : read_noise source ≡ Whole P) where
  abbrev done : Outcome TwoWritten OfflineLent
  done = wrote (record { first_written = places P.head; second_written = vector_words P.head }) (expanded P source noise v)

  pub offline-whole : offline source noise v ≡ answered (offline_tests P noise v) (refused_two (offline_with source noise v)) done
  unfolding offline
  offline-whole = sym (read_whole (read_noise source) _ _ _ P e refl)

  left : offline source noise v ≡ done → Accepted P source (offline source noise v)
  unfolding expanded
  left q =
      let F = field_of P.head in
      let L = (kind_laws P.head.field).field in
      rw q (record {
        record-kept = refl;
        number = refl;
        first_written = refl;
        second_written = refl;
        noise = front-taken P.head (itself F.ring) F.noise_values L.noise_values (mu P) noise (sym (one_word P.head (places P.head)));
        v = front-taken P.head F.scaled F.elements L.elements (v0 P) v refl;
      })

  -- with room in both buffers the call is accepted
  pub offline-accepts : places P.head ≤ length noise → vector_words P.head ≤ length v → Accepted P source (offline source noise v)
  offline-accepts h k = left (offline-whole ∙ accepted_if _ _ _ (record { all = (h, (k, tt)) }))

  -- a call that returns 0 left what an accepted call leaves
  pub offline-accepted : (offline source noise v).number ≡ 0 → Accepted P source (offline source noise v)
  offline-accepted n =
      left (offline-whole ∙ outcome_is _ _ _ _ (offline_tests P noise v) (ap (λ (o : Outcome TwoWritten OfflineLent). o.number) (sym offline-whole) ∙ n))

-- ---- online

-- the tests 7 and 13, and what an accepted call leaves
abbrev pub listed_tests : Head → Lent → ℕ → ℕ → List Test
listed_tests h l first count =
    (first + count) at_most h.outputs or window_past_end
    ∷ count at_most length l.u_out or buffer_short
    ∷ count * (field_of h).elements.width at_most length l.v_out or buffer_short
    ∷ []

abbrev pub written : Head → Lent → ℕ → ℕ → Outcome TwoWritten Lent
written h l first count = wrote (record { first_written = count; second_written = count * (field_of h).elements.width }) (filled h l first count)

pub online-whole : (l : Lent) {P : NoisePart} (first count : ℕ) → read_noise l.source ≡ Whole P
    → online l first count ≡ answered (online_tests P.head l first count) (refused_two l) (written P.head l first count)
unfolding online
online-whole l {P} first count e = sym (read_whole (read_noise l.source) (refused_two l) _ _ P e refl)

-- with too little room for v a call gets 13, whatever words stand in the vectors
pub room-first : (l : Lent) {P : NoisePart} (first count : ℕ) → read_noise l.source ≡ Whole P
    → length l.noise ≡ places P.head → length l.v ≡ vector_words P.head → first + count ≤ P.head.outputs → count ≤ length l.u_out
    → length l.v_out < count * (field_of P.head).elements.width → (online l first count).number ≡ buffer_short
room-first l {P} first count e n v w u short =
    ap (λ (o : Outcome TwoWritten Lent). o.number) (online-whole l first count e)
    ∙ outcome-number _ _ _ _ (online_tests P.head l first count) ∙ sym (search chain)

-- an outcome has the record, the vectors and the words of u past a count as they were lent
pub record Kept (l : Lent) (count : ℕ) (o : Outcome TwoWritten Lent) : Type 0 where
  pub source : o.lent.source ≡ l.source
  pub noise : o.lent.noise ≡ l.noise
  pub v : o.lent.v ≡ l.v
  pub past : drop count o.lent.u_out ≡ drop count l.u_out

-- every online call leaves the record, the vectors and the words of u past its count as they were
pub online-kept : (l : Lent) (first count : ℕ) → Kept l count (online l first count)
unfolding online filled
online-kept l first count =
    let refused : (n : ℕ) → Kept l count (refused_two l n) = λ n. record { source = refl; noise = refl; v = refl; past = refl } in
    read_either (Kept l count) (read_noise l.source) (refused_two l) _ refused
    (λ P. answered_either (Kept l count) (online_tests P.head l first count) (refused_two l) (written P.head l first count) refused
    (record { source = refl; noise = refl; v = refl; past = noise_past P.head count _ l.u_out }))

-- a call on the record of P and the words of vectors f and g of elements
module _ (l : Lent) (P : NoisePart) (f : ℕ → NoiseValue (field_of P.head)) (g : ℕ → Value (field_of P.head))
    (read : read_noise l.source ≡ Whole P)
    (noise-whole : l.noise ≡ flat (field_of P.head).noise_values (places P.head) f)
    (v-whole : l.v ≡ flat (field_of P.head).elements (places P.head) g)
    (noise_values : (j : ℕ) → j < places P.head → Element (field_of P.head).ring.group (f j))
    (elements : (j : ℕ) → j < places P.head → Element (field_of P.head).scaled.group (g j))
    (first count : ℕ) where
  full : P.head.terms ≤ places P.head
  full = (head_ranges 1 l.source (noise_parts l.source read).2).terms-leaves

  noise_coding : CodingLaws (field_of P.head).noise_values
  noise_coding = (kind_laws P.head.field).field.noise_values

  coding : CodingLaws (field_of P.head).elements
  coding = (kind_laws P.head.field).field.elements

  all-usable : window_usable (usable (field_of P.head) l) P.head first count ≡ true
  unfolding usable
  all-usable =
      window-usable (usable (field_of P.head) l) P.head full first count
      (λ j h.
      and_both
      (vector_usable P.head (itself (field_of P.head).ring) _ noise_coding f noise-whole noise_values j h)
      (vector_usable P.head (field_of P.head).scaled _ coding g v-whole elements j h))

  -- the tests 3 and 8 are met
  faults : first_fault (online_tests P.head l first count) ≡ first_fault (listed_tests P.head l first count)
  unfolding first_fault
  faults =
      rw (
        is_so (length l.noise) (places P.head)
            (vector_length P.head (itself (field_of P.head).ring) _ noise_coding f noise-whole ∙ one_word P.head (places P.head)),
        is_so (length l.v) (vector_words P.head) (vector_length P.head (field_of P.head).scaled _ coding g v-whole),
        held (window_usable (usable (field_of P.head) l) P.head first count) _ refl all-usable,
      )

  -- what the call gives: 7, 13, or the window
  pub online-listed : online l first count ≡ answered (listed_tests P.head l first count) (refused_two l) (written P.head l first count)
  online-listed = online-whole l first count read ∙ answered-same _ _ _ _ faults

  -- 7 if the window passes n, else 13 if a buffer is too short, else 0
  pub online-number : (online l first count).number ≡ first_fault (listed_tests P.head l first count)
  online-number = ap (λ (o : Outcome TwoWritten Lent). o.number) online-listed ∙ outcome-number _ _ _ _ (listed_tests P.head l first count)

  accepted : (online l first count).number ≡ 0 → online l first count ≡ written P.head l first count
  accepted n =
      online-listed ∙ outcome_is _ _ _ _ (listed_tests P.head l first count) (ap (λ (o : Outcome TwoWritten Lent). o.number) (sym online-listed) ∙ n)

  -- an accepted call's word k of u and element k of v are the outputs of row first + k
  pub online_u : (online l first count).number ≡ 0 → (k : ℕ) → k < count
      → at (field_of P.head).noise_values (online l first count).lent.u_out k
      ≡ output (itself (field_of P.head).ring) (row P.head (first + k)) f
  unfolding filled
  online_u n k h = rw (accepted n) (window_at P.head (itself (field_of P.head).ring) _ noise_coding f noise-whole full first count l.u_out k h)

  pub online_v : (online l first count).number ≡ 0 → (k : ℕ) → k < count
      → at (field_of P.head).elements (online l first count).lent.v_out k
      ≡ output (field_of P.head).scaled (row P.head (first + k)) g
  unfolding filled
  online_v n k h = rw (accepted n) (window_at P.head (field_of P.head).scaled _ coding g v-whole full first count l.v_out k h)

-- ---- the expansion for the bench

pub bench_whole : (l : bench.Lent) {P : NoisePart} (first count : ℕ) → read_noise l.source ≡ Whole P
    → bench.bench_expansion l first count ≡ bench.bench_window P l first count
unfolding bench.bench_expansion
bench_whole l {P} first count e = sym (read_whole _ _ _ _ P e refl)
