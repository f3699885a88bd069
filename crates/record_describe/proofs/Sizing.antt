-- What the description of an accepted record says is what its end's calls use. Assumes nothing.
use mathlib.Core.Bool.{Bool, true, false, ◌||◌}
use mathlib.Core.List.{List}
use mathlib.Core.Logic.{◌↔◌}
use mathlib.Core.Path.{◌≡◌, refl, sym, ap, ◌∙◌}
use Prim.Native.Nat.{ℕ}
use native.Mathlib.Omega.{arith}
use lib.Dec.{eqb}
use Rattle.algebra.specs.Choice.{choose}
use Rattle.answer.specs.Numbers.{accepted, not_element, wrong_end}
use Rattle.answer.specs.Tests.{first_fault}
use Rattle.answer.specs.Outcome.{Outcome, TwoWritten}
use Rattle.answer.proofs.Answers.{outcome-number}
use Rattle.answer.proofs.Faults.{last-not, last_only}
use Rattle.number.specs.Reading.{Reading, Whole, Refused, Parsed, tested, read_byte, after_reading}
use Rattle.record.specs.Content.{Head, NoisePart, ScalarPart}
use Rattle.record.specs.Reading.{read_noise, read_scalar}
use Rattle.ends.specs.Noise.Offline as noise_offline
use Rattle.ends.specs.Noise.Online as noise_online
use Rattle.ends.proofs.noise.Laws as noise_laws
use Rattle.ends.specs.Scalar.Offline as scalar_offline
use Rattle.ends.specs.Scalar.Online as scalar_online
use Rattle.ends.proofs.scalar.Laws as scalar_laws
use Rattle.record_describe.specs.declared.Described.{Described}
use Rattle.record_describe.specs.Describe.{described_head, refused, said, by_end, describe}
use Rattle.record_describe.specs.Sizing.{Sizing, answer_for, noise_lengths, scalar_lengths, without_end}

-- ---- an end that is told is that of a record read whole

module _ {A : Type 0} (end : ℕ) (head_in : A → Head) where
  -- what is said of a reading tells its end only where it is whole
  said-end : (x : Reading A) {e : ℕ} → (e ≡ 0 → ⊥) → (said end head_in x).end ≡ e
      → (p : A) × (x ≡ Whole p) × (end ≡ e) × (said end head_in x ≡ described_head end (head_in p))
  unfolding after_reading
  said-end (Whole p) n q = (p, refl, q, refl)
  said-end (Refused k) n q = absurd (n (sym q))

module _ (s : List ℕ) where
  -- the answer, where the end byte is an end's
  abbrev told : Bool → Described
  told b = choose b (said 1 (λ P. P.head) (read_noise s)) (said 2 (λ P. P.head) (read_scalar s))

  noise-end : (x : Parsed ℕ) → (by_end s x).end ≡ 1 → (P : NoisePart) × (read_noise s ≡ Whole P) × (by_end s x ≡ described_head 1 P.head)
  unfolding after_reading
  noise-end (Refused k) e = absurd (omega (arith, e))
  noise-end (Whole r) e = by (eqb r.0 1) e
    where
      by : (b : Bool) → (told b).end ≡ 1 → (P : NoisePart) × (read_noise s ≡ Whole P) × (told b ≡ described_head 1 P.head)
      by true e = let o = said-end 1 (λ P. P.head) (read_noise s) (λ z. omega (arith, z)) e in (o.0, o.1, o.3)
      by false e = let o = said-end 2 (λ P. P.head) (read_scalar s) (λ z. omega (arith, z)) e in absurd (omega (arith, o.2))

  scalar-end : (x : Parsed ℕ) → (by_end s x).end ≡ 2 → (P : ScalarPart) × (read_scalar s ≡ Whole P) × (by_end s x ≡ described_head 2 P.head)
  unfolding after_reading
  scalar-end (Refused k) e = absurd (omega (arith, e))
  scalar-end (Whole r) e = by (eqb r.0 1) e
    where
      by : (b : Bool) → (told b).end ≡ 2 → (P : ScalarPart) × (read_scalar s ≡ Whole P) × (told b ≡ described_head 2 P.head)
      by true e = let o = said-end 1 (λ P. P.head) (read_noise s) (λ z. omega (arith, z)) e in absurd (omega (arith, o.2))
      by false e = let o = said-end 2 (λ P. P.head) (read_scalar s) (λ z. omega (arith, z)) e in (o.0, o.1, o.3)

  pub noise-told : (answer_for s).end ≡ 1 → (P : NoisePart) × (read_noise s ≡ Whole P) × (answer_for s ≡ described_head 1 P.head)
  unfolding describe
  noise-told e = noise-end (tested (read_byte s 0) (λ end. eqb end 1 || eqb end 2) wrong_end) e

  pub scalar-told : (answer_for s).end ≡ 2 → (P : ScalarPart) × (read_scalar s ≡ Whole P) × (answer_for s ≡ described_head 2 P.head)
  unfolding describe
  scalar-told e = scalar-end (tested (read_byte s 0) (λ end. eqb end 1 || eqb end 2) wrong_end) e

-- ---- two answers

-- the head that an answer tells
abbrev head_told : Described → Head
head_told D =
    record {
      field = D.field;
      depth = D.depth;
      branch_bits = D.branch_bits;
      trees = D.trees;
      terms = D.terms;
      outputs = D.outputs;
      code_key = D.code_key;
      label = D.label;
    }

same-told : (s u : List ℕ) → (answer_for s).end ≡ 1 → (answer_for u).end ≡ 2 → (P : NoisePart) (Q : ScalarPart) → read_noise s ≡ Whole P
    → read_scalar u ≡ Whole Q → P.head ≡ Q.head ↔ without_end (answer_for s) ≡ without_end (answer_for u)
same-told s u a b P Q e g =
    let o = noise-told s a in
    let q = scalar-told u b in
    let p : o.0.head ≡ P.head = ap head_read (sym o.1 ∙ e) in
    let r : q.0.head ≡ Q.head = ap head_read' (sym q.1 ∙ g) in
    let x : answer_for s ≡ described_head 1 P.head = o.2 ∙ ap (described_head 1) p in
    let y : answer_for u ≡ described_head 2 Q.head = q.2 ∙ ap (described_head 2) r in (
      λ h. ap without_end x ∙ ap (λ (k : Head). without_end (described_head 1 k)) h ∙ sym (ap without_end y),
      λ h. ap head_told (sym (ap without_end x) ∙ h ∙ ap without_end y),
    )
  where
    head_read : Reading NoisePart → Head
    head_read (Whole p) = p.head
    head_read (Refused k) = P.head

    head_read' : Reading ScalarPart → Head
    head_read' (Whole p) = p.head
    head_read' (Refused k) = Q.head

-- an answer that tells neither end is that of a refused record
module _ {A : Type 0} (end : ℕ) (head_in : A → Head) where
  said-none : (x : Reading A) → ((said end head_in x).end ≡ end → ⊥) → said end head_in x ≡ refused (said end head_in x).number
  unfolding after_reading
  said-none (Whole p) n = absurd (n refl)
  said-none (Refused k) n = refl

module _ (s : List ℕ) where
  none : (x : Parsed ℕ) → ((by_end s x).end ≡ 1 → ⊥) → ((by_end s x).end ≡ 2 → ⊥) → by_end s x ≡ refused (by_end s x).number
  unfolding after_reading
  none (Refused k) m n = refl
  none (Whole r) m n = by (eqb r.0 1) m n
    where
      by : (b : Bool) → ((told s b).end ≡ 1 → ⊥) → ((told s b).end ≡ 2 → ⊥) → told s b ≡ refused (told s b).number
      by true m n = said-none 1 (λ P. P.head) (read_noise s) m
      by false m n = said-none 2 (λ P. P.head) (read_scalar s) n

neither-told : (s : List ℕ) → ((answer_for s).end ≡ 1 → ⊥) → ((answer_for s).end ≡ 2 → ⊥) → answer_for s ≡ refused (answer_for s).number
unfolding describe
neither-told s = none s (tested (read_byte s 0) (λ end. eqb end 1 || eqb end 2) wrong_end)

-- ---- each call

noise-room : (P : NoisePart) (s noise v : List ℕ) → read_noise s ≡ Whole P
    → (noise_offline.offline s noise v).number ≡ first_fault (noise_offline.offline_tests P noise v)
noise-room P s noise v e =
    ap (λ (o : Outcome TwoWritten noise_offline.OfflineLent). o.number) (noise_laws.offline-whole s noise v e)
    ∙ outcome-number _ _ _ _ (noise_offline.offline_tests P noise v)

scalar-room : (P : ScalarPart) (s w delta : List ℕ) → read_scalar s ≡ Whole P
    → (scalar_offline.offline s w delta).number ≡ first_fault (scalar_offline.offline_tests P w delta)
scalar-room P s w delta e =
    ap (λ (o : Outcome TwoWritten scalar_offline.OfflineLent). o.number) (scalar_laws.offline-whole s w delta e)
    ∙ outcome-number _ _ _ _ (scalar_offline.offline_tests P w delta)

-- the last test of an online call is that of the words that the rows use
module _ (P : NoisePart) (l : noise_online.Lent) (first count : ℕ) (e : read_noise l.source ≡ Whole P) where
  noise-number : (noise_online.online l first count).number ≡ first_fault (noise_online.online_tests P.head l first count)
  noise-number =
      ap (λ (o : Outcome TwoWritten noise_online.Lent). o.number) (noise_laws.online-whole l first count e)
      ∙ outcome-number _ _ _ _ (noise_online.online_tests P.head l first count)

  noise-window : ((noise_online.online l first count).number ≡ not_element → ⊥)
      → (noise_online.online l first count).number ≡ first_fault (noise_lengths (described_head 1 P.head) l first count)
  noise-window h = noise-number ∙ last-not _ not_element (noise_lengths (described_head 1 P.head) l first count) (λ g. h (noise-number ∙ g))

  noise_passed : (noise_online.online l first count).number ≡ not_element → first_fault (noise_lengths (described_head 1 P.head) l first count) ≡ accepted
  noise_passed g = last_only _ not_element (noise_lengths (described_head 1 P.head) l first count) refl (sym noise-number ∙ g)

module _ (P : ScalarPart) (l : scalar_online.Lent) (first count : ℕ) (e : read_scalar l.source ≡ Whole P) where
  scalar-number : (scalar_online.online l first count).number ≡ first_fault (scalar_online.online_tests P.head l first count)
  scalar-number =
      ap (λ (o : Outcome ℕ scalar_online.Lent). o.number) (scalar_laws.online-whole l first count e)
      ∙ outcome-number _ _ _ _ (scalar_online.online_tests P.head l first count)

  scalar-window : ((scalar_online.online l first count).number ≡ not_element → ⊥)
      → (scalar_online.online l first count).number ≡ first_fault (scalar_lengths (described_head 2 P.head) l first count)
  scalar-window h = scalar-number ∙ last-not _ not_element (scalar_lengths (described_head 2 P.head) l first count) (λ g. h (scalar-number ∙ g))

  scalar_passed : (scalar_online.online l first count).number ≡ not_element → first_fault (scalar_lengths (described_head 2 P.head) l first count) ≡ accepted
  scalar_passed g = last_only _ not_element (scalar_lengths (described_head 2 P.head) l first count) refl (sym scalar-number ∙ g)

pub sizing : Sizing
sizing =
    record {
      same = same-told;
      neither = neither-told;
      noise-offline = λ s e noise v. let o = noise-told s e in rw o.2 (noise-room o.0 s noise v o.1);
      scalar-offline = λ s e w delta. let o = scalar-told s e in rw o.2 (scalar-room o.0 s w delta o.1);
      noise-online = λ l e first count h. let o = noise-told l.source e in rw o.2 (noise-window o.0 l first count o.1 h);
      noise-elements = λ l e first count g. let o = noise-told l.source e in rw o.2 (noise_passed o.0 l first count o.1 g);
      scalar-online = λ l e first count h. let o = scalar-told l.source e in rw o.2 (scalar-window o.0 l first count o.1 h);
      scalar-elements = λ l e first count g. let o = scalar-told l.source e in rw o.2 (scalar_passed o.0 l first count o.1 g);
    }
