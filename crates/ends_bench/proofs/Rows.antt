-- The rows of a batch at a strip: their terms made, their entries at a place, a place added to the outputs, and the sums carried on
-- to the next strip.
use mathlib.Core.Path.{◌≡◌, refl, sym, ap, ap₂, ◌∙◌}
use mathlib.Core.Bool.{Bool, true, false}
use mathlib.Core.List.{List}
use Prim.Native.Nat.{ℕ, suc, ◌+◌, ◌*◌, ◌≤◌, ◌<◌}
use native.Mathlib.Nat.{mul-le-mul_right, suc-mul}
use native.Mathlib.Omega.{arith}
use lib.Dec.{eqb, leb}
use lib.ListN.{length, set, length-set}
use lib.Pow.{pow_mono}
use lib.Seq.{get_or-set_same, get_or-set_other}
use borrow.Author.Tests.{le-leb, lt-leb, eqb-true, eqb-false}
use Rattle.algebra.specs.Coding.{CodingLaws, at, over}
use Rattle.algebra.specs.Field.{FieldLaws, NoiseValue, Value}
use Rattle.algebra.specs.Inner.Put.{put}
use Rattle.algebra.specs.Choice.{choose}
use Rattle.algebra.proofs.Choice.{choose-true, choose-false}
use Rattle.algebra.proofs.Coding.{at_over_past, length-put, over-whole}
use Rattle.algebra.proofs.Written.{front-none, front-all}
use Rattle.code.specs.declared.Shape.{Shape}
use Rattle.code.specs.Row.{row_of_blocks}
use Rattle.code.specs.Inner.Rows.{Shaped, term_block_by, place_in}
use Rattle.field.specs.Bytes.{high_of}
use Rattle.field.specs.Kind.{kind_of}
use Rattle.field.proofs.BothKinds.{kind_laws}
use Rattle.record.specs.declared.Layout.{Layout}
use Rattle.window.specs.Inner.Outputs.{shape_of}
use Rattle.algebra.proofs.Flats.{value-put}
use Rattle.tree.specs.Added.{added}
use Rattle.field.specs.Inner.Elements.{noise_in, noise_sum}
use Rattle.field.proofs.Elements.{noise-sum_is, noise-zero}
use Rattle.ends_bench_leaves.specs.Inner.Vectors.{field_by, field_for, element_value}
use Rattle.ends_bench.specs.Inner.Rows.{row_in, entry_in, row_at, IsCode, HasTerms, carried_on, SumsMore, place_added}
use Rattle.ends.proofs.Vectors.{noise-laws}
use Rattle.field.specs.declared.element.Element.{Element}
use Rattle.ends_bench.specs.declared.entries.Pending.{Pending}

-- the laws of a vector's values
pub vector_laws : (b : Bool) (field : ℕ) → FieldLaws (field_by b field)
vector_laws true field = noise-laws field
vector_laws false field = (kind_laws field).field

-- ---- entries

module _ (field : ℕ) (r : Pending) (j : ℕ) {x : ℕ} where
  pub entry_with : j ≤ r.place → x ≡ noise_sum field r.sum r.coefficient → noise_in field x ≡ entry_in field r j
  unfolding entry_in
  entry_with h q =
      let K = kind_of field in
      ap (noise_in field) q ∙ noise-sum_is field r.sum r.coefficient
      ∙ ap (K.field.ring.group.add (noise_in field r.sum))
      (sym (choose-true (leb j r.place) (noise_in field r.coefficient) K.field.ring.group.zero (le-leb j r.place h)))

  pub entry_without : r.place < j → x ≡ noise_sum field r.sum 0 → noise_in field x ≡ entry_in field r j
  unfolding entry_in
  entry_without h q =
      let K = kind_of field in
      ap (noise_in field) q ∙ noise-sum_is field r.sum 0
      ∙ ap (K.field.ring.group.add (noise_in field r.sum))
      (noise-zero field
      ∙ sym (choose-false (leb j r.place) (noise_in field r.coefficient) K.field.ring.group.zero (lt-leb j r.place h)))

-- ---- terms

module _ (f : Layout) (ok : IsCode f) {shape : Shape} (e : shape ≡ shape_of f) where
  pub shaped : Shaped shape
  shaped = rw e (record { some = ok.some; full = ok.full; most = pow_mono ok.depth; few = ok.few; strip = refl })

  pub term-below : {i : ℕ} → i < f.terms → i < shape.terms
  term-below h = rw e h

  module _ (code : List (List (List ℕ))) (x i : ℕ) where
    pub term-place : {p : ℕ} → p ≡ place_in code shape x i → p ≡ (row_in code f x).place i
    unfolding row_in row_of_blocks
    term-place q = q ∙ ap (λ (s : Shape). place_in code s x i) e

    pub term-coefficient : (c : ℕ) {word : ℕ} → word ≡ high_of (term_block_by code x i) → noise_in f.field c ≡ (kind_of f.field).coefficient word
        → noise_in f.field c ≡ (row_in code f x).coefficient i
    unfolding row_in row_of_blocks
    term-coefficient c q n = n ∙ ap (kind_of f.field).coefficient q

-- row m after row k is set
row-set : (rows : List Pending) (k m : ℕ) (r : Pending) → k < length rows → (t : Bool) → eqb m k ≡ t
    → row_at (set rows k r) m ≡ choose t r (row_at rows m)
row-set rows k m r h true q = rw (eqb-true m k q) (get_or-set_same rows k r _ h)
row-set rows k m r h false q = get_or-set_other rows k m r _ (eqb-false m k q)

module _ (code : List (List (List ℕ))) (f : Layout) (first i : ℕ) (before : List Pending) where
  pub terms-none : HasTerms code f first i 0 before before
  terms-none = record { places = λ k h. absurd (omega arith); coefficients = λ k h. absurd (omega arith); sums = λ k. refl; size = refl }

  pub terms_more : {k : ℕ} {rows : List Pending} → HasTerms code f first i k before rows → k < length rows → (r : Pending)
      → r.place ≡ (row_in code f (first + k)).place i → noise_in f.field r.coefficient ≡ (row_in code f (first + k)).coefficient i
      → r.sum ≡ (row_at rows k).sum → HasTerms code f first i (k + 1) before (set rows k r)
  terms_more {k} {rows} t few r pe ce se =
      record {
        places = λ m h. place m h (eqb m k) refl;
        coefficients = λ m h. coefficient m h (eqb m k) refl;
        sums = λ m. ap (λ (x : Pending). x.sum) (row-set rows k m r few (eqb m k) refl) ∙ sums m (eqb m k) refl ∙ t.sums m;
        size = length-set rows k r ∙ t.size;
      }
    where
      place : (m : ℕ) → m < k + 1 → (s : Bool) → eqb m k ≡ s → (row_at (set rows k r) m).place ≡ (row_in code f (first + m)).place i
      place m h true q = ap (λ (x : Pending). x.place) (row-set rows k m r few true q) ∙ rw (eqb-true m k q) pe
      place m h false q =
          ap (λ (x : Pending). x.place) (row-set rows k m r few false q) ∙ t.places m (omega (arith, eqb-false m k q))

      coefficient : (m : ℕ) → m < k + 1 → (s : Bool) → eqb m k ≡ s
          → noise_in f.field (row_at (set rows k r) m).coefficient ≡ (row_in code f (first + m)).coefficient i
      coefficient m h true q = ap (λ (x : Pending). noise_in f.field x.coefficient) (row-set rows k m r few true q) ∙ rw (eqb-true m k q) ce
      coefficient m h false q =
          ap (λ (x : Pending). noise_in f.field x.coefficient) (row-set rows k m r few false q)
          ∙ t.coefficients m (omega (arith, eqb-false m k q))

      sums : (m : ℕ) (s : Bool) → eqb m k ≡ s → (choose s r (row_at rows m)).sum ≡ (row_at rows m).sum
      sums m true q = rw (eqb-true m k q) se
      sums m false q = refl

-- ---- the sums carried on

module _ (field : ℕ) (before : List Pending) where
  pub passed_none : SumsMore field 0 before before
  passed_none = record { carried = λ k h. absurd (omega arith); others = λ k h. refl; size = refl }

  pub passed_more : {k : ℕ} {rows : List Pending} → SumsMore field k before rows → k < length rows → {x : ℕ}
      → x ≡ noise_sum field (row_at rows k).sum (row_at rows k).coefficient
      → SumsMore field (k + 1) before (set rows k (record { place = (row_at rows k).place; coefficient = (row_at rows k).coefficient; sum = x }))
  passed_more {k} {rows} p few {x} e =
      let r : Pending = record { place = (row_at rows k).place; coefficient = (row_at rows k).coefficient; sum = x } in
      let f : r ≡ carried_on field (row_at rows k) =
      ap (λ (n : ℕ). record { place = (row_at rows k).place; coefficient = (row_at rows k).coefficient; sum = n }) e in
      record {
        carried = λ m h. row-set rows k m r few (eqb m k) refl ∙ carried r f m h (eqb m k) refl;
        others = λ m h. get_or-set_other rows k m r _ (λ q. omega arith) ∙ p.others m (omega arith);
        size = length-set rows k r ∙ p.size;
      }
    where
      carried : (r : Pending) → r ≡ carried_on field (row_at rows k) → (m : ℕ) → m < k + 1 → (s : Bool) → eqb m k ≡ s
          → choose s r (row_at rows m) ≡ carried_on field (row_at before m)
      carried r f m h true q = rw (eqb-true m k q) (f ∙ ap (carried_on field) (p.others k (omega arith)))
      carried r f m h false q = p.carried m (omega (arith, eqb-false m k q))

-- ---- a place added

module _ (vector field : ℕ) (rows : List Pending) (j : ℕ) (value : Element) (b : List ℕ) where
  abbrev added_at : ℕ → Value (field_for vector field)
  added_at k =
      (field_for vector field).scaled.group.add (at (field_for vector field).elements b k)
      ((field_for vector field).scaled.scale (entry_in field (row_at rows k) j) (element_value vector field value))

  coding : CodingLaws (field_for vector field).elements
  coding = (vector_laws (eqb vector 1) field).elements

  pub record Summed (v : List ℕ) (k : ℕ) : Type 0 where
    pub words : v ≡ over (field_for vector field).elements k added_at b
    pub size : length v ≡ length b

  pub summed-none : Summed b 0
  summed-none = record { words = front-none (field_for vector field).elements added_at b; size = refl }

  module _ (whole : length b ≡ length rows * (field_for vector field).elements.width) {v : List ℕ} {k : ℕ} (s : Summed v k) where
    pub summed-room : k < length rows → k * (field_for vector field).elements.width + (field_for vector field).elements.width ≤ length v
    summed-room h =
        let W = (field_for vector field).elements.width in
        let m : suc k * W ≤ length rows * W = mul-le-mul_right W h in
        omega (arith, s.size, suc-mul k W)

    pub summed_more : k < length rows → (entry : ℕ) → noise_in field entry ≡ entry_in field (row_at rows k) j → {next : List ℕ}
        → next ≡ put (field_for vector field).elements v k ((field_for vector field).scaled.group.add (at (field_for vector field).elements v k)
        ((field_for vector field).scaled.scale (noise_in field entry) (element_value vector field value)))
        → Summed next (k + 1)
    summed_more h entry e {next} q =
        let F = field_for vector field in
        let x : F.scaled.group.add (at F.elements v k) (F.scaled.scale (noise_in field entry) (element_value vector field value)) ≡ added_at k =
        ap₂ (λ (a : Value F) (c : NoiseValue F). F.scaled.group.add a (F.scaled.scale c (element_value vector field value)))
        (ap (λ (l : List ℕ). at F.elements l k) s.words
        ∙ at_over_past F.elements coding k added_at b k (omega arith) (let r = summed-room h in omega (arith, s.size))) e in
        record {
          words = value-put F.elements coding added_at b k s.words q x;
          size = ap length q ∙ length-put F.elements coding v k _ (summed-room h) ∙ s.size;
        }

    pub summed-all : k ≤ length rows → length rows ≤ k → v ≡ place_added vector field rows j (element_value vector field value) b
    unfolding place_added added
    summed-all h g =
        front-all (field_for vector field).elements added_at b k (length rows) v h g s.words
        ∙ over-whole (field_for vector field).elements coding (length rows) added_at b whole
