-- A batch's outputs strip by strip, from the top strip down, and a window's batch by batch.
use mathlib.Core.Path.{◌≡◌, refl, sym, ap, ap₂, ◌∙◌}
use mathlib.Core.Bool.{Bool, true, false}
use mathlib.Core.List.{List, ◌++◌, append_assoc}
use Prim.Native.Nat.{ℕ, zero, suc, ◌+◌, ◌-◌, ◌*◌, ◌^◌, ◌≤◌, ◌<◌, min}
use native.Mathlib.Nat.{mul-le-mul_right, add-mul, zero-mul}
use native.Mathlib.Omega.{arith}
use lib.Dec.{eqb, leb}
use lib.ListN.{length, take, drop, replicate, get_or-replicate, length-replicate}
use lib.Pow.{pow_mono}
use lib.Seq.{drop-drop, length-take-le}
use Rattle.std.proofs.lemmas.List.{get_or-take}
use borrow.Author.Tests.{eq-eqb, ne_eqb}
use borrow.Rule.Slice.PartMut.{put_mid}
use Rattle.algebra.specs.Choice.{choose}
use Rattle.algebra.specs.Coding.{CodingLaws, at, flat, over}
use Rattle.algebra.specs.Field.{Field, FieldLaws, NoiseValue, Value}
use Rattle.algebra.specs.Row.{Row, entry}
use Rattle.algebra.proofs.Coding.{flat_cong, length-flat, at_flat, flat-add, take-over, drop-over-add, length_over}
use Rattle.algebra.proofs.Written.{front-none}
use Rattle.algebra.proofs.Falling.{from_top, top-none, top_more}
use Rattle.algebra.proofs.Sum.{sum-none}
use Rattle.code.specs.Strips.{ReadsStrips}
use Rattle.code.specs.Inner.Rows.{term_block_by}
use Rattle.code.proofs.Strips.{strip-end, strips_within, blocks-full}
use Rattle.field.specs.Kind.{Kind, kind_of, element_words}
use Rattle.field.proofs.BothKinds.{kind_laws}
use Rattle.record.specs.declared.Layout.{Layout}
use Rattle.field.proofs.KindOf.{zero-elements, zero-noise}
use Rattle.tree.proofs.Sums.{trees-none, trees_sum}
use Rattle.tree.specs.Added.{added}
use Rattle.tree.proofs.PowerLaws.{level_less}
use Rattle.field.specs.Inner.Elements.{noise_in}
use Rattle.field.proofs.Elements.{noise-sum_is, noise-zero}
use Rattle.ends_bench_leaves.specs.Inner.Vectors.{field_by, field_for, values_of}
use Rattle.ends_bench.specs.Inner.Rows.{row_in, output_of, entry_in, row_at, IsCode, HasTerms, SumsMore, place_added, strip_added, strip_of}
use Rattle.ends_bench.specs.declared.entries.Pending.{Pending}
use Rattle.ends_bench_leaves.specs.declared.vector.Vector.{Vector}
use Rattle.code.specs.declared.Window.{Window}
use Rattle.ends_bench.proofs.Rows.{vector_laws}
use Rattle.ends_bench.proofs.ByStrips.{strip-entry, strips_times}

-- ---- a strip, one place a turn

-- the places of a strip of so many from a place on, but the lowest `left`, are added
pub record Stripped (vector field : ℕ) (rows : List Pending) (value : ℕ → Value (field_for vector field)) (b : List ℕ) (start size left : ℕ)
    (v : List ℕ) : Type 0 where
  pub within : left ≤ size
  pub words : v ≡ strip_added vector field rows value (start + size) (size - left) b

module _ (vector field : ℕ) (rows : List Pending) (value : ℕ → Value (field_for vector field)) (b : List ℕ) (start size : ℕ) where
  pub stripped_none : Stripped vector field rows value b start size size b
  unfolding strip_added
  stripped_none =
      record {
        within = omega arith;
        words = sym (ap (λ (n : ℕ). strip_added vector field rows value (start + size) n b) {x = size - size} {y = 0} (omega arith));
      }

  module _ {left : ℕ} {v : List ℕ} (e : Stripped vector field rows value b start size left v) where
    pub stripped_more : 0 < left → {x : Value (field_for vector field)} → x ≡ value (start + (left - 1)) → {next : List ℕ}
        → next ≡ place_added vector field rows (start + (left - 1)) x v → Stripped vector field rows value b start size (left - 1) next
    unfolding strip_added
    stripped_more k {x} xe {next} q =
        let h = e.within in
        let p : start + (left - 1) ≡ start + size - suc (size - left) = omega arith in
        record {
          within = omega arith;
          words =
              q ∙ ap₂ (place_added vector field rows (start + (left - 1))) xe e.words
              ∙ ap (λ (j : ℕ). place_added vector field rows j (value j) (strip_added vector field rows value (start + size) (size - left) b)) p
              ∙ ap (λ (n : ℕ). strip_added vector field rows value (start + size) n b) {x = suc (size - left)} {y = size - (left - 1)} (omega arith);
        }

-- ---- a batch, one strip a turn

-- words of zero are values of zero
zero-values : (b : Bool) (field : ℕ) → (field_by b field).elements.words (field_by b field).scaled.group.zero ≡ replicate (field_by b field).elements.width 0
zero-values true field = zero-noise field
zero-values false field = zero-elements field

-- the field of a vector's values, row k of a batch from a row on, and the places of the strips
abbrev value_field : Vector → Field
value_field v = field_for v.number v.layout.field

abbrev row_of : List (List (List ℕ)) → (v : Vector) → ℕ → ℕ → Row (kind_of v.layout.field).field.ring
row_of code v first k = row_in code v.layout (first + k)

abbrev strips_of : Layout → ℕ
strips_of f = f.terms * strip_of f

-- row k's entry × the value at a place, and their sum over the places from j on
unfoldable pub part_of : List (List (List ℕ)) → (v : Vector) → ℕ → ℕ → ℕ → Value (value_field v)
part_of code v first k j =
    (value_field v).scaled.scale (entry (row_of code v first k) j) (values_of v.number v.source.now v.layout j)

abbrev summed_to : List (List (List ℕ)) → (v : Vector) → ℕ → ℕ → ℕ → Value (value_field v)
summed_to code v first j k = from_top (value_field v).scaled.group (part_of code v first k) (strips_of v.layout) j

-- a batch with the strips from i on summed
pub record Down (code : List (List (List ℕ))) (v : Vector) (w : Window) (i : ℕ) (rows : List Pending) (out : List ℕ) : Type 0 where
  pub shape : IsCode v.layout
  pub within : i ≤ v.layout.terms
  pub sums : (k : ℕ) → k < w.count → noise_in v.layout.field (row_at rows k).sum
      ≡ from_top (kind_of v.layout.field).field.ring.group (row_of code v w.first k).coefficient v.layout.terms i
  pub size : length rows ≡ w.count
  pub outputs : out ≡ flat (value_field v).elements w.count (summed_to code v w.first (i * strip_of v.layout))
  pub whole : length out ≡ w.count * (value_field v).elements.width

pub code_sizes : (v : Vector) → IsCode v.layout
code_sizes v = let z = v.walking.standing.sizes in record { depth = z.depth; some = z.some; full = z.full; few = z.terms }

module _ (code : List (List (List ℕ))) (v : Vector) (w : Window) where
  abbrev f : Layout
  f = v.layout

  abbrev F : Field
  F = value_field v

  abbrev K : Kind
  K = kind_of v.layout.field

  laws : FieldLaws (value_field v)
  laws = vector_laws (eqb v.number 1) f.field

  reads : (k : ℕ) → ReadsStrips (2 ^ f.depth) f.terms (row_of code v w.first k)
  unfolding row_in
  reads k =
      let ok = code_sizes v in
      blocks-full K.field.ring K.coefficient (2 ^ f.depth) f.terms (term_block_by code (w.first + k)) ok.some ok.full

  summed-size : (j : ℕ) {out : List ℕ} → out ≡ flat F.elements w.count (summed_to code v w.first j) → length out ≡ w.count * F.elements.width
  summed-size j e = ap length e ∙ length-flat F.elements laws.elements w.count (summed_to code v w.first j)

  pub batch-none : w.count ≤ 32 → {n : ℕ} → n ≡ w.count * (field_for v.number v.layout.field).elements.width → {rows : List Pending} {out : List ℕ}
      → rows ≡ take w.count (replicate 32 (record { place = 0; coefficient = 0; sum = 0 })) → out ≡ replicate n 0
      → Down code v w v.layout.terms rows out
  unfolding trees_sum
  batch-none few size re oe =
      let none : Pending = record { place = 0; coefficient = 0; sum = 0 } in
      let o : _ ≡ flat F.elements w.count (summed_to code v w.first (strips_of f)) =
      trees-none F laws w.count (λ m k. F.scaled.group.zero) (zero-values (eqb v.number 1) f.field) oe size
      ∙ flat_cong F.elements laws.elements w.count _ (summed_to code v w.first (strips_of f))
      (λ k h. sum-none F.scaled.group (λ m. F.scaled.group.zero) ∙ sym (top-none F.scaled.group (part_of code v w.first k) (strips_of f))) in
      record {
        shape = code_sizes v;
        within = omega arith;
        sums = λ k h.
            ap (λ (l : List Pending). noise_in f.field (row_at l k).sum) re
            ∙ ap (λ (r : Pending). noise_in f.field r.sum)
            (get_or-take w.count (replicate 32 none) k none h ∙ get_or-replicate 32 k none none (omega (arith, few)))
            ∙ noise-zero f.field
            ∙ sym (top-none K.field.ring.group (row_of code v w.first k).coefficient f.terms);
        size = ap length re ∙ length-take-le w.count (replicate 32 none) (rw (length-replicate {A = Pending} 32 none) few);
        outputs = o;
        whole = summed-size (strips_of f) o;
      }

  -- ---- strip i − 1, whose terms stand in the rows

  module _ {i : ℕ} {before : List Pending} {out : List ℕ} (d : Down code v w i before out) where
    pub batch-below : 0 < i → i - 1 < v.layout.terms
    batch-below h = omega (arith, d.within)

    module _ (some : 0 < i) {rows : List Pending} (t : HasTerms code v.layout w.first (i - 1) (length before) before rows) where
      abbrev size : ℕ
      size = strip_of v.layout

      top : i * size ≡ (i - 1) * size + size
      top = level_less i size (λ e. omega arith)

      last : i * size ≤ strips_of f
      last = mul-le-mul_right size d.within

      one_up : {A : Type 0} (g : ℕ → A) → g i ≡ g (suc (i - 1))
      one_up g = ap g {x = i} {y = suc (i - 1)} (omega arith)

      row_here : {k : ℕ} → k < w.count → k < length before
      row_here h = omega (arith, d.size, h)

      pub rows_size : length rows ≡ w.count
      rows_size = t.size ∙ d.size

      sum_is : (k : ℕ) → k < w.count
          → noise_in f.field (row_at rows k).sum ≡ from_top K.field.ring.group (row_of code v w.first k).coefficient f.terms (suc (i - 1))
      sum_is k h =
          ap (noise_in f.field) (t.sums k) ∙ d.sums k h ∙ one_up (from_top K.field.ring.group (row_of code v w.first k).coefficient f.terms)

      entry_is : (k j : ℕ) → k < w.count → (i - 1) * size ≤ j → j < i * size
          → entry_in f.field (row_at rows k) j ≡ entry (row_of code v w.first k) j
      unfolding entry_in
      entry_is k j h low high =
          let G = K.field.ring.group in
          let row = row_of code v w.first k in
          ap₂ (λ (x : G.Of) (y : ℕ). G.add x (choose (leb j y) (noise_in f.field (row_at rows k).coefficient) G.zero))
          (sum_is k h) (t.places k (row_here h))
          ∙ ap (λ (z : G.Of). G.add (from_top G row.coefficient f.terms (suc (i - 1))) (choose (leb j (row.place (i - 1))) z G.zero))
          (t.coefficients k (row_here h))
          ∙ sym (strip-entry (kind_laws f.field).field.ring.group (2 ^ f.depth) f.terms row (reads k) (i - 1) j (batch-below some) low
          (rw (← one_up (λ n. n * size)) high))

      strip-summed : (n : ℕ) → n ≤ size
          → strip_added v.number f.field rows (values_of v.number v.source.now f) (i * size) n out
          ≡ flat F.elements w.count (summed_to code v w.first (i * size - n))
      unfolding strip_added place_added added part_of
      strip-summed zero h =
          d.outputs ∙ ap (λ (j : ℕ). flat F.elements w.count (summed_to code v w.first j)) {x = i * size} {y = i * size - 0} (omega arith)
      strip-summed (suc n) h =
          let j = i * size - suc n in
          let values = values_of v.number v.source.now f in
          let earlier = strip-summed n (omega arith) in
          ap (λ (m : ℕ). flat F.elements m
          (λ k. F.scaled.group.add (at F.elements (strip_added v.number f.field rows values (i * size) n out) k)
          (F.scaled.scale (entry_in f.field (row_at rows k) j) (values j)))) rows_size
          ∙ flat_cong F.elements laws.elements w.count _ (summed_to code v w.first j)
          (λ k l.
          ap₂ (λ (x : Value F) (c : NoiseValue F). F.scaled.group.add x (F.scaled.scale c (values j)))
          (ap (λ (o : List ℕ). at F.elements o k) earlier
          ∙ at_flat F.elements laws.elements w.count (summed_to code v w.first (i * size - n)) k l
          ∙ ap (λ (m : ℕ). summed_to code v w.first m k) {x = i * size - n} {y = suc j} (omega (arith, top)))
          (entry_is k j l (omega (arith, top)) (omega (arith, top)))
          ∙ place k j (omega (arith, last, top)))
        where
          place : (k j : ℕ) → j < strips_of f
              → F.scaled.group.add (summed_to code v w.first (suc j) k)
              (F.scaled.scale (entry (row_of code v w.first k) j) (values_of v.number v.source.now f j))
              ≡ summed_to code v w.first j k
          place k j l = sym (top_more F.scaled.group (part_of code v w.first k) (strips_of f) j l)

      pub batch_more : {next : List ℕ}
          → next ≡ strip_added v.number v.layout.field rows (values_of v.number v.source.now v.layout)
          ((i - 1 + 1) * strip_of v.layout) (strip_of v.layout) out
          → {after : List Pending} → SumsMore v.layout.field (length rows) rows after → Down code v w (i - 1) after next
      batch_more {next} q {after} a =
          let o : next ≡ flat F.elements w.count (summed_to code v w.first ((i - 1) * size)) =
          q ∙ ap (λ (n : ℕ). strip_added v.number f.field rows (values_of v.number v.source.now f) (n * size) size out)
          {x = i - 1 + 1} {y = i} (omega arith)
          ∙ strip-summed size (omega arith)
          ∙ ap (λ (j : ℕ). flat F.elements w.count (summed_to code v w.first j)) {x = i * size - size} {y = (i - 1) * size} (omega (arith, top)) in
          record {
            shape = d.shape;
            within = omega (arith, d.within);
            sums = λ k h.
                ap (λ (r : Pending). noise_in f.field r.sum) (a.carried k (omega (arith, rows_size, h)))
                ∙ noise-sum_is f.field (row_at rows k).sum (row_at rows k).coefficient
                ∙ ap₂ K.field.ring.group.add (sum_is k h) (t.coefficients k (row_here h))
                ∙ sym (top_more K.field.ring.group (row_of code v w.first k).coefficient f.terms (i - 1) (batch-below some));
            size = a.size ∙ rows_size;
            outputs = o;
            whole = summed-size ((i - 1) * size) o;
          }

    -- all strips
    pub batch-all : i ≤ 0 → out ≡ flat (value_field v).elements w.count
        (λ k. output_of v.number v.source.now code v.layout (w.first + k))
    unfolding output_of part_of
    batch-all h =
        d.outputs
        ∙ flat_cong F.elements laws.elements w.count _ _
        (λ k l. ap (λ (n : ℕ). summed_to code v w.first (n * strip_of f) k) {x = i} {y = 0} (omega arith)
        ∙ ap (λ (j : ℕ). summed_to code v w.first j k) (zero-mul (strip_of f))
        ∙ strips_times (kind_laws f.field).field.ring.group (2 ^ f.depth) f.terms (row_of code v w.first k) (reads k)
        F.scaled laws.scaled (strips_within (2 ^ f.depth) f.terms d.shape.full) (values_of v.number v.source.now f))

-- ---- a strip's places

module _ (v : Vector) (i : ℕ) (below : i < v.layout.terms) {size : ℕ} (e : size ≡ strip_of v.layout) where
  pub strip-top : i * size + size ≤ 2 ^ v.layout.depth
  strip-top =
      let f = v.layout in
      let sizes = v.walking.standing.sizes in
      rw e (omega (arith, strip-end (2 ^ f.depth) f.terms sizes.full i below, strips_within (2 ^ f.depth) f.terms sizes.full))

  pub strip-most : i * size + size ≤ 65536
  strip-most = omega (arith, strip-top, pow_mono {i = v.layout.depth} {j = 16} v.walking.standing.sizes.depth)

-- ---- the words of a value

module _ (vector field : ℕ) where
  pub noise-width : vector ≡ 1 → 1 ≡ (field_for vector field).elements.width
  noise-width e = sym (ap (λ (t : Bool). (field_by t field).elements.width) (eq-eqb vector 1 e) ∙ (kind_laws field).noise-width)

  pub element-width : (vector ≡ 1 → ⊥) → {n : ℕ} → n ≡ element_words field → n ≡ (field_for vector field).elements.width
  element-width h e = e ∙ sym (ap (λ (t : Bool). (field_by t field).elements.width) (ne_eqb vector 1 h))

-- ---- a window, one batch a turn

-- output k of a batch
abbrev batch_output : List (List (List ℕ)) → (b : Vector) → (first k : ℕ) → Value (value_field b)
batch_output code b first k = output_of b.number b.source.now code b.layout (first + k)

-- the window's first `done` outputs are written, or all of them
pub record Windowed (code : List (List (List ℕ))) (b : Vector) (w : Window) (before : List ℕ) (done : ℕ) (v : List ℕ) : Type 0 where
  pub room : w.count * (value_field b).elements.width ≤ length before
  pub words : v ≡ over (value_field b).elements (min done w.count) (batch_output code b w.first) before
  pub size : length v ≡ length before

module _ (code : List (List (List ℕ))) (b : Vector) (w : Window) (before : List ℕ) where
  coding : CodingLaws (value_field b).elements
  coding = (vector_laws (eqb b.number 1) b.layout.field).elements

  abbrev out_at : ℕ → Value (value_field b)
  out_at = batch_output code b w.first

  pub windowed_none : w.count * (value_field b).elements.width ≤ length before → Windowed code b w before 0 before
  windowed_none room =
      record {
        room = room;
        words =
            front-none (value_field b).elements out_at before
            ∙ ap (λ (n : ℕ). over (value_field b).elements n out_at before) {x = 0} {y = min 0 w.count} (omega arith);
        size = refl;
      }

  module _ {done : ℕ} {v : List ℕ} (d : Windowed code b w before done v) (more : done < w.count)
      {width : ℕ} (we : width ≡ (value_field b).elements.width) (count : ℕ) (part : count ≡ min (w.count - done) 32) where
    few : done + count ≤ w.count
    few = omega arith

    words_here : v ≡ over (value_field b).elements done out_at before
    words_here = d.words ∙ ap (λ (n : ℕ). over (value_field b).elements n out_at before) {x = min done w.count} {y = done} (omega arith)

    all_words : (done + count) * width ≡ done * width + count * width
    all_words = add-mul done count width

    pub part_room : done * width + count * width ≤ length v
    part_room =
        let m : (done + count) * width ≤ w.count * width = mul-le-mul_right width few in
        let r : w.count * width ≤ length before = rw we d.room in
        omega (arith, d.size, all_words)

    pub windowed_more : {ys : List ℕ}
        → ys ≡ flat (value_field b).elements count (λ k. output_of b.number b.source.now code b.layout (w.first + done + k))
        → Windowed code b w before (done + 32) (put_mid (done * width) (done * width + count * width - done * width) v ys)
    unfolding over
    windowed_more {ys} e =
        let W = value_field b in
        let n : done * width + count * width - done * width ≡ count * width = omega arith in
        let y : ys ≡ flat W.elements count (λ k. out_at (done + k)) =
        e ∙ flat_cong W.elements coding count _ _
        (λ k h. ap (output_of b.number b.source.now code b.layout) {x = w.first + done + k} {y = w.first + (done + k)} (omega arith)) in
        let layout : take (done * width) v ≡ flat W.elements done out_at =
        rw we (ap (take (done * W.elements.width)) words_here ∙ take-over W.elements coding done out_at before) in
        let past : drop (count * width) (drop (done * width) v) ≡ drop ((done + count) * width) before =
        drop-drop (count * width) (done * width) v ∙ ap (λ (i : ℕ). drop i v) (sym all_words)
        ∙ rw we (ap (drop ((done + count) * W.elements.width)) words_here ∙ after-over) in
        let words : put_mid (done * width) (done * width + count * width - done * width) v ys ≡ over W.elements (done + count) out_at before =
        rw n (ap₂ (λ (x z : List ℕ). x ++ z) layout (ap₂ (λ (x z : List ℕ). x ++ z) y past)
        ∙ written) in
        record {
          room = d.room;
          words = words ∙ ap (λ (n : ℕ). over W.elements n out_at before) {x = done + count} {y = min (done + 32) w.count} (omega arith);
          size = ap length words ∙ length_over W.elements coding (done + count) out_at before
              (let m : (done + count) * W.elements.width ≤ w.count * W.elements.width = mul-le-mul_right W.elements.width few in
              omega (arith, d.room));
        }
      where
        after-over : drop ((done + count) * (value_field b).elements.width)
            (over (value_field b).elements done out_at before)
            ≡ drop ((done + count) * (value_field b).elements.width) before
        after-over =
            let W = value_field b in
            rw (add-mul done count W.elements.width) (drop-over-add W.elements coding done out_at before (count * W.elements.width))

        written : flat (value_field b).elements done out_at
            ++ (flat (value_field b).elements count (λ k. out_at (done + k)) ++ drop ((done + count) * width) before)
            ≡ over (value_field b).elements (done + count) out_at before
        written =
            let W = value_field b in
            sym (append_assoc (flat W.elements done out_at) (flat W.elements count (λ k. out_at (done + k))) (drop ((done + count) * width) before))
            ∙ ap₂ (λ (x : List ℕ) (n : ℕ). x ++ drop ((done + count) * n) before) (sym (flat-add W.elements coding done count out_at)) we

  pub windowed_all : {done : ℕ} {v : List ℕ} → Windowed code b w before done v → w.count ≤ done
      → v ≡ over (value_field b).elements w.count out_at before
  windowed_all {done} {v} d h =
      d.words ∙ ap (λ (n : ℕ). over (value_field b).elements n out_at before) {x = min done w.count} {y = w.count} (omega arith)
