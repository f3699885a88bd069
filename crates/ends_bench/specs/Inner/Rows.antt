-- Inner: no promise cites this file. Rows of the code and their outputs, and the rows of a batch at a strip.
use Rattle.std.specs.Prelude.{◌≡◌, List, ℕ, zero, suc, ◌+◌, ◌-◌, ◌/◌, ◌^◌, ◌≤◌, ◌<◌, leb, length, get_or}
use Rattle.algebra.specs.Choice.{choose}
use Rattle.algebra.specs.Field.{NoiseValue, Value}
use Rattle.algebra.specs.Row.{Row, entry, row_times}
use Rattle.code.specs.Row.{row_of_blocks}
use Rattle.code.specs.Inner.Rows.{term_block_by}
use Rattle.field.specs.Kind.{kind_of}
use Rattle.field.specs.Inner.Elements.{noise_in, noise_sum}
use Rattle.record.specs.declared.Layout.{Layout}
use Rattle.tree.specs.Added.{added}
use Rattle.ends_bench_leaves.specs.Inner.Vectors.{field_for, values_of}
use Rattle.ends_bench.specs.declared.entries.Pending.{Pending}

-- row x of the code under round keys, and its output on a vector: its row of the code matrix times the vector
unfoldable pub row_in : List (List (List ℕ)) → (f : Layout) → ℕ → Row (kind_of f.field).field.ring
row_in code f x = row_of_blocks (kind_of f.field).field.ring (kind_of f.field).coefficient (2 ^ f.depth) f.terms (term_block_by code x)

unfoldable pub output_of : (vector : ℕ) (s : List ℕ) (code : List (List (List ℕ))) (f : Layout) → ℕ → Value (field_for vector f.field)
output_of vector s code f x = row_times (field_for vector f.field).scaled (2 ^ f.depth) (entry (row_in code f x)) (values_of vector s f)

-- a row's entry of the code matrix at place j of the strip
unfoldable pub entry_in : (field : ℕ) → Pending → ℕ → NoiseValue (kind_of field).field
entry_in field r j =
    (kind_of field).field.ring.group.add (noise_in field r.sum)
    (choose (leb j r.place) (noise_in field r.coefficient) (kind_of field).field.ring.group.zero)

-- row k of a batch
abbrev pub row_at : List Pending → ℕ → Pending
row_at rows k = get_or rows k (record { place = 0; coefficient = 0; sum = 0 })

-- a shape's sizes
pub record IsCode (f : Layout) : Type 0 where
  pub depth : f.depth ≤ 16
  pub some : 1 ≤ f.terms
  pub full : f.terms ≤ 2 ^ f.depth
  pub few : f.terms ≤ 32

-- the terms of strip i stand in the first n rows, and the sums are as they were
pub record HasTerms (code : List (List (List ℕ))) (f : Layout) (first i n : ℕ) (before rows : List Pending) : Type 0 where
  pub places : (k : ℕ) → k < n → (row_at rows k).place ≡ (row_in code f (first + k)).place i
  pub coefficients : (k : ℕ) → k < n → noise_in f.field (row_at rows k).coefficient ≡ (row_in code f (first + k)).coefficient i
  pub sums : (k : ℕ) → (row_at rows k).sum ≡ (row_at before k).sum
  pub size : length rows ≡ length before

-- a row after its coefficient is added to its sum
abbrev pub carried_on : ℕ → Pending → Pending
carried_on field r = record { place = r.place; coefficient = r.coefficient; sum = noise_sum field r.sum r.coefficient }

-- the first n rows after that, and the others as they were
pub record SumsMore (field n : ℕ) (before rows : List Pending) : Type 0 where
  pub carried : (k : ℕ) → k < n → row_at rows k ≡ carried_on field (row_at before k)
  pub others : (k : ℕ) → n ≤ k → row_at rows k ≡ row_at before k
  pub size : length rows ≡ length before

-- the outputs after place j is added: to each the row's entry there × the value there
unfoldable pub place_added : (vector field : ℕ) → List Pending → ℕ → Value (field_for vector field) → List ℕ → List ℕ
place_added vector field rows j value out =
    added (field_for vector field) (length rows) (λ k. (field_for vector field).scaled.scale (entry_in field (row_at rows k) j) value) out

-- after the n places below j are, from the highest down
unfoldable pub strip_added : (vector field : ℕ) → List Pending → (ℕ → Value (field_for vector field)) → ℕ → ℕ → List ℕ → List ℕ
strip_added vector field rows value j zero out = out
strip_added vector field rows value j (suc n) out =
    place_added vector field rows (j - suc n) (value (j - suc n)) (strip_added vector field rows value j n out)

-- the places of a strip
abbrev pub strip_of : Layout → ℕ
strip_of f = 2 ^ f.depth / f.terms
