-- Inner: no promise cites this file. The three vectors by a number, μ 1, v0 2 and w0 3, of a record by its layout: how their values
-- are added, scaled and written.
use Rattle.std.specs.Prelude.{Bool, true, false, List, [], ◌∷◌, ℕ, eqb}
use Rattle.algebra.specs.Choice.{choose}
use Rattle.algebra.specs.Coding.{Coding}
use Rattle.algebra.specs.Field.{Field, Value}
use Rattle.algebra.specs.Group.{Scaled, itself}
use Rattle.algebra.specs.Sum.{sum}
use Rattle.field.specs.Kind.{kind_of}
use Rattle.field.specs.declared.element.Element.{Element}
use Rattle.ends.specs.Noise.Vectors as noise
use Rattle.ends.specs.Inner.Noise as noise_ready
use Rattle.ends.specs.Scalar.Vectors as scalar
use Rattle.ends.specs.Inner.Scalar as scalar_ready
use Rattle.record.specs.declared.Layout.{Layout}
use Rattle.record.specs.Content.{tree_in}

-- the values of μ are noise values, those of v0 and w0 elements
abbrev pub scaled_by : Bool → (field : ℕ) → Scaled (kind_of field).field.ring
scaled_by true field = itself (kind_of field).field.ring
scaled_by false field = (kind_of field).field.scaled

abbrev pub words_by : (b : Bool) (field : ℕ) → Coding (scaled_by b field).group.Of
words_by true field = (kind_of field).field.noise_values
words_by false field = (kind_of field).field.elements

abbrev pub field_by : Bool → ℕ → Field
field_by b field =
    record {
      ring = (kind_of field).field.ring;
      scaled = scaled_by b field;
      noise_values = (kind_of field).field.noise_values;
      elements = words_by b field;
    }

abbrev pub field_for : ℕ → ℕ → Field
field_for vector field = field_by (eqb vector 1) field

-- a value of two words
abbrev pub element_value : (vector field : ℕ) → Element → Value (field_for vector field)
element_value vector field e = (field_for vector field).elements.read (e.low ∷ e.high ∷ []) 0

-- the leaf j of tree i at either end, at the noise end the correction standing in for the punctured leaf
unfoldable pub leaf_of : (vector : ℕ) (s : List ℕ) (f : Layout) → ℕ → ℕ → Value (kind_of f.field).field
leaf_of vector s f i j =
    choose (eqb vector 3) (scalar.leaf (scalar_ready.content_of s f) i j)
    (choose (eqb (tree_in (noise_ready.trees_at s f) i).position j) (noise.correction (noise_ready.content_of s f) i) (noise.leaf (noise_ready.content_of s f) i j))

-- the sum of the leaves j of the first n trees
unfoldable pub leaves_of : (vector : ℕ) (s : List ℕ) (f : Layout) → ℕ → ℕ → Value (kind_of f.field).field
leaves_of vector s f n j = sum (kind_of f.field).field.scaled.group n (λ i. leaf_of vector s f i j)

-- a vector
abbrev pub values_by : (b c : Bool) (s : List ℕ) (f : Layout) → ℕ → Value (field_by b f.field)
values_by true c s f = noise.mu (noise_ready.content_of s f)
values_by false true s f = scalar.w0 (scalar_ready.content_of s f)
values_by false false s f = noise.v0 (noise_ready.content_of s f)

unfoldable pub values_of : (vector : ℕ) (s : List ℕ) (f : Layout) → ℕ → Value (field_for vector f.field)
values_of vector s f = values_by (eqb vector 1) (eqb vector 3) s f
