-- A dealing's input and its tests (document 01, 'Sizes', 'Dealing', 'Numbers of the calls'), with a label (document 02, 8) and
-- branch bits (document 02, 10).
use Rattle.std.specs.Prelude.{Bool, ◌&&◌, List, [], ◌∷◌, ℕ, ◌*◌, ◌^◌, ltb, length, get_or}
use Rattle.answer.specs.Numbers.{bad_field, bad_size, bad_length, bad_position, bad_noise, bad_delta}
use Rattle.answer.specs.Tests.{Test, ◌is◌, holds, ◌or◌}
use Rattle.algebra.specs.Every.{every}
use Rattle.algebra.specs.Expansion.{rising}
use Rattle.field.specs.Bytes.{word_at}
use Rattle.field.specs.ByNumber.{is_field, is_noise, element_of, rest_zero, is_scalar}
use Rattle.record.specs.Admitted.{is_size, is_branch, most_trees, most_terms, most_outputs}

-- field, d, g (document 02, 10), t, ℓ, n, t roots of 16 bytes, t positions, t noise values, Δ, the code key, the label
-- (document 02, 8)
pub record Input : Type 0 where
  pub field : ℕ
  pub depth : ℕ
  pub branch_bits : ℕ
  pub trees : ℕ
  pub terms : ℕ
  pub outputs : ℕ
  pub roots : List ℕ
  pub positions : List ℕ
  pub values : List ℕ
  pub delta : List ℕ
  pub code_key : List ℕ
  pub label : List ℕ

-- the input of these parts
abbrev pub input_with : ℕ → ℕ → ℕ → ℕ → ℕ → ℕ → List ℕ → List ℕ → List ℕ → List ℕ → List ℕ → List ℕ → Input
input_with field depth branch_bits trees terms outputs roots positions values delta code_key label =
    record {
      field = field;
      depth = depth;
      branch_bits = branch_bits;
      trees = trees;
      terms = terms;
      outputs = outputs;
      roots = roots;
      positions = positions;
      values = values;
      delta = delta;
      code_key = code_key;
      label = label;
    }

-- the position of tree i
abbrev pub position : Input → ℕ → ℕ
position I i = get_or I.positions i 0

-- the positions of t trees are strictly rising and below N
unfoldable pub positions_admitted : ℕ → ℕ → List ℕ → Bool
positions_admitted N t positions = rising t (λ i. get_or positions i 0) && every t (λ i. ltb (get_or positions i 0) N)

-- the noise values of t trees are admitted
abbrev pub every_noise : ℕ → ℕ → List ℕ → Bool
every_noise field t values = every t (λ i. is_noise field (get_or values i 0))

-- Δ as its words; field 2 uses the first eight bytes
abbrev pub words_of : ℕ → List ℕ → List ℕ
words_of field delta = element_of field (word_at delta 0) (word_at delta 8)

-- Δ of an input as its words
abbrev pub delta_words : Input → List ℕ
delta_words I = words_of I.field I.delta

-- Δ is an element and not zero; in field 2 its last eight bytes are 00
unfoldable pub delta_admitted : ℕ → List ℕ → Bool
delta_admitted field delta = is_scalar field (words_of field delta) && rest_zero field (word_at delta 8)

-- ---- the tests of an input, in the order 1, 2, 3, 4, 5, 6

-- the field; d is 1 to 16, g 1, 2 or 3 and a divisor of d (document 02, 10), t 1 to the smaller of 64 and N = 2^d, ℓ 1 to the
-- smaller of 32 and N (document 02, 7), n 1 to N / 2
abbrev pub size_tests : Input → List Test
size_tests I =
    holds (is_field I.field) or bad_field
    ∷ holds (is_size 16 I.depth) or bad_size
    ∷ holds (is_branch I.depth I.branch_bits) or bad_size
    ∷ holds (is_size (most_trees I.depth) I.trees) or bad_size
    ∷ holds (is_size (most_terms I.depth) I.terms) or bad_size
    ∷ holds (is_size (most_outputs I.depth) I.outputs) or bad_size
    ∷ []

-- every input slice has exactly the length that the sizes call for
abbrev pub length_tests : Input → List Test
length_tests I =
    length I.roots is 16 * I.trees or bad_length
    ∷ length I.positions is I.trees or bad_length
    ∷ length I.values is I.trees or bad_length
    ∷ length I.delta is 16 or bad_length
    ∷ length I.code_key is 16 or bad_length
    ∷ length I.label is 16 or bad_length
    ∷ []

-- all positions, then all noise values, then Δ
abbrev pub content_tests : Input → List Test
content_tests I =
    holds (positions_admitted (2 ^ I.depth) I.trees I.positions) or bad_position
    ∷ holds (every_noise I.field I.trees I.values) or bad_noise
    ∷ holds (delta_admitted I.field I.delta) or bad_delta
    ∷ []
