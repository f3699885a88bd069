-- What a record may hold (document 01, 'Sizes', 'Trees', 'Dealing'): the tests of its sizes, and the content that passes all tests.
use Rattle.std.specs.Prelude.{ℕ, ◌/◌, ◌%◌, ◌^◌, ◌<◌, min, Bool, true, ◌&&◌, List, [], ◌∷◌, ◌≡◌, leb, ltb, eqb, length}
use Rattle.algebra.specs.Expansion.{Rising}
use Rattle.field.specs.ByNumber.{is_field, is_noise, is_element, is_scalar}
use Rattle.field.specs.Kind.{element_words}
use Rattle.number.specs.Reading.{Bytes}
use Rattle.record.specs.Content.{Head, NoiseTree, NoisePart, ScalarPart, sibling_count, tree_in}

-- Sizes: 1 to the largest
abbrev pub is_size : ℕ → ℕ → Bool
is_size top n = leb 1 n && leb n top

-- Sizes: g is 1, 2 or 3, and d is a multiple of it (document 02, 10)
abbrev pub is_branch : ℕ → ℕ → Bool
is_branch depth branch_bits = is_size 3 branch_bits && eqb (depth % branch_bits) 0

-- Sizes: t is 1 to the smaller of 64 and N = 2^d
abbrev pub most_trees : ℕ → ℕ
most_trees depth = min 64 (2 ^ depth)

-- ℓ is 1 to the smaller of 32 and N (document 02, 7)
abbrev pub most_terms : ℕ → ℕ
most_terms depth = min 32 (2 ^ depth)

-- Sizes: n is 1 to N / 2
abbrev pub most_outputs : ℕ → ℕ
most_outputs depth = 2 ^ depth / 2

-- every member of a list is such
unfoldable pub Each : {A : Type 0} → (A → Type 0) → List A → Type 0
Each P [] = Unit {0}
Each P (x ∷ xs) = P x × Each P xs

-- a block is 16 bytes
abbrev pub SixteenBytes : List ℕ → Type 0
SixteenBytes b = (length b ≡ 16) × Bytes b

-- a word is 64 bits
abbrev pub SixtyFourBits : ℕ → Type 0
SixtyFourBits w = w < 18446744073709551616

-- Sizes: field, d, g, t, ℓ, n, code key and label of an admitted head
pub record AdmittedHead (h : Head) : Type 0 where
  pub field : is_field h.field ≡ true
  pub depth : is_size 16 h.depth ≡ true
  pub branch : is_branch h.depth h.branch_bits ≡ true
  pub trees : is_size (most_trees h.depth) h.trees ≡ true
  pub terms : is_size (most_terms h.depth) h.terms ≡ true
  pub outputs : is_size (most_outputs h.depth) h.outputs ≡ true
  pub code_key : SixteenBytes h.code_key
  pub label : SixteenBytes h.label

-- a tree of a record of this field and depth, with so many blocks beside its path
pub record AdmittedTree (field depth beside : ℕ) (t : NoiseTree) : Type 0 where
  pub below : ltb t.position (2 ^ depth) ≡ true
  pub value : is_noise field t.value ≡ true
  pub words : (length t.correction ≡ element_words field) × Each SixtyFourBits t.correction
  pub correction : is_element field t.correction ≡ true
  pub siblings : (length t.siblings ≡ beside) × Each SixteenBytes t.siblings

-- the noise record: t trees, whose positions rise strictly
pub record AdmittedNoise (p : NoisePart) : Type 0 where
  pub head : AdmittedHead p.head
  pub count : length p.trees ≡ p.head.trees
  pub rising : Rising p.head.trees (λ i. (tree_in p.trees i).position)
  pub trees : Each (AdmittedTree p.head.field p.head.depth (sibling_count p.head.depth p.head.branch_bits)) p.trees

-- the scalar record: Δ and t roots
pub record AdmittedScalar (p : ScalarPart) : Type 0 where
  pub head : AdmittedHead p.head
  pub words : (length p.delta ≡ element_words p.head.field) × Each SixtyFourBits p.delta
  pub delta : is_scalar p.head.field p.delta ≡ true
  pub roots : (length p.roots ≡ p.head.trees) × Each SixteenBytes p.roots
