-- The page's rows and their outputs are the library's.
use Prim.Native.Nat.{ℕ, ◌+◌, ◌*◌, ◌/◌, ◌%◌, ◌^◌}
use mathlib.Core.Path.{◌≡◌, ap, ap₂, ◌∙◌, fun_ext}
use mathlib.Core.Bool.{Bool}
use mathlib.Core.List.{List, [], ◌∷◌}
use lib.ListN.{get_or}
use lib.Pow.{shr-shr}
use Rattle.algebra.specs.Coding.{Coding}
use Rattle.algebra.specs.Every.{every}
use Rattle.algebra.specs.Group.{Scaled}
use Rattle.algebra.specs.Row.{output}
use Rattle.aes128.specs.Cipher.{aes}
use Rattle.code.specs.Row.{term_block, term_place, place_of, row_of_blocks}
use Rattle.field.specs.Bytes.{columns_of, le_bytes, low_of, high_of}
use Rattle.record.specs.Content.{Head}
use Rattle.tree.specs.Columns.{columns_at}
use Rattle.window.specs.Head.{field_of, kind, row}
use Rattle.window.specs.Usable.{window_usable}
use Rattle.page.specs.Document01 as page
use Rattle.page.proofs.Cipher.{state, cipher_is}
use Rattle.page.proofs.Trees.{word_low, word-high}
use Rattle.page.proofs.Fields.{SpaceIs, kind_is, sum_is}

abbrev pub head : Head → page.Head
head h =
    record {
      field = h.field;
      d = h.depth;
      g = h.branch_bits;
      t = h.trees;
      ℓ = h.terms;
      n = h.outputs;
      code_key = h.code_key;
      label = h.label;
    }

-- and back
abbrev pub head_of : page.Head → Head
head_of h =
    record {
      field = h.field;
      depth = h.d;
      branch_bits = h.g;
      trees = h.t;
      terms = h.ℓ;
      outputs = h.n;
      code_key = h.code_key;
      label = h.label;
    }

quarters : (x : ℕ) → x / 256 / 256 / 256 / 256 ≡ x / 4294967296
quarters x = ap (λ (v : ℕ). v / 256 / 256) (shr-shr x 8 8) ∙ ap (λ (v : ℕ). v / 256) (shr-shr x 16 8) ∙ shr-shr x 24 8

-- the block of two words
pub block_is : (l : List ℕ) → state (page.block l) ≡ columns_of (get_or l 0 0) (get_or l 1 0)
unfolding page.block page.to_bytes columns_at columns_of le_bytes
block_is l =
    ap₂ (λ (x y : ℕ). le_bytes 4 (get_or l 0 0) ∷ le_bytes 4 x ∷ le_bytes 4 (get_or l 1 0) ∷ le_bytes 4 y ∷ []) (quarters (get_or l 0 0)) (quarters (get_or l 1 0))

module _ (h : Head) (x : ℕ) where
  pub term_is : (i : ℕ) → state (page.term (head h) x i) ≡ term_block (columns_at h.code_key 0) x i
  unfolding page.term term_block
  term_is i = cipher_is h.code_key _ ∙ ap (aes (columns_at h.code_key 0)) (block_is (x ∷ i ∷ []))

  pub place_is : (i : ℕ) → page.place (head h) x i ≡ (row h x).place i
  unfolding page.place row_of_blocks term_place place_of
  place_is i =
      ap (λ (b : ℕ). i * (2 ^ h.depth / h.terms) + b % (2 ^ h.depth / h.terms)) (word_low (page.term (head h) x i) ∙ ap low_of (term_is i))

  pub coefficient_is : (i : ℕ)
      → (page.F (head h)).coefficient (page.word (page.term (head h) x i) 8) ≡ (kind_is h.field).num ((row h x).coefficient i)
  unfolding row_of_blocks
  coefficient_is i =
      (kind_is h.field).coefficient (page.word (page.term (head h) x i) 8)
      ∙ ap (λ (w : ℕ). (kind_is h.field).num ((kind h).coefficient w)) (word-high (page.term (head h) x i) ∙ ap high_of (term_is i))

  pub output_is : {S : page.Space} {G : Scaled (field_of h).ring} {C : Coding G.group.Of} → SpaceIs S G C (kind_is h.field).num
      → (f : ℕ → List ℕ) (g : ℕ → G.group.Of) → ((i : ℕ) → f i ≡ C.words (g i)) → page.output S (head h) f x ≡ C.words (output G (row h x) g)
  unfolding page.output output row_of_blocks
  output_is {S} {G} {C} same f g e =
      sum_is same h.terms _ _
      (λ i. ap₂ S.multiple (coefficient_is i) (e (page.place (head h) x i) ∙ ap (λ (j : ℕ). C.words (g j)) (place_is i))
      ∙ same.multiple ((row h x).coefficient i) (g ((row h x).place i)))

-- the outputs of a window
pub outputs_is : (h : Head) (first : ℕ) {S : page.Space} {G : Scaled (field_of h).ring} {C : Coding G.group.Of}
    → SpaceIs S G C (kind_is h.field).num → (f : ℕ → List ℕ) (g : ℕ → G.group.Of) → ((i : ℕ) → f i ≡ C.words (g i))
    → (k : ℕ) → page.output S (head h) f (first + k) ≡ C.words (output G (row h (first + k)) g)
outputs_is h first same f g e k = output_is h (first + k) same f g e

-- the places that a window's rows read
pub used_is : (h : Head) (first c : ℕ) (ok ok' : ℕ → Bool) → ((j : ℕ) → ok j ≡ ok' j)
    → page.every_used (head h) first c ok ≡ window_usable ok' h first c
unfolding page.every_used window_usable page.every every
used_is h first c ok ok' e =
    ap (λ (f : ℕ → ℕ → Bool). page.every c (λ k. page.every h.terms (λ i. f k i)))
    (fun_ext λ k. fun_ext λ i. ap ok (place_is h (first + k) i) ∙ e ((row h (first + k)).place i))
