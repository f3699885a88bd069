-- A fill by halves: how long both parts of the buffer are, and what stands in it when both are back. The laws are stated as the functions
-- need them: n elements are two halves of h, the middle is half the buffer's length.
use mathlib.Core.Path.{◌≡◌, refl, ap, ap₂, sym, ◌∙◌}
use mathlib.Core.Logic.{◌≢◌}
use mathlib.Core.List.{List, ◌++◌}
use Prim.Native.Nat.{ℕ, zero, suc, ◌+◌, ◌*◌, ◌/◌, ◌<◌}
use native.Mathlib.Nat.{add-zero, one-mul}
use native.Mathlib.Omega.{arith}
use lib.ListN.{length, take, drop}
use Rattle.algebra.specs.Field.{Field, FieldLaws, Value}
use Rattle.algebra.specs.Coding.{at, over}
use Rattle.algebra.specs.Inner.Put.{put}
use Rattle.algebra.proofs.Coding.{over_none, over-one, over-whole, at_over_past}
use Rattle.field.specs.declared.block.Block.{Block}
use Rattle.prime.specs.declared.prime.Prime.{Prime}
use Rattle.field.specs.Binary.{binary, block_add, block_leaf}
use Rattle.prime.specs.Prime.{primes, prime_reduce, prime_add}
use Rattle.field.specs.Kind.{prime_leaf, element_words}
use Rattle.field.proofs.BinaryField.{binary_laws}
use Rattle.prime.proofs.PrimeField.{prime_laws}
use Rattle.field.proofs.KindOf.{kind_1, kind_2}
use Rattle.tree.specs.Added.{added}
use Rattle.tree.specs.Inner.Nodes.{node_of}
use Rattle.tree_sums.specs.Inner.Ranges.{first_or_second, leaf_added, element_added, children_added}
use Rattle.tree.proofs.Nodes.{IsBlock, leaf-block, leaf-prime}
use Rattle.tree.proofs.Added.{added_cong, added_parts}

-- ---- lengths

-- each half of a buffer of two halves of h elements
module _ (m n h w : ℕ) (e : m ≡ n * w) (f : n ≡ h + h) where
  middle : m / 2 ≡ h * w
  middle = omega (arith, e ∙ ap (λ k. k * w) f)

  pub front_length : {k : ℕ} → k ≡ m / 2 → k ≡ h * w
  front_length q = q ∙ middle

  pub back_length : {k : ℕ} → k + m / 2 ≡ m → k ≡ h * w
  back_length q = omega (arith, q, e ∙ ap (λ k. k * w) f)

-- ---- the results

module _ (F : Field) (laws : FieldLaws F) where
  -- a function's words from those of its two halves
  pub filled : (n h : ℕ) (f low high : ℕ → Value F) (xs : List ℕ) {ys zs : List ℕ}
      → length xs ≡ n * F.elements.width → n ≡ h + h
      → ((j : ℕ) → j < h → f j ≡ low j) → ((j : ℕ) → j < h → f (h + j) ≡ high j)
      → ys ≡ added F h low (take (length xs / 2) xs)
      → zs ≡ added F h high (drop (length xs / 2) xs)
      → ys ++ zs ≡ added F n f xs
  filled n h f low high xs e half hl hh ey ez =
      let m : length xs / 2 ≡ h * F.elements.width = middle (length xs) n h F.elements.width e half in
      ap₂ (λ a b. a ++ b)
      (ey
      ∙ ap (λ k. added F h low (take k xs)) m
      ∙ sym (added_cong F laws h f low (take (h * F.elements.width) xs) hl))
      (ez
      ∙ ap (λ k. added F h high (drop k xs)) m
      ∙ sym (added_cong F laws h (λ j. f (h + j)) high (drop (h * F.elements.width) xs) hh))
      ∙ sym (added_parts F laws h h f xs (e ∙ ap (λ k. k * F.elements.width) half))
      ∙ ap (λ k. added F k f xs) (sym half)

  -- the same elements, as many
  pub added-same : (n m : ℕ) (f g : ℕ → Value F) (xs : List ℕ) {ys : List ℕ} → ys ≡ added F m g xs → n ≡ m
      → ((j : ℕ) → j < m → g j ≡ f j) → ys ≡ added F n f xs
  added-same n m f g xs ey e same = ey ∙ added_cong F laws m g f xs same ∙ ap (λ k. added F k f xs) (sym e)

-- ---- elements in place

module _ (F : Field) (laws : FieldLaws F) (l : List ℕ) where
  -- one element, and one more
  added_front : (f : ℕ → Value F) {l₁ : List ℕ} → l₁ ≡ put F.elements l 0 (F.scaled.group.add (at F.elements l 0) (f 0))
      → l₁ ≡ over F.elements 1 (λ j. F.scaled.group.add (at F.elements l j) (f j)) l
  added_front f e =
      e
      ∙ ap (λ k. put F.elements k 0 (g 0)) (sym (over_none F.elements laws.elements g l))
      ∙ sym (over-one F.elements laws.elements 0 g l)
    where
      g : ℕ → Value F
      g j = F.scaled.group.add (at F.elements l j) (f j)

  pub added_one : (x : Value F) {l₁ : List ℕ} → length l ≡ F.elements.width
      → l₁ ≡ put F.elements l 0 (F.scaled.group.add (at F.elements l 0) x) → l₁ ≡ added F 1 (λ j. x) l
  unfolding added
  added_one x e e₁ =
      added_front (λ j. x) e₁
      ∙ over-whole F.elements laws.elements 1 (λ j. F.scaled.group.add (at F.elements l j) x) l (e ∙ sym (one-mul F.elements.width))

  pub added_two : (f : ℕ → Value F) {l₁ l₂ : List ℕ} → length l ≡ 2 * F.elements.width
      → l₁ ≡ put F.elements l 0 (F.scaled.group.add (at F.elements l 0) (f 0))
      → l₂ ≡ put F.elements l₁ 1 (F.scaled.group.add (at F.elements l₁ 1) (f 1)) → l₂ ≡ added F 2 f l
  unfolding added
  added_two f {l₁} {l₂} e e₁ e₂ =
      let first = added_front f e₁ in
      e₂
      ∙ ap (λ k. put F.elements k 1 (F.scaled.group.add (at F.elements k 1) (f 1))) first
      ∙ ap (λ x. put F.elements (over F.elements 1 g l) 1 (F.scaled.group.add x (f 1)))
      (at_over_past F.elements laws.elements 1 g l 1 (omega arith) (omega (arith, e)))
      ∙ sym (over-one F.elements laws.elements 1 g l)
      ∙ over-whole F.elements laws.elements 2 g l e
    where
      g : ℕ → Value F
      g j = F.scaled.group.add (at F.elements l j) (f j)

-- two leaves, in either field
module _ (field : ℕ) (xs : List ℕ) where
  module _ (child : ℕ → List (List ℕ) → List (List ℕ)) (c : ℕ) (s : List (List ℕ)) {a b : Block} (ha : IsBlock a) (hb : IsBlock b)
      (ea : node_of a ≡ child c s) (eb : node_of b ≡ child (c + 1) s) where
    here : child c s ≡ child (c + 0) s
    here = ap (λ n. child n s) (sym (add-zero c))

    pub pair_1 : {l₁ l₂ : List ℕ} → field ≡ 1 → length xs ≡ 2 * element_words field
        → l₁ ≡ put binary.elements xs 0 (block_add (at binary.elements xs 0) a)
        → l₂ ≡ put binary.elements l₁ 1 (block_add (at binary.elements l₁ 1) b) → l₂ ≡ children_added field child c 2 s xs
    unfolding children_added
    pair_1 e n e₁ e₂ =
        rw (kind_1 field e)
        (added_two binary binary_laws xs (first_or_second a b) (rw (kind_1 field e, element_words) at n) e₁ e₂
        ∙ added_cong binary binary_laws 2 (first_or_second a b) (λ j. block_leaf (child (c + j) s)) xs same)
      where
        same : (j : ℕ) → j < 2 → first_or_second a b j ≡ block_leaf (child (c + j) s)
        same zero h = leaf-block ha (ea ∙ here)
        same (suc zero) h = leaf-block hb eb
        same (suc (suc j)) h = absurd (omega arith)

    -- the elements of both leaves in field 2
    abbrev reduced : ℕ → Prime
    reduced = first_or_second (prime_reduce a.low) (prime_reduce b.low)

    pub pair_2 : {p q : Prime} {l₁ l₂ : List ℕ} → field ≢ 1 → length xs ≡ 2 * element_words field → p ≡ prime_reduce a.low
        → l₁ ≡ put primes.elements xs 0 (prime_add (at primes.elements xs 0) p) → q ≡ prime_reduce b.low
        → l₂ ≡ put primes.elements l₁ 1 (prime_add (at primes.elements l₁ 1) q) → l₂ ≡ children_added field child c 2 s xs
    unfolding children_added
    pair_2 {l₁ = l₁} e n ep e₁ eq e₂ =
        rw (kind_2 field e)
        (added_two primes prime_laws xs reduced (rw (kind_2 field e, element_words) at n)
        (e₁ ∙ ap (λ x. put primes.elements xs 0 (prime_add (at primes.elements xs 0) x)) ep)
        (e₂ ∙ ap (λ x. put primes.elements l₁ 1 (prime_add (at primes.elements l₁ 1) x)) eq)
        ∙ added_cong primes prime_laws 2 reduced (λ j. prime_leaf (child (c + j) s)) xs same)
      where
        same : (j : ℕ) → j < 2 → reduced j ≡ prime_leaf (child (c + j) s)
        same zero h = leaf-prime ha (ea ∙ here)
        same (suc zero) h = leaf-prime hb eb
        same (suc (suc j)) h = absurd (omega arith)

-- ---- one element in either field

module _ (field : ℕ) (xs : List ℕ) (n : length xs ≡ element_words field) where
  module _ (s : Block) (h : IsBlock s) where
    pub leaf_1 : {ys : List ℕ} → field ≡ 1 → ys ≡ put binary.elements xs 0 (block_add (at binary.elements xs 0) s) → ys ≡ leaf_added field (node_of s) xs
    unfolding leaf_added
    leaf_1 e ey =
        rw (kind_1 field e)
        (added_one binary binary_laws xs s (rw (kind_1 field e, element_words) at n) ey ∙ ap (λ x. added binary 1 (λ j. x) xs) (leaf-block h refl))

    pub leaf_2 : {b : Prime} {ys : List ℕ} → field ≢ 1 → b ≡ prime_reduce s.low
        → ys ≡ put primes.elements xs 0 (prime_add (at primes.elements xs 0) b) → ys ≡ leaf_added field (node_of s) xs
    unfolding leaf_added
    leaf_2 {b} e eb ey =
        rw (kind_2 field e)
        (added_one primes prime_laws xs b (rw (kind_2 field e, element_words) at n) ey ∙ ap (λ x. added primes 1 (λ j. x) xs) (eb ∙ leaf-prime h refl))

  module _ (words : List ℕ) where
    pub element_1 : {b : Block} {ys : List ℕ} → field ≡ 1 → b ≡ at binary.elements words 0
        → ys ≡ put binary.elements xs 0 (block_add (at binary.elements xs 0) b) → ys ≡ element_added field words xs
    unfolding element_added
    element_1 {b} e eb ey =
        rw (kind_1 field e) (added_one binary binary_laws xs b (rw (kind_1 field e, element_words) at n) ey ∙ ap (λ x. added binary 1 (λ j. x) xs) eb)

    pub element_2 : {b : Prime} {ys : List ℕ} → field ≢ 1 → b ≡ at primes.elements words 0
        → ys ≡ put primes.elements xs 0 (prime_add (at primes.elements xs 0) b) → ys ≡ element_added field words xs
    unfolding element_added
    element_2 {b} e eb ey =
        rw (kind_2 field e) (added_one primes prime_laws xs b (rw (kind_2 field e, element_words) at n) ey ∙ ap (λ x. added primes 1 (λ j. x) xs) eb)
