-- Trees added in place: after i trees a buffer holds, at each place, the sum of their leaves there.
use mathlib.Core.Path.{◌≡◌, sym, ap, ◌∙◌}
use mathlib.Core.List.{List, ◌∷◌, ◌++◌}
use Prim.Native.Nat.{ℕ, zero, suc, ◌+◌, ◌*◌, ◌<◌}
use native.Mathlib.Nat.{suc-mul, zero-mul, zero-add, suc-add}
use native.Mathlib.Numerals.{add-one}
use lib.ListN.{length, replicate}
use Rattle.algebra.specs.Coding.{flat}
use Rattle.algebra.specs.Field.{Field, FieldLaws, Value}
use Rattle.algebra.specs.Sum.{sum}
use Rattle.algebra.proofs.Coding.{flat-none, flat-suc, flat_cong, length-flat, at_flat}
use Rattle.algebra.proofs.Sum.{sum-none, sum-suc}
use Rattle.tree.specs.Added.{added}

-- words of zero before others
replicate-add : (n m a : ℕ) → replicate (n + m) a ≡ replicate n a ++ replicate m a
replicate-add zero m a = rw zero-add
replicate-add (suc n) m a = rw suc-add (ap (λ (l : List ℕ). a ∷ l) (replicate-add n m a))

-- the words of N elements, at each place the sum of the first i trees' leaves
unfoldable pub trees_sum : (F : Field) → ℕ → (ℕ → ℕ → Value F) → ℕ → List ℕ
trees_sum F N leaf i = flat F.elements N (λ j. sum F.scaled.group i (λ k. leaf k j))

module _ (F : Field) (L : FieldLaws F) (N : ℕ) where
  -- words of zero are elements of zero
  zeros_flat : F.elements.words F.scaled.group.zero ≡ replicate F.elements.width 0
      → (n : ℕ) → replicate (n * F.elements.width) 0 ≡ flat F.elements n (λ j. F.scaled.group.zero)
  zeros_flat e zero = ap (λ (k : ℕ). replicate k 0) (zero-mul F.elements.width) ∙ sym (flat-none F.elements L.elements (λ j. F.scaled.group.zero))
  zeros_flat e (suc n) =
      let width = F.elements.width in
      cc (suc-mul n width, replicate-add (n * width) width 0, zeros_flat e n, flat-suc F.elements L.elements n (λ j. F.scaled.group.zero))

  module _ (leaf : ℕ → ℕ → Value F) where
    pub length-trees : (i : ℕ) → length (trees_sum F N leaf i) ≡ N * F.elements.width
    unfolding trees_sum
    length-trees i = length-flat F.elements L.elements N (λ j. sum F.scaled.group i (λ k. leaf k j))

    pub trees-none : F.elements.words F.scaled.group.zero ≡ replicate F.elements.width 0
        → {n : ℕ} {w : List ℕ} → w ≡ replicate n 0 → n ≡ N * F.elements.width → w ≡ trees_sum F N leaf 0
    unfolding trees_sum
    trees-none e z h =
        z ∙ ap (λ (k : ℕ). replicate k 0) h ∙ zeros_flat e N
        ∙ flat_cong F.elements L.elements N _ _ (λ j b. sym (sum-none F.scaled.group (λ k. leaf k j)))

    pub trees_more : (i : ℕ) {w next : List ℕ} (f : ℕ → Value F) → w ≡ trees_sum F N leaf i → next ≡ added F N f w
        → ((j : ℕ) → j < N → f j ≡ leaf i j) → next ≡ trees_sum F N leaf (i + 1)
    unfolding trees_sum added
    trees_more i {w} {next} f e q same =
        q
        ∙ flat_cong F.elements L.elements N _ _ λ j b.
        let here = at_flat F.elements L.elements N (λ j. sum F.scaled.group i (λ k. leaf k j)) j b in
        cc (add-one i, sum-suc F.scaled.group i (λ k. leaf k j), same j b)
