-- Every leaf but one follows from the siblings beside its path, and a row reads different places.
use Prim.Native.Nat.{ℕ, zero, suc, ◌-◌, ◌/◌, ◌%◌, ◌^◌, ◌<◌}
use mathlib.Core.Path.{◌≡◌, refl, sym, ap, subst, ◌∙◌}
use mathlib.Core.List.{List, [], ◌++◌}
use lib.Dec.{eqb}
use lib.ListN.{drop}
use Rattle.code.proofs.Strips.{full-rows}
use Rattle.tree.specs.Tree as tree
use Rattle.tree.proofs.Laws.{from-siblings}
use Rattle.tree.specs.Columns.{columns_at}
use Rattle.window.specs.Head.{kind, field_of, row}
use Rattle.page.specs.Document01 as page
use Rattle.page.proofs.Basics.{if_both}
use Rattle.page.proofs.Rows.{head_of, place_is}
use Rattle.page_claims.specs.Statements as says

leaf_is : (k m : ℕ) (s : List ℕ) (j : ℕ) → page.leaf k m s j ≡ tree.reach page.child s (tree.path k m j)
unfolding page.leaf tree.reach tree.path
leaf_is k zero s j = refl
leaf_is k (suc m) s j = leaf_is k m _ j

siblings_are : (k m : ℕ) (s : List ℕ) (j : ℕ) → page.siblings_of k m s j ≡ tree.beside k page.child s (tree.path k m j)
unfolding page.siblings_of tree.beside tree.path tree.others page.list tree.listed
siblings_are k zero s j = refl
siblings_are k (suc m) s j = ap (λ (l : List (List ℕ)). tree.others k page.child s (j / k ^ m % k) ++ l) (siblings_are k m _ j)

beside_is : (k m : ℕ) (xs : List (List ℕ)) (q j : ℕ)
    → page.leaf_beside k m xs q j ≡ tree.follow k page.child [] xs (tree.path k m q) (tree.path k m j)
unfolding page.leaf_beside tree.follow tree.path page.when◌then◌else◌
beside_is k zero xs q j = refl
beside_is k (suc m) xs q j =
    if_both (λ x y. x ≡ y) (eqb (q / k ^ m % k) (j / k ^ m % k)) _ _ _ _ (beside_is k m (drop (k - 1) xs) q j) (leaf_is k m _ j)

pub trees-and-rows : says.TreesAndRows
unfolding tree.from_siblings tree.siblings tree.leaf_at
trees-and-rows =
    record {
      leaves = λ k m s q j hq hj ne.
          beside_is k m _ q j
          ∙ ap (λ (l : List (List ℕ)). tree.follow k page.child [] l (tree.path k m q) (tree.path k m j)) (siblings_are k m s q)
          ∙ from-siblings page.child [] k m s q j hq hj ne
          ∙ sym (leaf_is k m s j);
      places = λ h some full x i below.
          let R = full-rows (field_of (head_of h)).ring (kind (head_of h)).coefficient (columns_at h.code_key 0) (2 ^ h.d) h.ℓ x some full in
          let same : (j : ℕ) → page.place h x j ≡ (row (head_of h) x).place j = place_is (head_of h) x in (
            subst (λ (y : ℕ). y < 2 ^ h.d) (sym (same i)) (R.within i below),
            λ j more e. R.different i j below more (sym (same i) ∙ e ∙ same j),
          );
    }
