-- Trees are document 01's trees by bits for g = 1.
use mathlib.Core.Path.{◌≡◌, refl, ap}
use mathlib.Core.List.{◌∷◌}
use Prim.Native.Nat.{ℕ, zero, suc}
use native.Mathlib.Nat.{div-one}
use Rattle.tree.specs.Tree.{path, reach, leaf_at, listed, siblings}
use Rattle.tree.specs.Bits.{bits, leaf_by_bits, sibling_by_bits, siblings_by_bits, TwoChildren}
use Rattle.tree.proofs.Laws.{bit, siblings-none, siblings-two}
use Rattle.tree.proofs.Listed.{listed-front}

same-path : (d j : ℕ) → path 2 d j ≡ bits d j
unfolding path bits
same-path zero j = refl
same-path (suc d) j = ap (λ l. bit d j ∷ l) (same-path d j)

module _ {A : Type 0} (child : ℕ → A → A) where
  same-leaf : (d : ℕ) (root : A) (j : ℕ) → leaf_at 2 child d root j ≡ leaf_by_bits child d root j
  unfolding leaf_at leaf_by_bits
  same-leaf d root j = ap (reach child root) (same-path d j)

  same-siblings : (d : ℕ) (root : A) (s : ℕ) → siblings 2 child d root s ≡ siblings_by_bits child d root s
  unfolding siblings_by_bits sibling_by_bits bits reach listed
  same-siblings zero root s = siblings-none 2 child root s
  same-siblings (suc d) root s = cc (siblings-two child d root s, same-siblings d (child (bit d s) root) s, listed-front d (sibling_by_bits child (suc d) root s))

pub two-children : TwoChildren
two-children =
    record {
      paths = λ g e d j. rw (e, div-one) (same-path d j);
      leaves = λ g e child d root j. rw (e, div-one) (same-leaf child d root j);
      beside = λ g e child d root s. rw (e, div-one) (same-siblings child d root s);
    }
