-- What an accepted record's numbers say: its trees stand from the body on, and none of their tests fails again.
use mathlib.Core.Path.{◌≡◌, refl, sym, ap, ap₂, ◌∙◌}
use mathlib.Core.Bool.{Bool, true, false}
use mathlib.Core.List.{List, [], ◌∷◌, map}
use Prim.Native.Nat.{ℕ, zero, suc, ◌+◌, ◌-◌}
use native.Mathlib.Omega.{arith}
use lib.Dec.{eqb}
use Rattle.algebra.specs.Choice.{choose}
use Rattle.field.specs.ByNumber.{element_of}
use Rattle.field.specs.Kind.{kind_of, binary_kind, prime_kind}
use Rattle.number.specs.Reading.{Whole}
use Rattle.record.specs.Content.{NoiseTree, NoisePart}
use Rattle.record.specs.Reading.{items, block_at, read_head, read_trees, read_noise}
use Rattle.record.specs.Answer.{head_of, head_if_whole}
use Rattle.record.specs.declared.Layout.{Layout}
use Rattle.record.proofs.Callers.{noise-content}
use Rattle.tree.specs.Columns.{columns_at, siblings_at}
use Rattle.tree.proofs.Blocks.{columns-part}
use Rattle.window.proofs.Sizes.{head-sizes}
use Rattle.ends.specs.Inner.Noise.{tree_siblings, trees_at, content_of, Ready}

-- the trees that were read
pub trees-at : (s : List ℕ) (f : Layout) {ts : List NoiseTree} {end : ℕ}
    → read_trees f.field f.depth (tree_siblings f) f.trees 0 s f.body ≡ Whole (ts, end) → trees_at s f ≡ ts
unfolding trees_at
trees-at s f e = rw e

part_is : {p q : NoisePart} → p.head ≡ q.head → p.trees ≡ q.trees → p ≡ q
part_is h t = λ i. record { head = h i; trees = t i }

-- what an accepted record is ready for
pub ready : (s : List ℕ) {f : Layout} → Whole (head_of s f, f.body) ≡ head_if_whole (read_noise s) (read_head 1 s) → Ready s f
ready s {f} e =
    let o = noise-content s (sym e) in
    let t = trees-at s f o.2.trees in
    record {
      read = o.2.whole ∙ ap Whole (part_is {p = o.0} {q = content_of s f} o.2.same (sym t));
      sizes = head-sizes 1 s o.2.head;
      end = o.1;
      trees =
          ap (λ (n : ℕ). read_trees f.field f.depth (tree_siblings f) n 0 s f.body) {x = f.trees - 0} {y = f.trees} (omega arith)
          ∙ o.2.trees ∙ ap (λ (l : List NoiseTree). Whole (l, o.1)) (sym t);
    }

-- the correction of a first and a second word
pub correction-words : (field low high : ℕ)
    → (kind_of field).field.elements.read (low ∷ high ∷ []) 0 ≡ (kind_of field).field.elements.read (element_of field low high) 0
correction-words field low high = of (eqb field 1)
  where
    of : (b : Bool) → (choose b binary_kind prime_kind).field.elements.read (low ∷ high ∷ []) 0
        ≡ (choose b binary_kind prime_kind).field.elements.read (choose b (low ∷ high ∷ []) (low ∷ [])) 0
    of true = refl
    of false = refl

-- the siblings' columns
pub siblings-columns : (s : List ℕ) (place n : ℕ) → map (λ b. columns_at b 0) (items block_at 16 s place n) ≡ siblings_at s place n
unfolding items siblings_at
siblings-columns s place zero = refl
siblings-columns s place (suc n) = ap₂ (λ (b : List (List ℕ)) (bs : List (List (List ℕ))). b ∷ bs) (columns-part s place) (siblings-columns s (place + 16) n)
