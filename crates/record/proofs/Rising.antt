-- The trees of an admitted noise record, one after the other: their positions rise from 0.
use mathlib.Core.Path.{◌≡◌, subst, sym}
use mathlib.Core.List.{List, [], ◌∷◌}
use Prim.Native.Nat.{ℕ, zero, suc, ◌+◌, ◌≤◌, ◌<◌}
use native.Mathlib.Omega.{arith}
use lib.ListN.{length}
use Rattle.algebra.specs.Expansion.{Rising}
use Rattle.algebra.proofs.Rising.{Rises, rises, rising_is}
use Rattle.record.specs.Admitted.{Each, AdmittedTree, AdmittedNoise}
use Rattle.record.specs.Content.{NoiseTree, NoisePart, tree_in, sibling_count}
use Rattle.record.specs.Inner.Rising.{TreesFrom}

abbrev positions : List NoiseTree → ℕ → ℕ
positions ts i = (tree_in ts i).position

pub trees-each : (field depth beside base : ℕ) (ts : List NoiseTree) → TreesFrom field depth beside base ts → Each (AdmittedTree field depth beside) ts
unfolding TreesFrom Each
trees-each field depth beside base [] ok = tt
trees-each field depth beside base (t ∷ ts) ok = (ok.0.tree, trees-each field depth beside (t.position + 1) ts ok.1)

least : (field depth beside base : ℕ) (ts : List NoiseTree) → TreesFrom field depth beside base ts → 0 < length ts → base ≤ positions ts 0
unfolding TreesFrom
least field depth beside base [] ok h = absurd (omega arith)
least field depth beside base (t ∷ ts) ok h = ok.0.rising

trees_rise : (field depth beside base : ℕ) (ts : List NoiseTree) → TreesFrom field depth beside base ts → Rises (length ts) (positions ts)
unfolding TreesFrom
trees_rise field depth beside base [] ok i h = absurd (omega arith)
trees_rise field depth beside base (t ∷ ts) ok zero h =
    let next = least field depth beside (t.position + 1) ts ok.1 (omega arith) in
    omega arith
trees_rise field depth beside base (t ∷ ts) ok (suc i) h = trees_rise field depth beside (t.position + 1) ts ok.1 i (omega arith)

pub trees-rising : (field depth beside base : ℕ) {n : ℕ} (ts : List NoiseTree) → length ts ≡ n → TreesFrom field depth beside base ts → Rising n (positions ts)
trees-rising field depth beside base {n} ts count ok =
    subst (λ (m : ℕ). Rising m (positions ts)) count (rising_is (length ts) (positions ts) (trees_rise field depth beside base ts ok))

each_from : (field depth beside base : ℕ) (ts : List NoiseTree) → Each (AdmittedTree field depth beside) ts → Rises (length ts) (positions ts)
    → (0 < length ts → base ≤ positions ts 0) → TreesFrom field depth beside base ts
unfolding TreesFrom Each
each_from field depth beside base [] ok r first = tt
each_from field depth beside base (t ∷ ts) ok r first = (
  record { rising = first (omega arith); tree = ok.0 },
  each_from field depth beside (t.position + 1) ts ok.1 (λ i h. r (suc i) (omega arith))
      (λ h. let next : t.position < positions ts 0 = r 0 (omega arith) in omega arith),
)

-- the trees of an admitted noise record
pub trees-from : (p : NoisePart) → AdmittedNoise p → TreesFrom p.head.field p.head.depth (sibling_count p.head.depth p.head.branch_bits) 0 p.trees
trees-from p ok =
    each_from p.head.field p.head.depth (sibling_count p.head.depth p.head.branch_bits) 0 p.trees ok.trees
    (rises (length p.trees) (positions p.trees) (subst (λ (m : ℕ). Rising m (positions p.trees)) (sym ok.count) ok.rising))
    (λ h. omega arith)
