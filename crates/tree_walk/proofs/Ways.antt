-- Ways down to a leaf: a level, the last one, and the levels above a sibling.
use mathlib.Core.Logic.{◌≢◌}
use mathlib.Core.Path.{◌≡◌, sym, ap, ap₂, ◌∙◌}
use mathlib.Core.Bool.{Bool}
use mathlib.Core.List.{List, []}
use Prim.Native.Nat.{ℕ, zero, suc, ◌+◌, ◌*◌, ◌-◌, ◌/◌, ◌%◌, ◌^◌, ◌≤◌, ◌<◌}
use native.Mathlib.Nat.{mod-lt, mod-one, mul-le-mul_right, pow-zero}
use native.Mathlib.Omega.{arith}
use lib.Dec.{eqb}
use lib.ListN.{get_or, drop}
use lib.Pow.{pow_mono, pow_pos}
use borrow.Author.Tests.{eq-eqb, ne_eqb}
use Rattle.algebra.specs.Choice.{choose}
use Rattle.tree.specs.Child.{child, child_by}
use Rattle.tree.specs.Inner.Branches.{IsBranch}
use Rattle.tree.specs.Inner.Keys.{keys_for}
use Rattle.tree.specs.Columns.{siblings_at}
use Rattle.tree.specs.Tree.{rank, leaf_at, from_siblings}
use Rattle.tree.proofs.Laws.{leaf-none, leaf-suc, from_suc, leaf-same, rank-low, rank-high}
use Rattle.tree.proofs.ChildLaws.{child-by}
use Rattle.tree.proofs.Paths.{digit, mod_suc-digit}
use Rattle.tree.specs.KeySchedules.{OfChildKeys}
use Rattle.tree.proofs.Blocks.{sibling_at, siblings_past}
use Rattle.tree.proofs.PowerLaws.{power_of_power, level_less}
use Rattle.tree_walk.specs.Inner.Ways.{IsWay, IsBeside, FromSibling}
use Rattle.tree_walk.specs.declared.down.Start.{Start}

-- ---- one level

pub way-less : {g left : ℕ} → IsWay g left → (levels : ℕ) → levels ≤ left → IsWay g levels
way-less {g} w levels h =
    let m = mul-le-mul_right g h in
    record { branch = w.branch; short = omega (arith, w.short) }

module _ (g left j : ℕ) (b : IsBranch g) {count : ℕ} (e : count ≡ 2 ^ g) where
  few : 2 ^ g ≤ 8
  few = pow_mono {i = g} {j = 3} b.eight

  pub digit_is : (j / 2 ^ (left * g)) % count ≡ (j / (2 ^ g) ^ left) % 2 ^ g
  digit_is = ap₂ (λ a b. j / a % b) (sym (power_of_power g left)) e

  pub digit-named : (n : ℕ) → n % count < 2 ^ g
  digit-named n = rw (← e) (mod-lt n (rw e (pow_pos g)))

  pub digit-eight : (n : ℕ) → n % count < 8
  digit-eight n = omega (arith, digit-named n, few)

module _ (keys : List (List ℕ)) (k j : ℕ) where
  -- a level down
  pub level_down : (stop levels : ℕ) → stop < levels → (c : ℕ) → c ≡ (j / k ^ (levels - 1)) % k → (s : List (List ℕ)) {next x : List (List ℕ)}
      → next ≡ child_by (keys_for keys) c s → leaf_at k (child_by (keys_for keys)) levels s j ≡ x → leaf_at k (child_by (keys_for keys)) (levels - 1) next j ≡ x
  level_down stop levels h c e s n q =
      ap (λ (x : List (List ℕ)). leaf_at k (child_by (keys_for keys)) (levels - 1) x j) (n ∙ ap (λ (b : ℕ). child_by (keys_for keys) b s) e)
      ∙ sym (leaf-suc k (child_by (keys_for keys)) (levels - 1) s j)
      ∙ ap (λ (n : ℕ). leaf_at k (child_by (keys_for keys)) n s j) {x = suc (levels - 1)} {y = levels} (omega arith)
      ∙ q

  -- no level is left
  pub level_last : (stop levels : ℕ) → stop ≤ levels → levels ≤ stop → (x : List (List ℕ)) {a : List (List ℕ)}
      → leaf_at k (child_by (keys_for keys)) levels x j ≡ a → leaf_at k (child_by (keys_for keys)) stop x j ≡ a
  level_last stop levels h i x p = ap (λ (n : ℕ). leaf_at k (child_by (keys_for keys)) n x j) {x = stop} {y = levels} (omega arith) ∙ p

  pub leaf_last : (levels : ℕ) → levels ≤ 0 → (x : List (List ℕ)) {a : List (List ℕ)} → leaf_at k (child_by (keys_for keys)) levels x j ≡ a → x ≡ a
  leaf_last levels h x p = sym (leaf-none k (child_by (keys_for keys)) x j) ∙ level_last 0 levels (omega arith) h x p

-- a walk under the round keys of the child keys gives the leaf
pub walked-leaf : (g : ℕ) (keys : List (List ℕ)) → OfChildKeys (2 ^ g) (keys_for keys) → (left : ℕ) (s : List (List ℕ)) (j : ℕ)
    → leaf_at (2 ^ g) (child_by (keys_for keys)) left s j ≡ leaf_at (2 ^ g) child left s j
walked-leaf g keys own left s j = leaf-same (2 ^ g) (pow_pos g) (child_by (keys_for keys)) child (child-by (2 ^ g) (keys_for keys) own) left s j

-- ---- the sibling that a leaf follows from

apart_some : (g levels position j : ℕ) → position % (2 ^ g) ^ levels ≢ j % (2 ^ g) ^ levels → 1 ≤ levels
apart_some g zero position j h = absurd (h (one position ∙ sym (one j)))
  where
    one : (n : ℕ) → n % (2 ^ g) ^ 0 ≡ 0
    one n = ap (λ (m : ℕ). n % m) (pow-zero (2 ^ g)) ∙ mod-one n
apart_some g (suc n) position j h = omega arith

pub is_beside : {g levels position j at : ℕ} → IsWay g levels → position % (2 ^ g) ^ levels ≢ j % (2 ^ g) ^ levels → at + 16 * (levels * (2 ^ g - 1)) < 2 ^ 64
    → IsBeside g levels position j at
is_beside {g} {levels} {position} {j} way h fits = record { way = way; some = apart_some g levels position j h; apart = h; fits = fits }

module _ (g levels position j at : ℕ) (b : IsBeside g levels position j at) where
  abbrev k : ℕ
  k = 2 ^ g

  one_more : levels ≡ suc (levels - 1)
  one_more = omega (arith, b.some)

  -- one level's siblings and those of the levels below
  more : levels * (k - 1) ≡ (levels - 1) * (k - 1) + (k - 1)
  more = level_less levels (k - 1) (λ e. omega (arith, b.some))

  module _ {own c : ℕ} (p : own ≡ digit (2 ^ g) (levels - 1) position) (q : c ≡ digit (2 ^ g) (levels - 1) j) where
    abbrev level_of : List (List (List ℕ)) → Bool → ℕ → List (List ℕ)
    level_of xs t i = choose t (from_siblings k child [] (drop (k - 1) xs) (levels - 1) position j) (leaf_at k child (levels - 1) (get_or xs i []) j)

    by_digits : (xs : List (List (List ℕ))) → from_siblings k child [] xs levels position j ≡ level_of xs (eqb own c) (rank own c)
    by_digits xs =
        ap (λ (n : ℕ). from_siblings k child [] xs n position j) one_more ∙ from_suc k child [] xs (levels - 1) position j
        ∙ ap₂ (λ (a b : ℕ). level_of xs (eqb a b) (rank a b)) (sym p) (sym q)

    -- a child beside the path's own, by its rank among the siblings
    other-start : (own ≡ c → ⊥) → (r : ℕ) → rank own c ≡ r → r < k - 1 → FromSibling g levels position j at (record { at = at + 16 * r; left = levels - 1 })
    other-start h r e few =
        record {
          leaf = λ s. sym (by_digits (siblings_at s at (levels * (k - 1))) ∙ ap₂ (level_of (siblings_at s at (levels * (k - 1)))) (ne_eqb own c h) e
              ∙ ap (λ (x : List (List ℕ)). leaf_at k child (levels - 1) x j) (sibling_at s (levels * (k - 1)) at r (omega (arith, more))));
          fewer = omega arith;
          room = omega (arith, more);
        }

    pub low-start : own < 2 ^ g → c < own → FromSibling g levels position j at (record { at = at + 16 * c; left = levels - 1 })
    low-start o h = other-start (λ e. omega arith) c (rank-low own c h) (omega arith)

    pub high-start : c < 2 ^ g → own < c → FromSibling g levels position j at (record { at = at + 16 * (c - 1); left = levels - 1 })
    high-start o h = other-start (λ e. omega arith) (c - 1) (rank-high own c h) (omega arith)

    -- the own child: a level further down
    module _ (low : own ≤ c) (high : c ≤ own) {count : ℕ} (ec : count ≡ 2 ^ g) where
      same-digit : own ≡ c
      same-digit = omega arith

      pub next_start : IsBeside g (levels - 1) position j (at + 16 * (count - 1))
      next_start =
          rw ec (is_beside
          (way-less b.way (levels - 1) (omega arith))
          (λ e. b.apart (by_digit position ∙ ap₂ (λ (x r : ℕ). x * k ^ (levels - 1) + r) (sym p ∙ same-digit ∙ q) e ∙ sym (by_digit j)))
          (omega (arith, b.fits, more)))
        where
          by_digit : (n : ℕ) → n % k ^ levels ≡ digit k (levels - 1) n * k ^ (levels - 1) + n % k ^ (levels - 1)
          by_digit n = ap (λ (m : ℕ). n % k ^ m) one_more ∙ mod_suc-digit k (pow_pos g) (levels - 1) n

      pub next-from : {r : Start} → FromSibling g (levels - 1) position j (at + 16 * (count - 1)) r → FromSibling g levels position j at r
      next-from {r} f =
          let f' : FromSibling g (levels - 1) position j (at + 16 * (k - 1)) r = rw ec at f in
          record {
            leaf = λ s.
                f'.leaf s
                ∙ sym (by_digits (siblings_at s at (levels * (k - 1)))
                ∙ ap (λ (t : Bool). level_of (siblings_at s at (levels * (k - 1))) t (rank own c)) (eq-eqb own c same-digit)
                ∙ ap (λ (x : List (List (List ℕ))). from_siblings k child [] x (levels - 1) position j)
                (ap (λ (i : ℕ). drop (k - 1) (siblings_at s at i)) {x = levels * (k - 1)} {y = k - 1 + (levels - 1) * (k - 1)} (omega (arith, more))
                ∙ siblings_past s (k - 1) ((levels - 1) * (k - 1)) at));
            fewer = omega (arith, f'.fewer);
            room = omega (arith, f'.room, more);
          }
