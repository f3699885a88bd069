-- The elements below the halves of a range, of a run of siblings and of a range that holds a path.
use mathlib.Core.Path.{◌≡◌, refl, ap, ap₂, sym, ◌∙◌}
use mathlib.Core.Logic.{◌≢◌}
use mathlib.Core.Bool.{Bool, true, false}
use mathlib.Core.List.{List, []}
use Prim.Native.Nat.{ℕ, suc, ◌+◌, ◌-◌, ◌*◌, ◌/◌, ◌%◌, ◌^◌, ◌≤◌, ◌<◌}
use native.Mathlib.Nat.{mod-eq_of_lt, mod-lt, div-eq_of_lt, div-lt_iff_lt-mul, div-add-mod', mul-add-div_right, mul-add-mod_self_right}
use native.Mathlib.Omega.{arith}
use lib.Dec.{eqb}
use lib.ListN.{drop}
use lib.Pow.{pow_pos}
use borrow.Author.Tests.{eq-eqb, ne_eqb, eqb-true, eqb-false}
use Rattle.algebra.specs.Choice.{choose}
use Rattle.tree.specs.Tree.{leaf_at, rank, from_siblings}
use Rattle.tree.specs.Columns.{columns_at, siblings_at}
use Rattle.tree.specs.Added.{leaf_element, punctured_element}
use Rattle.tree_sums.specs.Inner.Ranges.{child_count, below, size_of, of_child, IsRange, range_element}
use Rattle.tree_sums.specs.declared.range.Range.{Range}
use Rattle.tree_sums.proofs.Elements.{all-element}
use Rattle.tree_fill.specs.Inner.Ranges.{first_half, second_half, above, run_element, path_element}
use Rattle.tree_fill.specs.declared.range.Path.{Path}
use Rattle.tree.proofs.Paths.{power-some, digit, digit-first}
use Rattle.tree.proofs.Blocks.{sibling_at, siblings_past}
use Rattle.tree.proofs.Laws.{rank-low, rank-high, rank_below, from-within, from-beside}
use Rattle.tree.proofs.PowerLaws.{down, halved}
use Rattle.tree_fill.proofs.Ranges.{size_is}

-- ---- ranges

module _ {A E : Type 0} (element : A → E) (child : ℕ → A → A) where
  module _ (s : A) (ρ : Range) (h : ρ.levels ≢ 0) where
    -- the second half of the children
    pub back-element : (j : ℕ) → range_element element child ρ s (size_of (second_half ρ) + j) ≡ range_element element child (second_half ρ) s j
    unfolding range_element
    back-element j =
        ap (leaf_element element (child_count ρ) child ρ.levels s) (far ρ.from (2 ^ (ρ.bits - 1)) (below ρ) _ j (size_is (second_half ρ) h))
      where
        far : (c p b n j : ℕ) → n ≡ p * b → c * b + (n + j) ≡ (c + p) * b + j
        far c p b n j e = omega arith

-- ---- runs of siblings

some_below : (ρ : Range) → 0 < below ρ
some_below ρ = power-some (child_count ρ) (pow_pos ρ.branch_bits) (ρ.levels - 1)

module _ {E : Type 0} (element : List (List ℕ) → E) (child : ℕ → List (List ℕ) → List (List ℕ)) (bytes : List ℕ) (at : ℕ)
    (ρ : Range) (h : ρ.levels ≢ 0) where
  -- one sibling
  pub run-one : ρ.bits ≡ 0 → (j : ℕ) → j < size_of ρ
      → range_element element child (of_child ρ) (columns_at bytes (at + 16 * ρ.from)) j
      ≡ run_element element child ρ bytes at j
  unfolding run_element
  run-one e j l =
      let b : j < below ρ = omega (arith, size_is ρ h, ap (λ n. 2 ^ n * below ρ) e) in
      all-element element child (columns_at bytes (at + 16 * ρ.from)) ρ.branch_bits (ρ.levels - 1) j
      ∙ ap₂ (λ q r. leaf_element element (child_count ρ) child (ρ.levels - 1) (columns_at bytes (at + 16 * q)) r)
      (sym (ap (λ q. ρ.from + q) (div-eq_of_lt b) ∙ omega arith)) (sym (mod-eq_of_lt b))

  -- the second half
  pub run-back : (j : ℕ) → run_element element child ρ bytes at (size_of (second_half ρ) + j) ≡ run_element element child (second_half ρ) bytes at j
  unfolding run_element
  run-back j =
      ap (run_element element child ρ bytes at) (ap (λ n. n + j) (size_is (second_half ρ) h))
      ∙ ap₂ (λ q r. leaf_element element (child_count ρ) child (ρ.levels - 1) (columns_at bytes (at + 16 * q)) r)
      (ap (λ q. ρ.from + q) (mul-add-div_right (some_below ρ) (2 ^ (ρ.bits - 1)) j) ∙ more ρ.from (2 ^ (ρ.bits - 1)) (j / below ρ))
      (mul-add-mod_self_right (2 ^ (ρ.bits - 1)) (below ρ) j)
    where
      more : (c p q : ℕ) → c + (p + q) ≡ c + p + q
      more c p q = omega arith

-- ---- ranges that hold a path

eqb-add : (m s j : ℕ) → eqb (m + s) (m + j) ≡ eqb s j
eqb-add m s j = decide (eqb s j) refl
  where
    decide : (t : Bool) → eqb s j ≡ t → eqb (m + s) (m + j) ≡ t
    decide true e = eq-eqb (m + s) (m + j) (ap (λ k. m + k) (eqb-true s j e))
    decide false e = ne_eqb (m + s) (m + j) (λ f. eqb-false s j e (omega arith))

-- a number by its multiple of b and the rest
by_rest : (c b n : ℕ) → c * b + n ≡ (c + n / b) * b + n % b
by_rest c b n = omega (arith, div-add-mod' n b)

module _ {E : Type 0} (element : List (List ℕ) → E) (child : ℕ → List (List ℕ) → List (List ℕ)) (bytes : List ℕ) (correction : E)
    (at : ℕ) where
  abbrev Punctured : ℕ → ℕ → ℕ → ℕ → ℕ → E
  Punctured k place d s j = punctured_element element k child [] (siblings_at bytes place (d * (k - 1))) d s correction j

  module _ (k m : ℕ) (some : 0 < k) where
    more_siblings : (m n : ℕ) → suc m * n ≡ n + m * n
    more_siblings m n = omega arith

    -- below the child that holds the position
    within : (c s j : ℕ) → c < k → s < k ^ m → j < k ^ m
        → Punctured k at (suc m) (c * k ^ m + s) (c * k ^ m + j) ≡ Punctured k (at + 16 * (k - 1)) m s j
    unfolding punctured_element
    within c s j hc hs hj =
        ap₂ (λ t a. choose t correction (element a)) (eqb-add (c * k ^ m) s j)
        (from-within k child some [] (siblings_at bytes at (suc m * (k - 1))) m s j hs hj c hc
        ∙ ap (λ xs. from_siblings k child [] xs m s j)
        (ap (λ n. drop (k - 1) (siblings_at bytes at n)) (more_siblings m (k - 1)) ∙ siblings_past bytes (k - 1) (m * (k - 1)) at))

    -- below another child, b, from its sibling
    beside : (a b s j : ℕ) → a < k → b < k → a ≢ b → s < k ^ m → j < k ^ m
        → Punctured k at (suc m) (a * k ^ m + s) (b * k ^ m + j) ≡ leaf_element element k child m (columns_at bytes (at + 16 * rank a b)) j
    unfolding punctured_element leaf_element
    beside a b s j ha hb h hs hj =
        ap₂ (λ t x. choose t correction (element x)) (ne_eqb (a * k ^ m + s) (b * k ^ m + j) apart)
        (from-beside k child some [] (siblings_at bytes at (suc m * (k - 1))) m s j hs hj a b ha hb h
        ∙ ap (λ x. leaf_at k child m x j)
        (sibling_at bytes (suc m * (k - 1)) at (rank a b) (omega (arith, rank_below k a b ha hb h, more_siblings m (k - 1)))))
      where
        apart : a * k ^ m + s ≢ b * k ^ m + j
        apart e = h (sym (digit-first k some m a s ha hs) ∙ ap (digit k m) e ∙ digit-first k some m b j hb hj)

  module _ (ρ : Range) (ok : IsRange ρ) (h : ρ.levels ≢ 0) where
    abbrev At : ℕ → Path
    At p = record { range = ρ; position = p; at = at }

    -- half the children, and the leaves below them
    abbrev pairs : ℕ
    pairs = 2 ^ (ρ.bits - 1)

    abbrev half : ℕ
    half = pairs * below ρ

    -- below a child of a pair
    abbrev Below : ℕ → Path
    Below p =
        record {
          range = of_child ρ;
          position = p;
          at = at + 16 * (child_count ρ - 1);
        }

    far : (c p b n : ℕ) → c * b + (p * b + n) ≡ (c + p) * b + n
    far c p b n = omega arith

    -- the node's level apart
    first_level : (s j : ℕ) → Punctured (child_count ρ) at ρ.levels s j ≡ Punctured (child_count ρ) at (suc (ρ.levels - 1)) s j
    first_level s j = ap (λ n. Punctured (child_count ρ) at n s j) (down ρ.levels h)

    -- the leaf at the rest of j below child b, by sibling r, where the position lies below child a
    by_sibling : (a b s j r : ℕ) → a < child_count ρ → b < child_count ρ → a ≢ b → rank a b ≡ r
        → Punctured (child_count ρ) at ρ.levels (a * below ρ + s % below ρ) (b * below ρ + j % below ρ)
        ≡ leaf_element element (child_count ρ) child (ρ.levels - 1) (columns_at bytes (at + 16 * r)) (j % below ρ)
    by_sibling a b s j r ha hb apart er =
        first_level (a * below ρ + s % below ρ) (b * below ρ + j % below ρ)
        ∙ beside (child_count ρ) (ρ.levels - 1) (pow_pos ρ.branch_bits) a b (s % below ρ) (j % below ρ) ha hb apart
        (mod-lt s (some_below ρ)) (mod-lt j (some_below ρ))
        ∙ ap (λ i. leaf_element element (child_count ρ) child (ρ.levels - 1) (columns_at bytes (at + 16 * i)) (j % below ρ)) er

    -- a number past half the children
    past : (c p b n : ℕ) → c * b + (p * b + n) ≡ (c + p + n / b) * b + n % b
    past c p b n = omega (arith, div-add-mod' n b)

    within_half : (n : ℕ) → n < half → n / below ρ < pairs
    within_half n l = (div-lt_iff_lt-mul (some_below ρ)).1 l

    last : ρ.from + pairs + pairs ≤ child_count ρ
    last = omega (arith, ok.within, halved ρ.bits ok.two)

    module _ (s j : ℕ) (hs : s < half) (hj : j < half) where
      -- the position lies in the first half: the second half follows from the siblings above
      pub path-above : path_element element child (At s) bytes correction (half + j) ≡ run_element element child (above ρ) bytes at j
      unfolding path_element run_element
      path-above =
          let a : ℕ = ρ.from + s / below ρ in
          let b : ℕ = ρ.from + pairs + j / below ρ in
          let l : a < b = omega (arith, within_half s hs) in
          ap₂ (Punctured (child_count ρ) at ρ.levels) (by_rest ρ.from (below ρ) s) (past ρ.from pairs (below ρ) j)
          ∙ by_sibling a b s j (ρ.from + (pairs - 1) + j / below ρ) (omega (arith, last, within_half s hs)) (omega (arith, last, within_half j hj))
          (λ e. omega arith) (rank-high a b l ∙ omega (arith, pow_pos (ρ.bits - 1)))

      -- the position lies in the second half
      pub path-below : path_element element child (At (half + s)) bytes correction j ≡ run_element element child (first_half ρ) bytes at j
      unfolding path_element run_element
      path-below =
          let a : ℕ = ρ.from + pairs + s / below ρ in
          let b : ℕ = ρ.from + j / below ρ in
          let l : b < a = omega (arith, within_half j hj) in
          ap₂ (Punctured (child_count ρ) at ρ.levels) (past ρ.from pairs (below ρ) s) (by_rest ρ.from (below ρ) j)
          ∙ by_sibling a b s j b (omega (arith, last, within_half s hs)) (omega (arith, last, within_half j hj)) (λ e. omega arith) (rank-low a b l)

    -- child c holds the position
    one-within : (c s j : ℕ) → c < child_count ρ → s < below ρ → j < below ρ
        → Punctured (child_count ρ) at ρ.levels (c * below ρ + s) (c * below ρ + j)
        ≡ path_element element child (Below s) bytes correction j
    unfolding path_element
    one-within c s j hc hs hj =
        first_level (c * below ρ + s) (c * below ρ + j)
        ∙ within (child_count ρ) (ρ.levels - 1) (pow_pos ρ.branch_bits) c s j hc hs hj
        ∙ ap₂ (Punctured (child_count ρ) (at + 16 * (child_count ρ - 1)) (ρ.levels - 1)) (nothing s) (nothing j)
      where
        nothing : (n : ℕ) → n ≡ 0 * child_count ρ ^ (ρ.levels - 1 - 1) + n
        nothing n = omega arith

    -- the position lies in the first child of a pair, or in the second
    module _ (s j : ℕ) (e : ρ.bits ≡ 1) (hs : s < half) (hj : j < half) where
      one : half ≡ below ρ
      one = omega (arith, ap (λ n. 2 ^ (n - 1) * below ρ) e)

      pub path-first : path_element element child (At s) bytes correction j ≡ path_element element child (Below s) bytes correction j
      unfolding path_element
      path-first = one-within ρ.from s j (omega (arith, last, pow_pos (ρ.bits - 1))) (omega (arith, one)) (omega (arith, one))

      pub path-second : path_element element child (At (half + s)) bytes correction (half + j) ≡ path_element element child (Below s) bytes correction j
      unfolding path_element
      path-second =
          ap₂ (Punctured (child_count ρ) at ρ.levels) (far ρ.from pairs (below ρ) s) (far ρ.from pairs (below ρ) j)
          ∙ one-within (ρ.from + pairs) s j (omega (arith, last, pow_pos (ρ.bits - 1))) (omega (arith, one)) (omega (arith, one))

    -- the position lies in the second half of the children
    pub path-back : (s j : ℕ)
        → path_element element child (At (half + s)) bytes correction (half + j)
        ≡ path_element element child (record { range = second_half ρ; position = s; at = at }) bytes correction j
    unfolding path_element
    path-back s j = ap₂ (Punctured (child_count ρ) at ρ.levels) (far ρ.from pairs (below ρ) s) (far ρ.from pairs (below ρ) j)
