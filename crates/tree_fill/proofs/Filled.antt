-- What the fills need of lengths and what they give: at a leaf, below a range, below a run of siblings, and below a range that
-- holds a path, in either field.
use mathlib.Core.Path.{◌≡◌, refl, ap, ap₂, sym, ◌∙◌}
use mathlib.Core.Bool.{true, false}
use mathlib.Core.Logic.{◌≢◌}
use mathlib.Core.List.{List, [], ◌++◌}
use Prim.Native.Nat.{ℕ, ◌+◌, ◌-◌, ◌*◌, ◌/◌, ◌^◌, ◌≤◌, ◌<◌}
use native.Mathlib.Nat.{one-mul}
use native.Mathlib.Omega.{arith}
use lib.ListN.{length, take, drop}
use borrow.Author.Tests.{eq-eqb}
use Rattle.algebra.specs.Field.{Field, FieldLaws, Value}
use Rattle.field.specs.Kind.{kind_of}
use Rattle.field.proofs.BothKinds.{kind_laws}
use Rattle.tree.specs.Tree.{leaf_at}
use Rattle.tree.specs.Added.{added, leaf_element, punctured_element}
use Rattle.tree.specs.Columns.{columns_at, siblings_at}
use Rattle.tree.specs.Expanded.{leaves_added, punctured_added}
use Rattle.tree.specs.declared.punctured.Punctured.{Punctured}
use Rattle.tree_sums.specs.Inner.Ranges.{leaf_added, element_added, child_count, below, left_of, size_of, IsRange, all_children, of_child, range_element, range_added}
use Rattle.tree_sums.specs.declared.range.Range.{Range}
use Rattle.tree_fill.specs.Inner.Ranges.{half_from, first_half, second_half, IsRun, run_element, run_added, IsPath, path_in, AreHalves, path_element, path_added}
use Rattle.tree_fill.specs.declared.range.Path.{Path}
use Rattle.tree_fill.specs.declared.range.Halves.{Halves}
use Rattle.tree.proofs.Laws.{leaf-none}
use Rattle.tree_sums.proofs.Halves.{front_length, back_length, filled, added-same}
use Rattle.tree_sums.proofs.Ranges.{size-all, one_twice}
use Rattle.tree_sums.proofs.Elements.{all-element}
use Rattle.tree_sums.proofs.Couples.{from_halves, both_below}
use Rattle.tree_fill.proofs.Ranges.{size_is, size_none, two-some, half_twice, half_falls, sibling_size}
use Rattle.tree_fill.proofs.Ranges.{in_cases, held-size, holds-first, holds-second}
use Rattle.tree_fill.proofs.Elements.{back-element, run-one, run-back, path-above, path-below, path-first, path-second, path-back}

-- ---- lengths: of a buffer, m words, and of its halves, k words

module _ (ρ : Range) (m w : ℕ) (e : m ≡ size_of ρ * w) where
  pub leaf-length : ρ.levels ≡ 0 → IsRange ρ → m ≡ w
  leaf-length h ok = e ∙ ap (λ n. n * w) (size_none ρ h ok) ∙ one-mul w

  module _ (h : ρ.levels ≢ 0) {k : ℕ} where
    pub one-front : ρ.bits ≡ 1 → k ≡ m / 2 → k ≡ size_of (of_child ρ) * w
    one-front b = front_length m (size_of ρ) _ w e (one_twice ρ h b)

    pub one-back : ρ.bits ≡ 1 → k + m / 2 ≡ m → k ≡ size_of (of_child ρ) * w
    one-back b = back_length m (size_of ρ) _ w e (one_twice ρ h b)

    pub half_front : (c : ℕ) → ρ.bits ≢ 0 → k ≡ m / 2 → k ≡ size_of (half_from ρ c) * w
    half_front c b = front_length m (size_of ρ) _ w e (half_twice ρ h c b)

    pub half_back : (c : ℕ) → ρ.bits ≢ 0 → k + m / 2 ≡ m → k ≡ size_of (half_from ρ c) * w
    half_back c b = back_length m (size_of ρ) _ w e (half_twice ρ h c b)

pub all-length : (g levels w m : ℕ) → m ≡ (2 ^ g) ^ levels * w → m ≡ size_of (all_children g levels) * w
all-length g levels w m e = e ∙ ap (λ n. n * w) (sym (size-all g levels))

module _ (ρ : Range) (at n w : ℕ) (ok : IsRun ρ at n) (m : ℕ) (e : m ≡ size_of ρ * w) where
  pub sibling_length : ρ.bits ≡ 0 → m ≡ size_of (of_child ρ) * w
  sibling_length b = e ∙ ap (λ m. m * w) (sibling_size ρ at n ok b)

  module _ {k : ℕ} (c : ℕ) (b : ρ.bits ≢ 0) where
    pub run_half_front : k ≡ m / 2 → k ≡ size_of (half_from ρ c) * w
    run_half_front = half_front ρ m w e ok.some c b

    pub run_half_back : k + m / 2 ≡ m → k ≡ size_of (half_from ρ c) * w
    run_half_back = half_back ρ m w e ok.some c b

module _ (path : Path) (n : ℕ) (ok : IsPath path n) (h : path.range.levels ≢ 0) {half : ℕ} (eh : half ≡ size_of (first_half path.range))
    (m w : ℕ) (e : m ≡ size_of path.range * w) (c s : ℕ) {r : Path} (er : r ≡ path_in path c s) where
  held_twice : size_of path.range ≡ size_of r.range + size_of r.range
  held_twice =
      half_twice path.range h path.range.from (two-some path.range ok.range)
      ∙ ap (λ m. m + m) (sym eh ∙ sym (held-size path n ok h eh c s er))

  held-front : {k : ℕ} → k ≡ m / 2 → k ≡ size_of r.range * w
  held-front = front_length m (size_of path.range) _ w e held_twice

  held_back : {k : ℕ} → k + m / 2 ≡ m → k ≡ size_of r.range * w
  held_back = back_length m (size_of path.range) _ w e held_twice

module _ (path : Path) (n : ℕ) (ok : IsPath path n) (h : path.range.levels ≢ 0) (m w : ℕ) (e : m ≡ size_of path.range * w)
    (r : Halves) (parts : AreHalves path r) {k : ℕ} where
  pub first-front : r.lower ≡ true → k ≡ m / 2 → k ≡ size_of r.below.range * w
  first-front t = held-front path n ok h refl m w e path.range.from path.position (holds-first path parts t).on

  pub first_back : r.lower ≡ true → k + m / 2 ≡ m → k ≡ size_of r.beside * w
  first_back t = rw (holds-first path parts t).run (half_back path.range m w e h _ (two-some path.range ok.range))

  pub second-front : r.lower ≡ false → k ≡ m / 2 → k ≡ size_of r.beside * w
  second-front t = rw (holds-second path parts t).run (half_front path.range m w e h _ (two-some path.range ok.range))

  pub second_back : r.lower ≡ false → k + m / 2 ≡ m → k ≡ size_of r.below.range * w
  second_back t = held_back path n ok h refl m w e (path.range.from + 2 ^ (path.range.bits - 1)) _ (holds-second path parts t).on

pub run-falls : (ρ : Range) (at n c : ℕ) {t : ℕ} → IsRun ρ at n → ρ.bits ≢ 0 → left_of ρ ≡ t → left_of (half_from ρ c) < t
run-falls ρ at n c ok b l = half_falls ρ ok.some c b l

-- ---- ranges

module _ (field : ℕ) (child : ℕ → List (List ℕ) → List (List ℕ)) where
  abbrev F : Field
  F = (kind_of field).field

  abbrev laws : FieldLaws F
  laws = (kind_laws field).field

  abbrev leaf : List (List ℕ) → Value F
  leaf = (kind_of field).leaf

  module _ (ρ : Range) (s : List (List ℕ)) (xs : List ℕ) where
    -- at a leaf
    pub filled-leaf : {ys : List ℕ} → ρ.levels ≡ 0 → IsRange ρ → ys ≡ leaf_added field s xs → ys ≡ range_added field child ρ s xs
    unfolding leaf_added range_element leaf_element
    filled-leaf e ok ey =
        added-same F laws (size_of ρ) 1 (range_element leaf child ρ s) (λ j. leaf s) xs ey (size_none ρ e ok)
        (λ j h. ap leaf (sym (ap (λ n. leaf_at (child_count ρ) child n s (number j)) e ∙ leaf-none (child_count ρ) child s (number j))))
      where
        number : ℕ → ℕ
        number j = ρ.from * below ρ + j

    module _ (h : ρ.levels ≢ 0) (e : length xs ≡ size_of ρ * F.elements.width) where
      -- by two children
      pub filled-children : {x y : List (List ℕ)} {xs₁ xs₂ ys zs : List ℕ} → IsRange ρ → ρ.bits ≡ 1 → x ≡ child ρ.from s → y ≡ child (ρ.from + 1) s
          → xs₁ ≡ take (length xs / 2) xs → xs₂ ≡ drop (length xs / 2) xs
          → ys ≡ range_added field child (of_child ρ) x xs₁
          → zs ≡ range_added field child (of_child ρ) y xs₂ → ys ++ zs ≡ range_added field child ρ s xs
      filled-children {x} {y} ok b ex ey e₁ e₂ el eh =
          both_below field child ρ s xs h ok b ex ey
          (from_halves field child (of_child ρ) x y xs (e ∙ ap (λ n. n * F.elements.width) (one_twice ρ h b)) (rw e₁ at el) (rw e₂ at eh))

      -- by half as many children each
      pub filled_halves : {p : ℕ} {xs₁ xs₂ ys zs : List ℕ} → IsRange ρ → p ≡ 2 ^ (ρ.bits - 1)
          → xs₁ ≡ take (length xs / 2) xs → xs₂ ≡ drop (length xs / 2) xs
          → ys ≡ range_added field child (first_half ρ) s xs₁
          → zs ≡ range_added field child (half_from ρ (ρ.from + p)) s xs₂ → ys ++ zs ≡ range_added field child ρ s xs
      unfolding range_element left_of
      filled_halves {p} ok q e₁ e₂ ey ez =
          filled F laws (size_of ρ) (size_of (first_half ρ)) (range_element leaf child ρ s) (range_element leaf child (first_half ρ) s)
          (range_element leaf child (second_half ρ) s) xs e (half_twice ρ h ρ.from (two-some ρ ok))
          (λ j l. refl)
          (λ j l. back-element leaf child s ρ h j)
          (rw e₁ at ey)
          ((rw e₂ at ez) ∙ ap (λ n. added F (size_of (first_half ρ)) (range_element leaf child (half_from ρ (ρ.from + n)) s) (drop (length xs / 2) xs)) q)

  -- all children of s
  pub filled-all : (g levels : ℕ) (s : List (List ℕ)) (xs : List ℕ) {x : List (List ℕ)} {ys : List ℕ} → x ≡ s
      → ys ≡ range_added field child (all_children g levels) x xs
      → ys ≡ leaves_added (kind_of field) (2 ^ g) child levels s xs
  filled-all g levels s xs ex ey =
      added-same F laws ((2 ^ g) ^ levels) (size_of (all_children g levels)) (leaf_element leaf (2 ^ g) child levels s)
      (range_element leaf child (all_children g levels) s) xs
      (ey ∙ ap (λ x. range_added field child (all_children g levels) x xs) ex) (sym (size-all g levels)) (λ j l. all-element leaf child s g levels j)

  pub filled-tree : (tree : Punctured) (bytes words : List ℕ) (xs : List ℕ) {ys : List ℕ}
      → ys ≡ path_added field child (record { range = all_children tree.branch_bits tree.levels; position = tree.position; at = tree.at })
      bytes words xs
      → ys ≡ punctured_added (kind_of field) (2 ^ tree.branch_bits) child tree bytes (F.elements.read words 0) xs
  unfolding path_element
  filled-tree tree bytes words xs ey =
      added-same F laws (k ^ tree.levels) (size_of (all_children tree.branch_bits tree.levels))
      (punctured_element leaf k child [] beside tree.levels tree.position (F.elements.read words 0))
      (λ j. punctured_element leaf k child [] beside tree.levels (start + tree.position) (F.elements.read words 0) (start + j))
      xs ey (sym (size-all tree.branch_bits tree.levels))
      (λ j l. ap₂ (λ a b. punctured_element leaf k child [] beside tree.levels a (F.elements.read words 0) b) (nothing tree.position) (nothing j))
    where
      k : ℕ
      k = 2 ^ tree.branch_bits

      beside : List (List (List ℕ))
      beside = siblings_at bytes tree.at (tree.levels * (k - 1))

      start : ℕ
      start = 0 * k ^ (tree.levels - 1)

      nothing : (n : ℕ) → start + n ≡ n
      nothing n = omega arith

  -- ---- runs of siblings

  module _ (bytes : List ℕ) (at n : ℕ) (ρ : Range) (xs : List ℕ) (ok : IsRun ρ at n) where
    pub filled_sibling : {x : List (List ℕ)} {ys : List ℕ} → ρ.bits ≡ 0 → x ≡ columns_at bytes (at + 16 * ρ.from)
        → ys ≡ range_added field child (of_child ρ) x xs → ys ≡ run_added field child ρ bytes at xs
    filled_sibling {x} b ex ey =
        added-same F laws (size_of ρ) (size_of one) (run_element leaf child ρ bytes at) (range_element leaf child one (columns_at bytes (at + 16 * ρ.from))) xs
        (ey ∙ ap (λ y. range_added field child one y xs) ex)
        (sibling_size ρ at n ok b)
        (λ j l. run-one leaf child bytes at ρ ok.some b j (omega (arith, sibling_size ρ at n ok b)))
      where
        one : Range
        one = of_child ρ

    pub filled_runs : {p : ℕ} {xs₁ xs₂ ys zs : List ℕ} → ρ.bits ≢ 0 → length xs ≡ size_of ρ * F.elements.width → p ≡ 2 ^ (ρ.bits - 1)
        → xs₁ ≡ take (length xs / 2) xs → xs₂ ≡ drop (length xs / 2) xs
        → ys ≡ run_added field child (first_half ρ) bytes at xs₁
        → zs ≡ run_added field child (half_from ρ (ρ.from + p)) bytes at xs₂ → ys ++ zs ≡ run_added field child ρ bytes at xs
    unfolding run_element left_of
    filled_runs {p} b e q e₁ e₂ ey ez =
        filled F laws (size_of ρ) (size_of (first_half ρ)) (run_element leaf child ρ bytes at) (run_element leaf child (first_half ρ) bytes at)
        (run_element leaf child (second_half ρ) bytes at) xs e (half_twice ρ ok.some ρ.from b)
        (λ j l. refl)
        (λ j l. run-back leaf child bytes at ρ ok.some j)
        (rw e₁ at ey)
        ((rw e₂ at ez) ∙ ap (λ m. added F (size_of (first_half ρ)) (run_element leaf child (half_from ρ (ρ.from + m)) bytes at) (drop (length xs / 2) xs)) q)

  -- ---- ranges that hold a path

  module _ (bytes : List ℕ) (n : ℕ) (words : List ℕ) (path : Path) (xs : List ℕ) (ok : IsPath path n) where
    -- the correction that words begin with
    abbrev correction : Value F
    correction = F.elements.read words 0

    pub filled-correction : {ys : List ℕ} → path.range.levels ≡ 0 → ys ≡ element_added field words xs → ys ≡ path_added field child path bytes words xs
    unfolding element_added path_element punctured_element
    filled-correction e ey =
        added-same F laws (size_of path.range) 1 (path_element leaf child path bytes correction) (λ j. correction) xs ey one
        (λ j l. rw (eq-eqb (start + path.position) (start + j) (omega (arith, ok.inside, one))))
      where
        start : ℕ
        start = path.range.from * below path.range

        one : size_of path.range ≡ 1
        one = size_none path.range e ok.range

    module _ {half p : ℕ} (h : path.range.levels ≢ 0) (e : length xs ≡ size_of path.range * F.elements.width)
        (eh : half ≡ size_of (first_half path.range)) (ep : p ≡ 2 ^ (path.range.bits - 1)) where
      abbrev ρ : Range
      ρ = path.range

      abbrev one : Range
      one = of_child ρ

      -- a path at another position
      abbrev moved : ℕ → Path
      moved s = record { range = ρ; position = s; at = path.at }

      -- half the leaves, as a product
      product : half ≡ 2 ^ (ρ.bits - 1) * below ρ
      product = eh ∙ size_is (first_half ρ) h

      twice_half : size_of ρ ≡ half + half
      twice_half = half_twice ρ h ρ.from (two-some ρ ok.range) ∙ ap (λ m. m + m) (sym eh)

      one_half : ρ.bits ≡ 1 → size_of one ≡ half
      one_half b = omega (arith, one_twice ρ h b, twice_half)

      from_half : (c : ℕ) → size_of (half_from ρ c) ≡ half
      from_half c = omega (arith, half_twice ρ h c (two-some ρ ok.range), twice_half)

      -- the element at j, and at j past the half
      here : ℕ → ℕ → Value F
      here s j = path_element leaf child (moved s) bytes correction j

      -- the buffer of both halves, as the laws of elements say them
      both : (s : ℕ) (low high : ℕ → Value F) {ys zs : List ℕ} → s ≡ path.position
          → ((j : ℕ) → j < 2 ^ (ρ.bits - 1) * below ρ → here s j ≡ low j)
          → ((j : ℕ) → j < 2 ^ (ρ.bits - 1) * below ρ → here s (2 ^ (ρ.bits - 1) * below ρ + j) ≡ high j)
          → ys ≡ added F half low (take (length xs / 2) xs)
          → zs ≡ added F half high (drop (length xs / 2) xs)
          → ys ++ zs ≡ path_added field child path bytes words xs
      unfolding here
      both s low high es hl hh ey ez =
          filled F laws (size_of ρ) half (here s) low high xs e twice_half
          (λ j l. hl j (rw product at l))
          (λ j l. ap (λ m. here s (m + j)) product ∙ hh j (rw product at l))
          ey ez
          ∙ ap (λ m. added F (size_of ρ) (here m) xs) es

      -- below a child of a pair, and below half as many children
      abbrev in_child : ℕ → ℕ → ℕ → Value F
      in_child next s = path_element leaf child (record { range = one; position = s; at = next }) bytes correction

      abbrev in_half : ℕ → ℕ → ℕ → Value F
      in_half c s = path_element leaf child (record { range = half_from ρ c; position = s; at = path.at }) bytes correction

      abbrev by_run : ℕ → ℕ → Value F
      by_run c = run_element leaf child (half_from ρ c) bytes path.at

      -- the words of either half
      abbrev Low : (m : ℕ) → (ℕ → Value F) → List ℕ
      Low m f = added F m f (take (length xs / 2) xs)

      abbrev High : (m : ℕ) → (ℕ → Value F) → List ℕ
      High m f = added F m f (drop (length xs / 2) xs)

      abbrev Whole : List ℕ
      Whole = path_added field child path bytes words xs

      -- the position lies in the first half
      abbrev Above : ℕ → ℕ → Value F
      Above c = by_run (ρ.from + (c - 1))

      above-words : {zs : List ℕ} → zs ≡ High (size_of (half_from ρ (ρ.from + (p - 1)))) (Above p)
          → zs ≡ High half (Above (2 ^ (ρ.bits - 1)))
      above-words ez = ez ∙ ap₂ (λ m c. High m (Above c)) (from_half (ρ.from + (p - 1))) ep

      above-elements : path.position < half → (j : ℕ) → j < 2 ^ (ρ.bits - 1) * below ρ
          → here path.position (2 ^ (ρ.bits - 1) * below ρ + j) ≡ Above (2 ^ (ρ.bits - 1)) j
      unfolding here
      above-elements l j m =
          path-above leaf child bytes correction path.at ρ ok.range h path.position j (omega (arith, product)) m

      filled-first : {next : ℕ} {ys zs : List ℕ} → path.position < half → ρ.bits ≡ 1 → next ≡ path.at + 16 * (child_count ρ - 1)
          → ys ≡ Low (size_of one) (in_child next path.position)
          → zs ≡ High (size_of (half_from ρ (ρ.from + (p - 1)))) (Above p) → ys ++ zs ≡ Whole
      unfolding here
      filled-first {ys = ys} l b f ey ez =
          both path.position (in_child (path.at + 16 * (child_count ρ - 1)) path.position) (Above (2 ^ (ρ.bits - 1))) refl
          (λ j m. path-first leaf child bytes correction path.at ρ ok.range h path.position j b (omega (arith, product)) m)
          (above-elements l)
          (ey ∙ ap₂ (λ m a. Low m (in_child a path.position)) (one_half b) f)
          (above-words ez)

      filled-front : {ys zs : List ℕ} → path.position < half → ys ≡ Low (size_of (first_half ρ)) (in_half ρ.from path.position)
          → zs ≡ High (size_of (half_from ρ (ρ.from + (p - 1)))) (Above p) → ys ++ zs ≡ Whole
      unfolding here path_element
      filled-front {ys} l ey ez =
          both path.position (in_half ρ.from path.position) (Above (2 ^ (ρ.bits - 1))) refl
          (λ j m. refl)
          (above-elements l)
          (ey ∙ ap (λ m. Low m (in_half ρ.from path.position)) (from_half ρ.from))
          (above-words ez)

      -- the position lies in the second half
      abbrev rest : ℕ
      rest = path.position - half

      rest_below : half ≤ path.position → rest < 2 ^ (ρ.bits - 1) * below ρ
      rest_below l = omega (arith, ok.inside, twice_half, product)

      position : half ≤ path.position → 2 ^ (ρ.bits - 1) * below ρ + rest ≡ path.position
      position l = omega (arith, product)

      below-words : {ys : List ℕ} → ys ≡ Low (size_of (first_half ρ)) (by_run ρ.from) → ys ≡ Low half (by_run ρ.from)
      below-words ey = ey ∙ ap (λ m. Low m (by_run ρ.from)) (from_half ρ.from)

      below-elements : half ≤ path.position → (j : ℕ) → j < 2 ^ (ρ.bits - 1) * below ρ
          → here (2 ^ (ρ.bits - 1) * below ρ + rest) j ≡ by_run ρ.from j
      unfolding here
      below-elements l j m = path-below leaf child bytes correction path.at ρ ok.range h rest j (rest_below l) m

      filled-second : {next : ℕ} {ys zs : List ℕ} → half ≤ path.position → ρ.bits ≡ 1 → next ≡ path.at + 16 * (child_count ρ - 1)
          → ys ≡ Low (size_of (first_half ρ)) (by_run ρ.from) → zs ≡ High (size_of one) (in_child next rest) → ys ++ zs ≡ Whole
      unfolding here
      filled-second {ys = ys} l b f ey ez =
          both (2 ^ (ρ.bits - 1) * below ρ + rest) (by_run ρ.from) (in_child (path.at + 16 * (child_count ρ - 1)) rest) (position l)
          (below-elements l)
          (λ j m. path-second leaf child bytes correction path.at ρ ok.range h rest j b (rest_below l) m)
          (below-words ey)
          (ez ∙ ap₂ (λ m a. High m (in_child a rest)) (one_half b) f)

      filled-back : {ys zs : List ℕ} → half ≤ path.position → ys ≡ Low (size_of (first_half ρ)) (by_run ρ.from)
          → zs ≡ High (size_of (half_from ρ (ρ.from + p))) (in_half (ρ.from + p) rest) → ys ++ zs ≡ Whole
      unfolding here
      filled-back {ys} l ey ez =
          both (2 ^ (ρ.bits - 1) * below ρ + rest) (by_run ρ.from) (in_half (ρ.from + 2 ^ (ρ.bits - 1)) rest) (position l)
          (below-elements l)
          (λ j m. path-back leaf child bytes correction path.at ρ ok.range h rest j)
          (below-words ey)
          (ez ∙ ap₂ (λ m c. High m (in_half (ρ.from + c) rest)) (from_half (ρ.from + p)) ep)

      -- the half that holds the path, as the path that goes on
      filled-low : {r : Path} {ys zs : List ℕ} → path.position < half → r ≡ path_in path ρ.from path.position
          → ys ≡ Low (size_of r.range) (path_element leaf child r bytes correction)
          → zs ≡ High (size_of (half_from ρ (ρ.from + (p - 1)))) (Above p) → ys ++ zs ≡ Whole
      filled-low {ys = ys} {zs} l er ey ez =
          in_cases path ρ.from path.position
          (λ x. ys ≡ Low (size_of x.range) (path_element leaf child x bytes correction) → ys ++ zs ≡ Whole)
          (λ b k. filled-first l b refl k ez)
          (λ b k. filled-front l k ez)
          (rw er at ey)

      filled-high : {r : Path} {ys zs : List ℕ} → half ≤ path.position → r ≡ path_in path (ρ.from + p) rest
          → ys ≡ Low (size_of (first_half ρ)) (by_run ρ.from)
          → zs ≡ High (size_of r.range) (path_element leaf child r bytes correction) → ys ++ zs ≡ Whole
      filled-high {ys = ys} {zs} l er ey ez =
          in_cases path (ρ.from + p) rest
          (λ x. zs ≡ High (size_of x.range) (path_element leaf child x bytes correction) → ys ++ zs ≡ Whole)
          (λ b k. filled-second l b refl ey k)
          (λ b k. filled-back l ey k)
          (rw er at ez)

    module _ (h : path.range.levels ≢ 0) (e : length xs ≡ size_of path.range * F.elements.width) (r : Halves) (parts : AreHalves path r)
        {xs₁ xs₂ ys zs : List ℕ} (e₁ : xs₁ ≡ take (length xs / 2) xs) (e₂ : xs₂ ≡ drop (length xs / 2) xs) where
      pub filled-first-holds : r.lower ≡ true → ys ≡ path_added field child r.below bytes words xs₁
          → zs ≡ run_added field child r.beside bytes path.at xs₂ → ys ++ zs ≡ path_added field child path bytes words xs
      filled-first-holds t ey ez =
          let a = holds-first path parts t in
          filled-low h e refl refl a.inside a.on (rw e₁ at ey) (rw (a.run, e₂) at ez)

      pub filled-second-holds : r.lower ≡ false → ys ≡ run_added field child r.beside bytes path.at xs₁
          → zs ≡ path_added field child r.below bytes words xs₂ → ys ++ zs ≡ path_added field child path bytes words xs
      filled-second-holds t ey ez =
          let a = holds-second path parts t in
          filled-high h e refl refl a.inside a.on (rw (a.run, e₁) at ey) (rw e₂ at ez)
