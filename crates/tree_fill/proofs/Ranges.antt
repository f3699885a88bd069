-- Ranges of a node's children by halves: what is left of a tree's depth below them, how many leaves, and that halves are ranges.
use mathlib.Core.Path.{◌≡◌, refl, ap, ap₂, sym, ◌∙◌}
use mathlib.Core.Bool.{Bool, true, false}
use mathlib.Core.Logic.{◌≢◌}
use Prim.Native.Nat.{ℕ, suc, ◌+◌, ◌-◌, ◌*◌, ◌^◌, ◌≤◌, ◌<◌}
use native.Mathlib.Omega.{arith}
use lib.Dec.{eqb}
use lib.Pow.{pow-add, pow_pos}
use borrow.Author.Tests.{eq-eqb, ne_eqb, eqb-true, eqb-false}
use Rattle.algebra.specs.Choice.{choose}
use Rattle.tree.specs.Inner.Branches.{IsBranch, IsPunctured}
use Rattle.tree.specs.declared.punctured.Punctured.{Punctured}
use Rattle.tree_sums.specs.Inner.Ranges.{child_count, below, left_of, size_of, IsRange, all_children, of_child}
use Rattle.tree_sums.specs.declared.range.Range.{Range}
use Rattle.tree_sums.proofs.Ranges.{left_is, left-all, left_one, size-all, twice, one_twice}
use Rattle.tree_fill.specs.Inner.Ranges.{half_from, first_half, IsRun, IsPath, path_in, FirstHolds, SecondHolds, AreHalves}
use Rattle.tree_fill.specs.declared.range.Path.{Path}
use Rattle.tree_fill.specs.declared.range.Halves.{Halves}
use Rattle.tree.proofs.PowerLaws.{power_of_power, level_less, halved, eight}

-- ---- what is left

left-none : (ρ : Range) → ρ.levels ≡ 0 → IsRange ρ → left_of ρ ≡ 0
unfolding left_of
left-none ρ e ok =
    ap (λ n. n * ρ.branch_bits + ρ.bits - ρ.branch_bits) e ∙ nothing ρ.branch_bits ρ.bits ok.most
  where
    nothing : (g r : ℕ) → r ≤ g → 0 * g + r - g ≡ 0
    nothing g r h = omega arith

-- half as many children
left_half : (ρ : Range) (c : ℕ) → ρ.levels ≢ 0 → ρ.bits ≢ 0 → left_of ρ ≡ suc (left_of (half_from ρ c))
left_half ρ c h b = left_is ρ h ∙ omega (arith, left_is (half_from ρ c) h)

-- ---- leaves

pub size_is : (ρ : Range) → ρ.levels ≢ 0 → size_of ρ ≡ 2 ^ ρ.bits * below ρ
size_is ρ h =
    ap (λ n. 2 ^ n) (left_is ρ h)
    ∙ pow-add 2 ρ.bits ((ρ.levels - 1) * ρ.branch_bits)
    ∙ ap (λ n. 2 ^ ρ.bits * n) (sym (power_of_power ρ.branch_bits (ρ.levels - 1)))

pub size_none : (ρ : Range) → ρ.levels ≡ 0 → IsRange ρ → size_of ρ ≡ 1
size_none ρ e ok = ap (λ n. 2 ^ n) (left-none ρ e ok)

-- ---- halves of a range: two children by the children of each, more by half as many

pub two-some : (ρ : Range) → IsRange ρ → ρ.bits ≢ 0
two-some ρ ok e = omega (arith, ok.two)

module _ (ρ : Range) (h : ρ.levels ≢ 0) where
  abbrev one : Range
  one = of_child ρ

  pub one-falls : {t : ℕ} → ρ.bits ≡ 1 → left_of ρ ≡ t → left_of one < t
  one-falls e l = omega (arith, left_one ρ h e)

  module _ (c : ℕ) (b : ρ.bits ≢ 0) where
    pub half_twice : size_of ρ ≡ size_of (half_from ρ c) + size_of (half_from ρ c)
    half_twice = twice ρ (half_from ρ c) (left_half ρ c h b)

    pub half_falls : {t : ℕ} → left_of ρ ≡ t → left_of (half_from ρ c) < t
    half_falls l = omega (arith, left_half ρ c h b)

pub all-range : (g levels : ℕ) → IsBranch g → IsRange (all_children g levels)
all-range g levels b = record { two = b.two; most = omega arith; within = omega arith; branch = b }

module _ (ρ : Range) (ok : IsRange ρ) where
  pub one-range : IsRange (of_child ρ)
  one-range = all-range ρ.branch_bits (ρ.levels - 1) ok.branch

  half_range : (c : ℕ) → ρ.bits ≢ 1 → c + 2 ^ (ρ.bits - 1) ≤ ρ.from + 2 ^ ρ.bits → IsRange (half_from ρ c)
  half_range c e l =
      record { two = omega (arith, ok.two); most = omega (arith, ok.most); within = omega (arith, ok.within); branch = ok.branch }

  pub first_half_range : ρ.bits ≢ 1 → IsRange (first_half ρ)
  first_half_range e = half_range ρ.from e (omega (arith, halved ρ.bits ok.two))

  pub back-range : {p : ℕ} → ρ.bits ≢ 1 → p ≡ 2 ^ (ρ.bits - 1) → IsRange (half_from ρ (ρ.from + p))
  back-range e q = half_range (ρ.from + _) e (omega (arith, halved ρ.bits ok.two))

-- ---- numbers that fit

module _ (ρ : Range) (ok : IsRange ρ) where
  pub pair_keys : ρ.bits ≡ 1 → ρ.from + 1 < 8
  pair_keys e = omega (arith, ok.within, ap (λ n. 2 ^ n) e, eight ρ.branch_bits ok.branch)

-- half of a range, by its exponent
module _ (ρ : Range) (ok : IsRange ρ) (h : ρ.levels ≢ 0) (short : ρ.levels * ρ.branch_bits ≤ 64) where
  pub half_power : {r : ℕ} → r ≡ 2 ^ ((ρ.levels - 1) * ρ.branch_bits + (ρ.bits - 1)) → r ≡ size_of (first_half ρ)
  half_power e =
      e
      ∙ ap (λ n. 2 ^ n) {x = (ρ.levels - 1) * ρ.branch_bits + (ρ.bits - 1)} {y = left_of (first_half ρ)} (omega (arith, left_is (first_half ρ) h))

-- ---- runs of siblings

module _ (ρ : Range) (at n : ℕ) (ok : IsRun ρ at n) where
  module _ (e : ρ.bits ≡ 0) where
    pub sibling_range : IsRange (of_child ρ)
    sibling_range = all-range ρ.branch_bits (ρ.levels - 1) ok.branch

    pub sibling_size : size_of ρ ≡ size_of (of_child ρ)
    sibling_size =
        ap (λ m. 2 ^ m) {x = left_of ρ} {y = left_of (of_child ρ)}
        (omega (arith, left_is ρ ok.some, left-all ρ.branch_bits (ρ.levels - 1)))

  module _ (b : ρ.bits ≢ 0) where
    halves_run : 2 ^ ρ.bits ≡ 2 ^ (ρ.bits - 1) + 2 ^ (ρ.bits - 1)
    halves_run = halved ρ.bits (omega arith)

    pub first_half_run : IsRun (first_half ρ) at n
    first_half_run =
        record {
          some = ok.some;
          branch = ok.branch;
          bits = omega (arith, ok.bits);
          few = omega (arith, ok.few, halves_run);
          room = omega (arith, ok.room, halves_run);
        }

    module _ {p : ℕ} (q : p ≡ 2 ^ (ρ.bits - 1)) where
      pub back-run : IsRun (half_from ρ (ρ.from + p)) at n
      back-run =
          record {
            some = ok.some;
            branch = ok.branch;
            bits = omega (arith, ok.bits);
            few = omega (arith, ok.few, halves_run);
            room = omega (arith, ok.room, halves_run);
          }

-- ---- ranges that hold a path

module _ (path : Path) (c s : ℕ) where
  -- one child's children, and half as many children
  abbrev in_child : Path
  in_child =
      record {
        range = of_child path.range;
        position = s;
        at = path.at + 16 * (child_count path.range - 1);
      }

  abbrev in_half : Path
  in_half = record { range = half_from path.range c; position = s; at = path.at }

  pub is_child : {next : ℕ} → path.range.bits ≡ 1 → next ≡ path.at + 16 * (child_count path.range - 1)
      → record { range = of_child path.range; position = s; at = next } ≡ path_in path c s
  unfolding path_in
  is_child b e = rw (eq-eqb path.range.bits 1 b, e)

  pub is_half : path.range.bits ≢ 1 → in_half ≡ path_in path c s
  unfolding path_in
  is_half b = rw (ne_eqb path.range.bits 1 b)

  -- what holds of both holds of either
  pub in_cases : (P : Path → Type 0) → (path.range.bits ≡ 1 → P in_child) → (path.range.bits ≢ 1 → P in_half) → P (path_in path c s)
  unfolding path_in
  in_cases P one half = decide (eqb path.range.bits 1) refl
    where
      decide : (t : Bool) → eqb path.range.bits 1 ≡ t → P (choose t in_child in_half)
      decide true e = one (eqb-true path.range.bits 1 e)
      decide false e = half (eqb-false path.range.bits 1 e)

-- which half holds the path
pub holds-first : (path : Path) {r : Halves} → AreHalves path r → r.lower ≡ true → FirstHolds path r.below r.beside
unfolding AreHalves
holds-first path a e = rw e at a

pub holds-second : (path : Path) {r : Halves} → AreHalves path r → r.lower ≡ false → SecondHolds path r.below r.beside
unfolding AreHalves
holds-second path a e = rw e at a

module _ (path : Path) (n : ℕ) (ok : IsPath path n) (h : path.range.levels ≢ 0) where
  -- the next level's siblings
  levels-room : path.range.levels * (child_count path.range - 1)
      ≡ (path.range.levels - 1) * (child_count path.range - 1) + (child_count path.range - 1)
  levels-room = level_less path.range.levels (child_count path.range - 1) h

  pairs_twice : 2 ^ path.range.bits ≡ 2 ^ (path.range.bits - 1) + 2 ^ (path.range.bits - 1)
  pairs_twice = halved path.range.bits ok.range.two

  -- the other half as a run
  run_of : (c : ℕ) → c + 2 ^ (path.range.bits - 1) + 1 ≤ path.range.from + 2 ^ path.range.bits → IsRun (half_from path.range c) path.at n
  run_of c l =
      record {
        some = h;
        branch = ok.range.branch;
        bits = omega (arith, ok.range.most, ok.range.branch.eight);
        few = omega (arith, ok.range.within, eight path.range.branch_bits ok.range.branch);
        room = omega (arith, ok.range.within, ok.room, levels-room);
      }

  pub above-run : {p : ℕ} → p ≡ 2 ^ (path.range.bits - 1) → IsRun (half_from path.range (path.range.from + (p - 1))) path.at n
  above-run q = run_of (path.range.from + _) (omega (arith, pairs_twice, pow_pos (path.range.bits - 1)))

  pub below-run : IsRun (first_half path.range) path.at n
  below-run = run_of path.range.from (omega (arith, pairs_twice, pow_pos (path.range.bits - 1)))

  half-size : size_of path.range ≡ size_of (first_half path.range) + size_of (first_half path.range)
  half-size = half_twice path.range h path.range.from (two-some path.range ok.range)

  module _ {half : ℕ} (e : half ≡ size_of (first_half path.range)) where
    pub past_half : half ≤ path.position → path.position - half < half
    past_half l = omega (arith, ok.inside, half-size)

    -- the half that holds the path, at a position s in it
    module _ (c s : ℕ) {r : Path} (er : r ≡ path_in path c s) where
      pub held-falls : {t : ℕ} → left_of path.range ≡ t → left_of r.range < t
      held-falls {t} l =
          rw er
          (in_cases path c s (λ x. left_of x.range < t) (λ b. one-falls path.range h b l)
          (λ b. half_falls path.range h c (two-some path.range ok.range) l))

      pub held-size : size_of r.range ≡ half
      held-size =
          rw er
          (in_cases path c s (λ x. size_of x.range ≡ half) (λ b. omega (arith, half-size, one_twice path.range h b))
          (λ b. omega (arith, half-size, half_twice path.range h c (two-some path.range ok.range))))

      held-path : s < half → (path.range.bits ≢ 1 → IsRange (half_from path.range c)) → IsPath r n
      held-path l range =
          rw er
          (in_cases path c s (λ x. IsPath x n)
          (λ b.
          record {
            range = one-range path.range ok.range;
            inside = omega (arith, half-size, one_twice path.range h b);
            short = omega (arith, ok.short, level_less path.range.levels path.range.branch_bits h);
            room = omega (arith, ok.room, levels-room);
            fits = ok.fits;
          })
          (λ b.
          record {
            range = range b;
            inside = omega (arith, half-size, half_twice path.range h c (two-some path.range ok.range));
            short = ok.short;
            room = ok.room;
            fits = ok.fits;
          }))

  -- the halves as the code finds them
  module _ (r : Halves) (parts : AreHalves path r) (e : r.lower ≡ true) where
    a : FirstHolds path r.below r.beside
    a = holds-first path parts e

    pub first-falls : {t : ℕ} → left_of path.range ≡ t → left_of r.below.range < t
    first-falls l = held-falls refl path.range.from path.position a.on l

    pub first-path : IsPath r.below n
    first-path = held-path refl path.range.from path.position a.on a.inside (first_half_range path.range ok.range)

    pub first_run : IsRun r.beside path.at n
    first_run = rw a.run (above-run refl)

  module _ (r : Halves) (parts : AreHalves path r) (e : r.lower ≡ false) where
    b : SecondHolds path r.below r.beside
    b = holds-second path parts e

    pub second-falls : {t : ℕ} → left_of path.range ≡ t → left_of r.below.range < t
    second-falls l = held-falls refl (path.range.from + 2 ^ (path.range.bits - 1)) _ b.on l

    pub second-path : IsPath r.below n
    second-path =
        held-path refl (path.range.from + 2 ^ (path.range.bits - 1)) _ b.on (past_half refl b.inside)
        (λ two. back-range path.range ok.range two refl)

    pub second_run : IsRun r.beside path.at n
    second_run = rw b.run below-run

-- the halves made
module _ (path : Path) {half p : ℕ} {below : Path} {beside : Range} (eh : half ≡ size_of (first_half path.range)) (ep : p ≡ 2 ^ (path.range.bits - 1)) where
  pub first_holds : path.position < half → below ≡ path_in path path.range.from path.position
      → beside ≡ half_from path.range (path.range.from + (p - 1)) → AreHalves path (record { below = below; beside = beside; lower = true })
  unfolding AreHalves
  first_holds l eb er = record { inside = rw (← eh) l; on = eb; run = er ∙ ap (λ m. half_from path.range (path.range.from + (m - 1))) ep }

  pub second_holds : half ≤ path.position → below ≡ path_in path (path.range.from + p) (path.position - half) → beside ≡ first_half path.range
      → AreHalves path (record { below = below; beside = beside; lower = false })
  unfolding AreHalves
  second_holds l eb er =
      record { inside = rw (← eh) l; on = eb ∙ ap₂ (λ m k. path_in path (path.range.from + m) (path.position - k)) ep eh; run = er }

-- ---- all children of a root

pub whole-path : (tree : Punctured) (n : ℕ) → IsPunctured tree n → tree.position < (2 ^ tree.branch_bits) ^ tree.levels → n < 2 ^ 64
    → IsPath (record { range = all_children tree.branch_bits tree.levels; position = tree.position; at = tree.at }) n
whole-path tree n ok l f =
    record {
      range = all-range tree.branch_bits tree.levels ok.branch;
      inside = rw (size-all tree.branch_bits tree.levels) l;
      short = ok.short;
      room = ok.room;
      fits = f;
    }
