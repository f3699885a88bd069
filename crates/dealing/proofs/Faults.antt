-- The tests of a dealing's input are met exactly where document 01 admits it.
use mathlib.Core.Path.{◌≡◌, refl, sym}
use mathlib.Core.Bool.{Bool, true, false, ◌&&◌, not, true≢false}
use mathlib.Core.Logic.{◌⊎◌, inl, inr, ⊎_elim}
use Prim.Native.Nat.{ℕ, zero, suc, ◌-◌, ◌%◌, ◌^◌, ◌≤◌, ◌<◌}
use native.Mathlib.Omega.{arith}
use borrow.Author.Tests.{ltb-true, leb-true, eqb-true, lt-ltb, le-leb, eq-eqb, ne_eqb}
use lib.Dec.{leb, ltb, eqb}
use lib.ListN.{get_or}
use Rattle.dealing.proofs.Positions.{positions-rising, positions-below, positions_are}
use Rattle.algebra.proofs.Every.{every_at, every-all}
use Rattle.algebra.proofs.Tests.{and_left, and_right, and_both, or_cases}
use Rattle.answer.specs.Numbers.{bad_position}
use Rattle.answer.specs.Tests.{AllMet, is_met, first_fault}
use Rattle.field.specs.Bytes.{word_at}
use Rattle.prime.specs.Prime.{modulus}
use Rattle.field.specs.ByNumber.{is_field, is_noise, element_of, rest_zero, is_scalar}
use Rattle.record.specs.Admitted.{is_size, is_branch, most_trees, most_terms, most_outputs}
use Rattle.dealing.specs.Admitted.{Admitted, DeltaAdmitted, NoiseAdmitted}
use Rattle.dealing.specs.Input.{Input, positions_admitted, delta_admitted, size_tests, length_tests, content_tests}

-- ---- single tests

pub size_says : (top n : ℕ) → is_size top n ≡ true → (1 ≤ n) × (n ≤ top)
size_says top n e = (leb-true 1 n (and_left (leb 1 n) (leb n top) e), leb-true n top (and_right (leb 1 n) (leb n top) e))

pub size_is : (top n : ℕ) → 1 ≤ n → n ≤ top → is_size top n ≡ true
size_is top n a b = and_both (le-leb 1 n a) (le-leb n top b)

branch_says : (d g : ℕ) → is_branch d g ≡ true → (1 ≤ g) × (g ≤ 3) × (d % g ≡ 0)
branch_says d g e =
    let s = size_says 3 g (and_left (is_size 3 g) (eqb (d % g) 0) e) in
    (s.0, s.1, eqb-true (d % g) 0 (and_right (is_size 3 g) (eqb (d % g) 0) e))

pub branch_is : (d g : ℕ) → (1 ≤ g) × (g ≤ 3) × (d % g ≡ 0) → is_branch d g ≡ true
branch_is d g h = and_both (size_is 3 g h.0 h.1) (eq-eqb (d % g) 0 h.2)

pub field_says : (f : ℕ) → is_field f ≡ true → (f ≡ 1) ⊎ (f ≡ 2)
field_says f e =
    ⊎_elim (λ a. inl (eqb-true f 1 a)) (λ b. inr (eqb-true f 2 b)) (or_cases (eqb f 1) (eqb f 2) e)

pub field_is : (f : ℕ) → (f ≡ 1) ⊎ (f ≡ 2) → is_field f ≡ true
field_is f h = ⊎_elim (λ a. rw a) (λ b. rw b) h

-- ---- noise values

noise_says : (f y : ℕ) → is_noise f y ≡ true → NoiseAdmitted f y
noise_says f y e =
    record {
      binary = λ b. eqb-true y 1 (rw b at e);
      prime = λ b. size_says (modulus - 1) y (rw b at e);
    }

pub noise_is : (f y : ℕ) → (f ≡ 1) ⊎ (f ≡ 2) → NoiseAdmitted f y → is_noise f y ≡ true
noise_is f y h A =
    ⊎_elim (λ a. rw a (eq-eqb y 1 (A.binary a))) (λ b. rw b (size_is (modulus - 1) y (A.prime b).0 (A.prime b).1)) h

-- ---- Δ

-- the test of Δ over its two words
abbrev delta_test : ℕ → ℕ → ℕ → Bool
delta_test f low high = is_scalar f (element_of f low high) && rest_zero f high

delta-binary : (low high : ℕ) → delta_test 1 low high ≡ true → (low ≡ 0) × (high ≡ 0) → ⊥
delta-binary low high e z =
    let t : not (eqb low 0 && eqb high 0) ≡ true = and_left (not (eqb low 0 && eqb high 0)) true e in
    true≢false (sym (rw (eq-eqb low 0 z.0, eq-eqb high 0 z.1) at t))

delta-prime : (low high : ℕ) → delta_test 2 low high ≡ true → (0 < low) × (low < modulus) × (high ≡ 0)
delta-prime low high e =
    let t : (ltb low modulus && not (eqb low 0)) ≡ true = and_left (ltb low modulus && not (eqb low 0)) (eqb high 0) e in
    let n : not (eqb low 0) ≡ true = and_right (ltb low modulus) (not (eqb low 0)) t in
    let positive : 0 < low = positive_of low n in (
      positive,
      ltb-true low modulus (and_left (ltb low modulus) (not (eqb low 0)) t),
      eqb-true high 0 (and_right (ltb low modulus && not (eqb low 0)) (eqb high 0) e),
    )
  where
    positive_of : (x : ℕ) → not (eqb x 0) ≡ true → 0 < x
    positive_of zero n = absurd (true≢false (sym n))
    positive_of (suc x) n = omega arith

delta-binary_is : (low high : ℕ) → ((low ≡ 0) × (high ≡ 0) → ⊥) → delta_test 1 low high ≡ true
delta-binary_is zero zero h = absurd (h (refl, refl))
delta-binary_is zero (suc high) h = rw (ne_eqb (suc high) 0 (λ e. omega arith))
delta-binary_is (suc low) high h = rw (ne_eqb (suc low) 0 (λ e. omega arith))

delta-prime_is : (low high : ℕ) → 0 < low → low < modulus → high ≡ 0 → delta_test 2 low high ≡ true
delta-prime_is zero high a b z = absurd (omega arith)
delta-prime_is (suc low) high a b z = rw (lt-ltb (suc low) modulus b, ne_eqb (suc low) 0 (λ e. omega arith), z)

delta_says : (I : Input) → delta_admitted I.field I.delta ≡ true → DeltaAdmitted I
unfolding delta_admitted
delta_says I e =
    record {
      binary = λ f. delta-binary (word_at I.delta 0) (word_at I.delta 8) (rw f at e);
      prime = λ f. delta-prime (word_at I.delta 0) (word_at I.delta 8) (rw f at e);
    }

pub delta_is : (I : Input) → (I.field ≡ 1) ⊎ (I.field ≡ 2) → DeltaAdmitted I → delta_admitted I.field I.delta ≡ true
unfolding delta_admitted
delta_is I h A =
    ⊎_elim
    (λ f. rw f (delta-binary_is (word_at I.delta 0) (word_at I.delta 8) (A.binary f)))
    (λ f. rw f (delta-prime_is (word_at I.delta 0) (word_at I.delta 8) (A.prime f).0 (A.prime f).1 (A.prime f).2))
    h

-- ---- the tests of an input

module _ (I : Input) where
  -- all of them met: the input is admitted
  pub admitted : AllMet (size_tests I) → AllMet (length_tests I) → AllMet (content_tests I) → Admitted I
  admitted s l c =
      let trees = size_says (most_trees I.depth) I.trees (search s) in
      let terms = size_says (most_terms I.depth) I.terms (search s) in
      record {
        field = field_says I.field (search s);
        depth = size_says 16 I.depth (search s);
        branch = branch_says I.depth I.branch_bits (search s);
        trees = (trees.0, omega (arith, trees.1), omega (arith, trees.1));
        terms = (terms.0, omega (arith, terms.1), omega (arith, terms.1));
        outputs = size_says (most_outputs I.depth) I.outputs (search s);
        roots = search l;
        positions = search l;
        values = search l;
        delta = search l;
        code_key = search l;
        label = search l;
        rising = positions-rising (2 ^ I.depth) I.trees I.positions (search c);
        below = positions-below (2 ^ I.depth) I.trees I.positions (search c);
        noise = λ i h. noise_says I.field _ (every_at (λ i. is_noise I.field (get_or I.values i 0)) i I.trees (search c) h);
        scalar = delta_says I (search c);
      }

  -- a bad position gives its number, also before bad noise values and a bad Δ
  pub position_first : positions_admitted (2 ^ I.depth) I.trees I.positions ≡ false → first_fault (content_tests I) ≡ bad_position
  unfolding first_fault is_met
  position_first e = rw e

  -- and of admitted input all are met
  module _ (A : Admitted I) where
    pub sizes_met : AllMet (size_tests I)
    sizes_met =
        let f = field_is I.field A.field in
        let d = size_is 16 I.depth A.depth.0 A.depth.1 in
        let g = branch_is I.depth I.branch_bits A.branch in
        let t = size_is (most_trees I.depth) I.trees A.trees.0 (omega (arith, A.trees.1, A.trees.2)) in
        let l = size_is (most_terms I.depth) I.terms A.terms.0 (omega (arith, A.terms.1, A.terms.2)) in
        let n = size_is (most_outputs I.depth) I.outputs A.outputs.0 A.outputs.1 in
        record { all = search depth 12 }

    pub lengths_met : AllMet (length_tests I)
    lengths_met = record { all = search depth 12 }

    pub content_met : AllMet (content_tests I)
    content_met =
        let p = positions_are (2 ^ I.depth) I.trees I.positions A.rising A.below in
        let y = every-all (λ i. is_noise I.field (get_or I.values i 0)) I.trees (λ i h. noise_is I.field _ A.field (A.noise i h)) in
        let d = delta_is I A.field A.scalar in
        record { all = search depth 12 }
