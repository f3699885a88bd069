-- Tests at every index below n: what a loop that tests one index or several a turn knows, what the test says of an index, and two
-- tests at once.
use mathlib.Core.Bool.{Bool, true, false, ◌&&◌, true≢false}
use mathlib.Core.Logic.{⊎_elim}
use mathlib.Core.Path.{◌≡◌, refl, sym, ap, ◌∙◌}
use Prim.Native.Nat.{ℕ, zero, suc, ◌+◌, ◌≤◌, ◌<◌}
use native.Mathlib.Nat.{add-zero, add-suc, le_antisymm, eq-or-lt_of_le, le_of_suc-le-suc}
use native.Mathlib.Numerals.{add-one}
use native.Mathlib.Omega.{arith}
use Rattle.algebra.proofs.Tests.{and_left, and_right, and_both, and-false}
use Rattle.algebra.specs.Every.{every}

module _ (test : ℕ → Bool) where
  pub every-none : every 0 test ≡ true
  unfolding every
  every-none = refl

  pub every_more : (i : ℕ) → every i test ≡ true → test i ≡ true → every (i + 1) test ≡ true
  unfolding every
  every_more i e t = rw add-one (and_both e t)

  pub every_done : (i n : ℕ) → every i test ≡ true → i ≤ n → n ≤ i → true ≡ every n test
  every_done i n e h k = sym (ap (λ (m : ℕ). every m test) (le_antisymm {n = n} {m = i} k h) ∙ e)

  -- a test that fails below n
  pub every_stop : (i n : ℕ) → i < n → test i ≡ false → false ≡ every n test
  unfolding every
  every_stop i zero h t = absurd (omega arith)
  every_stop i (suc n) h t =
      let earlier : i < n → false ≡ every n test = λ k. every_stop i n k t in
      ⊎_elim
      (λ (e : i ≡ n). sym (and-false (every n test) (test n) (ap test (sym e) ∙ t)))
      (λ k. rw (← earlier k))
      (eq-or-lt_of_le (le_of_suc-le-suc h))

  -- what holds of every index holds of each
  pub every_at : (i n : ℕ) → every n test ≡ true → i < n → test i ≡ true
  unfolding every
  every_at i zero e h = absurd (omega arith)
  every_at i (suc n) e h =
      let earlier : i < n → test i ≡ true = every_at i n (and_left (every n test) (test n) e) in
      ⊎_elim (λ (q : i ≡ n). ap test q ∙ and_right (every n test) (test n) e) earlier (eq-or-lt_of_le (le_of_suc-le-suc h))

  pub every-all : (n : ℕ) → ((i : ℕ) → i < n → test i ≡ true) → every n test ≡ true
  unfolding every
  every-all zero h = refl
  every-all (suc n) h = and_both (every-all n (λ i k. h i (omega arith))) (h n (omega arith))

  -- the tests before i, and n more
  pub every-and : (i n : ℕ) → every i test ≡ true → every n (λ k. test (i + k)) ≡ true → every (i + n) test ≡ true
  unfolding every
  every-and i zero e f = rw (add-zero i) e
  every-and i (suc n) e f =
      let front : every (i + n) test ≡ true = every-and i n e (and_left (every n (λ k. test (i + k))) (test (i + n)) f) in
      rw (add-suc i n) (and_both front (and_right (every n (λ k. test (i + k))) (test (i + n)) f))

  pub every-not : (i n m : ℕ) → i + n ≤ m → every n (λ k. test (i + k)) ≡ false → false ≡ every m test
  unfolding every
  every-not i zero m h f = absurd (true≢false f)
  every-not i (suc n) m h f = decide (every n (λ k. test (i + k))) refl (every-not i n m (omega arith))
    where
      decide : (t : Bool) → every n (λ k. test (i + k)) ≡ t → (every n (λ k. test (i + k)) ≡ false → false ≡ every m test) → false ≡ every m test
      decide true q earlier = every_stop (i + n) m (omega arith) (ap (λ (b : Bool). b && test (i + n)) (sym q) ∙ f)
      decide false q earlier = earlier q

-- no test is passed
pub passed_none : (test : ℕ → Bool) → true ≡ every 0 test
unfolding every
passed_none test = refl

and_swap : (a b c d : Bool) → ((a && b) && (c && d)) ≡ ((a && c) && (b && d))
and_swap true true c d = refl
and_swap true false true d = refl
and_swap true false false d = refl
and_swap false b c d = refl

-- two tests at every index
pub every-both : (n : ℕ) (s t : ℕ → Bool) → every n (λ i. s i && t i) ≡ (every n s && every n t)
unfolding every
every-both zero s t = refl
every-both (suc n) s t = ap (λ (b : Bool). b && (s n && t n)) (every-both n s t) ∙ and_swap (every n s) (every n t) (s n) (t n)
