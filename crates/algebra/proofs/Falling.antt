-- Sums from the top down, over any group. Assumes nothing.
use mathlib.Core.Path.{◌≡◌, refl, sym, ap, ◌∙◌}
use Prim.Native.Nat.{ℕ, zero, suc, ◌+◌, ◌-◌, ◌≤◌, ◌<◌}
use native.Mathlib.Omega.{arith}
use Rattle.algebra.specs.Group.{Group, GroupLaws, Element}
use Rattle.algebra.specs.Sum.{sum}
use Rattle.algebra.proofs.Sum.{sum-none, sum-suc, sum_cong, sum-element, sum_zeros, add-zero}

-- the sum of f at n − 1 down to j
unfoldable pub from_top : (G : Group) → (ℕ → G.Of) → ℕ → ℕ → G.Of
from_top G f n j = sum G (n - j) (λ m. f (n - 1 - m))

module _ (G : Group) (f : ℕ → G.Of) (n : ℕ) where
  pub top-none : from_top G f n n ≡ G.zero
  unfolding from_top
  top-none = ap (λ (m : ℕ). sum G m (λ m. f (n - 1 - m))) {x = n - n} {y = 0} (omega arith) ∙ sum-none G (λ m. f (n - 1 - m))

  pub top_more : (j : ℕ) → j < n → from_top G f n j ≡ G.add (from_top G f n (suc j)) (f j)
  unfolding from_top
  top_more j h =
      ap (λ (m : ℕ). sum G m (λ m. f (n - 1 - m))) {x = n - j} {y = suc (n - suc j)} (omega arith)
      ∙ sum-suc G (n - suc j) (λ m. f (n - 1 - m))
      ∙ ap (λ (i : ℕ). G.add (sum G (n - suc j) (λ m. f (n - 1 - m))) (f i)) {x = n - 1 - (n - suc j)} {y = j} (omega arith)

  pub top_cong : (g : ℕ → G.Of) (j : ℕ) → ((i : ℕ) → j ≤ i → i < n → f i ≡ g i) → from_top G f n j ≡ from_top G g n j
  unfolding from_top
  top_cong g j e = sum_cong G (n - j) (λ m. f (n - 1 - m)) (λ m. g (n - 1 - m)) (λ m h. e (n - 1 - m) (omega arith) (omega arith))

  module _ (L : GroupLaws G) where
    pub top-element : (j : ℕ) → Element G (from_top G f n j)
    unfolding from_top
    top-element j = sum-element G L (n - j) (λ m. f (n - 1 - m))

    -- below j there are only zeros
    pub top_zeros : (j : ℕ) → j ≤ n → ((i : ℕ) → i < j → f i ≡ G.zero) → from_top G f n 0 ≡ from_top G f n j
    top_zeros zero h z = refl
    top_zeros (suc j) h z =
        top_zeros j (omega arith) (λ i k. z i (omega arith)) ∙ top_more j (omega arith) ∙ ap (G.add (from_top G f n (suc j))) (z j (omega arith))
        ∙ add-zero G L (from_top G f n (suc j)) (top-element (suc j))

module _ (G : Group) (L : GroupLaws G) where
  -- a sum and what is added from the top down make up the sum
  both_sums : (f : ℕ → G.Of) (n j : ℕ) → j ≤ n → G.add (from_top G f n j) (sum G j f) ≡ G.add (from_top G f n 0) G.zero
  both_sums f n zero h = ap (G.add (from_top G f n 0)) (sum-none G f)
  both_sums f n (suc j) h =
      ap (G.add (from_top G f n (suc j))) (sum-suc G j f ∙ L.add_comm (sum G j f) (f j))
      ∙ sym (L.add_assoc (from_top G f n (suc j)) (f j) (sum G j f))
      ∙ ap (λ (x : G.Of). G.add x (sum G j f)) (sym (top_more G f n j (omega arith)))
      ∙ both_sums f n j (omega arith)

  -- the sum from the top down is the sum
  pub top-all : (f : ℕ → G.Of) (n : ℕ) → from_top G f n 0 ≡ sum G n f
  top-all f n =
      sym (add-zero G L (from_top G f n 0) (top-element G f n L 0))
      ∙ sym (both_sums f n n (omega arith))
      ∙ ap (λ (x : G.Of). G.add x (sum G n f)) (top-none G f n)
      ∙ L.zero-add (sum G n f) (sum-element G L n f)

  -- what stands past m is zero
  pub sum-front : (f : ℕ → G.Of) (n m : ℕ) → m ≤ n → ((i : ℕ) → m ≤ i → i < n → f i ≡ G.zero) → sum G n f ≡ sum G m f
  sum-front f n m h z = sym (top-all f n) ∙ top_zeros_past ∙ top-all f m
    where
      steps : (k : ℕ) → k ≤ m → from_top G f n k ≡ G.add (from_top G f n m) (from_top G f m k)
      steps k l = go (m - k) k (omega arith)
        where
          go : (d k : ℕ) → k + d ≡ m → from_top G f n k ≡ G.add (from_top G f n m) (from_top G f m k)
          go zero k e =
              ap (from_top G f n) {x = k} {y = m} (omega arith)
              ∙ sym (add-zero G L (from_top G f n m) (top-element G f n L m))
              ∙ ap (G.add (from_top G f n m)) (sym (top-none G f m) ∙ ap (from_top G f m) {x = m} {y = k} (omega arith))
          go (suc d) k e =
              let r = go d (suc k) (omega arith) in
              top_more G f n k (omega arith) ∙ ap (λ (x : G.Of). G.add x (f k)) r
              ∙ L.add_assoc (from_top G f n m) (from_top G f m (suc k)) (f k)
              ∙ ap (G.add (from_top G f n m)) (sym (top_more G f m k (omega arith)))

      past : from_top G f n m ≡ G.zero
      past = top_cong G f n (λ i. G.zero) m z ∙ sym (top_zeros G (λ i. G.zero) n L m h (λ i k. refl)) ∙ top-all (λ i. G.zero) n ∙ sum_zeros G L n (λ i. G.zero) (λ i k. refl)

      top_zeros_past : from_top G f n 0 ≡ from_top G f m 0
      top_zeros_past = steps 0 (omega arith) ∙ ap (λ (x : G.Of). G.add x (from_top G f m 0)) past ∙ L.zero-add (from_top G f m 0) (top-element G f m L 0)
