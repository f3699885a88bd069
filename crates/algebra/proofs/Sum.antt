-- Laws of sums over any group, and of sums under scaling.
use mathlib.Core.Path.{◌≡◌, refl, sym, ap, ◌∙◌}
use mathlib.Core.Logic.{⊎_elim}
use Prim.Native.Nat.{ℕ, zero, suc, ◌<◌}
use native.Mathlib.Omega.{arith}
use native.Mathlib.Nat.{eq-or-lt_of_le}
use lib.Dec.{leb}
use borrow.Author.Tests.{le-leb, lt-leb}
use Rattle.algebra.specs.Choice.{choose}
use Rattle.algebra.specs.Group.{Group, Element, GroupLaws, Ring, Scaled, RingLaws, ScaledLaws, itself}
use Rattle.algebra.specs.Sum.{sum}
use Rattle.algebra.proofs.Choice.{choose-true, choose-false}

module _ (G : Group) where
  -- the clauses of `sum`
  pub sum-none : (f : ℕ → G.Of) → sum G zero f ≡ G.zero
  unfolding sum
  sum-none f = refl

  pub sum-suc : (n : ℕ) (f : ℕ → G.Of) → sum G (suc n) f ≡ G.add (sum G n f) (f n)
  unfolding sum
  sum-suc n f = refl

  -- equal terms below n give equal sums
  pub sum_cong : (n : ℕ) (f g : ℕ → G.Of) → ((i : ℕ) → i < n → f i ≡ g i) → sum G n f ≡ sum G n g
  unfolding sum
  sum_cong zero f g e = refl
  sum_cong (suc n) f g e = cc (sum_cong n f g (λ i h. e i (omega arith)), e n (omega arith))

  module _ (L : GroupLaws G) where
    pub sum-element : (n : ℕ) (f : ℕ → G.Of) → Element G (sum G n f)
    unfolding sum
    sum-element zero f = L.zero-element
    sum-element (suc n) f = L.add-element (sum G n f) (f n)

    pub add-zero : (a : G.Of) → Element G a → G.add a G.zero ≡ a
    add-zero a h = L.add_comm a G.zero ∙ L.zero-add a h

    -- what is its own double is zero
    pub zero_of_double : (a : G.Of) → Element G a → G.add a a ≡ a → a ≡ G.zero
    zero_of_double a h e =
        let z = G.sub G.zero a in
        let s : G.add a z ≡ G.zero = L.add-sub G.zero a L.zero-element h in
        sym (add-zero a h) ∙ ap (G.add a) (sym s) ∙ sym (L.add_assoc a a z) ∙ ap (λ (x : G.Of). G.add x z) e ∙ s

    pub add_swap : (a b c d : G.Of) → G.add (G.add a b) (G.add c d) ≡ G.add (G.add a c) (G.add b d)
    add_swap a b c d =
        L.add_assoc a b (G.add c d)
        ∙ ap (G.add a) (sym (L.add_assoc b c d) ∙ ap (λ (x : G.Of). G.add x d) (L.add_comm b c) ∙ L.add_assoc c b d)
        ∙ sym (L.add_assoc a c (G.add b d))

    pub sum-zero : (n : ℕ) → sum G n (λ i. G.zero) ≡ G.zero
    unfolding sum
    sum-zero zero = refl
    sum-zero (suc n) = ap (λ (x : G.Of). G.add x G.zero) (sum-zero n) ∙ L.zero-add G.zero L.zero-element

    -- a sum all of whose terms are zero
    pub sum_zeros : (n : ℕ) (f : ℕ → G.Of) → ((i : ℕ) → i < n → f i ≡ G.zero) → sum G n f ≡ G.zero
    sum_zeros n f e = sum_cong n f (λ i. G.zero) e ∙ sum-zero n

    -- the sum of sums
    pub sum-add : (n : ℕ) (f g : ℕ → G.Of) → sum G n (λ i. G.add (f i) (g i)) ≡ G.add (sum G n f) (sum G n g)
    unfolding sum
    sum-add zero f g = sym (L.zero-add G.zero L.zero-element)
    sum-add (suc n) f g =
        ap (λ (x : G.Of). G.add x (G.add (f n) (g n))) (sum-add n f g) ∙ add_swap (sum G n f) (sum G n g) (f n) (g n)

    -- two sums may be swapped
    pub sum_swap : (n m : ℕ) (f : ℕ → ℕ → G.Of) → sum G n (λ i. sum G m (f i)) ≡ sum G m (λ j. sum G n (λ i. f i j))
    unfolding sum
    sum_swap zero m f = sym (sum-zero m)
    sum_swap (suc n) m f =
        ap (λ (x : G.Of). G.add x (sum G m (f n))) (sum_swap n m f) ∙ sym (sum-add m (λ j. sum G n (λ i. f i j)) (f n))

    -- the terms up to m of a longer sum
    pub sum_upto : (n m : ℕ) (f : ℕ → G.Of) → m < n → sum G n (λ j. choose (leb j m) (f j) G.zero) ≡ sum G (suc m) f
    sum_upto zero m f h = absurd (omega arith)
    sum_upto (suc n) m f h = ⊎_elim last (λ k. longer k (sum_upto n m f k)) (eq-or-lt_of_le {n = m} {m = n} (omega arith))
      where
        last : m ≡ n → sum G (suc n) (λ j. choose (leb j m) (f j) G.zero) ≡ sum G (suc m) f
        last e =
            rw e (sum_cong (suc n) (λ j. choose (leb j n) (f j) G.zero) f
            (λ j k. choose-true (leb j n) (f j) G.zero (le-leb j n (omega arith))))

        longer : m < n → sum G n (λ j. choose (leb j m) (f j) G.zero) ≡ sum G (suc m) f → sum G (suc n) (λ j. choose (leb j m) (f j) G.zero) ≡ sum G (suc m) f
        longer k shorter =
            let g : ℕ → G.Of = λ j. choose (leb j m) (f j) G.zero in
            sum-suc n g
            ∙ ap (G.add (sum G n g)) (choose-false (leb n m) (f n) G.zero (lt-leb n m k))
            ∙ add-zero (sum G n g) (sum-element n g)
            ∙ shorter

module _ (R : Ring) (S : Scaled R) (L : ScaledLaws R S) where
  pub scale-zero : (c : R.group.Of) → S.scale c S.group.zero ≡ S.group.zero
  scale-zero c =
      let z = S.group.zero in
      zero_of_double S.group L.group (S.scale c z) (L.scale-element c z L.group.zero-element)
      (sym (L.scale-add c z z) ∙ ap (S.scale c) (L.group.zero-add z L.group.zero-element))

  -- scaling a sum
  pub scale-sum : (c : R.group.Of) (n : ℕ) (f : ℕ → S.group.Of) → S.scale c (sum S.group n f) ≡ sum S.group n (λ i. S.scale c (f i))
  unfolding sum
  scale-sum c zero f = scale-zero c
  scale-sum c (suc n) f =
      L.scale-add c (sum S.group n f) (f n) ∙ ap (λ (x : S.group.Of). S.group.add x (S.scale c (f n))) (scale-sum c n f)

  -- a sum of scalars scaling one element
  pub sum-scale : (G : GroupLaws R.group) (n : ℕ) (c : ℕ → R.group.Of) (a : S.group.Of)
      → ((i : ℕ) → i < n → Element R.group (c i)) → S.scale (sum R.group n c) a ≡ sum S.group n (λ i. S.scale (c i) a)
  unfolding sum
  sum-scale G zero c a h = L.zero-scale a
  sum-scale G (suc n) c a h =
      L.add-scale (sum R.group n c) (c n) a (sum-element R.group G n c) (h n (omega arith))
      ∙ ap (λ (x : S.group.Of). S.group.add x (S.scale (c n) a)) (sum-scale G n c a (λ i k. h i (omega arith)))

-- a ring scales itself
pub itself_laws : (R : Ring) → RingLaws R → ScaledLaws R (itself R)
itself_laws R L =
    let z = R.group.zero in
    let mul-zero : (a : R.group.Of) → R.mul a z ≡ z =
    λ a. zero_of_double R.group L.group (R.mul a z) (L.mul-element a z)
    (sym (L.mul-add a z z) ∙ ap (R.mul a) (L.group.zero-add z L.group.zero-element)) in
    record {
      group = L.group;
      scale-element = λ c a h. L.mul-element c a;
      one-scale = L.one-mul;
      zero-scale = λ a. L.mul_comm z a ∙ mul-zero a;
      scale-add = L.mul-add;
      add-scale = λ c d a h k.
          L.mul_comm (R.group.add c d) a ∙ L.mul-add a c d ∙ cc (L.mul_comm a c, L.mul_comm a d);
      mul-scale = λ c d a h k. L.mul_assoc c d a;
    }
