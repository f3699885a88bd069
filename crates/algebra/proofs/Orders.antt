-- Every order in which each of k terms stands once makes their sum: its terms are counted. And there is such an order.
use mathlib.Core.Path.{◌≡◌, refl, sym, ap, ap₂, ◌∙◌}
use mathlib.Core.Bool.{Bool, true, false}
use mathlib.Core.Logic.{⊎_elim}
use Prim.Native.Nat.{ℕ, zero, suc, ◌+◌, ◌≤◌, ◌<◌}
use native.Mathlib.Nat.{add_comm, eq-or-lt_of_le}
use native.Mathlib.Omega.{arith}
use lib.Dec.{eqb, ltb, eqb-suc-zero}
use borrow.Author.Tests.{eqb-true, eqb-false, eq-eqb, ne_eqb, lt-ltb, le-ltb, ltb-true, ltb-false}
use Rattle.algebra.specs.Choice.{choose}
use Rattle.algebra.specs.Group.{Group, Element, GroupLaws}
use Rattle.algebra.specs.Order.{Order, term, ◌into◌, occurs, Once}
use Rattle.algebra.specs.Sum.{sum}
use Rattle.algebra.proofs.Choice.{choose-true, choose-false}
use Rattle.algebra.proofs.Sum.{sum-suc, sum_cong, sum-add, sum_zeros, add-zero}

-- the sum that an order makes
unfoldable pub total : (G : Group) → (ℕ → G.Of) → Order → G.Of
total G f (term i) = f i
total G f (a into b) = G.add (total G f a) (total G f b)

-- the terms of an order are below k
abbrev pub Below : ℕ → Order → Type 0
Below k o = (i : ℕ) → k ≤ i → occurs i o ≡ 0

pub once-below : (k : ℕ) (o : Order) → Once k o → Below k o
once-below k o once i h = once i ∙ choose-false (ltb i k) 1 0 (le-ltb i k h)

pub term-below : (k j : ℕ) → Below k (term j) → j < k
unfolding occurs
term-below k j none = inside (ltb j k) refl
  where
    apart : ◌≡◌ {A = ℕ} 1 0 → ⊥
    apart e = omega arith

    inside : (t : Bool) → ltb j k ≡ t → j < k
    inside true e = ltb-true j k e
    inside false e = absurd (apart (sym (choose-true (eqb j j) 1 0 (eq-eqb j j refl)) ∙ none j (ltb-false j k e)))

-- so are those of both its parts
pub left_below : (k : ℕ) (a b : Order) → Below k (a into b) → Below k a
unfolding occurs
left_below k a b none i h = let n = none i h in omega arith

pub right_below : (k : ℕ) (a b : Order) → Below k (a into b) → Below k b
unfolding occurs
right_below k a b none i h = let n = none i h in omega arith

module _ (G : Group) (L : GroupLaws G) where
  -- the one term of a sum that is not zero
  sum_single : (n j : ℕ) (f : ℕ → G.Of) → j < n → Element G (f j) → sum G n (λ i. choose (eqb i j) (f i) G.zero) ≡ f j
  sum_single zero j f h e = absurd (omega arith)
  sum_single (suc n) j f h e =
      sum-suc G n (λ i. choose (eqb i j) (f i) G.zero)
      ∙ ⊎_elim
      (λ (q : j ≡ n).
      ap₂ G.add
      (sum_zeros G L n _ (λ i k. choose-false (eqb i j) (f i) G.zero (ne_eqb i j (λ p. omega arith))))
      (choose-true (eqb n j) (f n) G.zero (eq-eqb n j (sym q)) ∙ ap f (sym q))
      ∙ L.zero-add (f j) e)
      (λ (k : j < n).
      ap₂ G.add (sum_single n j f k e) (choose-false (eqb n j) (f n) G.zero (ne_eqb n j (λ p. omega arith)))
      ∙ add-zero G L (f j) e)
      (eq-or-lt_of_le {n = j} {m = n} (omega arith))

  -- so many times a value
  unfoldable times : ℕ → G.Of → G.Of
  times zero a = G.zero
  times (suc n) a = G.add (times n a) a

  times-element : (n : ℕ) (a : G.Of) → Element G (times n a)
  unfolding times
  times-element zero a = L.zero-element
  times-element (suc n) a = L.add-element (times n a) a

  times-add : (m n : ℕ) (a : G.Of) → times (n + m) a ≡ G.add (times m a) (times n a)
  unfolding times
  times-add m zero a =
      let e : 0 + m ≡ m = omega arith in
      ap (λ (k : ℕ). times k a) e ∙ sym (add-zero G L (times m a) (times-element m a))
  times-add m (suc n) a =
      let e : suc n + m ≡ suc (n + m) = omega arith in
      ap (λ (k : ℕ). times k a) e ∙ ap (λ (x : G.Of). G.add x a) (times-add m n a) ∙ L.add_assoc (times m a) (times n a) a

  times-one : (t : Bool) (a : G.Of) → Element G a → times (choose t 1 0) a ≡ choose t a G.zero
  unfolding times
  times-one true a e = L.zero-add a e
  times-one false a e = refl

  module _ (k : ℕ) (f : ℕ → G.Of) (elements : (i : ℕ) → i < k → Element G (f i)) where
    pub total-element : (o : Order) → Below k o → Element G (total G f o)
    unfolding total
    total-element (term i) none = elements i (term-below k i none)
    total-element (a into b) none = L.add-element (total G f a) (total G f b)

    -- each term counts as often as it stands in the order
    total-counted : (o : Order) → Below k o → total G f o ≡ sum G k (λ i. times (occurs i o) (f i))
    unfolding total occurs
    total-counted (term j) none =
        let below : j < k = term-below k j none in
        sym (sum_cong G k _ _ (λ i h. times-one (eqb i j) (f i) (elements i h)) ∙ sum_single k j f below (elements j below))
    total-counted (a into b) none =
        ap₂ G.add (total-counted a (left_below k a b none)) (total-counted b (right_below k a b none))
        ∙ sym (sum_cong G k _ _
        (λ i h. ap (λ (n : ℕ). times n (f i)) (add_comm (occurs i a) (occurs i b)) ∙ times-add (occurs i a) (occurs i b) (f i))
        ∙ sum-add G L k (λ i. times (occurs i a) (f i)) (λ i. times (occurs i b) (f i)))

    pub total-once : (o : Order) → Once k o → total G f o ≡ sum G k f
    total-once o once =
        total-counted o (once-below k o once)
        ∙ sum_cong G k _ _
        (λ i h.
        ap (λ (n : ℕ). times n (f i)) (once i) ∙ times-one (ltb i k) (f i) (elements i h)
        ∙ choose-true (ltb i k) (f i) G.zero (lt-ltb i k h))

-- ---- there is an order: term k into what the terms before it gave, down to term 0

unfoldable pub in_turn : ℕ → Order
in_turn zero = term 0
in_turn (suc k) = term (suc k) into in_turn k

below_one : (i : ℕ) → eqb i 0 ≡ ltb i 1
below_one zero = refl
below_one (suc i) = eqb-suc-zero i ∙ sym (le-ltb (suc i) 1 (omega arith))

pub in_turn_once : (k : ℕ) → Once (suc k) (in_turn k)
unfolding in_turn occurs
in_turn_once zero i = ap (λ (t : Bool). choose t 1 0) (below_one i)
in_turn_once (suc k) i =
    ap (λ (n : ℕ). choose (eqb i (suc k)) 1 0 + n) (in_turn_once k i) ∙ either (eqb i (suc k)) (ltb i (suc k)) refl refl
  where
    either : (s t : Bool) → eqb i (suc k) ≡ s → ltb i (suc k) ≡ t → choose s 1 0 + choose t 1 0 ≡ choose (ltb i (suc (suc k))) 1 0
    either true true e f = absurd (let a = eqb-true i (suc k) e in let b = ltb-true i (suc k) f in omega arith)
    either true false e f = let a = eqb-true i (suc k) e in rw (lt-ltb i (suc (suc k)) (omega arith))
    either false true e f = let b = ltb-true i (suc k) f in rw (lt-ltb i (suc (suc k)) (omega arith))
    either false false e f =
        let a = eqb-false i (suc k) e in let b = ltb-false i (suc k) f in rw (le-ltb i (suc (suc k)) (omega arith))
