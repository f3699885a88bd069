-- Eight entries, sums of them, and what the loops over callers do.
use mathlib.Core.Path.{◌≡◌, refl, sym, ◌∙◌}
use mathlib.Core.List.{List}
use Prim.Native.Nat.{ℕ, zero, suc, ◌+◌, ◌≤◌, ◌<◌, min}
use native.Mathlib.Numerals.{add-one}
use native.Mathlib.Omega.{arith}
use lib.Dec.{ltb}
use lib.ListN.{length, get_or, set, replicate, length-set, get_or-eq_default}
use lib.Seq.{ext_get_or, get_or-set_same, get_or-set_other}
use borrow.Author.Tests.{lt-ltb, le-ltb}
use Rattle.algebra.specs.Choice.{choose}
use Rattle.stock.specs.Stock.{sum_of, eight, entries}
use Rattle.stock.proofs.Cases.{by_order, by_equality}

-- ---- entries

eight-at : (f : ℕ → ℕ) (k : ℕ) → k < 8 → get_or (eight f) k 0 ≡ f k
eight-at f zero h = refl
eight-at f (suc zero) h = refl
eight-at f (suc (suc zero)) h = refl
eight-at f (suc (suc (suc zero))) h = refl
eight-at f (suc (suc (suc (suc zero)))) h = refl
eight-at f (suc (suc (suc (suc (suc zero))))) h = refl
eight-at f (suc (suc (suc (suc (suc (suc zero)))))) h = refl
eight-at f (suc (suc (suc (suc (suc (suc (suc zero))))))) h = refl
eight-at f (suc (suc (suc (suc (suc (suc (suc (suc k)))))))) h = absurd (omega arith)

pub entries-length : (n : ℕ) (f : ℕ → ℕ) → length (entries n f) ≡ 8
unfolding entries
entries-length n f = refl

entries_at : (n : ℕ) (f : ℕ → ℕ) (k : ℕ) → k < 8 → get_or (entries n f) k 0 ≡ choose (ltb k n) (f k) 0
unfolding entries
entries_at n f k h = eight-at (λ k. choose (ltb k n) (f k) 0) k h

pub entries_in : (n : ℕ) (f : ℕ → ℕ) (k : ℕ) → k < 8 → k < n → get_or (entries n f) k 0 ≡ f k
entries_in n f k h w = entries_at n f k h ∙ rw (lt-ltb k n w)

pub entries_past : (n : ℕ) (f : ℕ → ℕ) (k : ℕ) → n ≤ k → get_or (entries n f) k 0 ≡ 0
entries_past n f k h =
    by_order k 8
    (λ w. entries_at n f k w ∙ rw (le-ltb k n h))
    (λ p. get_or-eq_default (entries n f) 0 (rw entries-length p))

-- two lists of eight are equal by their entries
eights : (l m : List ℕ) → length l ≡ 8 → length m ≡ 8 → ((k : ℕ) → k < 8 → get_or l k 0 ≡ get_or m k 0) → l ≡ m
eights l m p q all = ext_get_or 0 l m (cc) (λ k h. all k (omega arith))

pub entries_none : (f : ℕ → ℕ) → replicate 8 0 ≡ entries 0 f
unfolding entries
entries_none f = refl

pub entries_more : (f : ℕ → ℕ) (k v : ℕ) → k < 8 → v ≡ f k → set (entries k f) k v ≡ entries (k + 1) f
entries_more f k v h e =
    eights _ _ (length-set (entries k f) k v ∙ entries-length k f) (entries-length (k + 1) f) λ i w.
    by_order i k
    (λ b. get_or-set_other (entries k f) k i v 0 (λ q. omega arith) ∙ entries_in k f i w b ∙ sym (entries_in (k + 1) f i w (omega arith)))
    (λ a. by_equality i k
    (λ q. rw q (get_or-set_same (entries k f) k v 0 (rw entries-length h) ∙ e ∙ sym (entries_in (k + 1) f k h (omega arith))))
    (λ q. get_or-set_other (entries k f) k i v 0 q ∙ entries_past k f i a ∙ sym (entries_past (k + 1) f i (omega arith))))

pub entries-min : (n : ℕ) (f : ℕ → ℕ) → entries (min 8 n) f ≡ entries n f
entries-min n f =
    eights _ _ (entries-length (min 8 n) f) (entries-length n f) λ i w.
    by_order i n
    (λ b. entries_in (min 8 n) f i w (omega arith) ∙ sym (entries_in n f i w b))
    (λ a. entries_past (min 8 n) f i (omega arith) ∙ sym (entries_past n f i a))

-- ---- sums

pub sum-none : (f : ℕ → ℕ) → sum_of 0 f ≡ 0
unfolding sum_of
sum-none f = refl

pub sum-suc : (n : ℕ) (f : ℕ → ℕ) → sum_of (suc n) f ≡ sum_of n f + f n
unfolding sum_of
sum-suc n f = refl

pub sum-one_more : (n : ℕ) (f : ℕ → ℕ) → sum_of (n + 1) f ≡ sum_of n f + f n
sum-one_more n f = rw add-one (sum-suc n f)

pub sum_same : (n : ℕ) (f g : ℕ → ℕ) → ((k : ℕ) → k < n → f k ≡ g k) → sum_of n f ≡ sum_of n g
unfolding sum_of
sum_same zero f g same = refl
sum_same (suc n) f g same = rw (sum_same n f g (λ k h. same k (omega arith)), same n (omega arith))

pub sum_grows : (m n : ℕ) (f : ℕ → ℕ) → m ≤ n → sum_of m f ≤ sum_of n f
unfolding sum_of
sum_grows m zero f h = let e : m ≡ 0 = omega arith in rw e (omega arith)
sum_grows m (suc n) f h =
    by_order n m
    (λ b. let e : m ≡ suc n = omega arith in rw e (omega arith))
    (λ a. let ih = sum_grows m n f a in omega arith)

-- past the entries that are zero a sum stays
pub sum_stays : (m n : ℕ) (f : ℕ → ℕ) → m ≤ n → ((k : ℕ) → m ≤ k → f k ≡ 0) → sum_of n f ≡ sum_of m f
unfolding sum_of
sum_stays m zero f h none = let e : m ≡ 0 = omega arith in rw e
sum_stays m (suc n) f h none =
    by_order n m
    (λ b. let e : m ≡ suc n = omega arith in rw e)
    (λ a. let ih = sum_stays m n f a none in let z = none n a in omega arith)

-- a sum with one entry less by c
pub sum_less : (n k c : ℕ) (f g : ℕ → ℕ) → k < n → f k ≡ g k + c → ((j : ℕ) → (j ≡ k → ⊥) → f j ≡ g j) → sum_of n f ≡ sum_of n g + c
unfolding sum_of
sum_less zero k c f g h less same = absurd (omega arith)
sum_less (suc n) k c f g h less same =
    by_equality n k
    (λ e. let rest = sum_same n f g (λ j b. same j (λ q. omega arith)) in
    let here : f n ≡ g n + c = rw e less in omega arith)
    (λ d. let ih = sum_less n k c f g (by_order k n (λ b. b) (λ a. absurd (d (omega arith)))) less same in
    let here = same n d in omega arith)
