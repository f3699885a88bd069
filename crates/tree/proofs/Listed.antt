-- Laws of lists by index.
use mathlib.Core.Path.{◌≡◌, refl, ap, ap₂, ◌∙◌}
use mathlib.Core.List.{List, [], ◌∷◌, ◌++◌}
use Prim.Native.Nat.{ℕ, zero, suc, ◌<◌}
use native.Mathlib.Nat.{not-suc-le-zero, le_of_suc-le-suc}
use native.Mathlib.Omega.{arith}
use lib.ListN.{length, get_or, length-append}
use Rattle.tree.specs.Tree.{listed}

pub length-listed : {A : Type 0} (n : ℕ) (f : ℕ → A) → length (listed n f) ≡ n
unfolding listed
length-listed zero f = refl
length-listed (suc n) f = omega (arith, length-append (listed n f) (f n ∷ []), length-listed n f)

pub listed-none : {A : Type 0} (f : ℕ → A) → listed 0 f ≡ []
unfolding listed
listed-none f = refl

-- the last value apart
pub listed-last : {A : Type 0} (n : ℕ) (f : ℕ → A) → listed (suc n) f ≡ listed n f ++ (f n ∷ [])
unfolding listed
listed-last n f = refl

-- the first value apart
pub listed-front : {A : Type 0} (n : ℕ) (f : ℕ → A) → listed (suc n) f ≡ f 0 ∷ listed n (λ k. f (suc k))
unfolding listed
listed-front zero f = refl
listed-front (suc n) f = ap (λ l. l ++ (f (suc n) ∷ [])) (listed-front n f)

-- value i
pub listed_at : {A : Type 0} (n : ℕ) (f : ℕ → A) (d : A) (i : ℕ) → i < n → get_or (listed n f) i d ≡ f i
listed_at zero f d i h = absurd (not-suc-le-zero h)
listed_at (suc n) f d zero h = rw listed-front
listed_at (suc n) f d (suc i) h = rw listed-front (listed_at n (λ k. f (suc k)) d i (le_of_suc-le-suc h))

-- equal values, equal lists
pub listed_cong : {A : Type 0} (n : ℕ) (f g : ℕ → A) → ((i : ℕ) → i < n → f i ≡ g i) → listed n f ≡ listed n g
unfolding listed
listed_cong zero f g e = refl
listed_cong (suc n) f g e =
    ap₂ (λ l a. l ++ (a ∷ [])) (listed_cong n f g (λ i h. e i (omega arith))) (e n (omega arith))

-- a list is its values by index
pub listed_get_d : {A : Type 0} (l : List A) (d : A) → listed (length l) (λ i. get_or l i d) ≡ l
listed_get_d [] d = listed-none (λ i. get_or [] i d)
listed_get_d (x ∷ l) d = listed-front (length l) (λ i. get_or (x ∷ l) i d) ∙ ap (λ m. x ∷ m) (listed_get_d l d)
