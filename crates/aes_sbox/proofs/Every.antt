-- A test that passes at each entry of a list, as one computed test and as a law of each entry. Assumes nothing.
use mathlib.Core.Path.{subst}
use mathlib.Core.Bool.{Bool, true, false}
use mathlib.Core.List.{List, [], ◌∷◌}
use Prim.Native.Nat.{ℕ, zero, suc, ◌+◌, ◌<◌}
use native.Mathlib.Nat.{zero-add}
use native.Mathlib.Omega.{arith}
use lib.Dec.{T, eqb, eqb→eq}
use lib.ListN.{length, get_or}

abbrev pub both : Bool → Bool → Bool
both true b = b
both false b = false

abbrev pub either : Bool → Bool → Bool
either true b = true
either false b = b

pub both_left : (a b : Bool) → T (both a b) → T a
both_left true b t = tt
both_left false b t = t

pub both_right : (a b : Bool) → T (both a b) → T b
both_right true b t = t
both_right false b t = absurd t

-- f passes at each place, counted from i, with what stands there
abbrev pub every : (ℕ → ℕ → Bool) → ℕ → List ℕ → Bool
every f i [] = true
every f i (x ∷ xs) = both (f i x) (every f (suc i) xs)

from : (f : ℕ → ℕ → Bool) (xs : List ℕ) (i : ℕ) → T (every f i xs) → (k : ℕ) → k < length xs → T (f (i + k) (get_or xs k 0))
from f [] i t k h = absurd (omega arith)
from f (x ∷ xs) i t zero h = rw native.Mathlib.Nat.add-zero (both_left (f i x) (every f (suc i) xs) t)
from f (x ∷ xs) i t (suc k) h =
    subst (λ (m : ℕ). T (f m (get_or xs k 0))) (omega arith)
    (from f xs (suc i) (both_right (f i x) (every f (suc i) xs) t) k (omega arith))

-- the list has n entries, and f passes at each
abbrev pub passes : (ℕ → ℕ → Bool) → ℕ → List ℕ → Bool
passes f n xs = both (eqb (length xs) n) (every f 0 xs)

pub at : (f : ℕ → ℕ → Bool) (n : ℕ) (xs : List ℕ) → T (passes f n xs) → (k : ℕ) → k < n → T (f k (get_or xs k 0))
at f n xs t k h =
    rw zero-add at
    (from f xs 0 (both_right (eqb (length xs) n) (every f 0 xs) t) k
    (rw (eqb→eq (length xs) n (both_left (eqb (length xs) n) (every f 0 xs) t)) h))
