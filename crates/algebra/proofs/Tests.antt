-- Tests joined by `&&` and `||`, and a chain of tests that gives a number.
use mathlib.Core.Path.{◌≡◌, refl, sym}
use mathlib.Core.Bool.{Bool, true, false, ◌&&◌, ◌||◌, not, false≢true}
use mathlib.Core.Logic.{◌⊎◌, inl, inr}
use Prim.Native.Nat.{ℕ, suc}
use native.Mathlib.Omega.{arith}
use Rattle.algebra.specs.Choice.{choose}

pub and_left : (a b : Bool) → (a && b) ≡ true → a ≡ true
and_left true b e = refl
and_left false b e = absurd (false≢true e)

pub and_right : (a b : Bool) → (a && b) ≡ true → b ≡ true
and_right true b e = e
and_right false b e = absurd (false≢true e)

pub and_both : {a b : Bool} → a ≡ true → b ≡ true → (a && b) ≡ true
and_both {a} {b} p q = rw (p, q)

pub and-false : (a b : Bool) → b ≡ false → (a && b) ≡ false
and-false true b e = e
and-false false b e = refl

pub or_cases : (a b : Bool) → (a || b) ≡ true → (a ≡ true) ⊎ (b ≡ true)
or_cases true b e = inl refl
or_cases false b e = inr e

pub or_none : (a b : Bool) → (a || b) ≡ false → (a ≡ false) × (b ≡ false)
or_none true b e = absurd (false≢true (sym e))
or_none false b e = (refl, e)

-- a chain of tests gives zero only where every test passes
pub passed : (t : Bool) (k rest : ℕ) → choose (not t) (suc k) rest ≡ 0 → (t ≡ true) × (rest ≡ 0)
passed true k rest e = (refl, e)
passed false k rest e = absurd (omega arith)

pub passes : {t : Bool} (k : ℕ) {rest : ℕ} → t ≡ true → rest ≡ 0 → choose (not t) k rest ≡ 0
passes {t} k {rest} p q = rw (p, q)

-- tests that hold together have one value
pub together : (s t : Bool) → (s ≡ true → t ≡ true) → (t ≡ true → s ≡ true) → s ≡ t
together true t f g = sym (f refl)
together false true f g = g refl
together false false f g = refl
