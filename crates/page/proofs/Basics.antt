-- The page's choice is the library's.
use mathlib.Core.Bool.{Bool, true, false}
use Rattle.algebra.specs.Choice.{choose}
use Rattle.page.specs.Document01 as page

pub if_both : {A B : Type 0} (R : A → B → Type 0) (t : Bool) (a a' : A) (b b' : B) → R a b → R a' b'
    → R (page.when◌then◌else◌ t a a') (choose t b b')
unfolding page.when◌then◌else◌
if_both R true a a' b b' p q = p
if_both R false a a' b b' p q = q
