-- The words of a vector tested from its front. Assumes nothing.
use mathlib.Core.Bool.{Bool, true, false, ◌&&◌}
use mathlib.Core.List.{List, [], ◌∷◌}
use mathlib.Core.Path.{◌≡◌, refl, ap, ◌∙◌}
use Prim.Native.Nat.{ℕ, zero, suc}
use lib.Dec.{ltb}
use lib.ListN.{length}
use Rattle.std.specs.List.{list_all}
use Rattle.algebra.specs.Every.{every}
use Rattle.code.specs.Inner.Used.{word_below, all_below}

and-true : (a : Bool) → a ≡ (a && true)
and-true true = refl
and-true false = refl

and-and : (a b c : Bool) → ((a && b) && c) ≡ (a && (b && c))
and-and true b c = refl
and-and false b c = refl

-- the test at 0 first
every-front : (test : ℕ → Bool) (n : ℕ) → every (suc n) test ≡ (test 0 && every n (λ k. test (suc k)))
unfolding every
every-front test zero = and-true (test 0)
every-front test (suc n) = ap (λ (b : Bool). b && test (suc n)) (every-front test n) ∙ and-and (test 0) (every n (λ k. test (suc k))) (test (suc n))

pub all-each : (bound : ℕ) (words : List ℕ) → all_below bound words ≡ list_all (λ word. ltb word bound) words
unfolding all_below every
all-each bound [] = refl
all-each bound (w ∷ l) = every-front (word_below bound (w ∷ l)) (length l) ∙ ap (λ (b : Bool). ltb w bound && b) (all-each bound l)
