-- Laws of picked calls, and of the last accepted passage in a list of made calls.
use mathlib.Core.Path.{◌≡◌, refl, ap}
use mathlib.Core.Bool.{Bool, true, false, ◌||◌}
use mathlib.Core.List.{List, [], ◌∷◌, ◌++◌}
use Prim.Native.Nat.{ℕ, ◌+◌}
use native.Mathlib.Omega.{arith}
use Rattle.algebra.specs.Choice.{choose}
use Rattle.stock.proofs.Cases.{by_test}
use Rattle.stock.specs.Lists.{Call, StockMade, any_of, accepted_passage, handed_by, handed, up_to_passage, since_passage, outputs_of, outputs_in}

-- ---- picked calls

module _ {A : Type 0} (p : A → Bool) (a : A) (l : List A) where
  pub some_in : p a ≡ true → any_of p (a ∷ l) ≡ true
  unfolding any_of
  some_in e = rw e

  pub some_out : p a ≡ false → any_of p (a ∷ l) ≡ any_of p l
  unfolding any_of
  some_out e = rw e

-- with one more at the end
module _ {A : Type 0} (p : A → Bool) (a : A) where
  some_more : (l : List A) → p a ≡ true → any_of p (l ++ (a ∷ [])) ≡ true
  unfolding any_of
  some_more [] e = rw e
  some_more (b ∷ l) e = by_test (p b) (λ y. rw y) (λ n. rw n (some_more l e))

  some_same : (l : List A) → p a ≡ false → any_of p (l ++ (a ∷ [])) ≡ any_of p l
  unfolding any_of
  some_same [] e = rw e
  some_same (b ∷ l) e = ap (λ (t : Bool). p b || t) (some_same l e)

-- ---- the last accepted passage

-- with one more accepted passage
module _ (m : StockMade) (y : accepted_passage m ≡ true) where
  pub up_to_passed : (h : List StockMade) → up_to_passage (h ++ (m ∷ [])) ≡ h ++ (m ∷ [])
  unfolding up_to_passage
  up_to_passed [] = cc (some_more accepted_passage m [] y)
  up_to_passed (a ∷ h) = cc (some_more accepted_passage m (a ∷ h) y, up_to_passed h)

  pub since_passed : (h : List StockMade) → since_passage (h ++ (m ∷ [])) ≡ []
  unfolding since_passage
  since_passed [] = cc (some_more accepted_passage m [] y)
  since_passed (a ∷ h) = cc (some_more accepted_passage m (a ∷ h) y, since_passed h)

-- with one more call that is none
module _ (m : StockMade) (n : accepted_passage m ≡ false) where
  pub up_to_not : (h : List StockMade) → up_to_passage (h ++ (m ∷ [])) ≡ up_to_passage h
  unfolding up_to_passage any_of
  up_to_not [] = cc (some_same accepted_passage m [] n)
  up_to_not (a ∷ h) = cc (some_same accepted_passage m (a ∷ h) n, up_to_not h)

  pub since_not : (h : List StockMade) → since_passage (h ++ (m ∷ [])) ≡ since_passage h ++ (m ∷ [])
  unfolding since_passage any_of
  since_not [] = cc (some_same accepted_passage m [] n)
  since_not (a ∷ h) =
      let e = some_same accepted_passage m (a ∷ h) n in
      by_test (any_of accepted_passage (a ∷ h)) (λ t. cc (e, t, since_not h)) (λ t. cc (e, t))

module _ (m : StockMade) where
  pub outputs_more : (n : ℕ) (h : List StockMade) → outputs_in n (h ++ (m ∷ [])) ≡ choose (accepted_passage m) (outputs_of m.call) (outputs_in n h)
  unfolding outputs_in
  outputs_more n [] = refl
  outputs_more n (a ∷ h) = outputs_more (choose (accepted_passage a) (outputs_of a.call) n) h

  pub handed_more : (p : Call → Bool) (h : List StockMade) → handed p (h ++ (m ∷ [])) ≡ handed p h + handed_by p m
  unfolding handed
  handed_more p [] = omega arith
  handed_more p (a ∷ h) = let ih = handed_more p h in omega arith
