-- The words of a vector, for any coding: accumulated, with one value stored, written one value a turn, and copied from another
-- buffer's front.
use mathlib.Core.Path.{◌≡◌, refl, sym, ap, ◌∙◌}
use mathlib.Core.Bool.{Bool, true, false}
use mathlib.Core.List.{List, ◌++◌}
use Prim.Native.Nat.{ℕ, suc, ◌+◌, ◌*◌, ◌≤◌, ◌<◌}
use native.Mathlib.Nat.{suc-mul, mul-le-mul_right}
use native.Mathlib.Omega.{arith}
use lib.Dec.{eqb}
use lib.ListN.{length, take, drop}
use borrow.Author.Tests.{eqb-true, eqb-false}
use Rattle.algebra.specs.Choice.{choose}
use Rattle.algebra.specs.Coding.{Coding, CodingLaws, at, flat, over}
use Rattle.algebra.specs.Inner.Put.{put}
use Rattle.algebra.specs.Group.{Group}
use Rattle.algebra.specs.Sum.{accumulate}
use Rattle.algebra.proofs.Coding.{flat_cong, length-flat, at_flat, ext_at, length-put, at_put-same, at_put-other, take-over}
use Rattle.algebra.proofs.Sum.{sum_cong}
use Rattle.algebra.proofs.Written.{front-put}

-- the words of f accumulated are those of the accumulated f
pub flat-accumulated : (G : Group) (C : Coding G.Of) → CodingLaws C → (N : ℕ) (f : ℕ → G.Of) {w next : List ℕ} → w ≡ flat C N f
    → next ≡ flat C N (accumulate G (at C w)) → next ≡ flat C N (accumulate G f)
unfolding accumulate
flat-accumulated G C L N f {w} e q =
    q ∙ flat_cong C L N _ _ (λ j b. sum_cong G (suc j) (at C w) f (λ m c. ap (λ (l : List ℕ). at C l m) e ∙ at_flat C L N f m (omega arith)))

-- one value more over a buffer's front
pub value-put : {A : Type 0} (C : Coding A) → CodingLaws C → (f : ℕ → A) (b : List ℕ) (k : ℕ) {l : List ℕ} → l ≡ over C k f b
    → {x : A} {next : List ℕ} → next ≡ put C l k x → x ≡ f k → next ≡ over C (k + 1) f b
value-put C L f b k {l} e {x} {next} p same = front-put C L.length-words f b k l next e (p ∙ ap (put C l k) same)

-- n values over the front of one buffer, copied over the front of another
pub front-over : {A : Type 0} (C : Coding A) → CodingLaws C → (n : ℕ) (f : ℕ → A) (own out : List ℕ) {x next : List ℕ} {m : ℕ} → x ≡ over C n f own
    → m ≡ n * C.width → next ≡ take m x ++ drop m out → next ≡ over C n f out
unfolding over
front-over C L n f own out e h p =
    p ∙ rw (h, e) (ap (λ (l : List ℕ). l ++ drop (n * C.width) out) (take-over C L n f own))

module _ {A : Type 0} (C : Coding A) (L : CodingLaws C) (N : ℕ) (f : ℕ → A) (p : ℕ) (a : A) (below : p < N) where
  -- value i has its words
  room : (i : ℕ) → i < N → i * C.width + C.width ≤ length (flat C N f)
  room i h = let m = mul-le-mul_right C.width h in omega (arith, length-flat C L N f, suc-mul i C.width)

  -- a value stored at p
  pub put-flat : put C (flat C N f) p a ≡ flat C N (λ j. choose (eqb p j) a (f j))
  put-flat =
      ext_at C L N (put C (flat C N f) p a) (flat C N (λ j. choose (eqb p j) a (f j)))
      (length-put C L (flat C N f) p a (room p below) ∙ length-flat C L N f)
      (length-flat C L N (λ j. choose (eqb p j) a (f j)))
      (λ j h. same j h (eqb p j) refl ∙ sym (at_flat C L N (λ j. choose (eqb p j) a (f j)) j h))
    where
      same : (j : ℕ) → j < N → (t : Bool) → eqb p j ≡ t → at C (put C (flat C N f) p a) j ≡ choose (eqb p j) a (f j)
      same j h true e =
          rw e (ap (λ (i : ℕ). at C (put C (flat C N f) p a) i) (sym (eqb-true p j e))
          ∙ at_put-same C L (flat C N f) p a (let m = room p below in omega arith))
      same j h false e =
          rw e (at_put-other C L (flat C N f) p j a (λ q. eqb-false p j e (sym q)) (room p below) (room j h) ∙ at_flat C L N f j h)
