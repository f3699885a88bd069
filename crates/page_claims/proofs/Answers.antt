-- What follows from a call's answer alone: the slices lent to be read stay; 0 is returned exactly if every test is met, and then each
-- output is written; and values written over the front of a buffer are read off it.
use Prim.Native.Nat.{ℕ, zero, suc, ◌+◌, ◌*◌, ◌<◌}
use native.Mathlib.Nat.{suc-ne-zero, eq-or-lt_of_le, le_of_suc-le-suc, suc-mul}
use native.Mathlib.Omega.{arith}
use mathlib.Core.Path.{◌≡◌, refl, sym, ap, ap₂, ◌∙◌}
use mathlib.Core.Bool.{Bool, true, false, ◌&&◌, false≢true}
use mathlib.Core.List.{List, [], ◌∷◌, ◌++◌, map, append_assoc}
use mathlib.Core.Logic.{⊎_elim}
use lib.ListN.{length, get_or, length-append}
use lib.Seq.{get_or-append-add}
use lib.ListN as kit
use Rattle.tree.specs.Tree.{listed}
use Rattle.tree.proofs.Listed.{listed_cong, listed_get_d}
use Rattle.page.specs.Document01 as page
use Rattle.page_claims.specs.Statements as says

-- tests whose numbers are not 0
pub data Numbered : List page.Test → Type 0 where
  none : Numbered []
  more : {tests : List page.Test} (ok : Bool) (k : ℕ) → Numbered tests → Numbered (page.◌otherwise◌ ok (suc k) ∷ tests)

pub numbered_rooms : (outputs : List page.Output) → Numbered (map page.room outputs)
numbered_rooms [] = none
numbered_rooms (x ∷ outputs) = more _ _ (numbered_rooms outputs)

-- all are met
unfoldable pub met : List page.Test → Bool
met [] = true
met (page.◌otherwise◌ ok k ∷ tests) = ok && met tests

module _ (inputs : List (List ℕ)) (outputs : List page.Output) where
  pub inputs_stay : (tests : List page.Test) → (page.answer inputs outputs tests).inputs ≡ inputs
  unfolding page.answer page.when◌then◌else◌
  inputs_stay [] = refl
  inputs_stay (page.◌otherwise◌ true k ∷ tests) = inputs_stay tests
  inputs_stay (page.◌otherwise◌ false k ∷ tests) = refl

  pub accepted : {tests : List page.Test} → Numbered tests → met tests ≡ true → (page.answer inputs outputs tests).number ≡ 0
  unfolding met page.answer page.when◌then◌else◌
  accepted none e = refl
  accepted (more true k rest) e = accepted rest e
  accepted (more false k rest) e = absurd (false≢true e)

  pub all_met : {tests : List page.Test} → Numbered tests → (page.answer inputs outputs tests).number ≡ 0 → met tests ≡ true
  unfolding met page.answer page.when◌then◌else◌
  all_met none e = refl
  all_met (more true k rest) e = all_met rest e
  all_met (more false k rest) e = absurd (suc-ne-zero k e)

  pub all-written : {tests : List page.Test} → Numbered tests → (page.answer inputs outputs tests).number ≡ 0
      → (page.answer inputs outputs tests).outputs ≡ map (λ (buffer, l). page.front l buffer) outputs
  unfolding page.answer page.when◌then◌else◌
  all-written none e = refl
  all-written (more true k rest) e = all-written rest e
  all-written (more false k rest) e = absurd (suc-ne-zero k e)

-- ---- values read off a written buffer

module _ (w : ℕ) (f : ℕ → List ℕ) (wide : (k : ℕ) → length (f k) ≡ w) where
  joined_length : (c : ℕ) → length (page.joined c f) ≡ c * w
  unfolding page.joined
  joined_length zero = omega arith
  joined_length (suc c) =
      length-append (page.joined c f) (f c) ∙ ap₂ (λ (a b : ℕ). a + b) (joined_length c) (wide c) ∙ sym (suc-mul c w)

  joined_at : (c : ℕ) (rest : List ℕ) (k j : ℕ) → k < c → j < w → get_or (page.joined c f ++ rest) (k * w + j) 0 ≡ get_or (f k) j 0
  unfolding page.joined
  joined_at zero rest k j h g = absurd (omega arith)
  joined_at (suc c) rest k j h g =
      ap (λ (l : List ℕ). get_or l (k * w + j) 0) (append_assoc (page.joined c f) (f c) rest)
      ∙ ⊎_elim
      (λ (e : k ≡ c).
      ap (λ (x : ℕ). get_or (page.joined c f ++ (f c ++ rest)) x 0) (ap (λ (x : ℕ). x * w + j) e ∙ ap (λ (x : ℕ). x + j) (sym (joined_length c)))
      ∙ get_or-append-add (page.joined c f) (f c ++ rest) j 0
      ∙ kit.get_or-append (f c) rest 0 j (let l = wide c in omega (arith, l))
      ∙ ap (λ (x : ℕ). get_or (f x) j 0) (sym e))
      (λ s. joined_at c (f c ++ rest) k j s g)
      (eq-or-lt_of_le (le_of_suc-le-suc h))

pub reads_off : says.ReadsOff
unfolding page.list listed
reads_off S c f buffer wide k h =
    listed_cong S.width _ _ (λ j g. joined_at S.width f wide c _ k j h g)
    ∙ ap (λ (n : ℕ). listed n (λ j. get_or (f k) j 0)) (sym (wide k))
    ∙ listed_get_d (f k) 0
