-- What a record is said to be is what its end reads.
use Prim.Native.Nat.{ℕ}
use mathlib.Core.Path.{◌≡◌, refl, sym, ap, ◌∙◌}
use mathlib.Core.Bool.{Bool, true, false, ◌||◌}
use mathlib.Core.List.{List}
use mathlib.Core.Logic.{◌⊎◌, inl, inr, ⊎_elim}
use native.Mathlib.Omega.{arith}
use lib.Dec.{eqb}
use Rattle.page.specs.Document01 as page
use Rattle.page_claims.specs.Statements as first
use Rattle.page_two.specs.Document02 as page2
use Rattle.page_two_claims.specs.Statements as says

module _ (s : List ℕ) where
  abbrev Noise : page2.Description → Type 0
  Noise d = (h : page.Head) × (trees : List page.Tree) × first.Gives (page.read_noise s 0) (h, trees) × (d ≡ page2.described s 1 h)

  abbrev Scalar : page2.Description → Type 0
  Scalar d =
      (h : page.Head) × (Δ : List ℕ) × (roots : List (List ℕ)) × first.Gives (page.read_scalar s 0) (h, Δ, roots) × (d
      ≡ page2.described s 2 h)

  abbrev Refused : page2.Description → Type 0
  Refused d = (k : ℕ) × (d ≡ page2.undescribed s k)

  abbrev Said : page2.Description → Type 0
  Said d = Noise d ⊎ Scalar d ⊎ Refused d

  noise-said : (r : page.Read (page.Head × List page.Tree)) → page.read_noise s 0 ≡ r
      → Said (page2.or_undescribed s r (λ (h, trees). page2.described s 1 h))
  unfolding page2.or_undescribed
  noise-said (page.got x next) e = inl (x.0, x.1, (next, e), refl)
  noise-said (page.fault k) e = inr (inr (k, refl))

  scalar-said : (r : page.Read (page.Head × List ℕ × List (List ℕ))) → page.read_scalar s 0 ≡ r
      → Said (page2.or_undescribed s r (λ (h, Δ, roots). page2.described s 2 h))
  unfolding page2.or_undescribed
  scalar-said (page.got x next) e = inr (inl (x.0, x.1, x.2, (next, e), refl))
  scalar-said (page.fault k) e = inr (inr (k, refl))

  by_end_lem : (t : Bool)
      → Said (page.when◌then◌else◌ t (page2.or_undescribed s (page.read_noise s 0) (λ (h, trees). page2.described s 1 h))
      (page2.or_undescribed s (page.read_scalar s 0) (λ (h, Δ, roots). page2.described s 2 h)))
  unfolding page.when◌then◌else◌
  by_end_lem true = noise-said (page.read_noise s 0) refl
  by_end_lem false = scalar-said (page.read_scalar s 0) refl

  by_byte : (r : page.Read ℕ)
      → Said (page2.or_undescribed s r λ e.
      page.when◌then◌else◌ (eqb e 1) (page2.or_undescribed s (page.read_noise s 0) (λ (h, trees). page2.described s 1 h))
      (page2.or_undescribed s (page.read_scalar s 0) (λ (h, Δ, roots). page2.described s 2 h)))
  unfolding page2.or_undescribed
  by_byte (page.got e next) = by_end_lem (eqb e 1)
  by_byte (page.fault k) = inr (inr (k, refl))

  said : Said (page2.describe s)
  unfolding page2.describe
  said = by_byte (page.test page.read_byte (λ e. eqb e 1 || eqb e 2) 9 s 0)

abbrev end_of : page2.Description → ℕ
end_of d = d.end

pub descriptions : says.Descriptions
descriptions =
    record {
      noise = λ s e.
          ⊎_elim (λ (N : Noise s (page2.describe s)). N)
          (⊎_elim
          (λ (S : Scalar s (page2.describe s)). let z = sym (ap end_of S.4) ∙ e in absurd (omega arith))
          (λ (R : Refused s (page2.describe s)). let z = sym (ap end_of R.1) ∙ e in absurd (omega arith)))
          (said s);
      scalar = λ s e.
          ⊎_elim (λ (N : Noise s (page2.describe s)). let z = sym (ap end_of N.3) ∙ e in absurd (omega arith))
          (⊎_elim
          (λ (S : Scalar s (page2.describe s)). S)
          (λ (R : Refused s (page2.describe s)). let z = sym (ap end_of R.1) ∙ e in absurd (omega arith)))
          (said s);
      neither = λ s one two.
          ⊎_elim (λ (N : Noise s (page2.describe s)). absurd (one (ap end_of N.3)))
          (⊎_elim
          (λ (S : Scalar s (page2.describe s)). absurd (two (ap end_of S.4)))
          (λ (R : Refused s (page2.describe s)). R.1 ∙ ap (page2.undescribed s) (sym (ap (λ (d : page2.Description). d.number) R.1))))
          (said s);
    }
