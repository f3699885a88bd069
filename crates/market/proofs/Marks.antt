-- The mark of the lowest level at which a test holds. Assumes nothing.
use Prim.Native.Nat.{ℕ, zero, suc, ◌+◌, ◌<◌, ◌≤◌}
use mathlib.Core.Bool.{Bool, true, false}
use mathlib.Core.List.{List, [], ◌∷◌}
use mathlib.Core.Logic.{◌⊎◌, inl, inr}
use mathlib.Core.Path.{◌≡◌, refl, sym, ap, ap₂, ◌∙◌, subst}
use borrow.Author.Tests.{eq-eqb, ne_eqb}
use native.Mathlib.Omega.{arith}
use lib.Bits.{bit_xor, bit_and}
use lib.Dec.{eqb}
use Rattle.algebra.specs.Choice.{choose}
use Rattle.number.proofs.Places.{split}
use Rattle.market.specs.Circuit.{marks_above, marks}
use Rattle.market.proofs.Holds.{From, end, more, from-map, Gives, holds-give, holds_then, holds-map, gives-xor, gives-and, gives-invert}
use Rattle.market.proofs.Words.{product}

-- of n numbers from k the first at which a test holds, else 0
unfoldable pub lowest_from : (ℕ → Bool) → ℕ → ℕ → ℕ
lowest_from p k zero = 0
lowest_from p k (suc n) = choose (p k) k (lowest_from p (suc k) n)

-- so it is
abbrev pub Found : (ℕ → Bool) → ℕ → ℕ → ℕ → Type 0
Found p k n j =
    ((k ≤ j) × (j < k + n) × (p j ≡ true) × ((i : ℕ) → k ≤ i → i < j → p i ≡ false))
    ⊎ ((j ≡ 0) × ((i : ℕ) → k ≤ i → i < k + n → p i ≡ false))

pub lowest-found : (p : ℕ → Bool) (k n : ℕ) → Found p k n (lowest_from p k n)
unfolding lowest_from
lowest-found p k zero = inr (refl, λ i h g. absurd (omega (arith, h, g)))
lowest-found p k (suc n) = at (p k) refl (lowest-found p (suc k) n)
  where
    before : {i : ℕ} → p k ≡ false → k ≤ i → (suc k ≤ i → p i ≡ false) → p i ≡ false
    before {i} e h f = split k i f (λ g. subst (λ (m : ℕ). p m ≡ false) {x = k} {y = i} (omega (arith, h, g)) e)

    at : (t : Bool) → p k ≡ t → Found p (suc k) n (lowest_from p (suc k) n) → Found p k (suc n) (choose t k (lowest_from p (suc k) n))
    at true e f = inl (omega arith, omega arith, e, λ i h g. absurd (omega (arith, h, g)))
    at false e (inl f) = inl (omega (arith, f.0), omega (arith, f.1), f.2, λ i h g. before e h (λ l. f.3 i l g))
    at false e (inr f) = inr (f.0, λ i h g. before e h (λ l. f.1 i l (omega (arith, g))))

-- the mark of level j at level i
abbrev pub mark : ℕ → ℕ → ℕ
mark i j = choose (eqb i j) 1 0

pub mark_here : (i j : ℕ) → i ≡ j → mark i j ≡ 1
mark_here i j e = ap (λ (b : Bool). choose b 1 0) (eq-eqb i j e)

pub mark_elsewhere : (i j : ℕ) → (i ≡ j → ⊥) → mark i j ≡ 0
mark_elsewhere i j e = ap (λ (b : Bool). choose b 1 0) (ne_eqb i j e)

module _ (v : ℕ → ℕ) (bits : (w : ℕ) → v w < 2) where
  -- a wire that is 1 where a test holds, and one that marks level j
  abbrev pub Tests : (ℕ → Bool) → ℕ → ℕ → Type 0
  Tests p i w = v w ≡ choose (p i) 1 0

  abbrev pub Marks : ℕ → ℕ → ℕ → Type 0
  Marks j i w = v w ≡ mark i j

  marks-none : {R : ℕ → ℕ → Type 0} {k n : ℕ} {ms : List ℕ} (none : ℕ) → v none ≡ 0 → From R k n ms
      → Gives v (marks_above none ms) (From (λ i w. v w ≡ 0) k n)
  unfolding marks_above
  marks-none none e end = holds-give [] end
  marks-none none e (more {x = m} r s) =
      holds_then (gives-and v m none) λ l el.
      let z : v l ≡ 0 = el ∙ ap (bit_and (v m)) e ∙ product (bits m) (omega arith) ∙ omega arith in
      holds_then (gives-xor v none l) λ none' en.
      holds_then (marks-none none' (en ∙ ap₂ bit_xor e z) s) λ ls f.
      holds-give (l ∷ ls) (more z f)

  -- no level from k on is marked if the marked one is below
  past : (j : ℕ) {k n : ℕ} {ws : List ℕ} → j < k → From (λ i w. v w ≡ 0) k n ws → From (Marks j) k n ws
  past j {k} h = from-map (λ i w g l e. e ∙ sym (mark_elsewhere i j (λ q. omega (arith, h, g, q))))

  -- one level: its mark l, and whether none up to it holds
  marked : (p : ℕ → Bool) (k n l none : ℕ) (ms : List ℕ) → 1 ≤ k → From (Tests p) (suc k) n ms
      → (v none ≡ 1 → Gives v (marks_above none ms) (From (Marks (lowest_from p (suc k) n)) (suc k) n))
      → (t : Bool) → v l ≡ choose t 1 0 → v none ≡ choose t 0 1
      → Gives v (marks_above none ms) (λ ls. From (Marks (choose t k (lowest_from p (suc k) n))) k (suc n) (l ∷ ls))
  marked p k n l none ms h s next true el en =
      holds-map (λ ls f. more (el ∙ sym (mark_here k k refl)) (past k (omega arith) f)) (marks-none none en s)
  marked p k n l none ms h s next false el en =
      holds-map (λ ls f. more (el ∙ sym (mark_elsewhere k _ (λ e. apart _ e (lowest-found p (suc k) n)))) f) (next en)
    where
      apart : (j : ℕ) → k ≡ j → Found p (suc k) n j → ⊥
      apart j e (inl f) = omega (arith, e, f.0)
      apart j e (inr f) = omega (arith, h, e, f.0)

  kept : (t : Bool) → bit_and (choose t 1 0) 1 ≡ choose t 1 0
  kept true = refl
  kept false = refl

  left : (t : Bool) → bit_xor 1 (choose t 1 0) ≡ choose t 0 1
  left true = refl
  left false = refl

  flipped : (t : Bool) → bit_xor (choose t 1 0) 1 ≡ choose t 0 1
  flipped true = refl
  flipped false = refl

  marks_on : (p : ℕ → Bool) {k n : ℕ} {ms : List ℕ} (none : ℕ) → 1 ≤ k → v none ≡ 1 → From (Tests p) k n ms
      → Gives v (marks_above none ms) (From (Marks (lowest_from p k n)) k n)
  unfolding marks_above lowest_from
  marks_on p none h e end = holds-give [] end
  marks_on p {k} none h e (more {n = n} {x = m} {xs = ms} r s) =
      holds_then (gives-and v m none) λ l el.
      holds_then (gives-xor v none l) λ none' en.
      let z : v l ≡ choose (p k) 1 0 = el ∙ ap₂ bit_and r e ∙ kept (p k) in
      holds_then (marked p k n l none' ms h s (λ o. marks_on p none' (omega arith) o s) (p k) z (en ∙ ap₂ bit_xor e z ∙ left (p k))) λ ls f.
      holds-give (l ∷ ls) f

  pub gives-marks : (p : ℕ → Bool) {n : ℕ} {ms : List ℕ} → From (Tests p) 1 n ms → Gives v (marks ms) (From (Marks (lowest_from p 1 n)) 1 n)
  unfolding marks lowest_from
  gives-marks p end = holds-give [] end
  gives-marks p (more {n = n} {x = m} {xs = ms} r s) =
      holds_then (gives-invert v m) λ none en.
      let e : v none ≡ choose (p 1) 0 1 = en ∙ ap (λ (x : ℕ). bit_xor x 1) r ∙ flipped (p 1) in
      holds_then (marked p 1 n m none ms (omega arith) s (λ o. marks_on p none (omega arith) o s) (p 1) r e) λ ls f.
      holds-give (m ∷ ls) f
