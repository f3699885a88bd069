-- The sum of two words, and which of two is less, as numbers. Assumes nothing.
use Prim.Native.Nat.{ℕ, suc, ◌+◌, ◌*◌, ◌-◌, ◌^◌, ◌<◌, ◌≤◌}
use mathlib.Core.Bool.{Bool, true, false, ◌&&◌}
use mathlib.Core.List.{List, [], ◌∷◌}
use mathlib.Core.Path.{◌≡◌, refl, sym, ap, ap₂, ◌∙◌, subst}
use borrow.Author.Tests.{eqb-true, ltb-true, le-leb, lt-leb}
use native.Mathlib.Nat.{pow-suc, mul_assoc}
use native.Mathlib.Omega.{arith}
use lib.Bits.{bit_xor, bit_and}
use lib.Dec.{eqb, leb, ltb}
use lib.ListN.{length}
use Rattle.algebra.proofs.Tests.{and_left, and_right}
use Rattle.algebra.specs.Choice.{choose}
use Rattle.number.proofs.Places.{split}
use Rattle.market.specs.Building.{each, invert}
use Rattle.market.specs.Circuit.{carries, higher_sum, sum, last, highest_carry, less, Total, meets}
use Rattle.market.proofs.Holds.{Gives, holds-give, holds_then, holds-map, gives-xor, gives-and, gives-invert}

-- a test of bits holds if it does of 0 and of 1
unfoldable pub every : (ℕ → Bool) → Bool
every t = t 0 && t 1

pub at_bit : (t : ℕ → Bool) → every t ≡ true → {x : ℕ} → x < 2 → t x ≡ true
unfolding every
at_bit t e {x} h =
    split x 1
    (λ l. subst (λ (n : ℕ). t n ≡ true) {x = 0} {y = x} (omega arith) (and_left (t 0) (t 1) e))
    (λ g. subst (λ (n : ℕ). t n ≡ true) {x = 1} {y = x} (omega arith) (and_right (t 0) (t 1) e))

-- one bit of a sum, and the carry
pub full : {a b g : ℕ} → a < 2 → b < 2 → g < 2
    → a + b + g ≡ bit_xor (bit_xor a b) g + 2 * bit_xor g (bit_and (bit_xor a g) (bit_xor b g))
unfolding every
full {a} {b} {g} h k l =
    let t : ℕ → ℕ → ℕ → Bool = λ x y z. eqb (x + y + z) (bit_xor (bit_xor x y) z + 2 * bit_xor z (bit_and (bit_xor x z) (bit_xor y z))) in
    eqb-true _ _ (at_bit (t a b) (at_bit (λ y. every (t a y)) (at_bit (λ x. every (λ y. every (t x y))) refl h) k) l)

pub half : {a b : ℕ} → a < 2 → b < 2 → a + b ≡ bit_xor a b + 2 * bit_and a b
unfolding every
half {a} {b} h k =
    eqb-true _ _
    (at_bit (λ y. eqb (a + y) (bit_xor a y + 2 * bit_and a y))
    (at_bit (λ x. every (λ y. eqb (x + y) (bit_xor x y + 2 * bit_and x y))) refl h) k)

pub not-bit : {a : ℕ} → a < 2 → a + bit_xor a 1 ≡ 1
unfolding every
not-bit {a} h = eqb-true _ _ (at_bit (λ x. eqb (x + bit_xor x 1) 1) refl h)

pub xor_below : {a b : ℕ} → a < 2 → b < 2 → bit_xor a b < 2
unfolding every
xor_below {a} {b} h k =
    ltb-true _ _ (at_bit (λ y. ltb (bit_xor a y) 2) (at_bit (λ x. every (λ y. ltb (bit_xor x y) 2)) refl h) k)

pub product : {a b : ℕ} → a < 2 → b < 2 → bit_and a b ≡ a * b
unfolding every
product {a} {b} h k =
    eqb-true _ _ (at_bit (λ y. eqb (bit_and a y) (a * y)) (at_bit (λ x. every (λ y. eqb (bit_and x y) (x * y))) refl h) k)

pub two_more : (n : ℕ) → 2 ^ suc n ≡ 2 * 2 ^ n
two_more n = omega (arith, pow-suc 2 n)

pub twice : (n y : ℕ) → 2 * (2 ^ n * y) ≡ 2 ^ suc n * y
twice n y = sym (mul_assoc 2 (2 ^ n) y) ∙ ap (λ (m : ℕ). m * y) (sym (two_more n))

-- a word's number, from the values of wires
unfoldable pub number : (ℕ → ℕ) → List ℕ → ℕ
number v [] = 0
number v (w ∷ ws) = v w + 2 * number v ws

-- carries of two words, the first into the lowest bits: each with the bit that its sum keeps
pub data Carried (v : ℕ → ℕ) : ℕ → List ℕ → List ℕ → List ℕ → Type 0 where
  none : {g : ℕ} → Carried v g [] [] []
  over : {g a b c : ℕ} {as' bs cs : List ℕ} → v a + v b + v g ≡ bit_xor (bit_xor (v a) (v b)) (v g) + 2 * v c
      → Carried v c as' bs cs → Carried v g (a ∷ as') (b ∷ bs) (c ∷ cs)

module _ (v : ℕ → ℕ) (bits : (w : ℕ) → v w < 2) where
  pub gives-carries : (g : ℕ) (xs ys : List ℕ) → length xs ≡ length ys → Gives v (carries g xs ys) (Carried v g xs ys)
  unfolding carries
  gives-carries g [] [] e = holds-give [] none
  gives-carries g [] (y ∷ ys) e = absurd (omega (arith, e))
  gives-carries g (x ∷ xs) [] e = absurd (omega (arith, e))
  gives-carries g (x ∷ xs) (y ∷ ys) e =
      holds_then (gives-xor v y g) λ q eq.
      holds_then (gives-xor v x g) λ p ep.
      holds_then (gives-and v p q) λ r er.
      holds_then (gives-xor v _ _) λ c ec.
      holds_then (gives-carries c xs ys (omega (arith, e))) λ cs k.
      holds-give (c ∷ cs)
      (over (omega (arith, full (bits x) (bits y) (bits g), ec ∙ ap (bit_xor (v g)) (er ∙ ap₂ bit_and ep eq))) k)

  -- the higher bits, with the carry into them
  pub gives_higher : (g : ℕ) (xs ys cs : List ℕ) → Carried v g xs ys cs
      → Gives v (higher_sum xs ys (g ∷ cs)) (λ ss. (number v ss ≡ number v xs + number v ys + v g) × (length ss ≡ suc (length xs)))
  unfolding higher_sum number
  gives_higher g [] [] [] none = holds-give (g ∷ []) (omega arith, refl)
  gives_higher g [] [] (c ∷ cs) f = elim f [ ]
  gives_higher g [] (y ∷ ys) cs f = elim f [ ]
  gives_higher g (x ∷ xs) [] cs f = elim f [ ]
  gives_higher g (x ∷ xs) (y ∷ ys) [] f = elim f [ ]
  gives_higher g (x ∷ xs) (y ∷ ys) (c ∷ cs) (over e k) =
      holds_then (gives-xor v x y) λ d ed.
      holds_then (gives-xor v d g) λ s es.
      holds_then (gives_higher c xs ys cs k) λ ss f.
      holds-give (s ∷ ss) (omega (arith, e, f.0, es ∙ ap (λ (n : ℕ). bit_xor n (v g)) ed), omega (arith, f.1))

  pub gives-sum : (xs ys : List ℕ) → length xs ≡ length ys → 1 ≤ length xs
      → Gives v (sum xs ys) (λ ss. (number v ss ≡ number v xs + number v ys) × (length ss ≡ suc (length xs)))
  unfolding sum number
  gives-sum [] ys e h = absurd (omega (arith, h))
  gives-sum (x ∷ xs) [] e h = absurd (omega (arith, e))
  gives-sum (x ∷ xs) (y ∷ ys) e h =
      holds_then (gives-and v x y) λ g eg.
      holds_then (gives-carries g xs ys (omega (arith, e))) λ cs k.
      holds_then (gives-xor v x y) λ s es.
      holds_then (gives_higher g xs ys cs k) λ ss f.
      holds-give (s ∷ ss) (omega (arith, half (bits x) (bits y), eg, es, f.0), omega (arith, f.1))

  -- the highest carry: what the sum has beyond the words' width
  carried_last : {g : ℕ} {xs ys cs : List ℕ} → Carried v g xs ys cs
      → (r : ℕ) × (r < 2 ^ length xs) × (number v xs + number v ys + v g ≡ r + 2 ^ length xs * v (last g cs))
  unfolding number last
  carried_last {g} none = (0, omega arith, omega arith)
  carried_last {g} (over {a = a} {b = b} {c = c} {as' = xs} {bs = ys} {cs = cs} e k) =
      let r = carried_last k in
      let s : ℕ = bit_xor (bit_xor (v a) (v b)) (v g) in
      let h : s < 2 = xor_below (xor_below (bits a) (bits b)) (bits g) in
      let t : ℕ = 2 ^ length xs * v (last c cs) in (
        s + 2 * r.0,
        omega (arith, r.1, h, two_more (length xs)),
        omega (arith, r.2, e) ∙ ap (λ (n : ℕ). s + 2 * r.0 + n) (twice (length xs) (v (last c cs))),
      )

  pub gives-highest : (xs ys : List ℕ) → length xs ≡ length ys → 1 ≤ length xs
      → Gives v (highest_carry xs ys) (λ c. (r : ℕ) × (r < 2 ^ length xs) × (number v xs + number v ys ≡ r + 2 ^ length xs * v c))
  unfolding highest_carry number
  gives-highest [] ys e h = absurd (omega (arith, h))
  gives-highest (x ∷ xs) [] e h = absurd (omega (arith, e))
  gives-highest (x ∷ xs) (y ∷ ys) e h =
      holds_then (gives-and v x y) λ g eg.
      holds_then (gives-carries g xs ys (omega (arith, e))) λ cs k.
      let r = carried_last k in
      let s : ℕ = bit_xor (v x) (v y) in
      holds-give (last g cs) (
        s + 2 * r.0,
        omega (arith, r.1, xor_below (bits x) (bits y), two_more (length xs)),
        omega (arith, r.2, half (bits x) (bits y), eg) ∙ ap (λ (n : ℕ). s + 2 * r.0 + n) (twice (length xs) (v (last g cs))),
      )

  gives_inverted : (xs : List ℕ)
      → Gives v (each invert xs) (λ ns. (number v ns + number v xs + 1 ≡ 2 ^ length xs) × (length ns ≡ length xs))
  unfolding each number
  gives_inverted [] = holds-give [] (refl, refl)
  gives_inverted (x ∷ xs) =
      holds_then (gives-invert v x) λ n e.
      holds_then (gives_inverted xs) λ ns f.
      holds-give (n ∷ ns) (omega (arith, e, not-bit (bits x), f.0, two_more (length xs)), omega (arith, f.1))

  -- 1 if the first is less, else 0
  pub gives_less : (xs ys : List ℕ) → length xs ≡ length ys → 1 ≤ length xs
      → Gives v (less xs ys) (λ l. v l ≡ choose (leb (number v ys) (number v xs)) 0 1)
  unfolding less
  gives_less xs ys e h =
      holds_then (gives_inverted xs) λ ns f.
      holds-map (λ c k. by_carry (v c) (bits c) (number v xs) (number v ys) (number v ns) (2 ^ length xs) k.0
      (subst (λ (n : ℕ). k.0 < 2 ^ n) f.1 k.1) f.0
      (subst (λ (n : ℕ). number v ns + number v ys ≡ k.0 + 2 ^ n * v c) f.1 k.2))
      (gives-highest ns ys (f.1 ∙ e) (omega (arith, f.1, h)))
    where
      by_carry : (c : ℕ) → c < 2 → (x y n t r : ℕ) → r < t → n + x + 1 ≡ t → n + y ≡ r + t * c → c ≡ choose (leb y x) 0 1
      by_carry c h x y n t r a p q =
          split c 1
          (λ l. let z : c ≡ 0 = omega (arith, l) in
          z ∙ ap (λ (b : Bool). choose b 0 1) (sym (le-leb y x (omega (arith, a, p, q ∙ ap (λ (m : ℕ). r + t * m) z)))))
          (λ g. let z : c ≡ 1 = omega (arith, g, h) in
          z ∙ ap (λ (b : Bool). choose b 0 1) (sym (lt-leb y x (omega (arith, a, p, q ∙ ap (λ (m : ℕ). r + t * m) z)))))

  pub gives-meets : (t : Total) → length t.supply ≡ length t.demand → 1 ≤ length t.supply
      → Gives v (meets t) (λ m. v m ≡ choose (leb (number v t.demand) (number v t.supply)) 1 0)
  unfolding meets
  gives-meets t e h =
      holds_then (gives_less t.supply t.demand e h) λ l f.
      holds-map (λ m g. g ∙ ap (λ (n : ℕ). bit_xor n 1) f ∙ flipped (leb (number v t.demand) (number v t.supply))) (gives-invert v l)
    where
      flipped : (b : Bool) → bit_xor (choose b 0 1) 1 ≡ choose b 1 0
      flipped true = refl
      flipped false = refl
