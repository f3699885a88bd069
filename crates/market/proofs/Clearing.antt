-- The whole circuit, in values of wires: its outputs are the lowest level at which supply meets demand, and the demand there. Assumes
-- nothing.
use Prim.Native.Nat.{ℕ, suc, ◌+◌, ◌*◌, ◌^◌, ◌<◌, ◌≤◌}
use mathlib.Core.Bool.{Bool, true, false}
use mathlib.Core.List.{List, ◌++◌, map}
use mathlib.Core.Logic.{inl, inr}
use mathlib.Core.Path.{◌≡◌, refl, sym, ap, ap₂, ◌∙◌, subst}
use borrow.Author.Tests.{eq-eqb, ne_eqb}
use native.Mathlib.Nat.{le_refl}
use native.Mathlib.Omega.{arith}
use lib.Dec.{eqb, leb}
use lib.ListN.{length, get_or}
use Rattle.algebra.specs.Choice.{choose}
use Rattle.number.proofs.Places.{split, either}
use Rattle.market.specs.Bids.{Bids, demand_of, supply_of}
use Rattle.market.specs.Circuit.{Given, Total, sum, total, meets, bit, level_bit, quantity_bit, bit_length, given_from, clearing}
use Rattle.market.proofs.Holds.{From, end, more, from-over, from_self, from-length, Gives, holds-give, holds_then, holds-map, holds-each}
use Rattle.market.proofs.Words.{number, gives-sum, gives-meets}
use Rattle.market.proofs.Marks.{Tests, Marks, lowest_from, Found, lowest-found, gives-marks}
use Rattle.market.proofs.Digits.{bit_below, bit-none, power-some, number_digits, number_bit, number-below, length_above, length_least}
use Rattle.market.proofs.Choices.{gives_level_bit, gives-chosen}

from_at : {A : Type 0} {R : ℕ → A → Type 0} (j : ℕ) {k n : ℕ} {xs : List A} → From R k n xs → k ≤ j → j < k + n → (x : A) × R j x
from_at j {k} end h g = absurd (omega (arith, h, g))
from_at {A} {R} j {k} (more {n = n} {x = x} r s) h g =
    either k j (λ e. (x, subst (λ (i : ℕ). R i x) e r)) (λ e. from_at j s (omega (arith, h, e)) (omega (arith, g)))

module _ (v : ℕ → ℕ) (bits : (w : ℕ) → v w < 2) (x y : Bids) (b : ℕ) where
  -- a word of a width with a number
  abbrev pub Has : ℕ → ℕ → List ℕ → Type 0
  Has width q ws = (number v ws ≡ q) × (length ws ≡ width)

  abbrev pub GivenAt : ℕ → Given → Type 0
  GivenAt i g = Has b (x.buy i) g.buy₁ × Has b (x.sell i) g.sell₁ × Has b (y.buy i) g.buy₂ × Has b (y.sell i) g.sell₂

  abbrev pub TotalAt : ℕ → Total → Type 0
  TotalAt i t = Has (suc b) (demand_of x y i) t.demand × Has (suc b) (supply_of x y i) t.supply

  -- whether supply meets demand
  abbrev pub met : ℕ → Bool
  met i = leb (demand_of x y i) (supply_of x y i)

  gives-has : {q r : ℕ} (xs ys : List ℕ) → 1 ≤ b → Has b q xs → Has b r ys
      → Gives v (sum xs ys) (Has (suc b) (q + r))
  gives-has xs ys h f g =
      holds-map (λ ss k. (k.0 ∙ ap₂ ◌+◌ f.0 g.0, k.1 ∙ ap suc f.1))
      (gives-sum v bits xs ys (f.1 ∙ sym g.1) (subst (λ (n : ℕ). 1 ≤ n) (sym f.1) h))

  gives-total : 1 ≤ b → (i : ℕ) (g : Given) → GivenAt i g → Gives v (total g) (TotalAt i)
  unfolding total
  gives-total h i g f =
      holds_then (gives-has g.buy₁ g.buy₂ h f.0 f.2) λ d p.
      holds_then (gives-has g.sell₁ g.sell₂ h f.1 f.3) λ s q.
      holds-give (record { demand = d; supply = s }) (p, q)

  gives_met : (i : ℕ) (t : Total) → TotalAt i t → Gives v (meets t) (Tests v bits met i)
  gives_met i t f =
      holds-map (λ m e. e ∙ ap₂ (λ (d s : ℕ). choose (leb d s) 1 0) f.0.0 f.1.0)
      (gives-meets v bits t (f.1.1 ∙ sym f.0.1) (subst (λ (n : ℕ). 1 ≤ n) (sym f.1.1) (omega arith)))

  -- bit i of demand at each level
  column : (i : ℕ) → i < suc b → {k n : ℕ} {ts : List Total} → From TotalAt k n ts
      → From (λ l d. v d ≡ bit i (demand_of x y l)) k n (map (λ (t : Total). get_or t.demand i 0) ts)
  column i h =
      from-over _ λ l t r. number_bit v bits t.demand i (subst (λ (n : ℕ). i < n) (sym r.0.1) h) ∙ ap (bit i) r.0.0

  -- the outputs: a word for the level and one for the quantity
  abbrev pub Outputs : ℕ → ℕ → ℕ → List ℕ → Type 0
  Outputs L j q out = (level : List ℕ) × (quantity : List ℕ) × (out ≡ level ++ quantity) × (length level ≡ bit_length L)
      × (number v level ≡ j) × (number v quantity ≡ q)

  -- the level found, and the quantity there
  abbrev pub level_found : ℕ → ℕ
  level_found L = lowest_from met 1 L

  abbrev pub quantity_at : ℕ → ℕ
  quantity_at j = choose (eqb j 0) 0 (demand_of x y j)

  level_most : (L : ℕ) → level_found L < 1 + L
  level_most L = at (lowest-found met 1 L)
    where
      at : {j : ℕ} → Found met 1 L j → j < 1 + L
      at (inl f) = f.1
      at (inr f) = omega (arith, f.0)

  quantity-bit : (i j L : ℕ) (marked : List ℕ) (totals : List Total) → From (Marks v bits j) 1 L marked → From TotalAt 1 L totals
      → 1 ≤ L → j < 1 + L → i < suc b → Gives v (quantity_bit marked totals i) (λ w. v w ≡ bit i (quantity_at j))
  unfolding quantity_bit
  quantity-bit i j L marked totals k t one most h =
      holds-map (λ w e. e ∙ inside (eqb j 0))
      (gives-chosen v bits (λ l. bit i (demand_of x y l)) j k (column i h t) (λ l. bit_below i (demand_of x y l)) one most)
    where
      inside : (c : Bool) → choose c 0 (bit i (demand_of x y j)) ≡ bit i (choose c 0 (demand_of x y j))
      inside true = sym (bit-none i)
      inside false = refl

  within : (L j : ℕ) (totals : List Total) → From TotalAt 1 L totals → j < 1 + L → quantity_at j < 2 ^ (b + 1)
  within L j totals t most =
      split j 1
      (λ l. subst (λ (c : Bool). choose c 0 (demand_of x y j) < 2 ^ (b + 1)) (sym (eq-eqb j 0 (omega (arith, l)))) (power-some (b + 1)))
      (λ l. let u = from_at j t l most in
      subst (λ (c : Bool). choose c 0 (demand_of x y j) < 2 ^ (b + 1)) (sym (ne_eqb j 0 (λ e. omega (arith, e, l))))
      (subst (λ (n : ℕ). demand_of x y j < 2 ^ n) {x = suc b} {y = b + 1} (omega arith)
      (subst (λ (n : ℕ). demand_of x y j < 2 ^ n) u.1.0.1
      (subst (λ (n : ℕ). n < 2 ^ length u.0.demand) u.1.0.0 (number-below v bits u.0.demand)))))

  pub gives-clearing : (L : ℕ) → 1 ≤ L → 1 ≤ b → From GivenAt 1 L (given_from (L * b) b 0 L)
      → Gives v (clearing L b) (Outputs L (level_found L) (quantity_at (level_found L)))
  unfolding clearing
  gives-clearing L one some given =
      let j : ℕ = level_found L in
      holds_then (holds-each (λ i g _ _. gives-total some i g) given) λ totals t.
      holds_then (holds-each (λ i u _ _. gives_met i u) t) λ ms m.
      holds_then (gives-marks v bits met m) λ marked k.
      holds_then (holds-each {S = λ i w. v w ≡ bit i j}
      (λ i u _ h e. subst (λ (n : ℕ). Gives v (level_bit marked n) (λ w. v w ≡ bit i j)) (sym e)
      (gives_level_bit v bits i j L marked k (level_most L) (length_least L L i (omega (arith, h)))))
      (from_self 0 (bit_length L))) λ level f.
      holds_then (holds-each {S = λ i w. v w ≡ bit i (quantity_at j)}
      (λ i u _ h e. subst (λ (n : ℕ). Gives v (quantity_bit marked totals n) (λ w. v w ≡ bit i (quantity_at j))) (sym e)
      (quantity-bit i j L marked totals k t one (level_most L) (omega (arith, h)))) (from_self 0 (b + 1))) λ quantity g.
      holds-give (level ++ quantity) (
        level,
        quantity,
        refl,
        from-length f,
        number_digits v j f (omega (arith, length_above L L (le_refl L), level_most L)) ∙ omega arith,
        number_digits v (quantity_at j) g (omega (arith, within L j totals t (level_most L))) ∙ omega arith,
      )
