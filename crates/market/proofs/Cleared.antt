-- What clears is one level and quantity, and the circuit finds it. Assumes nothing.
use Prim.Native.Nat.{ℕ, ◌+◌, ◌*◌, ◌<◌}
use mathlib.Core.Bool.{Bool}
use mathlib.Core.List.{List, [], ◌∷◌, ◌++◌, map}
use mathlib.Core.Logic.{inl, inr}
use mathlib.Core.Path.{◌≡◌, refl, sym, ap, ap₂, ◌∙◌, subst}
use borrow.Author.Tests.{eq-eqb, ne_eqb, leb-true, leb-false}
use native.Mathlib.Omega.{arith}
use lib.Dec.{eqb, leb}
use lib.ListN.{length, take, drop, length-append}
use lib.Seq.{take-append_seam, drop-append_seam}
use Rattle.algebra.specs.Choice.{choose}
use Rattle.circuit.specs.Content.{Gate}
use Rattle.circuit.specs.Value.{value_of}
use Rattle.number.proofs.Places.{split}
use Rattle.market.specs.Bids.{Bids, from_bits, curve_bits, bid_bits, level_in, quantity_in, demand_of, supply_of, CircuitClears}
use Rattle.market.specs.Circuit.{bit_length, clearing, clearing_circuit}
use Rattle.market.specs.Clears.{Clears, OnePrice}
use Rattle.market.proofs.Clearing.{gives-clearing, quantity_at, met}
use Rattle.market.proofs.Inputs.{Bits, bits_append, curve-bits, curve_length, values-bits, value_at, values_fit, values_stand, inputs-given}
use Rattle.market.proofs.Marks.{lowest_from, Found, lowest-found}
use Rattle.market.proofs.Shape.{shaped}
use Rattle.market.proofs.Words.{number}

module _ (L : ℕ) (demand supply : ℕ → ℕ) where
  found-clears : {j : ℕ} → Found (λ i. leb (demand i) (supply i)) 1 L j → Clears L demand supply j (choose (eqb j 0) 0 (demand j))
  found-clears {j} (inl f) =
      inl (record {
        first = f.0;
        top = omega (arith, f.1);
        meets = leb-true (demand j) (supply j) f.2;
        lowest = λ k h g. leb-false (demand k) (supply k) (f.3 k (omega (arith, h)) g);
        traded = ap (λ (c : Bool). choose c 0 (demand j)) (ne_eqb j 0 (λ e. omega (arith, e, f.0)));
      })
  found-clears {j} (inr f) =
      inr (record {
        none = λ k h g. leb-false (demand k) (supply k) (f.1 k h (omega (arith, g)));
        level_0 = f.0;
        quantity_0 = ap (λ (c : Bool). choose c 0 (demand j)) (eq-eqb j 0 f.0);
      })

  same : (k q k' q' : ℕ) → Clears L demand supply k q → Clears L demand supply k' q' → (k ≡ k') × (q ≡ q')
  same k q k' q' (inl a) (inl c) =
      let e : k ≡ k' = split k k'
      (λ h. absurd (omega (arith, a.meets, c.lowest k a.first h)))
      (λ h. split k' k (λ g. absurd (omega (arith, c.meets, a.lowest k' c.first g))) (λ g. omega (arith, h, g))) in
      (e, a.traded ∙ ap demand e ∙ sym c.traded)
  same k q k' q' (inl a) (inr c) = absurd (omega (arith, a.meets, c.none k a.first a.top))
  same k q k' q' (inr a) (inl c) = absurd (omega (arith, c.meets, a.none k' c.first c.top))
  same k q k' q' (inr a) (inr c) = (a.level_0 ∙ sym c.level_0, a.quantity_0 ∙ sym c.quantity_0)

pub one_price : OnePrice
one_price L demand supply =
    let c = found-clears L demand supply (lowest-found (λ i. leb (demand i) (supply i)) 1 L) in
    (_, _, c, λ k q d. same L demand supply k q _ _ d c)

number-map : (v : ℕ → ℕ) (ws : List ℕ) → from_bits (map v ws) ≡ number v ws
unfolding from_bits number
number-map v [] = refl
number-map v (w ∷ ws) = omega (arith, number-map v ws)

map-length : (v : ℕ → ℕ) (ws : List ℕ) → length (map v ws) ≡ length ws
map-length v [] = refl
map-length v (w ∷ ws) = omega (arith, map-length v ws)

map_both : (v : ℕ → ℕ) (ws us : List ℕ) → map v (ws ++ us) ≡ map v ws ++ map v us
map_both v [] us = refl
map_both v (w ∷ ws) us = ap (λ (l : List ℕ). v w ∷ l) (map_both v ws us)

-- what the outputs say is in the words of which they consist
reads : (L : ℕ) (v : ℕ → ℕ) (out level quantity : List ℕ) → out ≡ level ++ quantity → length level ≡ bit_length L
    → (level_in L (map v out) ≡ number v level) × (quantity_in L (map v out) ≡ number v quantity)
unfolding level_in quantity_in
reads L v out level quantity e m =
    let f : map v out ≡ map v level ++ map v quantity = ap (map v) e ∙ map_both v level quantity in
    let g : bit_length L ≡ length (map v level) = sym (map-length v level ∙ m) in (
      ap₂ (λ (k : ℕ) (l : List ℕ). from_bits (take k l)) g f
          ∙ ap from_bits (take-append_seam (map v level) (map v quantity)) ∙ number-map v level,
      ap₂ (λ (k : ℕ) (l : List ℕ). from_bits (drop k l)) g f
          ∙ ap from_bits (drop-append_seam (map v level) (map v quantity)) ∙ number-map v quantity,
    )

house_bits : (L b : ℕ) (x : Bids) → Bits (bid_bits L b x)
unfolding bid_bits
house_bits L b x =
    bits_append (curve_bits b x.buy 1 L) (curve_bits b x.sell 1 L) (curve-bits b x.buy 1 L) (curve-bits b x.sell 1 L)

house_length : (L b : ℕ) (x : Bids) → length (bid_bits L b x) ≡ 2 * (L * b)
unfolding bid_bits
house_length L b x =
    let e = length-append (curve_bits b x.buy 1 L) (curve_bits b x.sell 1 L) in
    omega (arith, e, curve_length b x.buy 1 L, curve_length b x.sell 1 L)

both-length : (L b : ℕ) (x y : Bids) → length (bid_bits L b x ++ bid_bits L b y) ≡ 4 * (L * b)
both-length L b x y = omega (arith, length-append (bid_bits L b x) (bid_bits L b y), house_length L b x, house_length L b y)

pub circuit-clears : CircuitClears
unfolding clearing_circuit value_of
circuit-clears L b one some x y wx wy =
    let n : ℕ = 4 * (L * b) in
    let ins : List ℕ = bid_bits L b x ++ bid_bits L b y in
    let gs : List Gate = (clearing L b n).gates in
    let v : ℕ → ℕ = value_at gs ins in
    let bits : (w : ℕ) → v w < 2 = values-bits gs ins (bits_append (bid_bits L b x) (bid_bits L b y) (house_bits L b x) (house_bits L b y)) in
    let given = inputs-given v bits x y L b wx wy (values_stand gs ins) in
    let fit = values_fit gs ins n (both-length L b x y) (shaped L b one some).gates in
    let r = ((gives-clearing v bits x y b L one some given).holds n fit).1 in
    let z = reads L v (clearing L b n).result r.0 r.1 r.2 r.3 in
    subst (λ (q : ℕ). Clears L (demand_of x y) (supply_of x y) (level_in L (map v (clearing L b n).result)) q) (sym (z.1 ∙ r.5))
    (subst (λ (j : ℕ). Clears L (demand_of x y) (supply_of x y) j (quantity_at v bits x y b (lowest_from (met v bits x y b) 1 L)))
    (sym (z.0 ∙ r.4))
    (found-clears L (demand_of x y) (supply_of x y) (lowest-found (met v bits x y b) 1 L)))
