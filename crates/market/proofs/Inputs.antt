-- The bids' bits at the inputs' wires, and the values of a circuit's wires as values that fit its gates. Assumes nothing.
use Prim.Native.Nat.{ℕ, zero, suc, ◌+◌, ◌*◌, ◌/◌, ◌^◌, ◌<◌, ◌≤◌}
use mathlib.Core.List.{List, [], ◌∷◌, ◌++◌}
use mathlib.Core.Path.{◌≡◌, refl, ap, ◌∙◌}
use native.Mathlib.Nat.{suc-mul}
use native.Mathlib.Omega.{arith}
use lib.Bits.{bit_and}
use lib.Dec.{ltb}
use lib.ListN.{length, get_or, length-append}
use borrow.Author.Tests.{ltb-true}
use Rattle.circuit.proofs.Folds.{fold_keeps}
use Rattle.circuit.proofs.Values.{values_hold}
use Rattle.circuit.specs.Admitted.{GatesBelow}
use Rattle.circuit.specs.Content.{Gate, Xor, And, Not}
use Rattle.circuit.specs.Value.{gate_value, over_gates, wire_values}
use Rattle.market.specs.Bids.{Bids, to_bits, curve_bits, bid_bits, Within}
use Rattle.market.specs.Circuit.{from, given_from}
use Rattle.market.proofs.Clearing.{GivenAt}
use Rattle.market.proofs.Holds.{value_by, Fits, From, end, more, Every, every_split, every_of}
use Rattle.market.proofs.Words.{number, every, at_bit, two_more, xor_below}

-- numbers that stand at wires from n on
abbrev pub Stand : (ℕ → ℕ) → ℕ → List ℕ → Type 0
Stand v = Every (λ n x. v n ≡ x)

pub bits-length : (b q : ℕ) → length (to_bits b q) ≡ b
unfolding to_bits
bits-length zero q = refl
bits-length (suc b) q = omega (arith, bits-length b (q / 2))

pub curve_length : (b : ℕ) (q : ℕ → ℕ) (k n : ℕ) → length (curve_bits b q k n) ≡ n * b
unfolding curve_bits
curve_length b q k zero = omega arith
curve_length b q k (suc n) =
    omega (arith, length-append (to_bits b (q k)) (curve_bits b q (suc k) n), bits-length b (q k), curve_length b q (suc k) n, suc-mul n b)

-- all are bits
abbrev pub Bits : List ℕ → Type 0
Bits xs = (i : ℕ) → get_or xs i 0 < 2

pub bits_append : (xs ys : List ℕ) → Bits xs → Bits ys → Bits (xs ++ ys)
bits_append [] ys f g i = g i
bits_append (x ∷ xs) ys f g zero = f 0
bits_append (x ∷ xs) ys f g (suc i) = bits_append xs ys (λ k. f (suc k)) g i

pub number-bits : (b q : ℕ) → Bits (to_bits b q)
unfolding to_bits
number-bits zero q i = omega arith
number-bits (suc b) q zero = omega arith
number-bits (suc b) q (suc i) = number-bits b (q / 2) i

pub curve-bits : (b : ℕ) (q : ℕ → ℕ) (k n : ℕ) → Bits (curve_bits b q k n)
unfolding curve_bits
curve-bits b q k zero = λ i. omega arith
curve-bits b q k (suc n) = bits_append (to_bits b (q k)) (curve_bits b q (suc k) n) (number-bits b (q k)) (curve-bits b q (suc k) n)

and_below : {a b : ℕ} → a < 2 → b < 2 → bit_and a b < 2
unfolding every
and_below {a} {b} h k =
    ltb-true _ _ (at_bit (λ y. ltb (bit_and a y) 2) (at_bit (λ x. every (λ y. ltb (bit_and x y) 2)) refl h) k)

gate-bit : (g : Gate) (ws : List ℕ) → Bits ws → gate_value g ws < 2
unfolding gate_value
gate-bit (Xor a b) ws f = xor_below (f a) (f b)
gate-bit (And a b) ws f = and_below (f a) (f b)
gate-bit (Not a) ws f = xor_below (f a) (omega arith)

one_bit : (x : ℕ) → x < 2 → Bits (x ∷ [])
one_bit x h zero = h
one_bit x h (suc i) = omega arith

-- bits at the inputs, bits at all wires
pub values-bits : (gs : List Gate) (ws : List ℕ) → Bits ws → Bits (wire_values gs ws)
unfolding over_gates
values-bits [] ws f = f
values-bits (g ∷ gs) ws f =
    values-bits gs (ws ++ (gate_value g ws ∷ [])) (bits_append ws (gate_value g ws ∷ []) f (one_bit (gate_value g ws) (gate-bit g ws f)))

module _ (v : ℕ → ℕ) where
  stand_number : (n b q : ℕ) → q < 2 ^ b → Stand v n (to_bits b q) → (number v (from n b) ≡ q) × (length (from n b) ≡ b)
  unfolding Every to_bits from number
  stand_number n zero q h f = (omega (arith, h), refl)
  stand_number n (suc b) q h f =
      let r = stand_number (suc n) b (q / 2) (omega (arith, h, two_more b)) f.1 in
      (omega (arith, f.0, r.0), omega (arith, r.1))

  -- a word, and the curve after it
  stand_word : (n m b count : ℕ) (q : ℕ → ℕ) (k : ℕ) → n + b ≡ m → q k < 2 ^ b → Stand v n (curve_bits b q k (suc count))
      → ((number v (from n b) ≡ q k) × (length (from n b) ≡ b)) × Stand v m (curve_bits b q (suc k) count)
  unfolding curve_bits
  stand_word n m b count q k e h f =
      let r = every_split (λ l z. v l ≡ z) n m (to_bits b (q k)) (curve_bits b q (suc k) count) (omega (arith, e, bits-length b (q k))) f in
      (stand_number n b (q k) h r.0, r.1)

gate-value : (g : Gate) (ws : List ℕ) → gate_value g ws ≡ value_by (λ w. get_or ws w 0) g
unfolding gate_value value_by
gate-value (Xor a b) ws = refl
gate-value (And a b) ws = refl
gate-value (Not a) ws = refl

module _ (gs : List Gate) (ins : List ℕ) where
  abbrev pub value_at : ℕ → ℕ
  value_at w = get_or (wire_values gs ins) w 0

  pub values_fit : (n : ℕ) → length ins ≡ n → GatesBelow n gs → Every (Fits value_at) n gs
  values_fit n e ok =
      every_of (Fits value_at) (Not 0) n gs λ i h. values_hold gs ins n e ok i h ∙ gate-value (get_or gs i (Not 0)) (wire_values gs ins)

  pub values_stand : Stand value_at 0 ins
  values_stand =
      every_of (λ n x. value_at n ≡ x) 0 0 ins λ i h. ap value_at {x = 0 + i} {y = i} (omega arith) ∙ fold_keeps gate_value gs ins i h

module _ (v : ℕ → ℕ) (bits : (w : ℕ) → v w < 2) (x y : Bids) (L b : ℕ) (wx : Within L b x) (wy : Within L b y) where
  given-all : (curve n k count : ℕ) → 1 ≤ k → k + count ≤ 1 + L
      → Stand v n (curve_bits b x.buy k count) → Stand v (n + curve) (curve_bits b x.sell k count)
      → Stand v (n + 2 * curve) (curve_bits b y.buy k count) → Stand v (n + 3 * curve) (curve_bits b y.sell k count)
      → From (GivenAt v bits x y b) k count (given_from curve b n count)
  unfolding given_from
  given-all curve n k zero h g p q r s = end
  given-all curve n k (suc count) h g p q r s =
      let l : k ≤ L = omega (arith, g) in
      let p' = stand_word v n (n + b) b count x.buy k refl (wx.buys k h l) p in
      let q' = stand_word v (n + curve) (n + b + curve) b count x.sell k (omega arith) (wx.sells k h l) q in
      let r' = stand_word v (n + 2 * curve) (n + b + 2 * curve) b count y.buy k (omega arith) (wy.buys k h l) r in
      let s' = stand_word v (n + 3 * curve) (n + b + 3 * curve) b count y.sell k (omega arith) (wy.sells k h l) s in
      more (p'.0, q'.0, r'.0, s'.0)
      (given-all curve (n + b) (suc k) count (omega arith) (omega (arith, g)) p'.1 q'.1 r'.1 s'.1)

  pub inputs-given : Stand v 0 (bid_bits L b x ++ bid_bits L b y) → From (GivenAt v bits x y b) 1 L (given_from (L * b) b 0 L)
  unfolding bid_bits
  inputs-given f =
      let curve : (ℕ → ℕ) → List ℕ = λ q. curve_bits b q 1 L in
      let e : (q : ℕ → ℕ) → length (curve q) ≡ L * b = λ q. curve_length b q 1 L in
      let both : length (curve x.buy ++ curve x.sell) ≡ 2 * (L * b) =
      omega (arith, e x.buy, e x.sell, length-append (curve x.buy) (curve x.sell)) in
      let cut = every_split (λ m z. v m ≡ z) in
      let halves = cut 0 (0 + 2 * (L * b)) (curve x.buy ++ curve x.sell) (curve y.buy ++ curve y.sell)
      (omega (arith, both)) f in
      let low = cut 0 (0 + L * b) (curve x.buy) (curve x.sell) (omega (arith, e x.buy)) halves.0 in
      let high = cut (0 + 2 * (L * b)) (0 + 3 * (L * b)) (curve y.buy) (curve y.sell) (omega (arith, e y.buy)) halves.1 in
      given-all (L * b) 0 1 L (omega arith) (omega arith) low.0 low.1 high.0 high.1
