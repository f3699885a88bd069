-- Bids to price, from the laws of the market's circuit.
use Prim.Native.Nat.{ℕ, zero, suc, ◌+◌, ◌*◌, ◌/◌, ◌%◌, ◌^◌, ◌≤◌}
use mathlib.Core.Path.{◌≡◌, refl, sym, ap, ap₂, ◌∙◌, subst, fun_ext}
use mathlib.Core.Bool.{Bool, true, false}
use mathlib.Core.List.{List, [], ◌∷◌, ◌++◌, append_assoc}
use mathlib.Core.Logic.{◌⊎◌, inl, inr, ⊎_elim}
use native.Mathlib.Nat.{add-zero, mul_comm, mul_assoc}
use native.Mathlib.Omega.{arith}
use borrow.Author.Tests.{eq-eqb, ne_eqb, le-leb, lt-leb}
use lib.Dec.{leb}
use lib.ListN.{length, take, drop, get_or, length-drop, length-map}
use lib.Seq.{get_or-drop, take-length}
use Rattle.algebra.specs.Choice.{choose}
use Rattle.circuit.specs.Value.{value_of}
use Rattle.market.specs.Bids as bids
use Rattle.market.specs.Circuit as market
use Rattle.market.specs.Clears as clears
use Rattle.market.specs.Counts as counts
use Rattle.market.proofs.Cleared.{one_price, circuit-clears}
use Rattle.market.proofs.Depth.{market_counts, market-bytes}
use Rattle.market.proofs.Digits.{shift_first}
use Rattle.market.proofs.Prices.{market_admitted}
use Rattle.market.proofs.Words.{two_more}
use Rattle.number.proofs.Places.{split}
use Rattle.page.specs.Document01 as page
use Rattle.page_two.specs.Document02 as page2
use Rattle.page_two.proofs.Circuits.Content.{circuit, value_is, written_is, length-gates, ands_is, rounds_is}
use Rattle.page_two_claims.specs.Statements as second
use Rattle.page_two_claims.proofs.Circuits.Rounds.{rounds-run}
use Rattle.page_two_claims.proofs.Circuits.Steps.{steps-run}
use Rattle.page_two_claims.proofs.Circuits.Whole.{of_admitted}
use Rattle.page_beyond.specs.Beyond as says
use Rattle.tree.specs.Tree.{listed}
use Rattle.tree.proofs.Listed.{listed-front}

abbrev C : ℕ → ℕ → page2.Circuit
C L b = circuit (market.clearing_circuit L b)

-- ---- what clears

to_page : (L : ℕ) (demand supply : ℕ → ℕ) (k q : ℕ) → clears.Clears L demand supply k q → says.Clears L demand supply k q
to_page L demand supply k q =
    ⊎_elim (λ a. inl (a.first, a.top, a.meets, a.lowest, a.traded)) (λ n. inr (n.none, n.level_0, n.quantity_0))

of_page : (L : ℕ) (demand supply : ℕ → ℕ) (k q : ℕ) → says.Clears L demand supply k q → clears.Clears L demand supply k q
of_page L demand supply k q =
    ⊎_elim (λ a. inl (record { first = a.0; top = a.1; meets = a.2; lowest = a.3; traded = a.4 }))
    (λ n. inr (record { none = n.0; level_0 = n.1; quantity_0 = n.2 }))

-- ---- bits

total-front : (n : ℕ) (g : ℕ → ℕ) → page2.total (suc n) g ≡ g 0 + page2.total n (λ i. g (suc i))
unfolding page2.total
total-front zero g = omega arith
total-front (suc n) g = omega (arith, total-front n g)

-- the length of a number is how many powers of 2 are at most it
abbrev up_to : ℕ → ℕ → ℕ
up_to n i = page.when◌then◌else◌ (leb (2 ^ i) n) 1 0

half : (n i : ℕ) → up_to n (suc i) ≡ up_to (n / 2) i
half n i =
    ap (λ (t : Bool). page.when◌then◌else◌ t 1 0)
    (split n (2 ^ suc i)
    (λ l. lt-leb (2 ^ suc i) n l ∙ sym (lt-leb (2 ^ i) (n / 2) (omega (arith, l, two_more i))))
    (λ g. le-leb (2 ^ suc i) n g ∙ sym (le-leb (2 ^ i) (n / 2) (omega (arith, g, two_more i)))))

none_within : (most : ℕ) → market.length_within most 0 ≡ 0
unfolding market.length_within
none_within zero = refl
none_within (suc most) = refl

length_is : (most n : ℕ) → page2.total most (up_to n) ≡ market.length_within most n
unfolding market.length_within page2.total page.when◌then◌else◌
length_is zero n = refl
length_is (suc most) n =
    let rest = ap (page2.total most) (fun_ext (half n)) ∙ length_is most (n / 2) in
    let test : (b : Bool) → leb (2 ^ 0) n ≡ b → up_to n 0 ≡ page.when◌then◌else◌ b 1 0 = λ b e. ap (λ (t : Bool). page.when◌then◌else◌ t 1 0) e in
    total-front most (up_to n)
    ∙ split n 1
    (λ l. let halved : n / 2 ≡ 0 = omega (arith, l) in
    let none = ap (market.length_within most) halved ∙ none_within most in
    let first : up_to n 0 ≡ 0 = test false (lt-leb (2 ^ 0) n (omega (arith, l))) in
    omega (arith, rest, none, first)
    ∙ sym (ap (λ (t : Bool). choose t 0 (1 + market.length_within most (n / 2))) (eq-eqb n 0 (omega (arith, l)))))
    (λ g. let first : up_to n 0 ≡ 1 = test true (le-leb (2 ^ 0) n (omega (arith, g))) in
    omega (arith, rest, first)
    ∙ sym (ap (λ (t : Bool). choose t 0 (1 + market.length_within most (n / 2))) (ne_eqb n 0 (λ e. absurd (omega (arith, e, g))))))

bits_are : (b q : ℕ) → bids.to_bits b q ≡ page.list b (λ i. q / 2 ^ i % 2)
unfolding bids.to_bits page.list listed
bits_are zero q = refl
bits_are (suc b) q =
    let first : q % 2 ≡ q / 2 ^ 0 % 2 = omega arith in
    ap₂ (λ (a : ℕ) (l : List ℕ). a ∷ l) first
    (bits_are b (q / 2) ∙ ap (page.list b) (fun_ext (λ i. ap (λ (n : ℕ). n % 2) (sym (shift_first i q)))))
    ∙ sym (listed-front b (λ i. q / 2 ^ i % 2))

joined-front : (n : ℕ) (f : ℕ → List ℕ) → page.joined (suc n) f ≡ f 0 ++ page.joined n (λ k. f (suc k))
unfolding page.joined
joined-front zero f = sym (append-nil (f 0))
  where
    append-nil : (l : List ℕ) → l ++ [] ≡ l
    append-nil [] = refl
    append-nil (x ∷ l) = ap (λ (r : List ℕ). x ∷ r) (append-nil l)
joined-front (suc n) f =
    ap (λ (l : List ℕ). l ++ f (suc n)) (joined-front n f) ∙ append_assoc (f 0) (page.joined n (λ k. f (suc k))) (f (suc n))

curve_is : (b : ℕ) (q : ℕ → ℕ) (k n : ℕ) → bids.curve_bits b q k n ≡ page.joined n (λ j. page.list b (λ i. q (k + j) / 2 ^ i % 2))
unfolding bids.curve_bits page.joined
curve_is b q k zero = refl
curve_is b q k (suc n) =
    ap₂ (λ (x y : List ℕ). x ++ y)
    (bits_are b (q k) ∙ ap (λ (z : ℕ). page.list b (λ i. q z / 2 ^ i % 2)) (sym (add-zero k)))
    (curve_is b q (suc k) n
    ∙ ap (page.joined n) (fun_ext (λ j. ap (λ (z : ℕ). page.list b (λ i. q z / 2 ^ i % 2)) {x = suc k + j} {y = k + suc j} (omega arith))))
    ∙ sym (joined-front n (λ j. page.list b (λ i. q (k + j) / 2 ^ i % 2)))

bids_are : (L b : ℕ) (x : says.Bids L b) → bids.bid_bits L b (record { buy = x.buy; sell = x.sell }) ≡ says.bid_bits L b x
unfolding bids.bid_bits
bids_are L b x =
    let one : (q : ℕ → ℕ) → bids.curve_bits b q 1 L ≡ page.joined L (λ k. page.list b (λ i. q (suc k) / 2 ^ i % 2)) =
    λ q. curve_is b q 1 L
    ∙ ap (page.joined L) (fun_ext (λ j. ap (λ (z : ℕ). page.list b (λ i. q z / 2 ^ i % 2)) {x = 1 + j} {y = suc j} (omega arith))) in
    ap₂ (λ (u v : List ℕ). u ++ v) (one x.buy) (one x.sell)

-- ---- numbers of bits

from_front : (n : ℕ) (f : ℕ → ℕ) → page.from_bits (suc n) f ≡ f 0 + 2 * page.from_bits n (λ i. f (suc i))
unfolding page.from_bits
from_front zero f = omega arith
from_front (suc n) f =
    let twice : f (suc n) * 2 ^ suc n ≡ 2 * (f (suc n) * 2 ^ n) =
    ap (λ (z : ℕ). f (suc n) * z) (two_more n) ∙ mul_comm (f (suc n)) (2 * 2 ^ n) ∙ mul_assoc 2 (2 ^ n) (f (suc n))
    ∙ ap (λ (z : ℕ). 2 * z) (mul_comm (2 ^ n) (f (suc n))) in
    omega (arith, from_front n f, twice)

from-none : (f : ℕ → ℕ) → page.from_bits 0 f ≡ 0
unfolding page.from_bits
from-none f = refl

none_is : (n : ℕ) → page.from_bits n (λ i. get_or [] i 0) ≡ 0
unfolding page.from_bits
none_is zero = refl
none_is (suc n) = omega (arith, none_is n)

number_is : (n : ℕ) (l : List ℕ) → bids.from_bits (take n l) ≡ page.from_bits n (λ i. get_or l i 0)
unfolding bids.from_bits
number_is zero l = sym (from-none (λ i. get_or l i 0))
number_is (suc n) [] = sym (none_is (suc n))
number_is (suc n) (x ∷ l) = ap (λ (z : ℕ). x + 2 * z) (number_is n l) ∙ sym (from_front n (λ i. get_or (x ∷ l) i 0))

says_is : (L b : ℕ) (x y : says.Bids L b) (outputs : List ℕ) → length outputs ≡ says.bit_length L + (b + 1)
    → bids.SaysClearing L (record { buy = x.buy; sell = x.sell }) (record { buy = y.buy; sell = y.sell }) outputs
    → says.SaysClearing L b x y outputs
unfolding bids.level_in bids.quantity_in
says_is L b x y outputs long h =
    let n = market.bit_length L in
    let same = length_is L L in
    let level : bids.from_bits (take n outputs) ≡ page.from_bits (says.bit_length L) (λ i. get_or outputs i 0) =
    number_is n outputs ∙ ap (λ (k : ℕ). page.from_bits k (λ i. get_or outputs i 0)) (sym same) in
    let left : length (drop n outputs) ≡ b + 1 = omega (arith, length-drop n outputs, long, same) in
    let quantity : bids.from_bits (drop n outputs) ≡ page.from_bits (b + 1) (λ i. get_or outputs (says.bit_length L + i) 0) =
    ap bids.from_bits (sym (ap (λ (k : ℕ). take k (drop n outputs)) (sym left) ∙ take-length (drop n outputs)))
    ∙ number_is (b + 1) (drop n outputs)
    ∙ ap (page.from_bits (b + 1)) (fun_ext (λ i. get_or-drop n outputs i 0 ∙ ap (λ (k : ℕ). get_or outputs (k + i) 0) (sym same))) in
    to_page L _ _ _ _
    (subst (λ (k : ℕ). clears.Clears L (λ k. x.buy k + y.buy k) (λ k. x.sell k + y.sell k) k
    (page.from_bits (b + 1) (λ i. get_or outputs (says.bit_length L + i) 0))) level
    (subst (λ (q : ℕ). clears.Clears L (λ k. x.buy k + y.buy k) (λ k. x.sell k + y.sell k) (bids.from_bits (take n outputs)) q) quantity h))

-- ---- the circuit

total_is : (f : ℕ → ℕ) (k n : ℕ) → counts.sum_of f k n ≡ page2.total n (λ i. f (k + i))
unfolding counts.sum_of page2.total
total_is f k zero = refl
total_is f k (suc n) =
    ap₂ (λ (a b : ℕ). a + b) (ap f (sym (add-zero k)))
    (total_is f (suc k) n ∙ ap (page2.total n) (fun_ext (λ i. ap f {x = suc k + i} {y = k + suc i} (omega arith))))
    ∙ sym (total-front n (λ i. f (k + i)))

ones_is : (L : ℕ) → counts.ones_to L ≡ page2.total L (λ k. page2.total (says.bit_length L) (λ i. suc k / 2 ^ i % 2))
unfolding counts.ones_to
ones_is L =
    total_is (λ k. counts.sum_of (λ i. market.bit i k) 0 (market.bit_length L)) 1 L
    ∙ ap (page2.total L) (fun_ext (λ k.
    total_is (λ i. market.bit i (1 + k)) 0 (market.bit_length L)
    ∙ ap₂ (λ (n : ℕ) (f : ℕ → ℕ). page2.total n f) (sym (length_is L L))
    (fun_ext (λ i. let zero_of : 0 + i ≡ i = omega arith in let one_of_lem : 1 + k ≡ suc k = omega arith in
    ap₂ (λ (a b : ℕ). b / 2 ^ a % 2) zero_of one_of_lem))))

module _ (L b : ℕ) (l : 1 ≤ L) (w : 1 ≤ b) where
  pub counted : ((C L b).inputs ≡ 4 * (L * b))
      × ((C L b).inputs + length (C L b).gates + (L + b + 2 + says.bit_length L)
      ≡ 23 * (L * b) + page2.total L (λ k. page2.total (says.bit_length L) (λ i. suc k / 2 ^ i % 2)))
      × (page2.ands (C L b).gates + 1 ≡ 2 * (L * b) + 2 * (L * (b + 1)) + L)
      × (length (C L b).outputs ≡ says.bit_length L + (b + 1)) × (page2.round_count (C L b) ≡ L + b + 2)
  counted =
      let x = market.clearing_circuit L b in
      let m = market_counts L b l w in
      let same = length_is L L in (
        m.inputs,
        omega (arith, m.wires, length-gates x.gates, same, ones_is L),
        omega (arith, m.ands, ands_is x.gates),
        omega (arith, m.outputs, same),
        rounds_is x ∙ m.rounds,
      )

  clears_is : (x y : says.Bids L b) → says.SaysClearing L b x y (page2.value_of (C L b) (says.bid_bits L b x ++ says.bid_bits L b y))
  unfolding value_of
  clears_is x y =
      let within : (z : says.Bids L b) → bids.Within L b (record { buy = z.buy; sell = z.sell }) =
      λ z. record { buys = λ k s t. (z.within k s t).0; sells = λ k s t. (z.within k s t).1 } in
      let law = circuit-clears L b l w (record { buy = x.buy; sell = x.sell }) (record { buy = y.buy; sell = y.sell }) (within x) (within y) in
      let bits = ap₂ (λ (u v : List ℕ). u ++ v) (bids_are L b x) (bids_are L b y) in
      subst (says.SaysClearing L b x y) (sym (value_is (market.clearing_circuit L b) (says.bid_bits L b x ++ says.bid_bits L b y)))
      (says_is L b x y _ (length-map (market.clearing_circuit L b).outputs _ ∙ counted.3)
      (subst (λ (z : List ℕ). bids.SaysClearing L (record { buy = x.buy; sell = x.sell }) (record { buy = y.buy; sell = y.sell })
      (value_of (market.clearing_circuit L b) z)) bits law))

  prices : (K : page2.RunKind) → second.Runs K → says.Prices K L b (C L b)
  prices K R x y shares₁ triples₁ shares₂ triples₂ run₁ run₂ combined E k₁ k₂ m₁ m₂ i₁ i₂ f₁ f₂ =
      subst (says.SaysClearing L b x y)
      (ap (page2.value_of (C L b)) (sym combined)
      ∙ sym (R.evaluates (page2.write_circuit (C L b)) (C L b) shares₁ triples₁ shares₂ triples₂ run₁ run₂ E k₁ k₂ m₁ m₂ i₁ i₂ f₁ f₂))
      (clears_is x y)

pub market_prices : says.Market
market_prices =
    record {
      one =
          λ L demand supply.
          let p = one_price L demand supply in
          (p.0, p.1, to_page L demand supply p.0 p.1 p.2, λ k q c. p.3 k q (of_page L demand supply k q c));
      circuit = C;
      bytes = written_is (market.clearing_circuit 8 8) ∙ market-bytes;
      clears = clears_is;
      runs = λ L b l w. (prices L b l w page2.in_rounds rounds-run, prices L b l w page2.in_steps steps-run);
      admitted =
          λ L b l w few.
          of_admitted (market.clearing_circuit L b)
          (market_admitted L b (record { levels = l; bits = w; wires = let n = length-gates (market.clearing_circuit L b).gates in omega (arith, few, n) }));
      counts = counted;
    }
