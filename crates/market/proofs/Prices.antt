-- Bids to price, in rounds and in steps. Assumes nothing.
use Prim.Native.Nat.{ℕ, zero, suc, ◌+◌, ◌*◌, ◌/◌, ◌≤◌}
use mathlib.Core.Bool.{Bool, true, false}
use mathlib.Core.List.{List, ◌++◌}
use mathlib.Core.Path.{◌≡◌, sym, ap, ◌∙◌, subst}
use native.Mathlib.Omega.{arith}
use lib.Dec.{eqb}
use lib.ListN.{length}
use Rattle.algebra.specs.Choice.{choose}
use Rattle.circuit.proofs.Exact.{one-writing}
use Rattle.circuit.specs.Reading.{read_circuit}
use Rattle.circuit.specs.Value.{value_of}
use Rattle.circuit.specs.Writing.{write_circuit}
use Rattle.number.specs.Reading.{Whole}
use Rattle.claims.proofs.CircuitRuns.{circuits}
use Rattle.claims.proofs.RoundRuns.{round_circuits}
use Rattle.market.specs.Bids.{Bids, bid_bits, Within, SaysClearing}
use Rattle.market.specs.Circuit.{length_within, clearing_circuit}
use Rattle.market.specs.Price.{Sizes, MarketAdmitted, BidsToPrice, BidsToPriceBySteps}
use Rattle.market.proofs.Cleared.{circuit-clears}
use Rattle.market.proofs.Shape.{shaped}

length_most : (most n : ℕ) → length_within most n ≤ most
unfolding length_within
length_most zero n = omega arith
length_most (suc most) n = at (eqb n 0) (length_most most (n / 2))
  where
    at : (t : Bool) → length_within most (n / 2) ≤ most → choose t 0 (1 + length_within most (n / 2)) ≤ suc most
    at true h = omega arith
    at false h = omega (arith, h)

factors_below : (L b : ℕ) → 1 ≤ L → 1 ≤ b → (L ≤ L * b) × (b ≤ L * b)
factors_below zero b h g = elim h [ ]
factors_below (suc l) zero h g = elim g [ ]
factors_below (suc l) (suc c) h g = (omega arith, omega arith)

pub market_admitted : MarketAdmitted
unfolding clearing_circuit
market_admitted L b s =
    let t = shaped L b s.levels s.bits in
    let f = factors_below L b s.levels s.bits in
    record {
      inputs = t.some;
      wires = s.wires;
      outputs = (omega (arith, t.out), few-outputs L b s);
      gates = t.gates;
      output_wires = t.outputs;
    }
  where
    few-outputs : (L b : ℕ) → Sizes L b → length (clearing_circuit L b).outputs ≤ 4096
    few-outputs L b s =
        let f = factors_below L b s.levels s.bits in
        omega (arith, (shaped L b s.levels s.bits).out, length_most L L, f.0, f.1, s.wires)

reads-back : (L b : ℕ) → Sizes L b → read_circuit (write_circuit (clearing_circuit L b)) ≡ Whole (clearing_circuit L b)
reads-back L b s = one-writing.back (clearing_circuit L b) (market_admitted L b s)

-- outputs that are the circuit's on the bids' bits
says : (L b : ℕ) → Sizes L b → (x y : Bids) → Within L b x → Within L b y → (shares outputs : List ℕ)
    → shares ≡ bid_bits L b x ++ bid_bits L b y → outputs ≡ value_of (clearing_circuit L b) shares → SaysClearing L x y outputs
says L b s x y wx wy shares outputs e f =
    subst (λ (l : List ℕ). SaysClearing L x y l) (sym (f ∙ ap (value_of (clearing_circuit L b)) e))
    (circuit-clears L b s.levels s.bits x y wx wy)

pub bids_to_price : BidsToPrice
bids_to_price L b s x y wx wy calls₁ calls₂ shares₁ triples₁ shares₂ triples₂ e ends gathered k₁ k₂ m₁ m₂ i₁ i₂ f₁ f₂ =
    says L b s x y wx wy _ _ e
    (round_circuits _ _ (reads-back L b s) calls₁ calls₂ shares₁ triples₁ shares₂ triples₂ ends gathered k₁ k₂ m₁ m₂ i₁ i₂ f₁ f₂)

pub bids_to_price_by_steps : BidsToPriceBySteps
bids_to_price_by_steps L b s x y wx wy calls₁ calls₂ shares₁ triples₁ shares₂ triples₂ e ends gathered k₁ k₂ m₁ m₂ i₁ i₂ f₁ f₂ =
    says L b s x y wx wy _ _ e
    (circuits _ _ (reads-back L b s) calls₁ calls₂ shares₁ triples₁ shares₂ triples₂ ends gathered k₁ k₂ m₁ m₂ i₁ i₂ f₁ f₂)
