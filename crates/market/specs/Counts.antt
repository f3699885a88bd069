-- How large the market's circuit is: its inputs, wires, ANDs, outputs and rounds.
use Rattle.std.specs.Prelude.{ℕ, zero, suc, ◌+◌, ◌*◌, ◌≤◌, ◌≡◌, length}
use Rattle.circuit.specs.Content.{Circuit, ands_in}
use Rattle.circuit.specs.Levels.{round_count}
use Rattle.market.specs.Circuit.{bit, bit_length, clearing_circuit}

-- the sum of n terms from k on
unfoldable pub sum_of : (ℕ → ℕ) → ℕ → ℕ → ℕ
sum_of f k zero = 0
sum_of f k (suc n) = f k + sum_of f (suc k) n

-- how many ones the numbers 1 to L have in binary, together
unfoldable pub ones_to : ℕ → ℕ
ones_to L = sum_of (λ k. sum_of (λ i. bit i k) 0 (bit_length L)) 1 L

-- 4Lb inputs; 23Lb - L - b - 2 wires and those ones less the length of L; 2Lb + 2L(b + 1) + L - 1 ANDs
pub record Counts (L b : ℕ) : Type 0 where
  pub inputs : (clearing_circuit L b).inputs ≡ 4 * (L * b)
  pub wires : (clearing_circuit L b).inputs + length (clearing_circuit L b).gates + (L + b + 2 + bit_length L) ≡ 23 * (L * b) + ones_to L
  pub ands : ands_in (clearing_circuit L b).gates + 1 ≡ 2 * (L * b) + 2 * (L * (b + 1)) + L
  pub outputs : length (clearing_circuit L b).outputs ≡ bit_length L + (b + 1)
  pub rounds : round_count (clearing_circuit L b) ≡ L + b + 2

abbrev pub MarketCounts : Type 0
MarketCounts = (L b : ℕ) → 1 ≤ L → 1 ≤ b → Counts L b
