-- Both houses' bids as the circuit's inputs, what its outputs say, and the statement: they say what clears.
use Rattle.std.specs.Prelude.{ℕ, zero, suc, ◌+◌, ◌*◌, ◌/◌, ◌%◌, ◌^◌, ◌≤◌, ◌<◌, List, [], ◌∷◌, ◌++◌, take, drop}
use Rattle.circuit.specs.Value.{value_of}
use Rattle.market.specs.Circuit.{bit_length, clearing_circuit}
use Rattle.market.specs.Clears.{Clears}

-- a number as bits, lowest first, and back
unfoldable pub to_bits : ℕ → ℕ → List ℕ
to_bits zero q = []
to_bits (suc b) q = q % 2 ∷ to_bits b (q / 2)

unfoldable pub from_bits : List ℕ → ℕ
from_bits [] = 0
from_bits (x ∷ xs) = x + 2 * from_bits xs

-- the bits of a curve at n levels from k on
unfoldable pub curve_bits : ℕ → (ℕ → ℕ) → ℕ → ℕ → List ℕ
curve_bits b q k zero = []
curve_bits b q k (suc n) = to_bits b (q k) ++ curve_bits b q (suc k) n

-- a house's bids: at each level from 1 on what it would buy and what it would sell there
pub record Bids : Type 0 where
  pub buy : ℕ → ℕ
  pub sell : ℕ → ℕ

-- as `write_bids` writes them
unfoldable pub bid_bits : ℕ → ℕ → Bids → List ℕ
bid_bits L b x = curve_bits b x.buy 1 L ++ curve_bits b x.sell 1 L

-- quantities of b bits
pub record Within (L b : ℕ) (x : Bids) : Type 0 where
  pub buys : (k : ℕ) → 1 ≤ k → k ≤ L → x.buy k < 2 ^ b
  pub sells : (k : ℕ) → 1 ≤ k → k ≤ L → x.sell k < 2 ^ b

-- as `read_clearing` reads the outputs
unfoldable pub level_in : ℕ → List ℕ → ℕ
level_in L outputs = from_bits (take (bit_length L) outputs)

unfoldable pub quantity_in : ℕ → List ℕ → ℕ
quantity_in L outputs = from_bits (drop (bit_length L) outputs)

-- both houses' curves, added
abbrev pub demand_of : Bids → Bids → ℕ → ℕ
demand_of x y k = x.buy k + y.buy k

abbrev pub supply_of : Bids → Bids → ℕ → ℕ
supply_of x y k = x.sell k + y.sell k

-- outputs that say what clears
abbrev pub SaysClearing : ℕ → Bids → Bids → List ℕ → Type 0
SaysClearing L x y outputs = Clears L (demand_of x y) (supply_of x y) (level_in L outputs) (quantity_in L outputs)

-- the circuit on the bits of both houses' bids says what clears
abbrev pub CircuitClears : Type 0
CircuitClears =
    (L b : ℕ) → 1 ≤ L → 1 ≤ b → (x y : Bids) → Within L b x → Within L b y
    → SaysClearing L x y (value_of (clearing_circuit L b) (bid_bits L b x ++ bid_bits L b y))
