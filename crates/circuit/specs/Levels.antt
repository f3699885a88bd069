-- The levels of a circuit's wires (circuits in rounds): how many ANDs stand one behind the other on the longest way from the inputs
-- to a wire. A run in rounds takes one round more than the greatest level.
use Rattle.std.specs.Prelude.{ℕ, ◌+◌, ◌&&◌, List, [], ◌∷◌, leb, eqb, get_or, drop, replicate}
use Rattle.algebra.specs.Choice.{choose}
use Rattle.circuit.specs.Content.{Gate, Xor, And, Not, Circuit, is_and}
use Rattle.circuit.specs.Value.{over_gates}

-- the greater of two
abbrev pub greater : ℕ → ℕ → ℕ
greater a b = choose (leb a b) b a

-- the level of a gate, from the levels of the wires before it: an exclusive or's the greater of its wires', a NOT's its wire's, an
-- AND's one more than the greater of its wires'
unfoldable pub gate_level : Gate → List ℕ → ℕ
gate_level (Xor a b) levels = greater (get_or levels a 0) (get_or levels b 0)
gate_level (And a b) levels = 1 + greater (get_or levels a 0) (get_or levels b 0)
gate_level (Not a) levels = get_or levels a 0

-- the levels of all wires; an input's is 0
unfoldable pub levels : Circuit → List ℕ
levels c = over_gates gate_level c.gates (replicate c.inputs 0)

-- the level of a wire
abbrev pub level_of : Circuit → ℕ → ℕ
level_of c wire = get_or (levels c) wire 0

-- the greatest of numbers
unfoldable pub greatest : List ℕ → ℕ
greatest [] = 0
greatest (n ∷ ns) = greater n (greatest ns)

-- the depth: the greatest level of any wire, wires that no output needs among them
abbrev pub depth : Circuit → ℕ
depth c = greatest (levels c)

-- the rounds that a run takes
abbrev pub round_count : Circuit → ℕ
round_count c = depth c + 1

-- how many of gates, whose levels are given, are ANDs of a level
unfoldable pub ands_of : ℕ → List Gate → List ℕ → ℕ
ands_of level [] of = 0
ands_of level (g ∷ gs) of = choose (is_and g && eqb (get_or of 0 0) level) 1 0 + ands_of level gs (drop 1 of)

-- how many ANDs of a level the circuit has
abbrev pub ands_at_level : Circuit → ℕ → ℕ
ands_at_level c level = ands_of level c.gates (drop c.inputs (levels c))
