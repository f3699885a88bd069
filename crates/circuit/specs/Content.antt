-- The content of a circuit (document 02, 9): wires, from 0, are inputs first, then gates in order.
use Rattle.std.specs.Prelude.{ℕ, ◌+◌, Bool, true, false, List, [], ◌∷◌}
use Rattle.algebra.specs.Choice.{choose}

-- a gate: its kind and its two wires, or its one wire
pub data Gate : Type 0 where
  Xor : ℕ → ℕ → Gate
  And : ℕ → ℕ → Gate
  Not : ℕ → Gate

-- the number of inputs, the gates, and the output wires
pub record Circuit : Type 0 where
  pub inputs : ℕ
  pub gates : List Gate
  pub outputs : List ℕ

-- whether a gate is an AND
abbrev pub is_and : Gate → Bool
is_and (Xor a b) = false
is_and (And a b) = true
is_and (Not a) = false

-- how many ANDs there are among gates
unfoldable pub ands_in : List Gate → ℕ
ands_in [] = 0
ands_in (g ∷ gs) = choose (is_and g) 1 0 + ands_in gs
