-- Inner: no promise cites this file. What the inner functions ask of their callers.
use Rattle.std.specs.Prelude.{ℕ, ◌+◌, ◌*◌, ◌≤◌}

-- a window with 16 bytes an output lent, and room for its outputs
pub record WindowFits (first count lent width room : ℕ) : Type 0 where
  pub window : first + count ≤ 32768
  pub blocks : 16 * count ≤ lent
  pub outputs : count * width ≤ room
