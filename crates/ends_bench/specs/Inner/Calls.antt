-- Inner: no promise cites this file. Windows that pass the tests after the record.
use Rattle.std.specs.Prelude.{ℕ, ◌+◌, ◌*◌, ◌≤◌}
use Rattle.code.specs.declared.Window.{Window}
use Rattle.field.specs.Kind.{element_words}
use Rattle.record.specs.declared.Layout.{Layout}

-- a window that ends at 32768 (the largest n) or before, and room for its outputs
pub record ScalarFits (f : Layout) (w : Window) (room : ℕ) : Type 0 where
  pub within : w.first + w.count ≤ 32768
  pub enough : w.count * element_words f.field ≤ room

pub record NoiseFits (f : Layout) (w : Window) (u_room room : ℕ) : Type 0 where
  pub within : w.first + w.count ≤ 32768
  pub u_enough : w.count * 1 ≤ u_room
  pub enough : w.count * element_words f.field ≤ room
