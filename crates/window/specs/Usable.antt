-- Which windows have only usable places (document 01, 'Offline and online': a row uses every word at its places, also under
-- a coefficient of zero).
use Rattle.std.specs.Prelude.{Bool, ℕ, ◌+◌}
use Rattle.algebra.specs.Every.{every}
use Rattle.record.specs.Content.{Head}
use Rattle.window.specs.Head.{row}

-- every place of the rows first to first + count − 1 passes the test
unfoldable pub window_usable : (ℕ → Bool) → Head → ℕ → ℕ → Bool
window_usable usable h first count = every count (λ k. every h.terms (λ i. usable ((row h (first + k)).place i)))
