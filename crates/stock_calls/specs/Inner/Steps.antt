-- Inner: no promise cites this file. Blocks as they are filled, caller by caller.
use Rattle.std.specs.Prelude.{List, ℕ, suc}
use Rattle.stock.specs.Stock.{sum_of, entries}
use Rattle.stock.specs.Calls.{opening_share}

-- where the blocks of the first n callers begin and end, with zeros past them
unfoldable pub starts : ℕ → List ℕ → List ℕ
starts n shares = entries n (λ k. sum_of k (opening_share shares))

unfoldable pub ends : ℕ → List ℕ → List ℕ
ends n shares = entries n (λ k. sum_of (suc k) (opening_share shares))
