-- The list of calls on one stock, by computation; the claim about it, by `StockLists` itself.
use mathlib.Core.Path.{◌≡◌, refl}
use Rattle.answer.specs.Numbers.{accepted}
use Rattle.answer.specs.Outcome.{by_number, answered}
use Rattle.answer.specs.Tests.{is_met, first_fault}
use Rattle.field.specs.Bytes.{le_number}
use Rattle.stock.specs.Label.{number_of}
use Rattle.stock.specs.Stock.{is_caller, remaining, sum_of, held, entries, share_blocks}
use Rattle.stock.specs.Calls.{open_stock, advanced, draw, preview, pass}
use Rattle.stock.proofs.Claims.{lists}
use Rattle.stock.specs.Lists.{make, calls_made, last, handed}
use Rattle.example.specs.Stock.{label, shares, calls, StockExample}

opened : (open_stock (label 5) 10 shares).opened.number ≡ accepted
unfolding is_met first_fault by_number answered sum_of open_stock
opened = refl

pub stock_example : StockExample
unfolding is_met first_fault by_number answered le_number number_of is_caller remaining sum_of held entries share_blocks open_stock advanced draw preview pass make calls_made last handed
stock_example =
    record {
      opened = opened;
      replies = refl;
      handed_out = refl;
      kept = refl;
      claimed = lists (label 5) 10 shares opened calls;
    }
