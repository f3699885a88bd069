-- The calls on a stock (document 02, 2, 5 and 14): from everything that a caller passes to everything that it gets. A call has its
-- tests one a line, in document 02's order, and then what it answers.
use Rattle.std.specs.Prelude.{Bool, ◌&&◌, List, [], ◌∷◌, ℕ, ◌+◌, leb, ltb, length, get_or, set}
use Rattle.answer.specs.Numbers.{accepted, bad_size, no_caller, share_spent, shares_above, label_not_above, label_not_in_use}
use Rattle.answer.specs.Tests.{Test, ◌is◌, ◌at_most◌, holds, ◌or◌}
use Rattle.answer.specs.Outcome.{answered}
use Rattle.stock.specs.declared.Drawn.{Drawn}
use Rattle.stock.specs.declared.Label.{Label}
use Rattle.stock.specs.declared.OpenedStock.{OpenedStock}
use Rattle.stock.specs.declared.Previewed.{Previewed}
use Rattle.stock.specs.declared.Stock.{Stock}
use Rattle.stock.specs.Label.{number_of, label_zero}
use Rattle.stock.specs.Stock.{is_caller, next_of, remaining, sum_of, held, share_blocks}

-- 1 to a largest number
abbrev pub is_count : ℕ → ℕ → Bool
is_count most n = leb 1 n && leb n most

-- the answer of an opening or a passage: a stock, and a number
abbrev pub with_stock : Stock → ℕ → OpenedStock
with_stock stock number = record { number = number; stock = stock }

-- ---- opening

-- caller k's share
abbrev pub opening_share : List ℕ → ℕ → ℕ
opening_share shares k = get_or shares k 0

-- a stock without callers, under label 0
unfoldable pub no_callers : Stock
no_callers = share_blocks label_zero 0 (λ k. 0)

-- the answer, and the shares as they stand on return
pub record StockOpening : Type 0 where
  pub opened : OpenedStock
  pub shares : List ℕ

abbrev pub stock_opening : OpenedStock → List ℕ → StockOpening
stock_opening opened shares = record { opened = opened; shares = shares }

-- its tests: one to eight callers, n from 1 to 32,768, and shares that sum to at most n
abbrev pub open_tests : ℕ → List ℕ → List Test
open_tests outputs shares =
    holds (is_count 8 (length shares)) or bad_size
    ∷ holds (is_count 32768 outputs) or bad_size
    ∷ sum_of (length shares) (opening_share shares) at_most outputs or shares_above
    ∷ []

-- opening a stock names a label, n and a share per caller; a refused opening gives a stock without callers
unfoldable pub open_stock : Label → ℕ → List ℕ → StockOpening
open_stock label outputs shares =
    stock_opening
    (answered (open_tests outputs shares) (with_stock no_callers)
    (with_stock (share_blocks label (length shares) (opening_share shares)) accepted))
    shares

-- ---- draws

-- its tests: the label in use, a caller of the stock, and a remaining share of c or more
abbrev pub draw_tests : Stock → Label → ℕ → ℕ → List Test
draw_tests s l k c =
    number_of l is number_of s.label or label_not_in_use
    ∷ holds (is_caller s k) or no_caller
    ∷ c at_most remaining s k or share_spent
    ∷ []

-- the stock with caller k's next index raised by c
unfoldable pub advanced : Stock → ℕ → ℕ → Stock
advanced s k c = record { callers = s.callers; label = s.label; next = set s.next k (next_of s k + c); end = s.end }

-- an accepted draw of c returns the caller's next c indices, as a window; a refused draw names no index and changes nothing
abbrev pub accepted_draw : Stock → ℕ → ℕ → Drawn
accepted_draw s k c = record { number = accepted; first = next_of s k; count = c; stock = advanced s k c }

abbrev pub refused_draw : Stock → ℕ → Drawn
refused_draw s number = record { number = number; first = 0; count = 0; stock = s }

unfoldable pub draw : Stock → Label → ℕ → ℕ → Drawn
draw s l k c = answered (draw_tests s l k c) (refused_draw s) (accepted_draw s k c)

-- ---- previews

-- a preview gives the reply and the stock afterwards: it equals making that draw on a copy, refused draws included
-- (document 02, 5)
unfoldable pub preview : Stock → Label → ℕ → ℕ → Previewed
preview s l k c =
    record {
      number = (draw s l k c).number;
      first = (draw s l k c).first;
      count = (draw s l k c).count;
      after = (draw s l k c).stock;
    }

-- ---- passage to a fresh dealing

-- its tests: n from 1 to 32,768, a label above the one in use, and unspent shares that sum to at most n
abbrev pub pass_tests : Stock → Label → ℕ → List Test
pass_tests s l outputs =
    holds (is_count 32768 outputs) or bad_size
    ∷ holds (ltb (number_of s.label) (number_of l)) or label_not_above
    ∷ held s at_most outputs or shares_above
    ∷ []

-- each caller keeps its unspent share, as a consecutive block of the fresh outputs from index 0, in caller order; a refused
-- passage changes nothing (document 02, 14)
unfoldable pub pass : Stock → Label → ℕ → OpenedStock
pass s l outputs =
    answered (pass_tests s l outputs) (with_stock s)
    (with_stock (share_blocks l s.callers (remaining s)) accepted)
