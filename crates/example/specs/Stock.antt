-- Nothing is vacuous: after an accepted opening a list of draws, previews and passages on one stock, some of them refused, made by `calls_made`
-- itself, through what `StockLists` asks (document 02, 2, 5 and 14).
use Rattle.std.specs.Prelude.{◌≡◌, List, [], ◌∷◌, map, ℕ, replicate}
use Rattle.answer.specs.Numbers.{accepted, share_spent, label_not_above, label_not_in_use}
use Rattle.stock.specs.declared.Label.{Label}
use Rattle.stock.specs.declared.Stock.{Stock}
use Rattle.stock.specs.Calls.{open_stock}
use Rattle.stock.specs.Stock.{remaining}
use Rattle.stock.specs.Lists.{Call, draws, previews, passes, StockMade, calls_made, last, a_draw, handed, StockClaim}

-- the label of a small number
abbrev pub label : ℕ → Label
label number = record { bytes = number ∷ replicate 15 0 }

-- ten outputs under label 5, of which caller 0 has three and caller 1 four
abbrev pub shares : List ℕ
shares = 3 ∷ 4 ∷ []

abbrev pub stock : Stock
stock = (open_stock (label 5) 10 shares).opened.stock

-- caller 0 keeps one output and caller 1 three when label 6 comes into use
abbrev pub calls : List Call
calls =
    draws (label 5) 0 2
    ∷ previews (label 5) 1 3
    ∷ draws (label 5) 1 1
    ∷ draws (label 5) 0 2
    ∷ passes (label 6) 5
    ∷ draws (label 5) 1 1
    ∷ draws (label 6) 1 2
    ∷ passes (label 6) 9
    ∷ previews (label 6) 0 1
    ∷ draws (label 6) 0 1
    ∷ []

-- the number and the window of a reply
abbrev pub shown : StockMade → List ℕ
shown m = m.reply.number ∷ m.reply.first ∷ m.reply.count ∷ []

pub record StockExample : Type 0 where
  pub opened : (open_stock (label 5) 10 shares).opened.number ≡ accepted
  -- what each call of the list replies, in turn
  pub replies :
      map shown (calls_made stock calls)
      ≡ (accepted ∷ 0 ∷ 2 ∷ [])
      ∷ (accepted ∷ 3 ∷ 3 ∷ [])
      ∷ (accepted ∷ 3 ∷ 1 ∷ [])
      ∷ (share_spent ∷ 0 ∷ 0 ∷ [])
      ∷ (accepted ∷ 0 ∷ 0 ∷ [])
      ∷ (label_not_in_use ∷ 0 ∷ 0 ∷ [])
      ∷ (accepted ∷ 1 ∷ 2 ∷ [])
      ∷ (label_not_above ∷ 0 ∷ 0 ∷ [])
      ∷ (accepted ∷ 0 ∷ 1 ∷ [])
      ∷ (accepted ∷ 0 ∷ 1 ∷ [])
      ∷ []
  -- six outputs are handed out, and caller 1 still holds one
  pub handed_out : handed a_draw (calls_made stock calls) ≡ 6
  pub kept : map (remaining (last stock calls)) (0 ∷ 1 ∷ []) ≡ 0 ∷ 1 ∷ []
  -- so the claim holds of this list
  pub claimed : StockClaim 10 shares stock calls
