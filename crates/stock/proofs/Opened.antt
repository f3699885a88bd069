-- What the opening's proof asks for, in the form in which the code has it.
use mathlib.Core.Path.{◌≡◌, sym, ap, fun_ext, ◌∙◌}
use mathlib.Core.Bool.{Bool, true, false, not}
use mathlib.Core.List.{List}
use Prim.Native.Nat.{ℕ, ◌≤◌, ◌<◌}
use native.Mathlib.Omega.{arith}
use lib.Dec.{leb}
use lib.ListN.{length, get_or-eq_default}
use mir.Syntax.{w32}
use mir.Val.{Fits}
use borrow.Author.Tests.{leb-true, not-false}
use Rattle.algebra.proofs.Tests.{and_right}
use Rattle.answer.specs.Tests.{◌at_most◌, is_met}
use Rattle.answer.proofs.Faults.{at-most, above}
use Rattle.stock.specs.declared.Label.{Label}
use Rattle.stock.specs.declared.OpenedStock.{OpenedStock}
use Rattle.stock.specs.declared.Stock.{Stock}
use Rattle.stock.specs.Stock.{sum_of, entries, share_blocks}
use Rattle.stock.specs.Calls.{is_count, with_stock, opening_share, stock_opening}
use Rattle.stock.proofs.Cases.{by_order}
use Rattle.stock.proofs.Entries.{entries_in, entries_past, sum_stays}

pub up_to_most : (most n : ℕ) → is_count most n ≡ true → n ≤ most
up_to_most most n e = leb-true n most (and_right (leb 1 n) (leb n most) e)

-- the padded shares are the shares
padded-shares : (shares : List ℕ) → length shares ≤ 8 → opening_share (entries (length shares) (opening_share shares)) ≡ opening_share shares
padded-shares shares most =
    fun_ext λ k.
    by_order k (length shares)
    (λ b. entries_in (length shares) (opening_share shares) k (omega arith) b)
    (λ a. entries_past (length shares) (opening_share shares) k a ∙ sym (get_or-eq_default shares 0 a))

-- after the test of the callers
module _ (shares : List ℕ) (t : Bool) (callers : t ≡ is_count 8 (length shares)) (some : not t ≡ false) where
  pub open_most : length shares ≤ 8
  open_most = up_to_most 8 (length shares) (sym callers ∙ not-false t some)

  pub open_fits : Fits w32 (length shares)
  open_fits = let h = open_most in omega arith

  module _ (each : List ℕ) (padded : each ≡ entries (length shares) (opening_share shares)) where
    same-shares : opening_share each ≡ opening_share shares
    same-shares = ap opening_share padded ∙ padded-shares shares open_most

    pub open_blocks : (label : Label) (b : Stock) → b ≡ share_blocks label (length shares) (opening_share each)
        → with_stock b 0 ≡ with_stock (share_blocks label (length shares) (opening_share shares)) 0
    open_blocks label b e = rw (e, same-shares)

    -- the sum of the eight shares is that of the shares
    module _ (outputs sum : ℕ) (summed : sum ≡ sum_of 8 (opening_share each)) where
      sum_of_shares : sum ≡ sum_of (length shares) (opening_share shares)
      sum_of_shares =
          summed ∙ ap (sum_of 8) same-shares
          ∙ sum_stays (length shares) 8 (opening_share shares) open_most (λ k h. get_or-eq_default shares 0 h)

      pub open_within : is_count 32768 outputs ≡ true → sum_of (length shares) (opening_share shares) ≤ outputs → sum_of 8 (opening_share each) ≤ 32768
      open_within most enough = let m = up_to_most 32768 outputs most in let h = sum_of_shares in omega arith

      pub open_above : outputs < sum → is_met (sum_of (length shares) (opening_share shares) at_most outputs) ≡ false
      open_above h = rw (← sum_of_shares) (above sum outputs h)

      pub open_enough : sum ≤ outputs → is_met (sum_of (length shares) (opening_share shares) at_most outputs) ≡ true
      open_enough h = rw (← sum_of_shares) (at-most sum outputs h)

pub same_opening : (shares : List ℕ) (a b : OpenedStock) → a ≡ b → stock_opening a shares ≡ stock_opening b shares
same_opening shares a b e = rw e
