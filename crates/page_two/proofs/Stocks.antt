-- The page's calls on a stock are the library's (requests 2, 5 and 14).
use Prim.Native.Nat.{ℕ, suc}
use mathlib.Core.Path.{◌≡◌, refl, sym, ap, ap₂, ◌∙◌, fun_ext}
use mathlib.Core.Bool.{Bool, true, false}
use mathlib.Core.List.{List}
use lib.Dec.{eqb, leb, ltb}
use lib.ListN.{length}
use Rattle.algebra.specs.Choice.{choose}
use Rattle.answer.specs.Tests.{Test, is_met, first_fault}
use Rattle.answer.specs.Outcome.{by_number, answered}
use Rattle.field.specs.Bytes.{le_number}
use Rattle.stock.specs.declared.Drawn.{Drawn}
use Rattle.stock.specs.declared.Label.{Label}
use Rattle.stock.specs.declared.OpenedStock.{OpenedStock}
use Rattle.stock.specs.declared.Previewed.{Previewed}
use Rattle.stock.specs.declared.Stock.{Stock}
use Rattle.stock.specs.Label.{number_of}
use Rattle.stock.specs.Stock as stocks
use Rattle.stock.specs.Calls as calls
use Rattle.page.specs.Document01 as page
use Rattle.page.proofs.Calls.{Tests, none, more}
use Rattle.page_two.specs.Document02 as page2

-- ---- structs as the page has them

abbrev pub stock : Stock → page2.Stock
stock s = page2.stock s.callers s.label.bytes s.next s.end

abbrev pub opened : OpenedStock → page2.Reply × page2.Stock
opened o = page2.gives o.number 0 0 (stock o.stock)

abbrev pub opened_with : OpenedStock → List ℕ → page2.Reply × page2.Stock × List ℕ
opened_with o shares = page2.opened o.number (stock o.stock) shares

abbrev pub drawn : Drawn → page2.Reply × page2.Stock
drawn d = page2.gives d.number d.first d.count (stock d.stock)

abbrev pub previewed : Previewed → page2.Reply × page2.Stock
previewed d = page2.gives d.number d.first d.count (stock d.after)

tested_is : {O : Type 0} (o : O → page2.Reply × page2.Stock) (s : page2.Stock) (refusal : ℕ → O)
    → ((n : ℕ) → page2.gives n 0 0 s ≡ o (refusal n))
    → (a : page2.Reply × page2.Stock) (acceptance : O) → a ≡ o acceptance
    → {page-tests : List page.Test} {tests : List Test} → Tests page-tests tests
    → page2.tested page-tests s a ≡ o (answered tests refusal acceptance)
unfolding page2.tested answered by_number first_fault page.when◌then◌else◌
tested_is o s refusal f a acceptance e none = e
tested_is o s refusal f a acceptance e (more {page-tests} {tests} ask k ok m rest) =
    ap (λ (t : Bool). page.when◌then◌else◌ t (page2.tested page-tests s a) (page2.gives (suc k) 0 0 s)) m
    ∙ go (is_met ask) (tested_is o s refusal f a acceptance e rest)
  where
    go : (t : Bool) → page2.tested page-tests s a ≡ o (answered tests refusal acceptance)
        → page.when◌then◌else◌ t (page2.tested page-tests s a) (page2.gives (suc k) 0 0 s)
        ≡ o (by_number (choose t (first_fault tests) (suc k)) refusal acceptance)
    go true h = h
    go false h = f (suc k)

-- ---- what a stock holds

pub number_is : (l : Label) → page.from_bytes l.bytes ≡ number_of l
unfolding page.from_bytes number_of le_number
number_is l = refl

pub total_is : (n : ℕ) (f : ℕ → ℕ) → page2.total n f ≡ stocks.sum_of n f
unfolding page2.total stocks.sum_of
total_is n f = refl

pub remaining_is : (s : Stock) (k : ℕ) → page2.remaining (stock s) k ≡ stocks.remaining s k
unfolding page2.remaining stocks.remaining stocks.is_caller page.when◌then◌else◌
remaining_is s k = refl

pub held_is : (s : Stock) → page2.held (stock s) ≡ stocks.held s
unfolding stocks.held page2.total stocks.sum_of page2.remaining stocks.remaining stocks.is_caller page.when◌then◌else◌
held_is s = refl

shared_is : (l : Label) (n : ℕ) (f : ℕ → ℕ) → page2.shared l.bytes n f ≡ stock (stocks.share_blocks l n f)
unfolding page2.shared stocks.share_blocks stocks.entries page.list page.when◌then◌else◌ page2.total stocks.sum_of
shared_is l n f = refl

-- ---- the calls

pub open_is : (label : Label) (n : ℕ) (shares : List ℕ)
    → page2.open_stock label.bytes n shares ≡ opened_with (calls.open_stock label n shares).opened shares
unfolding page2.open_stock calls.open_stock is_met page2.total stocks.sum_of calls.no_callers
open_is label n shares =
    ap (λ (a : page2.Reply × page2.Stock). (a.0, a.1, shares))
    (tested_is opened _ _ (λ k. ap (page2.gives k 0 0) (shared_is _ 0 (λ k. 0))) _ _
    (ap (page2.gives 0 0 0) (shared_is label (length shares) _))
    (more _ _ _ refl (more _ _ _ refl (more _ _ _ refl none))))

module _ (s : Stock) (label : Label) (k c : ℕ) where
  pub draw_is : page2.draw (stock s) label.bytes k c ≡ drawn (calls.draw s label k c)
  unfolding page2.draw calls.draw is_met calls.advanced stocks.is_caller
  draw_is =
      tested_is drawn _ _ (λ n. refl) _ _ refl
      (more _ _ _ (ap₂ eqb (number_is label) (number_is s.label)) (more _ _ _ refl (more _ _ _ (ap (leb c) (remaining_is s k)) none)))

  pub preview_is : page2.preview (stock s) label.bytes k c ≡ previewed (calls.preview s label k c)
  unfolding page2.preview calls.preview
  preview_is = draw_is

pub pass_is : (s : Stock) (label : Label) (n : ℕ) → page2.pass_stock (stock s) label.bytes n ≡ opened (calls.pass s label n)
unfolding page2.pass_stock calls.pass is_met
pass_is s label n =
    tested_is opened _ _ (λ k. refl) _ _
    (ap (λ (f : ℕ → ℕ). page2.gives 0 0 0 (page2.shared label.bytes s.callers f)) (fun_ext (remaining_is s))
    ∙ ap (page2.gives 0 0 0) (shared_is label s.callers (stocks.remaining s)))
    (more _ _ _ refl
    (more _ _ _ (ap₂ ltb (number_is s.label) (number_is label)) (more _ _ _ (ap (λ (x : ℕ). leb x n) (held_is s)) none)))

-- ---- what an inner call promises, on the page

pub open_returned : (r : OpenedStock) (label : Label) (n : ℕ) (shares shares' : List ℕ)
    → calls.stock_opening r shares' ≡ calls.open_stock label n shares → opened_with r shares' ≡ page2.open_stock label.bytes n shares
unfolding calls.open_stock
open_returned r label n shares shares' e =
    ap (λ (o : calls.StockOpening). opened_with o.opened o.shares) e ∙ sym (open_is label n shares)

pub draw-returned : (r : Drawn) (s : Stock) (label : Label) (k c : ℕ) → r ≡ calls.draw s label k c
    → drawn r ≡ page2.draw (stock s) label.bytes k c
draw-returned r s label k c e = ap drawn e ∙ sym (draw_is s label k c)

pub preview-returned : (r : Previewed) (s : Stock) (label : Label) (k c : ℕ) → r ≡ calls.preview s label k c
    → previewed r ≡ page2.preview (stock s) label.bytes k c
preview-returned r s label k c e = ap previewed e ∙ sym (preview_is s label k c)

pub pass-returned : (r : OpenedStock) (s : Stock) (label : Label) (n : ℕ) → r ≡ calls.pass s label n
    → opened r ≡ page2.pass_stock (stock s) label.bytes n
pass-returned r s label n e = ap opened e ∙ sym (pass_is s label n)
