-- Every list of calls on a stock over the page, from the library's claim.
use Prim.Native.Nat.{ℕ, suc, ◌+◌, ◌-◌, ◌≤◌, ◌<◌}
use mathlib.Core.Path.{◌≡◌, refl, sym, ap, ap₂, ◌∙◌, fun_ext, subst}
use mathlib.Core.Bool.{Bool, true, false, false≢true, ◌&&◌, ◌||◌}
use mathlib.Core.List.{List, [], ◌∷◌, map}
use mathlib.Core.Logic.{⊎_elim}
use mathlib.Core.Option.{some}
use native.Mathlib.Omega.{arith}
use lib.Dec.{eqb, leb, ltb}
use lib.ListN.{length, length-map, get_or, get_elem?}
use borrow.Author.Tests.{eqb-true, leb-true, ltb-true}
use Rattle.algebra.specs.Choice.{choose}
use Rattle.stock.specs.declared.Label.{Label}
use Rattle.stock.specs.declared.Stock.{Stock}
use Rattle.stock.specs.Label.{number_of}
use Rattle.stock.specs.Stock as holds
use Rattle.stock.specs.Calls.{draw, pass}
use Rattle.stock.specs.Lists as stocks
use Rattle.stock.proofs.Blocks.{Well, blocks-next, blocks_end, is-caller, fits-block}
use Rattle.stock.proofs.Cases.{by_test}
use Rattle.stock.proofs.Claims as claimed
use Rattle.stock.proofs.Entries.{sum_grows, sum_same}
use Rattle.stock.proofs.Runs.{last_well, previews_nothing}
use Rattle.stock.proofs.Steps.{Stayed, Moved, make-call, kept, step, accepted-draw}
use Rattle.page.specs.Document01 as page
use Rattle.page_two.specs.Document02 as page2
use Rattle.page_two.proofs.Stocks.{stock, opened, drawn, number_is, total_is, remaining_is, held_is, open_is, draw_is, preview_is, pass_is}
use Rattle.page_two_claims.specs.Statements as says

-- ---- calls and replies, there and back

unfoldable call : page2.StockCall → stocks.Call
call (page2.asks true l k c) = stocks.draws (record { bytes = l }) k c
call (page2.asks false l k c) = stocks.previews (record { bytes = l }) k c
call (page2.passes l n) = stocks.passes (record { bytes = l }) n

unfoldable back : stocks.Call → page2.StockCall
back (stocks.draws l k c) = page2.asks true l.bytes k c
back (stocks.previews l k c) = page2.asks false l.bytes k c
back (stocks.passes l n) = page2.passes l.bytes n

there : (c : stocks.Call) → call (back c) ≡ c
unfolding call back
there (stocks.draws l k c) = refl
there (stocks.previews l k c) = refl
there (stocks.passes l n) = refl

abbrev reply : stocks.Reply → page2.Reply
reply r = record { number = r.number; first = r.first; count = r.count }

abbrev view : stocks.StockMade → page2.Made
view m = record { call = back m.call; reply = reply m.reply; after = stock m.after }

make_is : (s : Stock) (c : page2.StockCall)
    → page2.make (stock s) c ≡ (reply (stocks.make s (call c)).reply, stock (stocks.make s (call c)).after)
unfolding page2.make stocks.make call page.when◌then◌else◌
make_is s (page2.asks true l k c) = draw_is s _ k c
make_is s (page2.asks false l k c) = ap (λ (a : page2.Reply × page2.Stock). (a.0, stock s)) (preview_is s _ k c)
make_is s (page2.passes l n) = pass_is s _ n

call_is : (s : Stock) (c : page2.StockCall) → c ≡ back (stocks.make s (call c)).call
unfolding stocks.make call back
call_is s (page2.asks true l k c) = refl
call_is s (page2.asks false l k c) = refl
call_is s (page2.passes l n) = refl

made_is : (s : Stock) (calls : List page2.StockCall) → page2.made (stock s) calls ≡ map view (stocks.calls_made s (map call calls))
unfolding page2.made stocks.calls_made
made_is s [] = refl
made_is s (c ∷ calls) =
    ap (λ (a : page2.Reply × page2.Stock). record { call = c; reply = a.0; after = a.1 } ∷ page2.made a.1 calls) (make_is s c)
    ∙ ap₂ (λ (d : page2.StockCall) (l : List page2.Made).
    record { call = d; reply = reply (stocks.make s (call c)).reply; after = stock (stocks.make s (call c)).after } ∷ l)
    (call_is s c) (made_is (stocks.make s (call c)).after calls)

last_is : (s : Stock) (calls : List page2.StockCall) → page2.last (stock s) calls ≡ stock (stocks.last s (map call calls))
unfolding page2.last stocks.last
last_is s [] = refl
last_is s (c ∷ calls) =
    ap (λ (a : page2.Reply × page2.Stock). page2.last a.1 calls) (make_is s c) ∙ last_is (stocks.make s (call c)).after calls

-- ---- tests

is-draw : (c : stocks.Call) → says.is_draw (back c) ≡ stocks.a_draw c
unfolding back
is-draw (stocks.draws l k c) = refl
is-draw (stocks.previews l k c) = refl
is-draw (stocks.passes l n) = refl

draws-of : (k : ℕ) (c : stocks.Call) → says.draws_of k (back c) ≡ stocks.draws_of k c
unfolding back
draws-of k (stocks.draws l j c) = refl
draws-of k (stocks.previews l j c) = refl
draws-of k (stocks.passes l n) = refl

asks_of_lem : (k : ℕ) (c : stocks.Call) → says.asks_of k (back c) ≡ stocks.asks_of k c
unfolding back
asks_of_lem k (stocks.draws l j c) = refl
asks_of_lem k (stocks.previews l j c) = refl
asks_of_lem k (stocks.passes l n) = refl

draws-under : (L : ℕ) (c : stocks.Call) → says.draws_under L (back c) ≡ stocks.draws_under L c
unfolding back
draws-under L (stocks.draws l j c) = ap (eqb L) (number_is l)
draws-under L (stocks.previews l j c) = refl
draws-under L (stocks.passes l n) = refl

is-passage : (c : stocks.Call) → page2.is_passage (back c) ≡ stocks.a_passage c
unfolding back
is-passage (stocks.draws l j c) = refl
is-passage (stocks.previews l j c) = refl
is-passage (stocks.passes l n) = refl

passed_is : (m : stocks.StockMade) → page2.accepted_passage (view m) ≡ stocks.accepted_passage m
passed_is m = ap (λ (t : Bool). t && eqb m.reply.number 0) (is-passage m.call)

-- ---- what a test picks

module _ {A B : Type 0} (view : A → B) (p : B → Bool) (q : A → Bool) (e : (a : A) → p (view a) ≡ q a) where
  those_is : (l : List A) → page2.those p (map view l) ≡ map view (stocks.those q l)
  unfolding page2.those stocks.those page.when◌then◌else◌
  those_is [] = refl
  those_is (a ∷ l) = ap₂ (λ (t : Bool) (m : List B). page.when◌then◌else◌ t (view a ∷ m) m) (e a) (those_is l) ∙ go (q a)
    where
      go : (t : Bool) → page.when◌then◌else◌ t (view a ∷ map view (stocks.those q l)) (map view (stocks.those q l))
          ≡ map view (choose t (a ∷ stocks.those q l) (stocks.those q l))
      go true = refl
      go false = refl

handed_is : (p : page2.StockCall → Bool) (q : stocks.Call → Bool) → ((c : stocks.Call) → p (back c) ≡ q c)
    → (h : List stocks.StockMade) → says.handed p (map view h) ≡ stocks.handed q h
unfolding says.handed stocks.handed page.when◌then◌else◌
handed_is p q e [] = refl
handed_is p q e (m ∷ h) =
    ap₂ (λ (t : Bool) (x : ℕ). page.when◌then◌else◌ (t && eqb m.reply.number 0) m.reply.count 0 + x) (e m.call) (handed_is p q e h)

calls_are : (h : List stocks.StockMade) → map (λ (m : page2.Made). m.call) (map view h) ≡ map back (stocks.calls_of h)
unfolding stocks.calls_of
calls_are [] = refl
calls_are (m ∷ h) = ap (λ (l : List page2.StockCall). back m.call ∷ l) (calls_are h)

replies_are : (h : List stocks.StockMade) → map (λ (m : page2.Made). m.reply) (map view h) ≡ map reply (stocks.replies h)
unfolding stocks.replies
replies_are [] = refl
replies_are (m ∷ h) = ap (λ (l : List page2.Reply). reply m.reply ∷ l) (replies_are h)

numbers_are : (h : List stocks.StockMade) → map (λ (r : page2.Reply). r.number) (map reply (stocks.replies h)) ≡ stocks.reply_numbers h
unfolding stocks.replies stocks.reply_numbers
numbers_are [] = refl
numbers_are (m ∷ h) = ap (λ (l : List ℕ). m.reply.number ∷ l) (numbers_are h)

all_there : (l : List stocks.Call) → map call (map back l) ≡ l
all_there [] = refl
all_there (c ∷ l) = ap₂ (λ (d : stocks.Call) (m : List stocks.Call). d ∷ m) (there c) (all_there l)

module _ {A : Type 0} (p : A → Bool) where
  none_in : (l : List A) → ((j : ℕ) (n : A) → get_elem? l j ≡ some n → p n ≡ true → ⊥) → length (stocks.those p l) ≡ 0
  unfolding stocks.those
  none_in [] f = refl
  none_in (a ∷ l) f = by_test (p a) (λ y. absurd (f 0 a refl y)) (λ n. rw n (none_in l (λ j. f (suc j))))

  one_in : (l : List A) → ((i j : ℕ) (m n : A) → get_elem? l i ≡ some m → get_elem? l j ≡ some n → p m ≡ true → p n ≡ true → i ≡ j)
      → length (stocks.those p l) ≤ 1
  unfolding stocks.those
  one_in [] f = omega arith
  one_in (a ∷ l) f =
      by_test (p a) (λ y. rw y (let e = none_in l (λ j n g z. let w = f 0 (suc j) a n refl g y z in absurd (omega arith)) in omega arith))
      (λ n. rw n (one_in l (λ i j m n g h y z. let w = f (suc i) (suc j) m n g h y z in omega arith)))

  none_any : (l : List A) → length (stocks.those p l) ≡ 0 → stocks.any_of p l ≡ false
  unfolding stocks.those stocks.any_of
  none_any [] e = refl
  none_any (a ∷ l) e = by_test (p a) (λ y. let z = rw y at e in absurd (omega arith)) (λ n. rw n (none_any l (rw n at e)))

-- no accepted passage
not_passed : (s : Stock) (calls : List page2.StockCall) → page2.those page2.accepted_passage (page2.made (stock s) calls) ≡ []
    → stocks.any_of stocks.accepted_passage (stocks.calls_made s (map call calls)) ≡ false
not_passed s calls e =
    let h = stocks.calls_made s (map call calls) in
    none_any stocks.accepted_passage h
    (sym (length-map (stocks.those stocks.accepted_passage h) view)
    ∙ ap length (sym (those_is view page2.accepted_passage stocks.accepted_passage passed_is h)
    ∙ ap (page2.those page2.accepted_passage) (sym (made_is s calls)) ∙ e))

-- ---- what is handed out

both : (a b : Bool) → a && b ≡ true → (a ≡ true) × (b ≡ true)
both true b e = (refl, e)
both false b e = absurd (false≢true e)

abbrev hands : ℕ → ℕ → page2.Made → Bool
hands L x m =
    says.draws_under L m.call && eqb m.reply.number 0 && leb m.reply.first x && ltb x (m.reply.first + m.reply.count)

hands_out : (L x : ℕ) (m : stocks.StockMade) → hands L x (view m) ≡ true → stocks.HandsOut m L x
hands_out L x m e =
    let A = says.draws_under L (back m.call) in
    let B = eqb m.reply.number 0 in
    let C = leb m.reply.first x in
    let D = ltb x (m.reply.first + m.reply.count) in
    let f = both (A && B && C) D e in
    let b = both (A && B) C f.0 in
    let a = both A B b.0 in
    record {
      drawn = sym (draws-under L m.call) ∙ a.0;
      is_accepted = eqb-true _ _ a.1;
      from = leb-true _ _ b.1;
      below = ltb-true _ _ f.1;
    }

-- ---- stocks under a label

stocks_are : (s : Stock) (calls : List page2.StockCall)
    → stock s ∷ map (λ (m : page2.Made). m.after) (page2.made (stock s) calls) ≡ map stock (stocks.stocks s (map call calls))
unfolding page2.made stocks.stocks
stocks_are s [] = refl
stocks_are s (c ∷ calls) =
    ap (λ (a : page2.Reply × page2.Stock). stock s ∷ a.1 ∷ map (λ (m : page2.Made). m.after) (page2.made a.1 calls)) (make_is s c)
    ∙ ap (λ (l : List page2.Stock). stock s ∷ l) (stocks_are (stocks.make s (call c)).after calls)

module _ (L : ℕ) where
  abbrev in_use : List Stock → List ℕ
  in_use l = map page2.held (page2.those (λ (t : page2.Stock). eqb L (page.from_bytes t.label)) (map stock l))

  -- one more stock before others
  in_use_more : (s : Stock) (l : List Stock) → in_use (s ∷ l) ≡ choose (eqb L (number_of s.label)) (holds.held s ∷ in_use l) (in_use l)
  unfolding page2.those page.when◌then◌else◌
  in_use_more s l =
      ap (λ (x : ℕ). map page2.held (page.when◌then◌else◌ (eqb L x) (stock s ∷ rest) rest)) (number_is s.label)
      ∙ go (eqb L (number_of s.label))
    where
      rest : List page2.Stock
      rest = page2.those (λ (t : page2.Stock). eqb L (page.from_bytes t.label)) (map stock l)

      go : (t : Bool) → map page2.held (page.when◌then◌else◌ t (stock s ∷ rest) rest)
          ≡ choose t (holds.held s ∷ map page2.held rest) (map page2.held rest)
      go true = ap (λ (x : ℕ). x ∷ map page2.held rest) (held_is s)
      go false = refl

  first_is : (l : List Stock) → get_or (in_use l) 0 0 ≡ stocks.held_first L l
  unfolding stocks.held_first page2.those
  first_is [] = refl
  first_is (s ∷ l) = ap (λ (u : List ℕ). get_or u 0 0) (in_use_more s l) ∙ go (eqb L (number_of s.label)) (first_is l)
    where
      go : (t : Bool) → get_or (in_use l) 0 0 ≡ stocks.held_first L l
          → get_or (choose t (holds.held s ∷ in_use l) (in_use l)) 0 0 ≡ choose t (holds.held s) (stocks.held_first L l)
      go true e = refl
      go false e = e

  last_of : (none : ℕ) (l : List Stock) → stocks.held_last L none l ≡ get_or (none ∷ in_use l) (length (in_use l)) 0
  unfolding stocks.held_last page2.those
  last_of none [] = refl
  last_of none (s ∷ l) =
      last_of (choose (eqb L (number_of s.label)) (holds.held s) none) l
      ∙ go (eqb L (number_of s.label))
      ∙ sym (ap (λ (u : List ℕ). get_or (none ∷ u) (length u) 0) (in_use_more s l))
    where
      go : (t : Bool) → get_or (choose t (holds.held s) none ∷ in_use l) (length (in_use l)) 0
          ≡ get_or (none ∷ choose t (holds.held s ∷ in_use l) (in_use l)) (length (choose t (holds.held s ∷ in_use l) (in_use l))) 0
      go true = refl
      go false = refl

  at_last : (u : List ℕ) → get_or u (length u - 1) 0 ≡ get_or (0 ∷ u) (length u) 0
  at_last [] = refl
  at_last (x ∷ u) = let e : suc (length u) - 1 ≡ length u = omega arith in ap (λ (i : ℕ). get_or (x ∷ u) i 0) e

-- ---- each draw is its caller's next

module _ (k : ℕ) where
  -- without an accepted passage the caller's next index moves on by what it is handed, and its block stays
  stays : (t : Stock) → Well t → (since : List stocks.Call) → stocks.any_of stocks.accepted_passage (stocks.calls_made t since) ≡ false
      → (holds.next_of (stocks.last t since) k ≡ holds.next_of t k + stocks.handed (stocks.draws_of k) (stocks.calls_made t since))
      × (holds.end_of (stocks.last t since) k ≡ holds.end_of t k) × ((stocks.last t since).callers ≡ t.callers)
  unfolding stocks.last stocks.calls_made stocks.handed stocks.any_of
  stays t W [] e = (omega arith, refl, refl)
  stays t W (c ∷ since) e =
      ⊎_elim
      (λ (S : Stayed t (stocks.make t c)).
      let K = kept t W c in
      let r = stays (stocks.make t c).after K.well since (rw S.not_passed at e) in
      let n = S.next k in
      (omega (arith, r.0, n), r.1 ∙ S.end k, r.2 ∙ K.callers))
      (λ (M : Moved t (stocks.make t c)). absurd (false≢true (sym (rw M.is_passed at e))))
      (step t W c)

module _ (n : ℕ) (t : Stock) (W : Well t) (next : (k : ℕ) → k < t.callers → holds.next_of t k ≡ holds.sum_of k (holds.remaining t))
    (end : (k : ℕ) → k < t.callers → holds.end_of t k ≡ holds.sum_of (suc k) (holds.remaining t)) (room : holds.held t ≤ n) where
  totals : (k : ℕ) → page2.total k (page2.remaining (stock t)) ≡ holds.sum_of k (holds.remaining t)
  totals k = ap (page2.total k) (fun_ext (remaining_is t)) ∙ total_is k (holds.remaining t)

  next_at : says.Next n (stock t)
  unfolding holds.held stocks.make
  next_at since none label k c z =
      let l : Label = record { bytes = label } in
      let calls = map call since in
      let u = stocks.last t calls in
      let X = last_well t W calls in
      let is : page2.draw (page2.last (stock t) since) label k c ≡ drawn (draw u l k c) =
      ap (λ (x : page2.Stock). page2.draw x label k c) (last_is t since) ∙ draw_is u l k c in
      let A = accepted-draw u X l k c (sym (ap (λ (a : page2.Reply × page2.Stock). a.0.number) is) ∙ z) in
      let first : (page2.draw (page2.last (stock t) since) label k c).0.first ≡ holds.next_of u k =
      ap (λ (a : page2.Reply × page2.Stock). a.0.first) is ∙ ap (λ d. d.first) A.drawn in
      let r = stays k t W calls (not_passed t since none) in
      let b = is-caller u k A.caller in
      let below : k < t.callers = omega (arith, b.1, r.2) in
      let handed = ap (says.handed (says.draws_of k)) (made_is t since)
      ∙ handed_is (says.draws_of k) (stocks.draws_of k) (draws-of k) (stocks.calls_made t calls) in
      let fit = fits-block u X l k c A in (
        ap (λ (a : page2.Reply × page2.Stock). a.0.count) is ∙ ap (λ d. d.count) A.drawn,
        omega (arith, first, r.0, next k below, totals k, handed),
        omega (arith, first, fit, r.1, end k below, totals (suc k)),
        omega (arith, totals (suc k), sum_grows (suc k) 8 (holds.remaining t) b.0, room),
      )

-- ---- what a caller is told

module _ (p : page2.StockCall → Bool) (q : stocks.Call → Bool) (e : (c : stocks.Call) → p (back c) ≡ q c) where
  abbrev picked : stocks.StockMade → Bool
  picked m = q m.call

  abbrev picked_or_passed : stocks.StockMade → Bool
  picked_or_passed m = q m.call || stocks.accepted_passage m

  abbrev concerning : List page2.Made → List page2.StockCall
  concerning h = map (λ (m : page2.Made). m.call) (page2.those (λ (m : page2.Made). p m.call || page2.accepted_passage m) h)

  abbrev told : List page2.Made → List page2.Reply
  told h = map (λ (m : page2.Made). m.reply) (page2.those (λ (m : page2.Made). p m.call) h)

  abbrev numbers : List page2.Made → List ℕ
  numbers h = map (λ (r : page2.Reply). r.number) (told h)

  module _ (s : Stock) (calls : List page2.StockCall) where
    abbrev run : List stocks.StockMade
    run = stocks.calls_made s (map call calls)

    concerning_is : concerning (page2.made (stock s) calls) ≡ map back (stocks.calls_of (stocks.those picked_or_passed run))
    concerning_is =
        ap concerning (made_is s calls)
        ∙ ap (map (λ (m : page2.Made). m.call))
        (those_is view _ picked_or_passed (λ m. ap₂ ◌||◌ (e m.call) (passed_is m)) run)
        ∙ calls_are _

    told_is : told (page2.made (stock s) calls) ≡ map reply (stocks.replies (stocks.those picked run))
    told_is =
        ap told (made_is s calls) ∙ ap (map (λ (m : page2.Made). m.reply)) (those_is view _ picked (λ m. e m.call) run) ∙ replies_are _

    numbers_is : numbers (page2.made (stock s) calls) ≡ stocks.reply_numbers (stocks.those picked run)
    numbers_is = ap (map (λ (r : page2.Reply). r.number)) told_is ∙ numbers_are _

  alike : (s : Stock) (calls other : List page2.StockCall) → concerning (page2.made (stock s) calls)
      ≡ concerning (page2.made (stock s) other)
      → stocks.calls_of (stocks.those picked_or_passed (run s calls)) ≡ stocks.calls_of (stocks.those picked_or_passed (run s other))
  alike s calls other same =
      sym (all_there _) ∙ ap (map call) (sym (concerning_is s calls) ∙ same ∙ concerning_is s other) ∙ all_there _

-- a caller's draws by themselves
module _ (k : ℕ) where
  not_a_draw : (c : stocks.Call) → stocks.draws_of k c && stocks.a_passage c ≡ false
  not_a_draw (stocks.draws l j c) = and-false (eqb k j)
    where
      and-false : (t : Bool) → t && false ≡ false
      and-false true = refl
      and-false false = refl
  not_a_draw (stocks.previews l j c) = refl
  not_a_draw (stocks.passes l n) = refl

  -- its draws and the accepted passages have a passage exactly if one was accepted
  any_passage : (h : List stocks.StockMade) → stocks.any_of stocks.a_passage (stocks.calls_of (stocks.those (stocks.drew_or_passed k) h))
      ≡ stocks.any_of stocks.accepted_passage h
  unfolding stocks.those stocks.calls_of stocks.any_of
  any_passage [] = refl
  any_passage (m ∷ h) =
      go (stocks.draws_of k m.call) (stocks.a_passage m.call) (eqb m.reply.number 0) refl refl
      (not_a_draw m.call) (any_passage h)
    where
      go : (d t z : Bool) → stocks.draws_of k m.call ≡ d → stocks.a_passage m.call ≡ t
          → stocks.draws_of k m.call && stocks.a_passage m.call ≡ false
          → stocks.any_of stocks.a_passage (stocks.calls_of (stocks.those (stocks.drew_or_passed k) h)) ≡ stocks.any_of stocks.accepted_passage h
          → stocks.any_of stocks.a_passage (stocks.calls_of
          (choose (d || (t && z)) (m ∷ stocks.those (stocks.drew_or_passed k) h) (stocks.those (stocks.drew_or_passed k) h)))
          ≡ ((t && z) || stocks.any_of stocks.accepted_passage h)
      go true true z d t n i = absurd (false≢true (sym n ∙ ap₂ ◌&&◌ d t))
      go true false z d t n i = rw t i
      go false true true d t n i = rw t
      go false true false d t n i = i
      go false false z d t n i = i

  none_or : (h : List stocks.StockMade) → stocks.any_of stocks.accepted_passage h ≡ false → stocks.those (stocks.drew_or_passed k) h
      ≡ stocks.those (stocks.drew k) h
  unfolding stocks.those stocks.any_of
  none_or [] e = refl
  none_or (m ∷ h) e =
      by_test (stocks.accepted_passage m) (λ y. absurd (false≢true (sym (rw y at e))))
      (λ n. rw n (ap₂ (λ (t : Bool) (l : List stocks.StockMade). choose t (m ∷ l) l)
      (or-false (stocks.draws_of k m.call)) (none_or h (rw n at e))))
    where
      or-false : (t : Bool) → (t || false) ≡ t
      or-false true = refl
      or-false false = refl

  own-draws : (s : Stock) (calls : List stocks.Call) → stocks.calls_of (stocks.those (stocks.drew k) (stocks.calls_made s calls))
      ≡ stocks.those (stocks.draws_of k) calls
  unfolding stocks.those stocks.calls_of stocks.calls_made
  own-draws s [] = refl
  own-draws s (c ∷ calls) =
      ap (λ (d : stocks.Call). stocks.calls_of (choose (stocks.draws_of k d) (stocks.make s c ∷ rest) rest)) (make-call s c)
      ∙ go (stocks.draws_of k c) (own-draws (stocks.make s c).after calls)
    where
      rest : List stocks.StockMade
      rest = stocks.those (stocks.drew k) (stocks.calls_made (stocks.make s c).after calls)

      go : (t : Bool) → stocks.calls_of rest ≡ stocks.those (stocks.draws_of k) calls
          → stocks.calls_of (choose t (stocks.make s c ∷ rest) rest)
          ≡ choose t (c ∷ stocks.those (stocks.draws_of k) calls) (stocks.those (stocks.draws_of k) calls)
      go true i = ap₂ (λ (d : stocks.Call) (l : List stocks.Call). d ∷ l) (make-call s c) i
      go false i = i

-- ---- the claim

abbrev number_in : page2.Reply × page2.Stock → ℕ
number_in a = a.0.number

module _ (label : Label) (n : ℕ) (shares : List ℕ) (O : claimed.Opened label n shares)
    (C : (calls : List stocks.Call)
    → stocks.StockClaim n shares (holds.share_blocks label (length shares) (λ k. get_or shares k 0)) calls) where
  abbrev s : Stock
  s = holds.share_blocks label (length shares) (λ k. get_or shares k 0)

  abbrev W : Well s
  W = claimed.well label n shares O

  abbrev share : ℕ → ℕ
  share k = get_or shares k 0

  handed_out : (p : page2.StockCall → Bool) (q : stocks.Call → Bool) → ((c : stocks.Call) → p (back c) ≡ q c)
      → (calls : List page2.StockCall)
      → says.handed p (page2.made (stock s) calls) ≡ stocks.handed q (stocks.calls_made s (map call calls))
  handed_out p q e calls = ap (says.handed p) (made_is s calls) ∙ handed_is p q e _

  once : (calls : List page2.StockCall) (L x : ℕ) → length (page2.those (hands L x) (page2.made (stock s) calls)) ≤ 1
  once calls L x =
      let r = stocks.calls_made s (map call calls) in
      let q : stocks.StockMade → Bool = λ m. hands L x (view m) in
      let e : length (page2.those (hands L x) (page2.made (stock s) calls)) ≡ length (stocks.those q r) =
      ap (λ (l : List page2.Made). length (page2.those (hands L x) l)) (made_is s calls)
      ∙ ap length (those_is view (hands L x) q (λ m. refl) r) ∙ length-map (stocks.those q r) view in
      let o = one_in q r (λ i j m m' g f y z. (C (map call calls)).once i j m m' g f L x (hands_out L x m y) (hands_out L x m' z)) in
      omega (arith, e, o)

  start-next : says.Next n (stock s)
  unfolding holds.share_blocks
  start-next =
      next_at n s W
      (λ k h. blocks-next label (length shares) share O.most k h
      ∙ sym (sum_same k (holds.remaining s) share (λ j g. claimed.start-holds label n shares O j)))
      (λ k h. blocks_end label (length shares) share O.most k h
      ∙ sym (sum_same (suc k) (holds.remaining s) share (λ j g. claimed.start-holds label n shares O j)))
      (omega (arith, claimed.start-held label n shares O, O.sum))

  passed_next : (calls : List page2.StockCall) (l : List ℕ) (m : ℕ) → (page2.pass_stock (page2.last (stock s) calls) l m).0.number ≡ 0
      → says.Next m (page2.pass_stock (page2.last (stock s) calls) l m).1
  unfolding stocks.make
  passed_next calls l m z =
      let lb : Label = record { bytes = l } in
      let t = stocks.last s (map call calls) in
      let T = last_well s W (map call calls) in
      let is : page2.pass_stock (page2.last (stock s) calls) l m ≡ opened (pass t lb m) =
      ap (λ (x : page2.Stock). page2.pass_stock x l m) (last_is s calls) ∙ pass_is t lb m in
      let z' : (pass t lb m).number ≡ 0 = sym (ap number_in is) ∙ z in
      rw is
      (⊎_elim
      (λ (S : Stayed t (stocks.make t (stocks.passes lb m))). absurd (false≢true (sym (rw z' at S).not_passed)))
      (λ (M : Moved t (stocks.make t (stocks.passes lb m))).
      let K = kept t T (stocks.passes lb m) in
      let same = K.callers in
      next_at m (pass t lb m).stock K.well (λ k h. M.next k (omega (arith, same))) (λ k h. M.end k (omega (arith, same))) M.room)
      (step t T (stocks.passes lb m)))

  own : (k : ℕ) → says.Depends (says.asks_of k) (stock s)
  own k calls other same =
      let p = says.asks_of k in
      let q = stocks.asks_of k in
      let a = alike p q (asks_of_lem k) s calls other same in (
        numbers_is p q (asks_of_lem k) s calls ∙ (C (map call calls)).refusals k (map call other) a ∙ sym (numbers_is p q (asks_of_lem k) s other),
        λ none.
            told_is p q (asks_of_lem k) s calls
            ∙ ap (map reply) ((C (map call calls)).own k (map call other) a (not_passed s calls none))
            ∙ sym (told_is p q (asks_of_lem k) s other),
      )

  drew : (k : ℕ) → says.Depends (says.draws_of k) (stock s)
  drew k calls other same =
      let p = says.draws_of k in
      let q = stocks.draws_of k in
      let c = map call calls in
      let o = map call other in
      let a = alike p q (draws-of k) s calls other same in (
        numbers_is p q (draws-of k) s calls ∙ (C c).refusals_of_draws k o a ∙ sym (numbers_is p q (draws-of k) s other),
        λ none.
            let n₁ = not_passed s calls none in
            let n₂ = sym (any_passage k (stocks.calls_made s o)) ∙ ap (stocks.any_of stocks.a_passage) (sym a)
            ∙ any_passage k (stocks.calls_made s c) ∙ n₁ in
            let d = sym (own-draws k s c) ∙ ap stocks.calls_of (sym (none_or k _ n₁)) ∙ a ∙ ap stocks.calls_of (none_or k _ n₂)
            ∙ own-draws k s o in
            told_is p q (draws-of k) s calls
            ∙ ap (map reply)
            ((C c).own_of_draws k n₁ ∙ ap (λ (l : List stocks.Call). stocks.replies (stocks.calls_made s l)) d ∙ sym ((C o).own_of_draws k n₂))
            ∙ sym (told_is p q (draws-of k) s other),
      )

  claim : says.StockClaim n shares (stock s)
  claim =
      record {
        once = once;
        sums = λ calls.
            ap₂ ◌+◌ (handed_out says.is_draw stocks.a_draw is-draw calls) (ap page2.held (last_is s calls) ∙ held_is _)
            ∙ (C (map call calls)).sums
            ∙ sym (total_is (length shares) share);
        callers = λ calls k.
            ap₂ ◌+◌ (handed_out (says.draws_of k) (stocks.draws_of k) (draws-of k) calls)
            (ap (λ (t : page2.Stock). page2.remaining t k) (last_is s calls) ∙ remaining_is _ k)
            ∙ (C (map call calls)).callers k;
        labels = λ calls L.
            let l = stocks.stocks s (map call calls) in
            let used : List page2.Stock → List ℕ = λ l.
            map page2.held (page2.those (λ (t : page2.Stock). eqb L (page.from_bytes t.label)) l) in
            ap₂ ◌+◌ (handed_out (says.draws_under L) (stocks.draws_under L) (draws-under L) calls)
            (ap (λ (x : List page2.Stock). get_or (used x) (length (used x) - 1) 0) (stocks_are s calls) ∙ at_last L (in_use L l)
            ∙ sym (last_of L 0 l))
            ∙ (C (map call calls)).labels L
            ∙ sym (ap (λ (x : List page2.Stock). get_or (used x) 0 0) (stocks_are s calls) ∙ first_is L l);
        next = start-next;
        next_passed = passed_next;
        own = own;
        own_draws = drew;
      }

-- ---- on any stock

-- a page's stock as a struct
abbrev struct : page2.Stock → Stock
struct s = record { callers = s.callers; label = record { bytes = s.label }; next = s.next; end = s.end }

refused_stays : (tests : List page.Test) (s : page2.Stock) (a : page2.Reply × page2.Stock)
    → ((page2.tested tests s a).0.number ≡ 0 → ⊥) → a.0.number ≡ 0 → (page2.tested tests s a).1 ≡ s
unfolding page2.tested page.when◌then◌else◌
refused_stays [] s a not e = absurd (not e)
refused_stays (page.◌otherwise◌ true k ∷ tests) s a not e = refused_stays tests s a not e
refused_stays (page.◌otherwise◌ false k ∷ tests) s a not e = refl

refused : (s : page2.Stock) (c : page2.StockCall) → ((page2.make s c).0.number ≡ 0 → ⊥) → (page2.make s c).1 ≡ s
unfolding page2.make page2.draw page2.pass_stock page.when◌then◌else◌
refused s (page2.asks true l k c) not = refused_stays _ s _ not refl
refused s (page2.asks false l k c) not = refl
refused s (page2.passes l n) not = refused_stays _ s _ not refl

rises : (s : page2.Stock) (l : List ℕ) (n : ℕ) → (page2.pass_stock s l n).0.number ≡ 0
    → (page.from_bytes s.label < page.from_bytes l) × ((page2.pass_stock s l n).1.label ≡ l)
unfolding page2.pass_stock page2.tested page.when◌then◌else◌ page2.shared
rises s l n =
    by_test (page.within 32768 n)
    (λ a. rw a
    (by_test (ltb (page.from_bytes s.label) (page.from_bytes l))
    (λ b. rw b
    (by_test (leb (page2.held s) n) (λ c. rw c (λ e. (ltb-true _ _ b, refl))) (λ c. rw c (λ e. absurd (omega arith)))))
    (λ b. rw b (λ e. absurd (omega arith)))))
    (λ a. rw a (λ e. absurd (omega arith)))

no-preview : (c : stocks.Call) → (says.is_draw (back c) || page2.is_passage (back c)) ≡ stocks.no_preview c
unfolding back
no-preview (stocks.draws l k c) = refl
no-preview (stocks.previews l k c) = refl
no-preview (stocks.passes l n) = refl

abbrev others : page2.StockCall → Bool
others c = says.is_draw c || page2.is_passage c

-- the calls without previews, as the library has them
struck : (calls : List page2.StockCall) → map call (page2.those others calls) ≡ stocks.those stocks.no_preview (map call calls)
unfolding page2.those stocks.those page.when◌then◌else◌ call
struck [] = refl
struck (page2.asks true l k c ∷ calls) = ap (λ (rest : List stocks.Call). stocks.draws (record { bytes = l }) k c ∷ rest) (struck calls)
struck (page2.asks false l k c ∷ calls) = struck calls
struck (page2.passes l n ∷ calls) = ap (λ (rest : List stocks.Call). stocks.passes (record { bytes = l }) n ∷ rest) (struck calls)

previews : (s : page2.Stock) (calls : List page2.StockCall)
    → (page2.those (λ (m : page2.Made). others m.call) (page2.made s calls) ≡ page2.made s (page2.those others calls))
    × (page2.last s calls ≡ page2.last s (page2.those others calls))
previews s calls =
    let P = previews_nothing (struct s) (map call calls) in
    let r = stocks.calls_made (struct s) (map call calls) in (
      ap (page2.those (λ (m : page2.Made). others m.call)) (made_is (struct s) calls)
          ∙ those_is view (λ (m : page2.Made). others m.call) (λ (m : stocks.StockMade). stocks.no_preview m.call)
          (λ m. no-preview m.call) r
          ∙ ap (map view) (P.others ∙ ap (stocks.calls_made (struct s)) (sym (struck calls)))
          ∙ sym (made_is (struct s) (page2.those others calls)),
      last_is (struct s) calls
          ∙ ap stock (P.stock ∙ ap (stocks.last (struct s)) (sym (struck calls)))
          ∙ sym (last_is (struct s) (page2.those others calls)),
    )

pub stock-lists : says.StockLists
stock-lists =
    record {
      opened = λ label n shares e.
          let l : Label = record { bytes = label } in
          let o = open_is l n shares in
          let z = sym (ap (λ (a : page2.Reply × page2.Stock × List ℕ). a.0.number) o) ∙ e in
          let O = claimed.opened l n shares z in
          rw (ap (λ (a : page2.Reply × page2.Stock × List ℕ). a.1) o ∙ ap stock O.stock)
          (claim l n shares O (λ calls.
          subst (λ (t : Stock). stocks.StockClaim n shares t calls) O.stock (claimed.lists l n shares z calls)));
      previews = previews;
      refused = refused;
      rises = rises;
    }
