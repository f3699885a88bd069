-- Lists of calls on one stock (document 02, 2, 5 and 14): each on the stock that the call before left.
use Rattle.std.specs.Prelude.{◌≡◌, Bool, true, false, ◌&&◌, ◌||◌, List, [], ◌∷◌, ◌⊎◌, ℕ, suc, ◌+◌, ◌-◌, ◌≤◌, ◌<◌, eqb, length, take}
use Rattle.std.proofs.Math.Option.{some}
use Rattle.std.proofs.Math.ListN.{get_elem?}
use Rattle.algebra.specs.Choice.{choose}
use Rattle.answer.specs.Numbers.{accepted}
use Rattle.stock.specs.declared.Label.{Label}
use Rattle.stock.specs.declared.Stock.{Stock}
use Rattle.stock.specs.Label.{number_of}
use Rattle.stock.specs.Stock.{remaining, sum_of, held}
use Rattle.stock.specs.Calls.{opening_share, open_stock, draw, preview, pass}

-- ---- lists of calls

-- a call that a list names
pub data Call : Type 0 where
  draws : (label : Label) (caller count : ℕ) → Call
  previews : (label : Label) (caller count : ℕ) → Call
  passes : (label : Label) (outputs : ℕ) → Call

-- what a call replies: its number, and a window
pub record Reply : Type 0 where
  pub number : ℕ
  pub first : ℕ
  pub count : ℕ

-- a call that was made: its reply, and the stock that it left
pub record StockMade : Type 0 where
  pub call : Call
  pub reply : Reply
  pub after : Stock

-- a call made on a stock; a preview hands on the stock that it was given
unfoldable pub make : Stock → Call → StockMade
make s (draws l k c) =
    record {
      call = draws l k c;
      reply = record { number = (draw s l k c).number; first = (draw s l k c).first; count = (draw s l k c).count };
      after = (draw s l k c).stock;
    }
make s (previews l k c) =
    record {
      call = previews l k c;
      reply = record { number = (preview s l k c).number; first = (preview s l k c).first; count = (preview s l k c).count };
      after = s;
    }
make s (passes l n) =
    record {
      call = passes l n;
      reply = record { number = (pass s l n).number; first = 0; count = 0 };
      after = (pass s l n).stock;
    }

-- the calls of a list as they are made, each on the stock that the call before left
unfoldable pub calls_made : Stock → List Call → List StockMade
calls_made s [] = []
calls_made s (c ∷ calls) = make s c ∷ calls_made (make s c).after calls

-- the stock after the last call of the list
unfoldable pub last : Stock → List Call → Stock
last s [] = s
last s (c ∷ calls) = last (make s c).after calls

-- the calls that a test picks, in their order
unfoldable pub those : {A : Type 0} → (A → Bool) → List A → List A
those p [] = []
those p (a ∷ l) = choose (p a) (a ∷ those p l) (those p l)

-- a test picks at least one
unfoldable pub any_of : {A : Type 0} → (A → Bool) → List A → Bool
any_of p [] = false
any_of p (a ∷ l) = p a || any_of p l

-- draws, the draws of caller k, its draws and previews, the draws under a label of number L, all but previews, and passages
abbrev pub a_draw : Call → Bool
a_draw (draws l j c) = true
a_draw (previews l j c) = false
a_draw (passes l n) = false

abbrev pub draws_of : ℕ → Call → Bool
draws_of k (draws l j c) = eqb k j
draws_of k (previews l j c) = false
draws_of k (passes l n) = false

abbrev pub asks_of : ℕ → Call → Bool
asks_of k (draws l j c) = eqb k j
asks_of k (previews l j c) = eqb k j
asks_of k (passes l n) = false

abbrev pub draws_under : ℕ → Call → Bool
draws_under L (draws l j c) = eqb L (number_of l)
draws_under L (previews l j c) = false
draws_under L (passes l n) = false

abbrev pub no_preview : Call → Bool
no_preview (draws l j c) = true
no_preview (previews l j c) = false
no_preview (passes l n) = true

abbrev pub a_passage : Call → Bool
a_passage (draws l j c) = false
a_passage (previews l j c) = false
a_passage (passes l n) = true

-- an accepted passage
abbrev pub accepted_passage : StockMade → Bool
accepted_passage m = a_passage m.call && eqb m.reply.number accepted

-- outputs that a made call hands out, if a test picks it: an accepted reply's own count
abbrev pub handed_by : (Call → Bool) → StockMade → ℕ
handed_by p m = choose (p m.call && eqb m.reply.number accepted) m.reply.count 0

-- outputs handed out by the made calls that a test picks
unfoldable pub handed : (Call → Bool) → List StockMade → ℕ
handed p [] = 0
handed p (m ∷ h) = handed_by p m + handed p h

-- the replies, their numbers, and the calls, in their order
unfoldable pub replies : List StockMade → List Reply
replies [] = []
replies (m ∷ h) = m.reply ∷ replies h

unfoldable pub reply_numbers : List StockMade → List ℕ
reply_numbers [] = []
reply_numbers (m ∷ h) = m.reply.number ∷ reply_numbers h

unfoldable pub calls_of : List StockMade → List Call
calls_of [] = []
calls_of (m ∷ h) = m.call ∷ calls_of h

-- ---- labels in use

-- the stock before each call of a list, and the last one
unfoldable pub stocks : Stock → List Call → List Stock
stocks s [] = s ∷ []
stocks s (c ∷ calls) = s ∷ stocks (make s c).after calls

-- what the first stock under a label of number L held, when the label came into use; 0 where it never does
unfoldable pub held_first : ℕ → List Stock → ℕ
held_first L [] = 0
held_first L (s ∷ l) = choose (eqb L (number_of s.label)) (held s) (held_first L l)

-- what the last stock under it held, when it went out of use or the list ended; `none` where there is none
unfoldable pub held_last : ℕ → ℕ → List Stock → ℕ
held_last L none [] = none
held_last L none (s ∷ l) = held_last L (choose (eqb L (number_of s.label)) (held s) none) l

-- ---- the last accepted passage

-- the made calls up to and with the last accepted passage, none where there is none; and those since
unfoldable pub up_to_passage : List StockMade → List StockMade
up_to_passage [] = []
up_to_passage (m ∷ h) = choose (any_of accepted_passage (m ∷ h)) (m ∷ up_to_passage h) []

unfoldable pub since_passage : List StockMade → List StockMade
since_passage [] = []
since_passage (m ∷ h) = choose (any_of accepted_passage (m ∷ h)) (since_passage h) (m ∷ h)

-- the n that a call names
abbrev pub outputs_of : Call → ℕ
outputs_of (draws l k c) = 0
outputs_of (previews l k c) = 0
outputs_of (passes l n) = n

-- the n in use after made calls: the opening's, or the last accepted passage's
unfoldable pub outputs_in : ℕ → List StockMade → ℕ
outputs_in n [] = n
outputs_in n (m ∷ h) = outputs_in (choose (accepted_passage m) (outputs_of m.call) n) h

-- what the opening or the last accepted passage gave caller j: its opening share, less what it was handed up to that passage
abbrev pub share_in : List ℕ → List StockMade → ℕ → ℕ
share_in shares h j = opening_share shares j - handed (draws_of j) (up_to_passage h)

-- ---- what is claimed of every list

-- a made call hands out index x under a label of number L: it is an accepted draw under it, and x is in its window
pub record HandsOut (m : StockMade) (L x : ℕ) : Type 0 where
  pub drawn : draws_under L m.call ≡ true
  pub is_accepted : m.reply.number ≡ accepted
  pub from : m.reply.first ≤ x
  pub below : x < m.reply.first + m.reply.count

-- a reply after made calls h is caller k's next c indices of its block, which begins at the shares in use of the callers before k,
-- after what k was handed since the last accepted passage; the block is within the n in use
pub record NextOf (outputs : ℕ) (shares : List ℕ) (h : List StockMade) (k c : ℕ) (r : Reply) : Type 0 where
  pub count : r.count ≡ c
  pub first : r.first ≡ sum_of k (share_in shares h) + handed (draws_of k) (since_passage h)
  pub block : r.first + c ≤ sum_of (suc k) (share_in shares h)
  pub within : sum_of (suc k) (share_in shares h) ≤ outputs_in outputs h

-- caller k's draws and previews, and what concerns it: these and the accepted passages
abbrev pub asked : ℕ → StockMade → Bool
asked k m = asks_of k m.call

abbrev pub concerns : ℕ → StockMade → Bool
concerns k m = asked k m || accepted_passage m

-- two lists of made calls are alike for caller k: what concerns it is equal, in its order
abbrev pub AlikeFor : ℕ → List StockMade → List StockMade → Type 0
AlikeFor k h g = calls_of (those (concerns k) h) ≡ calls_of (those (concerns k) g)

-- caller k's draws, and these and the accepted passages
abbrev pub drew : ℕ → StockMade → Bool
drew k m = draws_of k m.call

abbrev pub drew_or_passed : ℕ → StockMade → Bool
drew_or_passed k m = drew k m || accepted_passage m

-- two lists of made calls have the same draws of caller k and the same accepted passages, in their order; previews may differ
abbrev pub SameDraws : ℕ → List StockMade → List StockMade → Type 0
SameDraws k h g = calls_of (those (drew_or_passed k) h) ≡ calls_of (those (drew_or_passed k) g)

-- a list of draws, previews and passages after an accepted opening
pub record StockClaim (outputs : ℕ) (shares : List ℕ) (s : Stock) (calls : List Call) : Type 0 where
  -- no pair of label and index is handed out twice
  pub once : (i j : ℕ) (m n : StockMade) → get_elem? (calls_made s calls) i ≡ some m → get_elem? (calls_made s calls) j ≡ some n
      → (L x : ℕ) → HandsOut m L x → HandsOut n L x → i ≡ j
  -- outputs handed out and outputs still held make up the sum of shares
  pub sums : handed a_draw (calls_made s calls) + held (last s calls) ≡ sum_of (length shares) (opening_share shares)
  -- under each label, outputs handed out and outputs held when it goes out of use make up those held when it came into use
  pub labels : (L : ℕ) → handed (draws_under L) (calls_made s calls) + held_last L 0 (stocks s calls) ≡ held_first L (stocks s calls)
  -- all that a caller draws and what it still holds make up its opening share
  pub callers : (k : ℕ) → handed (draws_of k) (calls_made s calls) + remaining (last s calls) k ≡ opening_share shares k
  -- an accepted draw of c returns the caller's next c indices, and an accepted preview names them
  pub next : (i : ℕ) (m : StockMade) → get_elem? (calls_made s calls) i ≡ some m
      → (l : Label) (k c : ℕ) → (m.call ≡ draws l k c) ⊎ (m.call ≡ previews l k c) → m.reply.number ≡ accepted
      → NextOf outputs shares (take i (calls_made s calls)) k c m.reply
  -- a caller's numbers are those of every list that is alike for it
  pub refusals : (k : ℕ) (other : List Call) → AlikeFor k (calls_made s calls) (calls_made s other)
      → reply_numbers (those (asked k) (calls_made s calls)) ≡ reply_numbers (those (asked k) (calls_made s other))
  -- with no accepted passage, so are its replies
  pub own : (k : ℕ) (other : List Call) → AlikeFor k (calls_made s calls) (calls_made s other) → any_of accepted_passage (calls_made s calls) ≡ false
      → replies (those (asked k) (calls_made s calls)) ≡ replies (those (asked k) (calls_made s other))
  -- draws alone decide replies to draws: a caller's numbers for draws are those of every list with the same draws of it and the same
  -- accepted passages, whatever the previews
  pub refusals_of_draws : (k : ℕ) (other : List Call) → SameDraws k (calls_made s calls) (calls_made s other)
      → reply_numbers (those (drew k) (calls_made s calls)) ≡ reply_numbers (those (drew k) (calls_made s other))
  -- and with no accepted passage its replies to draws are those of the list that has its own draws and nothing else
  pub own_of_draws : (k : ℕ) → any_of accepted_passage (calls_made s calls) ≡ false
      → replies (those (drew k) (calls_made s calls)) ≡ replies (calls_made s (those (draws_of k) calls))

abbrev pub StockLists : Type 0
StockLists =
    (label : Label) (outputs : ℕ) (shares : List ℕ) → (open_stock label outputs shares).opened.number ≡ accepted
    → (calls : List Call) → StockClaim outputs shares (open_stock label outputs shares).opened.stock calls

-- previews change nothing, on any stock: the other calls and what they reply and leave, and the last stock, are those of the
-- list without the previews
pub record Unchanged (s : Stock) (calls : List Call) : Type 0 where
  pub others : those (λ m. no_preview m.call) (calls_made s calls) ≡ calls_made s (those no_preview calls)
  pub stock : last s calls ≡ last s (those no_preview calls)

abbrev pub Previews : Type 0
Previews = (s : Stock) (calls : List Call) → Unchanged s calls
