-- The claim about every list of calls after an accepted opening.
use mathlib.Core.Path.{◌≡◌, refl, sym, ap, ◌∙◌}
use mathlib.Core.List.{List, [], ◌∷◌}
use mathlib.Core.Logic.{◌⊎◌, ⊎_elim}
use mathlib.Core.Option.{some, none-ne-some}
use Prim.Native.Nat.{ℕ, zero, suc, ◌≤◌}
use native.Mathlib.Omega.{arith}
use lib.ListN.{length, get_elem?, take, get_or-eq_default}
use Rattle.answer.specs.Numbers.{accepted}
use Rattle.answer.proofs.Answers.{answered_cases}
use Rattle.stock.specs.declared.Label.{Label}
use Rattle.stock.specs.declared.OpenedStock.{OpenedStock}
use Rattle.stock.specs.declared.Stock.{Stock}
use Rattle.stock.specs.Stock.{remaining, held, sum_of, share_blocks}
use Rattle.stock.specs.Calls.{with_stock, opening_share, no_callers, open_tests, open_stock}
use Rattle.stock.specs.Lists.{Call, draws, previews, StockMade, make, calls_made, last, a_draw, draws_of, handed, up_to_passage, since_passage, outputs_in, share_in, NextOf, StockClaim, StockLists}
use Rattle.stock.proofs.Blocks.{Well, blocks-next, blocks_end, blocks_well, blocks-holds, blocks-held, is-caller, fits-block}
use Rattle.stock.proofs.Entries.{sum_grows, sum_same}
use Rattle.stock.proofs.Opened.{up_to_most}
use Rattle.stock.proofs.Callers.{preview-reply, numbers-alike, replies-alike}
use Rattle.stock.proofs.Draws.{numbers_of_draws, replies_of_draws}
use Rattle.stock.proofs.Runs.{last_well, sums-run, labels-run, hands_at, once-run, InUse, use-run}
use Rattle.stock.proofs.Steps.{kept, accepted-draw, make-call}

-- ---- the made call at a place

made_at : (s : Stock) (calls : List Call) (i : ℕ) (m : StockMade) → get_elem? (calls_made s calls) i ≡ some m → m ≡ make (last s (take i calls)) m.call
unfolding calls_made last
made_at s [] i m e = absurd (none-ne-some m e)
made_at s (c ∷ calls) zero m e = cc (make-call s c)
made_at s (c ∷ calls) (suc i) m e = made_at (make s c).after calls i m e

-- a draw's reply, and that of a preview of it
reply_at : (s : Stock) (calls : List Call) (i : ℕ) (m : StockMade) → get_elem? (calls_made s calls) i ≡ some m → (l : Label) (k c : ℕ)
    → (m.call ≡ draws l k c) ⊎ (m.call ≡ previews l k c) → m.reply ≡ (make (last s (take i calls)) (draws l k c)).reply
reply_at s calls i m h l k c e =
    let t = last s (take i calls) in
    let w = made_at s calls i m h in
    ⊎_elim (λ d. cc) (λ p. cc (preview-reply k t l c)) e

take-run : (s : Stock) (calls : List Call) (i : ℕ) → take i (calls_made s calls) ≡ calls_made s (take i calls)
unfolding calls_made
take-run s calls zero = refl
take-run s [] (suc i) = refl
take-run s (c ∷ calls) (suc i) = cc (take-run (make s c).after calls i)

-- an accepted draw after any list
next_of : (outputs : ℕ) (shares : List ℕ) (s : Stock) → Well s → InUse outputs shares [] s → (calls : List Call) (l : Label) (k c : ℕ)
    → (make (last s calls) (draws l k c)).reply.number ≡ accepted
    → NextOf outputs shares (calls_made s calls) k c (make (last s calls) (draws l k c)).reply
unfolding make
next_of outputs shares s W I calls l k c z =
    let t = last s calls in
    let T = last_well s W calls in
    let a = accepted-draw t T l k c z in
    let b = is-caller t k a.caller in
    let N = use-run outputs shares [] s W I calls in
    rw a.drawn
    (record {
      count = refl;
      first = N.next k b.1;
      block = let f = fits-block t T l k c a in let e = N.end k b.1 in omega arith;
      within = let g = sum_grows (suc k) 8 (share_in shares (calls_made s calls)) b.0 in let w = N.within in omega arith;
    })

-- ---- after an accepted opening

pub record Opened (label : Label) (outputs : ℕ) (shares : List ℕ) : Type 0 where
  pub most : length shares ≤ 8
  pub sum : sum_of (length shares) (opening_share shares) ≤ outputs
  pub stock : (open_stock label outputs shares).opened.stock ≡ share_blocks label (length shares) (opening_share shares)

pub opened : (label : Label) (outputs : ℕ) (shares : List ℕ) → (open_stock label outputs shares).opened.number ≡ accepted → Opened label outputs shares
unfolding open_stock
opened label outputs shares =
    answered_cases (open_tests outputs shares) (with_stock no_callers) (with_stock (share_blocks label (length shares) (opening_share shares)) accepted) refl
    (λ m g e. record { most = up_to_most 8 (length shares) m.all.0; sum = m.all.1.1.0; stock = ap (λ (o : OpenedStock). o.stock) g })
    (λ n g e. let z = sym (ap (λ (o : OpenedStock). o.number) g) ∙ e in absurd (omega arith))

module _ (label : Label) (outputs : ℕ) (shares : List ℕ) (O : Opened label outputs shares) where
  abbrev start : Stock
  start = share_blocks label (length shares) (opening_share shares)

  pub well : Well start
  well = blocks_well label (length shares) (opening_share shares) O.most

  none_past : (k : ℕ) → length shares ≤ k → opening_share shares k ≡ 0
  none_past k h = get_or-eq_default shares 0 h

  pub start-holds : (k : ℕ) → remaining start k ≡ opening_share shares k
  start-holds = blocks-holds label (length shares) (opening_share shares) O.most none_past

  pub start-held : held start ≡ sum_of (length shares) (opening_share shares)
  start-held = blocks-held label (length shares) (opening_share shares) O.most none_past

  -- before any call the shares in use are those of the opening
  first-shares : (j : ℕ) → share_in shares [] j ≡ opening_share shares j
  unfolding handed up_to_passage
  first-shares j = omega arith

  in_use_lem : InUse outputs shares [] start
  unfolding handed held since_passage outputs_in share_blocks
  in_use_lem =
      record {
        next = λ k h.
            let e = blocks-next label (length shares) (opening_share shares) O.most k h in
            let f = sum_same k (share_in shares []) (opening_share shares) (λ j g. first-shares j) in
            omega arith;
        end = λ k h.
            blocks_end label (length shares) (opening_share shares) O.most k h
            ∙ sym (sum_same (suc k) (share_in shares []) (opening_share shares) (λ j g. first-shares j));
        within =
            let e = start-held in
            let f = sum_same 8 (share_in shares []) (remaining start) (λ j g. first-shares j ∙ sym (start-holds j)) in
            let w = O.sum in
            omega arith;
        left = λ k. omega (arith, start-holds k);
      }

  claim : (calls : List Call) → StockClaim outputs shares start calls
  claim calls =
      record {
        once = λ i j m n e f L x o p.
            once-run start well calls i j L x (hands_at (calls_made start calls) i m e L x o) (hands_at (calls_made start calls) j n f L x p);
        sums = sums-run a_draw held (λ s W c. (kept s W c).held) start well calls ∙ start-held;
        labels = labels-run start well calls;
        callers = λ k. sums-run (draws_of k) (λ s. remaining s k) (λ s W c. (kept s W c).remaining k) start well calls ∙ start-holds k;
        next = λ i m h l k c e z.
            let r = reply_at start calls i m h l k c e in
            rw (r, take-run start calls i) (next_of outputs shares start well in_use_lem (take i calls) l k c (rw r at z));
        refusals = λ k other same. numbers-alike k start well calls other same;
        own = λ k other same none. replies-alike k start well calls other same none;
        refusals_of_draws = λ k other same. numbers_of_draws start well k calls other same;
        own_of_draws = λ k none. replies_of_draws start well k calls none;
      }

pub lists : StockLists
lists label outputs shares e calls =
    let O = opened label outputs shares e in
    rw O.stock (claim label outputs shares O calls)
