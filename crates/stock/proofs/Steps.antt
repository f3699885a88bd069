-- What one call of a list does to a stock.
use mathlib.Core.Path.{◌≡◌, refl, sym, ap, ◌∙◌}
use mathlib.Core.Bool.{Bool, true, false, ◌&&◌, false≢true}
use mathlib.Core.Logic.{◌⊎◌, inl, inr, ⊎_elim}
use Prim.Native.Nat.{ℕ, suc, ◌+◌, ◌≤◌, ◌<◌}
use native.Mathlib.Omega.{arith}
use lib.Dec.{eqb, eqb-suc-zero}
use borrow.Author.Tests.{eq-eqb, ne_eqb, eqb-true}
use Rattle.algebra.proofs.Choice.{choose_either}
use Rattle.stock.specs.declared.Label.{Label}
use Rattle.stock.specs.declared.Stock.{Stock}
use Rattle.stock.specs.Label.{number_of}
use Rattle.stock.specs.Stock.{next_of, end_of, remaining, sum_of, held, share_blocks}
use Rattle.stock.specs.Calls.{advanced}
use Rattle.stock.specs.Lists.{Call, draws, previews, passes, StockMade, make, a_draw, draws_of, draws_under, accepted_passage, handed_by, outputs_of, HandsOut}
use Rattle.stock.proofs.Cases.{by_order, by_equality}
use Rattle.stock.proofs.Blocks.{Well, holds_past, blocks-next, blocks_end, blocks_well, blocks-holds, Accepted, draw_cases, Fresh, Stale, pass_cases, is-caller, advanced-next, advanced-other, fits-block, advanced_well, advanced-holds, advanced-keeps, advanced-held}
use Rattle.stock.proofs.Entries.{sum_same}

-- what every call keeps: the blocks follow each other, and what it hands out is what its caller, and all callers, hold less
pub record Kept (s : Stock) (m : StockMade) : Type 0 where
  pub well : Well m.after
  pub callers : m.after.callers ≡ s.callers
  pub remaining : (j : ℕ) → handed_by (draws_of j) m + remaining m.after j ≡ remaining s j
  pub held : handed_by a_draw m + held m.after ≡ held s

-- a call under which the label stays: so do the blocks, and each caller's next index moves on by what the call hands it
pub record Stayed (s : Stock) (m : StockMade) : Type 0 where
  pub label : m.after.label ≡ s.label
  pub end : (j : ℕ) → end_of m.after j ≡ end_of s j
  pub next : (j : ℕ) → next_of m.after j ≡ next_of s j + handed_by (draws_of j) m
  pub under : handed_by (draws_under (number_of s.label)) m ≡ handed_by a_draw m
  pub other : (L : ℕ) → (L ≡ number_of s.label → ⊥) → handed_by (draws_under L) m ≡ 0
  pub not_passed : accepted_passage m ≡ false

-- an accepted passage: the label rises, and the blocks are laid out anew
pub record Moved (s : Stock) (m : StockMade) : Type 0 where
  pub above : number_of s.label < number_of m.after.label
  pub next : (j : ℕ) → j < s.callers → next_of m.after j ≡ sum_of j (remaining m.after)
  pub end : (j : ℕ) → j < s.callers → end_of m.after j ≡ sum_of (suc j) (remaining m.after)
  pub room : held m.after ≤ outputs_of m.call
  pub other : (L : ℕ) → handed_by (draws_under L) m ≡ 0
  pub is_passed : accepted_passage m ≡ true

-- ---- the calls as they are made

pub make-call : (s : Stock) (c : Call) → (make s c).call ≡ c
unfolding make
make-call s (draws l k c) = refl
make-call s (previews l k c) = refl
make-call s (passes l n) = refl

-- a refused call
abbrev turned : Stock → Call → ℕ → StockMade
turned s c n = record { call = c; reply = record { number = suc n; first = 0; count = 0 }; after = s }

-- a refused call hands out nothing
none_turned : (p : Call → Bool) (s : Stock) (c : Call) (n : ℕ) → handed_by p (turned s c n) ≡ 0
none_turned p s c n = choose_either (λ (x : ℕ). x ≡ 0) (p c && eqb (suc n) 0) 0 0 refl refl

module _ (s : Stock) (W : Well s) where
  kept_turned : (c : Call) (n : ℕ) → Kept s (turned s c n)
  kept_turned c n =
      record {
        well = W;
        callers = refl;
        remaining = λ j. let z = none_turned (draws_of j) s c n in omega arith;
        held = let z = none_turned a_draw s c n in omega arith;
      }

  stayed_turned : (c : Call) (n : ℕ) → accepted_passage (turned s c n) ≡ false → Stayed s (turned s c n)
  stayed_turned c n q =
      record {
        label = refl;
        end = λ j. refl;
        next = λ j. let z = none_turned (draws_of j) s c n in omega arith;
        under = none_turned (draws_under (number_of s.label)) s c n ∙ sym (none_turned a_draw s c n);
        other = λ L d. none_turned (draws_under L) s c n;
        not_passed = q;
      }

  same-holds : (l : Label) (j : ℕ) → remaining (share_blocks l s.callers (remaining s)) j ≡ remaining s j
  same-holds l j = blocks-holds l s.callers (remaining s) W.most (λ k h. holds_past s k W.most h) j

  same-held : (l : Label) → held (share_blocks l s.callers (remaining s)) ≡ held s
  unfolding held
  same-held l = sum_same 8 _ _ (λ j h. same-holds l j)

  pub kept : (c : Call) → Kept s (make s c)
  unfolding make
  kept (draws l k c) =
      ⊎_elim
      (λ a. rw a.drawn
      (record {
        well = advanced_well s W l k c a;
        callers = unfold advanced in refl;
        remaining = λ j. by_equality j k
            (λ e. rw (e, eq-eqb k k refl) (omega (arith, advanced-holds s W l k c a)))
            (λ n. rw (ne_eqb j k n) (omega (arith, advanced-keeps s W l k c a j n)));
        held = advanced-held s W l k c a;
      }))
      (λ r. rw r.kept (kept_turned (draws l k c) r.fault))
      (draw_cases s l k c)
  kept (previews l k c) = record { well = W; callers = refl; remaining = λ j. omega arith; held = omega arith }
  kept (passes l n) =
      ⊎_elim
      (λ f. rw f.gave
      (record {
        well = blocks_well l s.callers (remaining s) W.most;
        callers = unfold share_blocks in refl;
        remaining = λ j. omega (arith, same-holds l j);
        held = omega (arith, same-held l);
      }))
      (λ t. rw t.kept (kept_turned (passes l n) t.fault))
      (pass_cases s l n)

  pub stayed_draw : (l : Label) (k c : ℕ) → Stayed s (make s (draws l k c))
  unfolding make
  stayed_draw l k c =
      ⊎_elim
      (λ a. rw a.drawn
      (record {
        label = unfold advanced in refl;
        end = λ j. unfold advanced in refl;
        next = λ j. by_equality j k
            (λ e. rw (e, eq-eqb k k refl) (advanced-next s W l k c a))
            (λ n. rw (ne_eqb j k n) (omega (arith, advanced-other s W l k c a j n)));
        under = rw (eq-eqb (number_of s.label) (number_of l) (sym a.label));
        other = λ L d. rw (ne_eqb L (number_of l) (λ e. d (e ∙ a.label)));
        not_passed = refl;
      }))
      (λ r. rw r.kept (stayed_turned (draws l k c) r.fault refl))
      (draw_cases s l k c)

  pub stayed_preview : (l : Label) (k c : ℕ) → Stayed s (make s (previews l k c))
  unfolding make
  stayed_preview l k c =
      record { label = refl; end = λ j. refl; next = λ j. omega arith; under = refl; other = λ L d. refl; not_passed = refl }

  pub stayed_stale : (l : Label) (n : ℕ) → Stale s l n → Stayed s (make s (passes l n))
  unfolding make
  stayed_stale l n t = rw t.kept (stayed_turned (passes l n) t.fault (eqb-suc-zero t.fault))

  moved_fresh : (l : Label) (n : ℕ) → Fresh s l n → Moved s (make s (passes l n))
  unfolding make
  moved_fresh l n f =
      rw f.gave
      (record {
        above = unfold share_blocks in f.above;
        next = λ j h. blocks-next l s.callers (remaining s) W.most j h ∙ sym (sum_same j _ _ (λ i b. same-holds l i));
        end = λ j h. blocks_end l s.callers (remaining s) W.most j h ∙ sym (sum_same (suc j) _ _ (λ i b. same-holds l i));
        room = omega (arith, same-held l, f.room);
        other = λ L. refl;
        is_passed = refl;
      })

  pub moved_passed : (l : Label) (n : ℕ) → Fresh s l n → accepted_passage (make s (passes l n)) ≡ true
  moved_passed l n f = (moved_fresh l n f).is_passed

  pub step : (c : Call) → Stayed s (make s c) ⊎ Moved s (make s c)
  step (draws l k c) = inl (stayed_draw l k c)
  step (previews l k c) = inl (stayed_preview l k c)
  step (passes l n) =
      ⊎_elim (λ f. inr (moved_fresh l n f)) (λ t. inl (stayed_stale l n t)) (pass_cases s l n)

  -- labels do not fall
  pub label-rises : (c : Call) → number_of s.label ≤ number_of (make s c).after.label
  label-rises c =
      ⊎_elim (λ S. let e = ap number_of S.label in omega arith) (λ M. let a = M.above in omega arith) (step c)

  -- ---- the indices that are not handed out yet

  pub accepted-draw : (l : Label) (k c : ℕ) → (make s (draws l k c)).reply.number ≡ 0 → Accepted s l k c
  unfolding make
  accepted-draw l k c z =
      ⊎_elim
      (λ a. a)
      (λ r. let e = rw r.kept at z in absurd (omega arith))
      (draw_cases s l k c)

-- an index of what a caller still holds
pub record Free (s : Stock) (x : ℕ) : Type 0 where
  pub k : ℕ
  pub caller : k < s.callers
  pub from : next_of s k ≤ x
  pub below : x < end_of s k

-- what a call hands out is under the label in use, was free before it, and is not free after it
pub record Gone (s : Stock) (c : Call) (L x : ℕ) : Type 0 where
  pub label : L ≡ number_of s.label
  pub stays : (make s c).after.label ≡ s.label
  pub free : Free s x
  pub gone : Free (make s c).after x → ⊥

module _ (s : Stock) (W : Well s) (l : Label) (k c x : ℕ) (a : Accepted s l k c) (from : next_of s k ≤ x) (below : x < next_of s k + c) where
  gone_drawn : Free (advanced s k c) x → ⊥
  unfolding advanced
  gone_drawn f =
      let j = f.k in
      let b = fits-block s W l k c a in
      let n = (is-caller s k a.caller).1 in
      by_equality j k
      (λ e. let g : next_of (advanced s k c) j ≡ next_of s k + c = rw e (advanced-next s W l k c a) in omega arith)
      (λ q. let o = advanced-other s W l k c a j q in
      by_order j k
      (λ l. let p = W.apart j k l n in omega arith)
      (λ l. let p = W.apart k j (omega arith) f.caller in omega arith))

-- only a draw hands out anything
pub hands : (s : Stock) → Well s → (c : Call) (L x : ℕ) → HandsOut (make s c) L x → Gone s c L x
unfolding make
hands s W (draws l k c) L x h =
    let a = accepted-draw s W l k c h.is_accepted in
    let e = a.drawn in
    let from : next_of s k ≤ x = rw e at h.from in
    let below : x < next_of s k + c = rw e at h.below in
    record {
      label = eqb-true L (number_of l) h.drawn ∙ a.label;
      stays = (stayed_draw s W l k c).label;
      free = record { k = k; caller = (is-caller s k a.caller).1; from = from; below = omega (arith, fits-block s W l k c a) };
      gone = λ f. gone_drawn s W l k c x a from below (rw e at f);
    }
hands s W (previews l k c) L x h = absurd (false≢true h.drawn)
hands s W (passes l n) L x h = absurd (false≢true h.drawn)

-- while the label stays, what is free after a call was free before it
pub free_before : (s : Stock) (m : StockMade) → Kept s m → Stayed s m → (x : ℕ) → Free m.after x → Free s x
free_before s m K S x f =
    record {
      k = f.k;
      caller = rw K.callers at f.caller;
      from = omega (arith, S.next f.k, f.from);
      below = rw (S.end f.k) at f.below;
    }
