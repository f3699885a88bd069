-- Stocks whose blocks follow each other: what opening and passage make, and what a draw leaves.
use mathlib.Core.Path.{◌≡◌, refl, sym, ◌∙◌}
use mathlib.Core.Bool.{true}
use mathlib.Core.Logic.{◌⊎◌, inl, inr}
use Prim.Native.Nat.{ℕ, suc, ◌+◌, ◌-◌, ◌≤◌, ◌<◌}
use native.Mathlib.Omega.{arith}
use lib.Dec.{ltb}
use lib.ListN.{length, length-set}
use lib.Seq.{get_or-set_same, get_or-set_other}
use borrow.Author.Tests.{ltb-true, lt-ltb, le-ltb}
use Rattle.algebra.proofs.Tests.{and_left, and_right}
use Rattle.answer.proofs.Answers.{answered_cases}
use Rattle.stock.specs.declared.Label.{Label}
use Rattle.stock.specs.declared.Stock.{Stock}
use Rattle.stock.specs.Label.{number_of}
use Rattle.stock.specs.Stock.{is_caller, next_of, end_of, remaining, sum_of, held, share_blocks}
use Rattle.stock.specs.Calls.{with_stock, draw_tests, advanced, accepted_draw, refused_draw, draw, pass_tests, pass}
use Rattle.stock.proofs.Cases.{by_order, by_equality}
use Rattle.stock.proofs.Entries.{entries-length, entries_in, sum-suc, sum_grows, sum_same, sum_stays, sum_less}

-- at most eight callers, each with its block, and the blocks one after the other
pub record Well (s : Stock) : Type 0 where
  pub size : length s.next ≡ 8
  pub most : s.callers ≤ 8
  pub ordered : (k : ℕ) → k < s.callers → next_of s k ≤ end_of s k
  pub apart : (j k : ℕ) → j < k → k < s.callers → end_of s j ≤ next_of s k

-- ---- what a caller holds

pub is-caller : (s : Stock) (k : ℕ) → is_caller s k ≡ true → (k < 8) × (k < s.callers)
unfolding is_caller
is-caller s k e =
    (ltb-true k 8 (and_left (ltb k 8) (ltb k s.callers) e), ltb-true k s.callers (and_right (ltb k 8) (ltb k s.callers) e))

pub holds_in : (s : Stock) (k : ℕ) → s.callers ≤ 8 → k < s.callers → remaining s k ≡ end_of s k - next_of s k
unfolding remaining is_caller
holds_in s k most h = rw (lt-ltb k 8 (omega arith), lt-ltb k s.callers h)

pub holds_past : (s : Stock) (k : ℕ) → s.callers ≤ 8 → s.callers ≤ k → remaining s k ≡ 0
unfolding remaining is_caller
holds_past s k most h = by_order k 8 (λ b. rw (lt-ltb k 8 b, le-ltb k s.callers h)) (λ a. rw (le-ltb k 8 a))

-- ---- blocks

module _ (l : Label) (n : ℕ) (share : ℕ → ℕ) (most : n ≤ 8) where
  pub blocks-next : (k : ℕ) → k < n → next_of (share_blocks l n share) k ≡ sum_of k share
  unfolding share_blocks
  blocks-next k h = entries_in n (λ k. sum_of k share) k (omega arith) h

  pub blocks_end : (k : ℕ) → k < n → end_of (share_blocks l n share) k ≡ sum_of (suc k) share
  unfolding share_blocks
  blocks_end k h = entries_in n (λ k. sum_of (suc k) share) k (omega arith) h

  pub blocks_well : Well (share_blocks l n share)
  unfolding share_blocks
  blocks_well =
      record {
        size = entries-length n (λ k. sum_of k share);
        most = most;
        ordered = λ k h. rw (blocks-next k h, blocks_end k h) (sum_grows k (suc k) share (omega arith));
        apart = λ j k b h. rw (blocks-next k h, blocks_end j (omega arith)) (sum_grows (suc j) k share b);
      }

  pub blocks-holds : ((k : ℕ) → n ≤ k → share k ≡ 0) → (k : ℕ) → remaining (share_blocks l n share) k ≡ share k
  unfolding share_blocks
  blocks-holds none k =
      by_order k n
      (λ b. omega (arith, holds_in (share_blocks l n share) k most b, blocks-next k b, blocks_end k b, sum-suc k share))
      (λ a. holds_past (share_blocks l n share) k most a ∙ sym (none k a))

  pub blocks-held : ((k : ℕ) → n ≤ k → share k ≡ 0) → held (share_blocks l n share) ≡ sum_of n share
  unfolding held
  blocks-held none = sum_same 8 (remaining (share_blocks l n share)) share (λ k h. blocks-holds none k) ∙ sum_stays n 8 share most none

-- ---- a draw

-- an accepted draw raises the caller's next index; a refused one changes nothing
pub record Accepted (s : Stock) (l : Label) (k c : ℕ) : Type 0 where
  pub label : number_of l ≡ number_of s.label
  pub caller : is_caller s k ≡ true
  pub enough : c ≤ remaining s k
  pub drawn : draw s l k c ≡ accepted_draw s k c

pub record Refused (s : Stock) (l : Label) (k c : ℕ) : Type 0 where
  pub fault : ℕ
  pub kept : draw s l k c ≡ refused_draw s (suc fault)

pub draw_cases : (s : Stock) (l : Label) (k c : ℕ) → Accepted s l k c ⊎ Refused s l k c
unfolding draw
draw_cases s l k c =
    answered_cases (draw_tests s l k c) (refused_draw s) (accepted_draw s k c) refl
    (λ m e. inl (record { label = m.all.0; caller = m.all.1.0; enough = m.all.1.1.0; drawn = e }))
    (λ n e. inr (record { fault = n; kept = e }))

module _ (s : Stock) (W : Well s) (l : Label) (k c : ℕ) (a : Accepted s l k c) where
  below : (k < 8) × (k < s.callers)
  below = is-caller s k a.caller

  pub advanced-next : next_of (advanced s k c) k ≡ next_of s k + c
  unfolding advanced
  advanced-next = get_or-set_same s.next k (next_of s k + c) 0 (let h = below in let e = W.size in omega arith)

  pub advanced-other : (j : ℕ) → (j ≡ k → ⊥) → next_of (advanced s k c) j ≡ next_of s j
  unfolding advanced
  advanced-other j n = get_or-set_other s.next k j (next_of s k + c) 0 n

  pub fits-block : next_of s k + c ≤ end_of s k
  fits-block = omega (arith, holds_in s k W.most below.1, W.ordered k below.1, a.enough)

  pub advanced_well : Well (advanced s k c)
  unfolding advanced
  advanced_well =
      record {
        size = length-set s.next k (next_of s k + c) ∙ W.size;
        most = W.most;
        ordered = λ j h.
            by_equality j k (λ e. rw e (omega (arith, advanced-next, fits-block))) (λ n. omega (arith, advanced-other j n, W.ordered j h));
        apart = λ i j b h.
            let p = W.apart i j b h in
            by_equality j k (λ e. rw e (omega (arith, advanced-next, rw e at p))) (λ n. omega (arith, advanced-other j n));
      }

  pub advanced-holds : remaining s k ≡ remaining (advanced s k c) k + c
  unfolding advanced
  advanced-holds =
      omega (arith, holds_in s k W.most below.1, holds_in (advanced s k c) k W.most below.1, advanced-next, a.enough)

  pub advanced-keeps : (j : ℕ) → (j ≡ k → ⊥) → remaining s j ≡ remaining (advanced s k c) j
  unfolding advanced
  advanced-keeps j n =
      by_order j s.callers
      (λ b. omega (arith, holds_in s j W.most b, holds_in (advanced s k c) j W.most b, advanced-other j n))
      (λ p. holds_past s j W.most p ∙ sym (holds_past (advanced s k c) j W.most p))

  pub advanced-held : c + held (advanced s k c) ≡ held s
  unfolding held
  advanced-held = let l = sum_less 8 k c (remaining s) (remaining (advanced s k c)) below.0 advanced-holds advanced-keeps in omega arith

-- ---- a passage

-- an accepted passage raises the label and lays the unspent shares out anew; a refused one changes nothing
pub record Fresh (s : Stock) (l : Label) (n : ℕ) : Type 0 where
  pub above : number_of s.label < number_of l
  pub room : held s ≤ n
  pub gave : pass s l n ≡ with_stock (share_blocks l s.callers (remaining s)) 0

pub record Stale (s : Stock) (l : Label) (n : ℕ) : Type 0 where
  pub fault : ℕ
  pub kept : pass s l n ≡ with_stock s (suc fault)

pub pass_cases : (s : Stock) (l : Label) (n : ℕ) → Fresh s l n ⊎ Stale s l n
unfolding pass
pass_cases s l n =
    answered_cases (pass_tests s l n) (with_stock s) (with_stock (share_blocks l s.callers (remaining s)) 0) refl
    (λ m e. inl (record { above = ltb-true (number_of s.label) (number_of l) m.all.1.0; room = m.all.1.1.0; gave = e }))
    (λ n e. inr (record { fault = n; kept = e }))
