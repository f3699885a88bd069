-- What the functions' proofs ask for, in the form in which the code has it.
use mathlib.Core.Path.{◌≡◌, sym, ◌∙◌}
use mathlib.Core.Bool.{Bool, true, false, not}
use mathlib.Core.List.{List, ◌++◌}
use Prim.Native.Nat.{ℕ, suc, ◌+◌, ◌-◌, ◌*◌, ◌≤◌, ◌<◌, min}
use native.Mathlib.Omega.{arith}
use lib.Dec.{ltb}
use lib.ListN.{length, get_or, set, drop, replicate, length-append, length-drop, length-replicate, get_or-append}
use lib.Seq.{ext_get_or, get_or-append_right, get_or-drop}
use mir.Syntax.{w32, w64}
use mir.Val.{Fits}
use borrow.Author.Tests.{ltb-true, not-true, not-false}
use Rattle.std.proofs.lemmas.List.{get_or-replicate}
use Rattle.algebra.proofs.Tests.{and_left}
use Rattle.stock.specs.declared.Label.{Label}
use Rattle.stock.specs.declared.Stock.{Stock}
use Rattle.stock.specs.Stock.{is_caller, next_of, end_of, remaining, sum_of, entries, share_blocks}
use Rattle.stock.specs.Calls.{opening_share}
use Rattle.stock_calls.specs.Inner.Steps.{starts, ends}
use Rattle.stock.proofs.Cases.{by_order}
use Rattle.stock.proofs.Entries.{entries-length, entries_in, entries_past, entries_none, entries_more, entries-min, sum-suc, sum-one_more, sum_grows}

-- ---- holding

module _ (s : Stock) (k : ℕ) (t : Bool) (told : t ≡ is_caller s k) where
  pub holds-none : not t ≡ true → 0 ≡ remaining s k
  unfolding remaining
  holds-none n = rw (← told, not-true t n)

  module _ (is : not t ≡ false) where
    pub caller_below : k < 8
    unfolding is_caller
    caller_below = ltb-true k 8 (and_left (ltb k 8) (ltb k s.callers) (sym told ∙ not-false t is))

    pub caller_fits : Fits w64 (k * 4)
    caller_fits = let h = caller_below in omega arith

    pub holds-rest : end_of s k - next_of s k ≡ remaining s k
    unfolding remaining
    holds-rest = rw (← told, not-false t is)

-- ---- accepted_draw

module _ (s : Stock) (k : ℕ) (is : is_caller s k ≡ true) where
  pub taken-below : k < 8
  unfolding is_caller
  taken-below = ltb-true k 8 (and_left (ltb k 8) (ltb k s.callers) is)

  pub taken_offset : Fits w64 (k * 4)
  taken_offset = let h = taken-below in omega arith

  pub taken-count : (c : ℕ) → c ≤ remaining s k → Fits w32 (end_of s k) → Fits w32 c
  unfolding remaining
  taken-count c enough e = let left : remaining s k ≡ end_of s k - next_of s k = rw is in omega arith

  pub taken-fits : (c : ℕ) → c ≤ remaining s k → Fits w32 (end_of s k) → Fits w32 (next_of s k) → Fits w32 (next_of s k + c)
  unfolding remaining
  taken-fits c enough e n = let left : remaining s k ≡ end_of s k - next_of s k = rw is in omega arith

-- ---- padded

-- shares before zeros are eight entries
pub padded_is : (shares : List ℕ) → length shares ≤ 8 → shares ++ drop (length shares) (replicate 8 0) ≡ entries (length shares) (opening_share shares)
padded_is shares most =
    let n = length shares in
    let long : length (shares ++ drop n (replicate 8 0)) ≡ 8 = simp (length-append, length-drop, length-replicate) (omega arith) in
    ext_get_or 0 _ _ (long ∙ sym (entries-length n (opening_share shares))) λ k h.
    by_order k n
    (λ b. get_or-append shares (drop n (replicate 8 0)) 0 k b ∙ sym (entries_in n (opening_share shares) k (omega arith) b))
    (λ a.
    get_or-append_right shares (drop n (replicate 8 0)) k 0 a ∙ get_or-drop n (replicate 8 0) (k - n) 0 ∙ get_or-replicate 8 (n + (k - n)) 0 0 (omega arith)
    ∙ sym (entries_past n (opening_share shares) k a))

-- ---- total and blocks_of, turn by turn

pub starts_none : (shares : List ℕ) → replicate 8 0 ≡ starts 0 shares
unfolding starts
starts_none shares = entries_none (λ j. sum_of j (opening_share shares))

pub ends-none : (shares : List ℕ) → replicate 8 0 ≡ ends 0 shares
unfolding ends
ends-none shares = entries_none (λ j. sum_of (suc j) (opening_share shares))

module _ (shares : List ℕ) (k : ℕ) where
  pub total_bound : (sum : ℕ) → sum ≤ 4294967295 * k → Fits w32 (get_or shares k 0) → sum + get_or shares k 0 ≤ 4294967295 * (k + 1)
  total_bound sum w e = omega arith

  pub total_more : (sum : ℕ) → sum ≡ sum_of k (opening_share shares) → sum + get_or shares k 0 ≡ sum_of (k + 1) (opening_share shares)
  total_more sum e = rw (e, sum-one_more k (opening_share shares))

  module _ (callers n : ℕ) (counted : n ≡ min callers 8) where
    pub blocks_fit : (at : ℕ) → at ≡ sum_of k (opening_share shares) → k < n → sum_of 8 (opening_share shares) ≤ 32768 → Fits w32 (at + get_or shares k 0)
    blocks_fit at e h most =
        let more = sum-one_more k (opening_share shares) in
        let grows = sum_grows (k + 1) 8 (opening_share shares) (omega arith) in
        omega arith

    pub next_more : {next : List ℕ} (at : ℕ) → k < n → next ≡ starts k shares → at ≡ sum_of k (opening_share shares)
        → set next k at ≡ starts (k + 1) shares
    unfolding starts
    next_more at h e w = rw e (entries_more (λ j. sum_of j (opening_share shares)) k at (omega arith) w)

    pub end_more : {end : List ℕ} (at : ℕ) → k < n → end ≡ ends k shares → at ≡ sum_of k (opening_share shares)
        → set end k (at + get_or shares k 0) ≡ ends (k + 1) shares
    unfolding ends
    end_more at h e w =
        rw e
        (entries_more (λ j. sum_of (suc j) (opening_share shares)) k (at + get_or shares k 0) (omega arith) (rw (w, sum-suc k (opening_share shares))))

    pub blocks_done : (label : Label) {next end : List ℕ} → k ≤ n → n ≤ k → next ≡ starts k shares → end ≡ ends k shares
        → record { callers = callers; label = label; next = next; end = end } ≡ share_blocks label callers (opening_share shares)
    unfolding share_blocks starts ends
    blocks_done label h w e q =
        let all : k ≡ min 8 callers = omega arith in
        rw (e, q, all, entries-min callers (λ j. sum_of j (opening_share shares)), entries-min callers (λ j. sum_of (suc j) (opening_share shares)))

-- ---- rest, turn by turn

module _ (s : Stock) (k : ℕ) where
  pub rest_more : {each : List ℕ} (h : ℕ) → k < 8 → h ≡ remaining s k → each ≡ entries k (remaining s) → set each k h ≡ entries (k + 1) (remaining s)
  rest_more h b e q = rw q (entries_more (remaining s) k h b e)
