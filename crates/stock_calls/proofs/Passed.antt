-- What the passage's proof asks for, in the form in which the code has it.
use mathlib.Core.Path.{◌≡◌, sym, ap, fun_ext, ◌∙◌}
use mathlib.Core.Bool.{true, false}
use mathlib.Core.List.{List}
use Prim.Native.Nat.{ℕ, ◌≤◌, ◌<◌}
use native.Mathlib.Omega.{arith}
use borrow.Author.Tests.{le-ltb}
use Rattle.answer.specs.Tests.{◌at_most◌, is_met}
use Rattle.answer.proofs.Faults.{at-most, above}
use Rattle.stock.specs.declared.Label.{Label}
use Rattle.stock.specs.declared.Stock.{Stock}
use Rattle.stock.specs.Stock.{is_caller, remaining, sum_of, held, entries, share_blocks}
use Rattle.stock.specs.Calls.{is_count, with_stock, opening_share}
use Rattle.stock.proofs.Cases.{by_order}
use Rattle.stock.proofs.Entries.{entries_in, entries_past}
use Rattle.stock.proofs.Opened.{up_to_most}

-- past the eight entries nothing is held
holds-none_past : (s : Stock) (k : ℕ) → 8 ≤ k → remaining s k ≡ 0
unfolding remaining is_caller
holds-none_past s k h = rw (le-ltb k 8 h)

rest-holds : (s : Stock) → opening_share (entries 8 (remaining s)) ≡ remaining s
rest-holds s =
    fun_ext λ k.
    by_order k 8
    (λ b. entries_in 8 (remaining s) k b b)
    (λ a. entries_past 8 (remaining s) k a ∙ sym (holds-none_past s k a))

module _ (s : Stock) (each : List ℕ) (kept : each ≡ entries 8 (remaining s)) where
  same_rest : opening_share each ≡ remaining s
  same_rest = ap opening_share kept ∙ rest-holds s

  pub pass-blocks : (l : Label) (b : Stock) → b ≡ share_blocks l s.callers (opening_share each)
      → with_stock b 0 ≡ with_stock (share_blocks l s.callers (remaining s)) 0
  pass-blocks l b e = rw (e, same_rest)

  -- the sum of what is left is what is held
  module _ (outputs sum : ℕ) (summed : sum ≡ sum_of 8 (opening_share each)) where
    sum-held : sum ≡ held s
    unfolding held
    sum-held = summed ∙ ap (sum_of 8) same_rest

    pub pass_within : is_count 32768 outputs ≡ true → held s ≤ outputs → sum_of 8 (opening_share each) ≤ 32768
    pass_within most enough = let m = up_to_most 32768 outputs most in let h = sum-held in omega arith

    pub pass-above : outputs < sum → is_met (held s at_most outputs) ≡ false
    pass-above h = rw (← sum-held) (above sum outputs h)

    pub pass-enough : sum ≤ outputs → is_met (held s at_most outputs) ≡ true
    pass-enough h = rw (← sum-held) (at-most sum outputs h)
