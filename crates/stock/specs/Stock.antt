-- What a stock holds (document 02, 2 and 14): a label, under which caller k draws from its next index up to its block's end.
use Rattle.std.specs.Prelude.{Bool, ◌&&◌, List, [], ◌∷◌, ℕ, zero, suc, ◌+◌, ◌-◌, ltb, get_or}
use Rattle.algebra.specs.Choice.{choose}
use Rattle.stock.specs.declared.Label.{Label}
use Rattle.stock.specs.declared.Stock.{Stock}

-- callers count from 0, and there are at most eight
unfoldable pub is_caller : Stock → ℕ → Bool
is_caller s k = ltb k 8 && ltb k s.callers

-- a caller's next index, and its block's end
abbrev pub next_of : Stock → ℕ → ℕ
next_of s k = get_or s.next k 0

abbrev pub end_of : Stock → ℕ → ℕ
end_of s k = get_or s.end k 0

-- a caller's remaining share; 0 where the next index is above the end, and where there is no such caller
unfoldable pub remaining : Stock → ℕ → ℕ
remaining s k = choose (is_caller s k) (end_of s k - next_of s k) 0

-- the sum of f at 0 to n − 1
unfoldable pub sum_of : ℕ → (ℕ → ℕ) → ℕ
sum_of zero f = 0
sum_of (suc n) f = sum_of n f + f n

-- outputs still held, by all callers together
unfoldable pub held : Stock → ℕ
held s = sum_of 8 (remaining s)

-- eight entries
abbrev pub eight : (ℕ → ℕ) → List ℕ
eight f = f 0 ∷ f 1 ∷ f 2 ∷ f 3 ∷ f 4 ∷ f 5 ∷ f 6 ∷ f 7 ∷ []

-- eight entries: f at each caller, and zero past the callers
unfoldable pub entries : ℕ → (ℕ → ℕ) → List ℕ
entries callers f = eight (λ k. choose (ltb k callers) (f k) 0)

-- the shares as consecutive blocks of outputs, from index 0 in caller order: a caller's block begins at the sum of the shares
-- before it
unfoldable pub share_blocks : Label → ℕ → (ℕ → ℕ) → Stock
share_blocks label callers share =
    record {
      callers = callers;
      label = label;
      next = entries callers (λ k. sum_of k share);
      end = entries callers (λ k. sum_of (suc k) share);
    }
