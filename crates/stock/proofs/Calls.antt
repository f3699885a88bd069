-- What the calls on a stock give: the first of their tests that is not met decides, a refused one changes nothing, and what an accepted
-- one makes.
use mathlib.Core.Path.{◌≡◌, refl}
use Prim.Native.Nat.{ℕ, ◌+◌}
use lib.ListN.{set}
use Rattle.stock.specs.declared.Drawn.{Drawn}
use Rattle.stock.specs.declared.Label.{Label}
use Rattle.stock.specs.declared.Stock.{Stock}
use Rattle.stock.specs.Stock.{next_of}
use Rattle.stock.specs.Calls.{advanced, accepted_draw, draw, preview}

-- ---- draws

-- the window from the caller's next index on, which is raised by the count
pub taken_is : (s : Stock) (k c : ℕ)
    → record {
      number = 0;
      first = next_of s k;
      count = c;
      stock = record { callers = s.callers; label = s.label; next = set s.next k (next_of s k + c); end = s.end };
    }
    ≡ accepted_draw s k c
unfolding advanced
taken_is s k c = refl

-- ---- previews

pub preview_is : (s : Stock) (l : Label) (k c : ℕ) (d : Drawn) → d ≡ draw s l k c
    → record { number = d.number; first = d.first; count = d.count; after = d.stock } ≡ preview s l k c
unfolding preview
preview_is s l k c d e = rw e
