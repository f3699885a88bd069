-- A head's rows read places below N under coefficients that are elements, and windows over usable places are usable.
use mathlib.Core.Path.{◌≡◌}
use mathlib.Core.Bool.{Bool, true}
use Prim.Native.Nat.{ℕ, ◌+◌, ◌≤◌, ◌<◌}
use Rattle.algebra.specs.Group.{Scaled}
use Rattle.algebra.specs.Row.{RowWithin, output}
use Rattle.algebra.proofs.Every.{every-all}
use Rattle.code.specs.Row.{row_of_blocks}
use Rattle.algebra.specs.Every.{every}
use Rattle.code.proofs.Laws as code
use Rattle.field.proofs.BothKinds.{kind_laws}
use Rattle.record.specs.Content.{Head}
use Rattle.window.specs.Head.{kind, field_of, places, row}
use Rattle.window.specs.Usable.{window_usable}

pub row_within : (h : Head) → h.terms ≤ places h → (x : ℕ) → RowWithin (field_of h).ring (places h) (row h x)
row_within h full x = code.row_within (places h) h.terms (kind h) (kind_laws h.field) _ full

-- a row's output depends on the values at places below N alone
pub row_output : (h : Head) → h.terms ≤ places h → (x : ℕ) (S : Scaled (field_of h).ring) (f g : ℕ → S.group.Of) → ((j : ℕ) → j < places h → f j ≡ g j)
    → output S (row h x) f ≡ output S (row h x) g
row_output h full x S f g e = code.output-below (places h) h.terms (kind h) S _ f g full e

-- where every place below N is usable, every window is
pub window-usable : (usable : ℕ → Bool) (h : Head) → h.terms ≤ places h → (first count : ℕ) → ((j : ℕ) → j < places h → usable j ≡ true)
    → window_usable usable h first count ≡ true
unfolding window_usable row_of_blocks
window-usable usable h full first count all =
    every-all (λ k. every h.terms (λ i. usable ((row h (first + k)).place i))) count
    (λ k b. every-all (λ i. usable ((row h (first + k)).place i)) h.terms
    (λ i c. all ((row h (first + k)).place i) ((row_within h full (first + k)).place-below i c)))
