-- A list is found equal to itself, and a head of its own dealing. Assumes nothing.
use mathlib.Core.Path.{◌≡◌, refl}
use mathlib.Core.Bool.{true}
use mathlib.Core.List.{List, [], ◌∷◌}
use Prim.Native.Nat.{ℕ}
use borrow.Author.Tests.{eq-eqb}
use Rattle.algebra.proofs.Tests.{and_both}
use Rattle.record.specs.Content.{Head}
use Rattle.pairing.specs.Verdict.{same_list, same_dealing}

pub same_refl : (l : List ℕ) → same_list l l ≡ true
unfolding same_list
same_refl [] = refl
same_refl (a ∷ l) = and_both (eq-eqb a a refl) (same_refl l)

-- a head is its own dealing's
pub same-dealing : (h : Head) → same_dealing h h ≡ true
unfolding same_dealing
same-dealing h =
    rw (
      eq-eqb h.field h.field refl,
      eq-eqb h.depth h.depth refl,
      eq-eqb h.branch_bits h.branch_bits refl,
      eq-eqb h.trees h.trees refl,
      eq-eqb h.terms h.terms refl,
      eq-eqb h.outputs h.outputs refl,
      same_refl h.code_key,
    )
    (same_refl h.label)
