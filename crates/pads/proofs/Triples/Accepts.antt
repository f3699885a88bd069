-- The call returns 0 exactly if its tests are all met; and what its returns need.
use mathlib.Core.Path.{◌≡◌, refl}
use mathlib.Core.List.{List}
use Prim.Native.Nat.{ℕ, ◌*◌}
use native.Mathlib.Omega.{arith}
use lib.ListN.{length}
use mir.Syntax.{w64}
use mir.Val.{Fits}
use Rattle.answer.specs.Tests.{first_fault}
use Rattle.answer.proofs.Faults.{admitted_by}
use Rattle.answer.proofs.Answers.{outcome-accepts}
use Rattle.pads.specs.Triples.Call.{triples_tests, triples, Accepts}

pub accepts : Accepts
unfolding triples
accepts l = outcome-accepts _ _ _ _ _ refl

module _ (choices pads pad_pairs : List ℕ) where
  -- the length that is returned is a word
  pub triples_fit : (room n : ℕ) → n ≡ first_fault (triples_tests choices pads pad_pairs room) → n ≡ 0 → Fits w64 room
      → Fits w64 (3 * length choices)
  triples_fit room n e z f = omega (arith, (admitted_by _ n refl e z).all)
