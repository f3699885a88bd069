-- What the pad calls' steps and returns need, once their tests are met.
use mathlib.Core.Path.{◌≡◌, refl}
use mathlib.Core.List.{List}
use Prim.Native.Nat.{ℕ, ◌+◌, ◌≤◌}
use native.Mathlib.Omega.{arith}
use lib.ListN.{length}
use Rattle.algebra.specs.Coding.{over}
use Rattle.answer.specs.Tests.{first_fault}
use Rattle.answer.specs.Outcome.{outcome_none}
use Rattle.answer.proofs.Faults.{admitted_by}
use Rattle.answer.proofs.Answers.{accepted_now}
use Rattle.field.specs.declared.block.Block.{Block}
use Rattle.pads.specs.Bytes.{block_bytes, pad_pair_bytes}
use Rattle.pads.specs.Calls.{lent_noise, lent_scalar, noise_tests, scalar_tests, noise_pads, scalar_pads, noise_pads_by, scalar_pads_by}
use Rattle.pads_rule.specs.Inner.Steps.{WindowFits}
use Rattle.pads_write.proofs.Turns.{pad_of, both_pads_of}

module _ (first count : ℕ) (v choices pads : List ℕ) (e : 0 ≡ first_fault (noise_tests first count v choices (length pads))) where
  pub noise-fits : WindowFits first count (length v) 16 (length pads)
  noise-fits =
      let a = (admitted_by _ 0 refl e refl).all in
      record { window = omega (arith, a); blocks = omega (arith, a); outputs = omega (arith, a) }

  -- accepted, with the buffer as the pads leave it
  pub noise-accepted : (b : List ℕ) → b ≡ over block_bytes count (pad_of first v) pads → outcome_none 0 (lent_noise v choices b) ≡ noise_pads first count v choices pads
  unfolding noise_pads_by
  noise-accepted b g = accepted_now _ _ _ _ e (rw g)

module _ (first count : ℕ) (w delta pads : List ℕ) (e : 0 ≡ first_fault (scalar_tests first count w delta (length pads))) where
  pub scalar_fits : WindowFits first count (length w) 32 (length pads)
  scalar_fits =
      let a = (admitted_by _ 0 refl e refl).all in
      record { window = omega (arith, a); blocks = omega (arith, a); outputs = omega (arith, a) }

  pub scalar-delta : 0 + 16 ≤ length delta
  scalar-delta = omega (arith, (admitted_by _ 0 refl e refl).all)

  -- accepted, with the buffer as the pads leave it
  pub scalar-accepted : (b : List ℕ) (Δ : Block) → Δ ≡ block_bytes.read delta 0 → b ≡ over pad_pair_bytes count (both_pads_of first w Δ) pads
      → outcome_none 0 (lent_scalar w delta b) ≡ scalar_pads first count w delta pads
  unfolding scalar_pads_by
  scalar-accepted b Δ d g = accepted_now _ _ _ _ e (rw (g, d))
