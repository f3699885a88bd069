-- The choice law holds for any rule: w is v under choice 0, and w exclusive-or Δ is v under choice 1.
use mathlib.Core.Path.{◌≡◌, sym, ap, ◌∙◌}
use mathlib.Core.List.{List, ◌++◌, append_assoc}
use Prim.Native.Nat.{ℕ, zero, suc, ◌+◌, ◌-◌, ◌*◌, ◌≤◌}
use native.Mathlib.Nat.{mul_comm}
use native.Mathlib.Omega.{arith}
use lib.Bits.{bit_xor, xor_zero_l, xor_comm}
use lib.ListN.{get_or, take, drop}
use lib.Seq.{take_at, drop_at, drop-drop}
use Rattle.algebra.specs.Coding.{at}
use Rattle.algebra.proofs.Written.{over-value, over-from}
use Rattle.answer.specs.Outcome.{Outcome}
use Rattle.answer.proofs.Answers.{outcome_is}
use Rattle.field.specs.declared.block.Block.{Block}
use Rattle.field.specs.Binary.{block_add, block_scale}
use Rattle.field.proofs.Xor.{xor-back}
use Rattle.pads.specs.Bytes.{PadPair, block_bytes, pad_pair_bytes}
use Rattle.pads.specs.Pad.{Rule, pad_pair}
use Rattle.pads.specs.Calls.{NoiseLent, ScalarLent, noise_pads_by, scalar_pads_by}
use Rattle.pads.specs.Choice.{InWindow, pad_at, one_of_two_at, Choice}
use Rattle.pads.proofs.Blocks.{wide-block, wide_pair}
use Rattle.pads.proofs.Accepts.{accepts}

-- the noise end's bytes for an index of its window are those of its pad
pub noise-bytes : (rule : Rule) (first count : ℕ) (vs choices pads : List ℕ) → (noise_pads_by rule first count vs choices pads).number ≡ 0
    → (x : ℕ) → InWindow first count x
    → pad_at (noise_pads_by rule first count vs choices pads).lent.pads first x ≡ block_bytes.words (rule x (at block_bytes vs (x - first)))
unfolding noise_pads_by
noise-bytes rule first count vs choices pads e x i =
    let f : ℕ → Block = λ k. rule (first + k) (at block_bytes vs k) in
    let here : first + (x - first) ≡ x = omega arith in
    ap (λ (o : Outcome (Unit {0}) NoiseLent). pad_at o.lent.pads first x) (outcome_is _ _ _ _ _ e)
    ∙ rw (mul_comm 16 (x - first)) (over-value block_bytes wide-block count f pads (x - first) (omega arith))
    ∙ ap (λ (y : ℕ). block_bytes.words (rule y (at block_bytes vs (x - first)))) here

-- pad 0 or 1 of two
abbrev named : ℕ → PadPair → Block
named zero m = m.pad0
named (suc u) m = m.pad1

-- the 16 bytes of each of two pads
one_of_two-bytes : (m : PadPair) (rest : List ℕ) (u : ℕ) → u ≤ 1
    → take 16 (drop (16 * u) (pad_pair_bytes.words m ++ rest)) ≡ block_bytes.words (named u m)
one_of_two-bytes m rest zero h =
    rw
    (append_assoc (block_bytes.words m.pad0) (block_bytes.words m.pad1) rest)
    (take_at (block_bytes.words m.pad0) _ 16 (wide-block m.pad0))
one_of_two-bytes m rest (suc zero) h =
    rw (
      append_assoc (block_bytes.words m.pad0) (block_bytes.words m.pad1) rest,
      drop_at (block_bytes.words m.pad0) _ 16 (wide-block m.pad0),
    )
    (take_at (block_bytes.words m.pad1) rest 16 (wide-block m.pad1))
one_of_two-bytes m rest (suc (suc u)) h = absurd (omega arith)

-- the scalar end's bytes of pad u for an index of its window are those of that pad
pub scalar-bytes : (rule : Rule) (first count : ℕ) (ws delta pads : List ℕ) → (scalar_pads_by rule first count ws delta pads).number ≡ 0
    → (x : ℕ) → InWindow first count x → (u : ℕ) → u ≤ 1
    → one_of_two_at (scalar_pads_by rule first count ws delta pads).lent.pads first x u
    ≡ block_bytes.words (named u (pad_pair rule x (at block_bytes ws (x - first)) (at block_bytes delta 0)))
unfolding scalar_pads_by
scalar-bytes rule first count ws delta pads e x i u h =
    let Δ = at block_bytes delta 0 in
    let f : ℕ → PadPair = λ k. pad_pair rule (first + k) (at block_bytes ws k) Δ in
    let here : first + (x - first) ≡ x = omega arith in
    let place : 32 * (x - first) ≡ (x - first) * 32 = omega arith in
    ap (λ (o : Outcome (Unit {0}) ScalarLent). one_of_two_at o.lent.pads first x u) (outcome_is _ _ _ _ _ e)
    ∙ rw
    (place, ← drop-drop (16 * u), over-from pad_pair_bytes wide_pair count f pads (x - first) (omega arith))
    (one_of_two-bytes (f (x - first)) _ u h)
    ∙ ap (λ (y : ℕ). block_bytes.words (named u (pad_pair rule y (at block_bytes ws (x - first)) Δ))) here

-- Δ added twice is nothing added
cancel : (d v : ℕ) → bit_xor (bit_xor d v) d ≡ v
cancel d v = xor_comm (bit_xor d v) d ∙ ap (bit_xor d) (xor_comm d v) ∙ xor-back v d

-- where w = Δu + v, the pad of v is pad u
named-pad : (rule : Rule) (x : ℕ) (v Δ : Block) (u : ℕ) → u ≤ 1 → rule x v ≡ named u (pad_pair rule x (block_add (block_scale u Δ) v) Δ)
unfolding pad_pair block_scale
named-pad rule x v Δ zero h = simp xor_zero_l
named-pad rule x v Δ (suc zero) h = simp cancel
named-pad rule x v Δ (suc (suc u)) h = absurd (omega arith)

pub choice : (rule : Rule) → Choice rule
choice rule first count vs choices pads e first' count' ws delta pads' e' x i i' v w Δ u lent =
    let bits : (k : ℕ) → get_or choices k 0 ≤ 1 = search (((accepts rule).noise first count vs choices pads).1 e) in
    let bit : u ≤ 1 = omega (arith, bits (x - first)) in
    noise-bytes rule first count vs choices pads e x i
    ∙ ap (λ (b : Block). block_bytes.words (rule x b)) lent.v_lent
    ∙ ap block_bytes.words (named-pad rule x v Δ u bit)
    ∙ rw (← lent.correlated, ← lent.w_lent, ← lent.Δ-lent) (sym (scalar-bytes rule first' count' ws delta pads' e' x i' u bit))
