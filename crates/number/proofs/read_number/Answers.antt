-- `number::read_number` meets its contract: one law for each return. Assumes nothing.
use Rattle.std.proofs.Common.{arith, refl, ℕ, ◌+◌, ◌≡◌, List}
use mathlib.Core.Path.{ap}
use lib.ListN.{get_or}
use Rattle.number.proofs.Steps.{ends_0, value_0, ends_1, zero_1, value_1, ends_2, zero_2, value_2, top_bit}
use Rattle.number.proofs.read_number.Goals as goal
use Rattle.number.proofs.read_number.Goals.{then-c-eq0-via-then-c-eq0, then-c-eq0-via-else-c-eq0+then-c-ge128}

-- the places of the third byte and after it, as the definition counts them
third : (at : ℕ) → at + 2 ≡ at + 1 + 1
third at = omega arith

fourth : (at : ℕ) → at + 3 ≡ at + 1 + 1 + 1
fourth at = omega arith

third-byte : (s : List ℕ) (at : ℕ) → get_or s (at + 2) 0 ≡ get_or s (at + 1 + 1) 0
third-byte s at = ap (λ (n : ℕ). get_or s n 0) (third at)

pub returns-then-source-at : goal.returns-then-source-at
returns-then-source-at c = ends_0 _ _ c.if-source-at.true

pub returns-then-a-lt128 : goal.returns-then-a-lt128
returns-then-a-lt128 c = value_0 _ _ c.if-source-at.false refl c.if-a-lt128.true

pub returns-then-source-at-2 : goal.returns-then-source-at-2
returns-then-source-at-2 c = ends_1 _ _ c.if-source-at.false refl c.if-a-lt128.false (omega (arith, c.if-source-at-2.true))

pub returns-then-b-eq0 : goal.returns-then-b-eq0
returns-then-b-eq0 c =
    zero_1 _ _ c.if-source-at.false refl c.if-a-lt128.false (omega (arith, c.if-source-at-2.false)) refl c.if-b-lt128.true c.if-b-eq0.true

pub returns-then-b-lt128 : goal.returns-then-b-lt128
returns-then-b-lt128 c =
    rw (third c.args.at)
    (value_1 _ _ c.if-source-at.false refl c.if-a-lt128.false (omega (arith, c.if-source-at-2.false)) refl c.if-b-lt128.true c.if-b-eq0.false)

pub returns-then-source-at-3 : goal.returns-then-source-at-3
returns-then-source-at-3 c =
    ends_2 _ _ c.if-source-at.false refl c.if-a-lt128.false (omega (arith, c.if-source-at-2.false)) refl c.if-b-lt128.false
    (omega (arith, c.if-source-at-3.true))

pub returns-then-c-eq0 : goal.returns-then-c-eq0
returns-then-c-eq0 c =
    let h = c.if-source-at-3.false in
    elim c.then-c-eq0.branch [
      | then-c-eq0-via-then-c-eq0 w ↦
          zero_2 _ _ c.if-source-at.false refl c.if-a-lt128.false (omega (arith, h)) refl c.if-b-lt128.false (omega (arith, h)) (third-byte c.args.source.now c.args.at)
          (omega (arith, w.if-c-eq0.true)) w.if-c-eq0.true
      | then-c-eq0-via-else-c-eq0+then-c-ge128 w ↦
          top_bit _ _ c.if-source-at.false refl c.if-a-lt128.false (omega (arith, h)) refl c.if-b-lt128.false (omega (arith, h)) (third-byte c.args.source.now c.args.at)
          w.if-c-ge128.true
    ]

pub returns : goal.returns
returns c =
    let h = c.if-source-at-3.false in
    rw (fourth c.args.at)
    (value_2 _ _ c.if-source-at.false refl c.if-a-lt128.false (omega (arith, h)) refl c.if-b-lt128.false (omega (arith, h)) (third-byte c.args.source.now c.args.at)
    c.if-c-ge128.false c.if-c-eq0.false)
