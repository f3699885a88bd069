-- No value, one value more, and all of them.
use Rattle.std.proofs.Common.{◌≡◌, ℕ, ◌+◌, ◌*◌, ◌/◌, ◌≤◌, length, arith, ap, ◌∙◌}
use native.Mathlib.Nat.{mul-le-mul_right, div-mul-le_self, mul-div_cancel}
use Rattle.field.specs.Inner.Parts.{group_of}
use Rattle.code_sums.proofs.InPlace.{start, more, done}
use Rattle.code_sums.proofs.accumulation.accumulate.Goals as goal

pub loop-i-init : goal.loop-i-init
loop-i-init g c =
    let p = g.E.FieldElement.parts in
    start (group_of p) p.coding c.requires.coded c.args.words.now c.zero-total.ensures

pub loop-i-preserved : goal.loop-i-preserved
loop-i-preserved g c =
    let p = g.E.FieldElement.parts in
    let count : ℕ = length c.args.words.now / p.coding.width in
    let passed : (c.loop-i.i + 1) * p.coding.width ≤ count * p.coding.width = mul-le-mul_right p.coding.width (omega arith) in
    let room : c.loop-i.i * p.coding.width + p.coding.width ≤ length c.loop-i.words = omega (arith, passed, div-mul-le_self (length c.args.words.now) p.coding.width) in
    let next = rw c.at.ensures at c.add-total.ensures in
    rw c.put.ensures (more (group_of p) p.coding c.requires.coded c.args.words.now c.loop-i.invariant room next)

pub returns : goal.returns
returns g c count e =
    let p = g.E.FieldElement.parts in
    let all : length c.args.words.now / p.coding.width ≡ count =
    ap (λ (n : ℕ). n / p.coding.width) e ∙ mul-div_cancel count c.requires.wide in
    done (group_of p) p.coding c.requires.coded c.args.words.now c.loop-i.invariant (omega arith) (omega arith) e
