-- `rows::walked::walk` meets its contract, turn by turn; the last turn may be of one term. Assumes nothing.
use Rattle.std.proofs.Common.{rules, arith, ◌+◌}
use Rattle.rows.proofs.Walks.{walked-none, walked-two, walked-last, walked-all}
use Rattle.rows.proofs.walked.walk.Goals as goal
use Rattle.rows.proofs.walked.walk.Goals.{then-i-code, else-i-code}

pub loop-i-init : goal.loop-i-init
loop-i-init g c = search (rules, walked-none)

pub loop-i-preserved : goal.loop-i-preserved
loop-i-preserved g c =
    let Added = g.V.Vectors.Added c.args.vectors in
    let walked = c.loop-i.invariant.1 in
    let pair = c.two_blocks-pair.ensures in
    let next = c.with_term-next.ensures in (
      omega arith,
      elim c.if-i-code.branch [
        | then-i-code w ↦ rw w.sums-is (walked-two Added _ _ _ _ c.loop-i.i walked pair.0 next w.if-i-code.true pair.1 w.with_term-sums.ensures)
        | else-i-code w ↦ rw w.sums-is (walked-last Added _ _ _ _ c.loop-i.i walked pair.0 next c.loop-i-test.true w.if-i-code.false)
      ],
    )

pub returns-after-i-code : goal.returns-after-i-code
returns-after-i-code g c =
    let Added = g.V.Vectors.Added c.args.vectors in
    let walked = c.loop-i.invariant.1 in
    let pair = c.two_blocks-pair.ensures in
    let next = c.with_term-next.ensures in
    walked-all Added _ _ _ _ (c.loop-i.i + 2) _ (omega arith)
    (elim c.if-i-code.branch [
      | then-i-code w ↦ rw w.sums-is (walked-two Added _ _ _ _ c.loop-i.i walked pair.0 next w.if-i-code.true pair.1 w.with_term-sums.ensures)
      | else-i-code w ↦ rw w.sums-is (walked-last Added _ _ _ _ c.loop-i.i walked pair.0 next c.loop-i-test.true w.if-i-code.false)
    ])

pub returns : goal.returns
returns g c = walked-all (g.V.Vectors.Added c.args.vectors) _ _ _ _ c.loop-i.i _ (search rules) c.loop-i.invariant.1
