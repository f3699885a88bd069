-- `ends_bench::entries::make_terms` meets its contract. Assumes nothing.
use Rattle.std.proofs.Common.{rules, refl, ◌∙◌}
use Rattle.ends_bench.proofs.Rows.{term-place, term-coefficient, terms_more}
use Rattle.ends_bench.proofs.Strips.{code_sizes}
use Rattle.ends_bench.proofs.entries.make_terms.Goals as goal

pub loop-k-preserved : goal.loop-k-preserved
loop-k-preserved c =
    let made = c.new-code.ensures in
    let term = rw made.0 at c.row_term-term.ensures in
    let shape = made.1 ∙ c.shape_of.ensures in
    let ok = code_sizes c.args.vector.now in
    terms_more _ _ _ _ _ c.loop-k.invariant (search rules) _ (term-place _ ok shape _ _ _ term.0)
    (term-coefficient _ ok shape _ _ _ _ term.2 c.coefficient-row.ensures) refl
