-- `record_head::head::read_after_depth` meets its contract: the fields that were read before a return, and which case the last one was.
-- Assumes nothing.
use Rattle.std.proofs.Common.{◌≡◌, sym, ◌∙◌, min}
use Rattle.std.proofs.Math.Nat.{min_comm}
use Rattle.answer.proofs.Refusals.{passed_on}
use Rattle.record.proofs.Heads.{keys-refused, keys-whole}
use Rattle.record.specs.Reading.{read_after_depth}
use Rattle.record_head.proofs.head.read_after_depth.Goals as goal

pub returns-in_err-branch_bits : goal.returns-in_err-branch_bits
unfolding read_after_depth
returns-in_err-branch_bits c = rw (passed_on c.from_residual.result c.from_residual.ensures.1, ← c.in_err-branch_bits.ensures)

pub returns-in_err-trees : goal.returns-in_err-trees
unfolding read_after_depth
returns-in_err-trees c =
    let trees : c.min.result ≡ min 64 c.leaves-all.result = c.min.ensures ∙ min_comm _ 64 in
    simp (passed_on c.from_residual-in_err-trees.result c.from_residual-in_err-trees.ensures.1, ← c.leaves-all.ensures, ← c.in_ok-branch_bits.ensures, ← trees, ← c.in_err-trees.ensures)

pub returns-in_err-terms : goal.returns-in_err-terms
unfolding read_after_depth
returns-in_err-terms c =
    let trees : c.min.result ≡ min 64 c.leaves-all.result = c.min.ensures ∙ min_comm _ 64 in
    let terms : c.min-2.result ≡ min 32 c.leaves-all.result = c.min-2.ensures ∙ min_comm _ 32 in
    simp (passed_on c.from_residual-in_err-terms.result c.from_residual-in_err-terms.ensures.1, ← c.leaves-all.ensures, ← c.in_ok-branch_bits.ensures, ← trees, ← c.in_ok-trees.ensures, ← terms, ← c.in_err-terms.ensures)

pub returns-in_err-outputs : goal.returns-in_err-outputs
unfolding read_after_depth
returns-in_err-outputs c =
    let trees : c.min.result ≡ min 64 c.leaves-all.result = c.min.ensures ∙ min_comm _ 64 in
    let terms : c.min-2.result ≡ min 32 c.leaves-all.result = c.min-2.ensures ∙ min_comm _ 32 in
    simp (passed_on c.from_residual-in_err-outputs.result c.from_residual-in_err-outputs.ensures.1, ← c.leaves-all.ensures, ← c.in_ok-branch_bits.ensures, ← trees, ← c.in_ok-trees.ensures, ← terms, ← c.in_ok-terms.ensures, ← c.in_err-outputs.ensures)

pub returns-in_err-body : goal.returns-in_err-body
unfolding read_after_depth
returns-in_err-body c =
    let trees : c.min.result ≡ min 64 c.leaves-all.result = c.min.ensures ∙ min_comm _ 64 in
    let terms : c.min-2.result ≡ min 32 c.leaves-all.result = c.min-2.ensures ∙ min_comm _ 32 in
    simp (passed_on c.from_residual-in_err-body.result c.from_residual-in_err-body.ensures.1, ← c.leaves-all.ensures, ← c.in_ok-branch_bits.ensures, ← trees, ← c.in_ok-trees.ensures, ← terms, ← c.in_ok-terms.ensures, ← c.in_ok-outputs.ensures)
    (sym (keys-refused _ _ c.in_err-body.ensures _))

pub returns : goal.returns
unfolding read_after_depth
returns c =
    let trees : c.min.result ≡ min 64 c.leaves-all.result = c.min.ensures ∙ min_comm _ 64 in
    let terms : c.min-2.result ≡ min 32 c.leaves-all.result = c.min-2.ensures ∙ min_comm _ 32 in
    simp (← c.leaves-all.ensures, ← c.in_ok-branch_bits.ensures, ← trees, ← c.in_ok-trees.ensures, ← terms, ← c.in_ok-terms.ensures, ← c.in_ok-outputs.ensures)
    (sym (keys-whole _ _ c.in_ok-body.ensures _))
