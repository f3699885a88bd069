-- `ends_calls::trees::next` meets its contract: a tree that is left is read again. Assumes nothing.
use Rattle.ends_calls.proofs.Rest.{left_asks, left_more}
use Rattle.ends_calls.proofs.trees.TreesIterator.next.Goals as goal

pub tree_at-tree-requires : goal.tree_at-tree-requires
tree_at-tree-requires c =
    (left_asks _ _ c.args.self.now.rest c.if-self-eq0.false, c.args.self.now.rest.levels, c.args.self.now.rest.count)

pub invariant_of-self : goal.invariant_of-self
invariant_of-self c = record { rest = left_more _ _ c.args.self.now.rest c.if-self-eq0.false c.tree_at-tree.ensures }
