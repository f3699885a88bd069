-- `tree_fill::tree_fill::add_range` meets its contract: the last level at once, with two children a node the last three, else the two
-- halves of the buffer by two children, or by half as many children each. The measure is what is left of the depth. Assumes nothing.
use Rattle.tree_fill.proofs.Ranges.{two-some, one-falls, half_falls, one-range, first_half_range, back-range, pair_keys}
use Rattle.tree_fill.proofs.Filled.{leaf-length, one-front, one-back, half_front, half_back, filled-leaf, filled-children, filled_halves}
use Rattle.tree_sums.proofs.Bottom.{bottom_branch, bottom_keys, bottom_length, filled_bottom}
use Rattle.tree_sums.proofs.Couples.{three-length, three-below}
use Rattle.tree_fill.proofs.fill.+add_range.Goals as goal

pub add_leaf-requires : goal.add_leaf-requires
add_leaf-requires t c = search leaf-length

pub add_bottom-requires : goal.add_bottom-requires
add_bottom-requires t c = (search bottom_branch, search bottom_keys, search bottom_length)

pub children-both-requires : goal.children-both-requires
children-both-requires t c = search pair_keys

pub add_both-requires : goal.add_both-requires
add_both-requires t c = search three-length

pub returns-then-branch_bits-eq1 : goal.returns-then-branch_bits-eq1
returns-then-branch_bits-eq1 t c = search three-below

pub add_range-requires : goal.add_range-requires
add_range-requires t c = rw c.all_children-all.ensures (search one-falls, (search one-range, search one-front))

pub add_range-requires-then-bits-eq1 : goal.add_range-requires-then-bits-eq1
add_range-requires-then-bits-eq1 t c = rw c.all_children-all.ensures (search one-falls, (search one-range, search one-back))

pub add_range-requires-else-bits-eq1 : goal.add_range-requires-else-bits-eq1
add_range-requires-else-bits-eq1 t c = rw c.half_from-low.ensures (search (half_falls, two-some), (search first_half_range, search (half_front, two-some)))

pub add_range-requires-else-bits-eq1-2 : goal.add_range-requires-else-bits-eq1-2
add_range-requires-else-bits-eq1-2 t c = rw c.half_from-high.ensures (search (half_falls, two-some), (search back-range, search (half_back, two-some)))

pub returns-then-levels-eq0 : goal.returns-then-levels-eq0
returns-then-levels-eq0 t c = search filled-leaf

pub returns-then-levels-eq1 : goal.returns-then-levels-eq1
returns-then-levels-eq1 t c = search filled_bottom

pub returns-else-levels-eq3 : goal.returns-else-levels-eq3
returns-else-levels-eq3 t c =
    let a = rw c.all_children-all.ensures at c.add_range.ensures in
    let b = rw c.all_children-all.ensures at c.add_range-then-bits-eq1.ensures in
    search (filled-children, a, b)

pub returns-else-bits-eq1 : goal.returns-else-bits-eq1
returns-else-bits-eq1 t c =
    let a = rw c.half_from-low.ensures at c.add_range-else-bits-eq1.ensures in
    let b = rw c.half_from-high.ensures at c.add_range-else-bits-eq1-2.ensures in
    search (filled_halves, a, b)
