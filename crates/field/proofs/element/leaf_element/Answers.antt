-- `field::element::leaf_element` meets its contract, field by field. Assumes nothing.
use Rattle.std.proofs.Common.{◌≡◌}
use Rattle.field.specs.Bytes.{low_of}
use Rattle.field.proofs.Elements.{leaf_1, leaf_2}
use Rattle.field.proofs.element.leaf_element.Goals as goal

pub returns-then-field-eq-BINARY : goal.returns-then-field-eq-BINARY
returns-then-field-eq-BINARY c = rw c.from.ensures (search leaf_1)

pub returns-else-field-eq-BINARY : goal.returns-else-field-eq-BINARY
returns-else-field-eq-BINARY c =
    let low : c.of_columns-block.result.low ≡ low_of c.args.leaf = rw c.of_columns-block.ensures in
    rw c.from-else-field-eq-BINARY.ensures (leaf_2 _ c.if-field-eq-BINARY.false c.args.leaf low c.reduce.ensures)
