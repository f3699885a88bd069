-- `record_reading::noise::known_tree` meets its contract: it is what is read, which is known to be whole. Assumes nothing.
use Rattle.std.proofs.Common.{◌^◌, ◌<◌, arith, length}
use Rattle.record.proofs.Again.{known-below, known-siblings}
use Rattle.record_reading.proofs.noise.known_tree.Goals as goal

pub read_tree-requires : goal.read_tree-requires
read_tree-requires c =
    let few : length c.args.source.now < 2 ^ 64 = search in
    (known-below _ _ _ _ _ _ c.requires.0, c.requires.1, omega (arith, few, known-siblings _ _ _ _ _ _ c.requires.0))
