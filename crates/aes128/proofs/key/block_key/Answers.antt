-- The columns of a state's block are the state.
use Rattle.aes128.proofs.Columns.{columns_of_block}
use Rattle.aes128.proofs.Given.{given-state}
use Rattle.aes128.proofs.key.block_key.Goals as goal

pub returns : goal.returns
returns c = rw c.of_columns.ensures (columns_of_block c.args.k (given-state c.args.k _ c.well_formed.0))
