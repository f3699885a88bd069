-- The rows are the four bytes.
use Rattle.std.proofs.Common.{rules, arith}
use Rattle.aes_sbox.proofs.Columns.{rows_made}
use Rattle.aes_sbox.proofs.wide_column.Goals as goal

pub returns-clause-rows : goal.returns-clause-rows
returns-clause-rows c =
    rw (c.from.ensures, c.from-2.ensures, c.from-3.ensures, c.from-4.ensures)
    (rows_made (omega arith) (search rules) (search rules) (search rules) (search rules) (search rules))
