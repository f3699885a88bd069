-- The small dealings are accepted, into buffers of 256 bytes, so their inputs are admitted. No cipher is run, since no length depends on
-- it.
use mathlib.Core.Path.{◌≡◌, refl}
use lib.ListN.{replicate}
use Rattle.algebra.specs.Every.{every}
use Rattle.algebra.specs.Expansion.{rising}
use Rattle.field.specs.Bytes.{le_number, le_bytes, word_at}
use Rattle.number.specs.Number.{write_number}
use Rattle.record.specs.Writing as writing
use Rattle.record.specs.Writing.{write_head, write_tree_start, write_tree, write_trees, write_noise, write_scalar}
use Rattle.tree.specs.Columns.{columns_bytes}
use Rattle.tree.specs.Tree.{path, listed, others, beside, siblings}
use Rattle.dealing.proofs.Laws.{deal-number}
use Rattle.dealing.specs.Admitted.{Admitted}
use Rattle.answer.specs.Outcome.{answered, by_number}
use Rattle.answer.specs.Tests.{first_fault, is_met}
use Rattle.dealing.specs.Deal.{deal}
use Rattle.dealing.specs.Input.{positions_admitted, delta_admitted}
use Rattle.dealing.specs.Parts.{noise_tree}
use Rattle.example.specs.Worked.{binary_input, prime_input, second_input}

pub binary-dealt : (deal binary_input (replicate 256 0) (replicate 256 0)).number ≡ 0
unfolding rising every le_number le_bytes word_at write_number writing.write_each write_head write_tree_start write_tree write_trees write_noise write_scalar columns_bytes path listed others beside siblings deal answered by_number first_fault is_met positions_admitted delta_admitted noise_tree
binary-dealt = refl

pub binary-admitted : Admitted binary_input
binary-admitted = (deal-number binary_input (replicate 256 0) (replicate 256 0) binary-dealt).admitted

pub prime-dealt : (deal prime_input (replicate 256 0) (replicate 256 0)).number ≡ 0
unfolding rising every le_number le_bytes word_at write_number writing.write_each write_head write_tree_start write_tree write_trees write_noise write_scalar columns_bytes path listed others beside siblings deal answered by_number first_fault is_met positions_admitted delta_admitted noise_tree
prime-dealt = refl

pub prime-admitted : Admitted prime_input
prime-admitted = (deal-number prime_input (replicate 256 0) (replicate 256 0) prime-dealt).admitted

pub second-dealt : (deal second_input (replicate 256 0) (replicate 256 0)).number ≡ 0
unfolding rising every le_number le_bytes word_at write_number writing.write_each write_head write_tree_start write_tree write_trees write_noise write_scalar columns_bytes path listed others beside siblings deal answered by_number first_fault is_met positions_admitted delta_admitted noise_tree
second-dealt = refl

pub second-admitted : Admitted second_input
second-admitted = (deal-number second_input (replicate 256 0) (replicate 256 0) second-dealt).admitted
