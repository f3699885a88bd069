-- The starred cases hold, by computation.
use mathlib.Core.Path.{refl}
use Rattle.algebra.specs.Coding.{flat}
use Rattle.algebra.specs.Expansion.{rising, noise, correction}
use Rattle.algebra.specs.Sum.{sum, accumulate}
use Rattle.field.specs.Bytes.{le_number, le_bytes, word_at}
use Rattle.prime.specs.Prime.{prime_add, prime_sub, prime_mul, prime_reduce}
use Rattle.aes_sbox.specs.Byte.{xtime, multiples, mul_bytes, squares, inverse, from_bits, affine, s_box}
use Rattle.number.specs.Number.{write_number, last_group, read_number}
use Rattle.number.specs.Reading.{read_byte}
use Rattle.record.specs.Writing as writing
use Rattle.record.specs.Writing.{write_head, write_tree_start, write_tree, write_trees, write_noise, write_scalar}
use Rattle.algebra.specs.Every.{every}
use Rattle.answer.specs.Outcome.{answered, by_number}
use Rattle.answer.specs.Tests.{first_fault, is_met}
use Rattle.dealing.specs.Deal.{deal}
use Rattle.dealing.specs.Input.{positions_admitted, delta_admitted}
use Rattle.dealing.specs.Parts.{noise_tree}
use Rattle.tree.specs.Columns.{columns_bytes}
use Rattle.tree.specs.Tree.{path, listed, others, beside, siblings}
use Rattle.claims.specs.Cases.{starred, Cases}

pub starred_hold : Cases
unfolding starred s_box affine from_bits inverse squares mul_bytes multiples xtime write_number read_number last_group read_byte write_trees write_tree write_tree_start write_noise write_scalar write_head writing.write_each le_bytes prime_add prime_sub prime_mul prime_reduce flat noise correction sum accumulate deal answered by_number first_fault is_met positions_admitted rising every delta_admitted noise_tree listed path beside others siblings columns_bytes word_at le_number
starred_hold = refl
