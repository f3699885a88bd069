-- `dealing_tests::tests::delta_admitted` meets its contract: one law for each return. Assumes nothing.
use Rattle.std.proofs.Common.{◌∙◌}
use Rattle.dealing.proofs.Tests.{delta_no, delta-last}
use Rattle.dealing_tests.proofs.tests.delta_admitted.Goals as goal

pub returns-then-is_scalar : goal.returns-then-is_scalar
returns-then-is_scalar c = search delta-last

pub returns-else-is_scalar : goal.returns-else-is_scalar
returns-else-is_scalar c = c.if-is_scalar.false ∙ search delta_no
