-- `dealing_call::scalar::write_scalar_part` meets its contract. Assumes nothing.
use borrow.Author.Rules.{rules}
use Rattle.dealing_call.proofs.Deals.{scalar_fits, scalar-wrote}
use Rattle.dealing_call.proofs.scalar.write_scalar_part.Goals as goal

pub write_scalar-requires : goal.write_scalar-requires
write_scalar-requires c = (search rules, search rules, search rules, search rules, search scalar_fits)

pub returns : goal.returns
returns c = search scalar-wrote
