-- In field 2 every word that may be added is below p.
use Rattle.std.proofs.Common.{rules}
use Rattle.layer_add.proofs.Turns.{are_below}
use Rattle.layer_add.proofs.words.add_words.Goals as goal

pub add_prime-requires : goal.add_prime-requires
add_prime-requires c = (search rules, search are_below, search are_below)
