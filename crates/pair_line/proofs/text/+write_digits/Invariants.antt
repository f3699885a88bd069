-- `pair_line::text::write_digits` ends: the measure is the digits left.
use Rattle.pair_line.proofs.text.+write_digits.Given as goal

abbrev pub decreases-write_digits : goal.decreases-write_digits
decreases-write_digits l = l.left
