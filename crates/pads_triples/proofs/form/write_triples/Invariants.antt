-- `pads_triples::form::write_triples`: the first k outputs' triples are written.
use Rattle.std.proofs.Common.{◌≡◌}
use Rattle.algebra.specs.Coding.{over}
use Rattle.pads.specs.Triples.Triple.{triple_bytes, triple_of}
use Rattle.pads_triples.proofs.form.write_triples.Given as goal

abbrev pub invariant-loop-k : goal.invariant-loop-k
invariant-loop-k l = l.triples_out ≡ over triple_bytes l.k (triple_of l.choices l.pads l.pad_pairs) l.fn.triples_out
