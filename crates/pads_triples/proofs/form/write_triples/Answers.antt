-- `pads_triples::form::write_triples` meets its contract, triple by triple.
use Rattle.std.proofs.Common.{arith}
use Rattle.algebra.proofs.Written.{front-none, front_more}
use Rattle.pads.specs.Triples.Triple.{triple_bytes}
use Rattle.pads.proofs.Triples.Turns.{wide-triple}
use Rattle.pads_triples.proofs.form.write_triples.Goals as goal

pub loop-k-init : goal.loop-k-init
loop-k-init c = search front-none

pub loop-k-preserved : goal.loop-k-preserved
loop-k-preserved c = front_more triple_bytes wide-triple _ _ _ _ _ _ (omega arith) (omega arith) c.loop-k.invariant c.put_triple.ensures
