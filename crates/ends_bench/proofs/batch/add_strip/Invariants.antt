-- `ends_bench::batch::add_strip`: the places of the strip but the lowest `left` are added.
use Prim.Native.Nat.{◌+◌, ◌^◌, ◌≤◌}
use Rattle.ends_bench_leaves.specs.Inner.Vectors.{values_of}
use Rattle.ends_bench.proofs.Strips.{Stripped}
use Rattle.ends_bench.proofs.batch.add_strip.Given as goal

abbrev pub invariant-loop-left : goal.invariant-loop-left
invariant-loop-left l =
    Stripped l.vector.number l.vector.layout.field l.rows (values_of l.vector.number l.vector.source.now l.vector.layout) l.initial.out l.start l.size l.left l.out
    × (l.start + l.size ≤ 2 ^ l.vector.layout.depth) × (l.start + l.size ≤ 65536)
