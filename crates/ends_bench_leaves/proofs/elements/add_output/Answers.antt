-- `ends_bench_leaves::elements::add_output` meets its contract, by field and vector. Assumes nothing.
use Rattle.ends_bench_leaves.proofs.Words.{prime-room, bit-room, block_room, output-prime, output-bit, output-block}
use Rattle.ends_bench_leaves.proofs.elements.add_output.Goals as goal

pub add_prime-requires : goal.add_prime-requires
add_prime-requires c = search prime-room

pub returns-then-field-ne-BINARY : goal.returns-then-field-ne-BINARY
returns-then-field-ne-BINARY c = search output-prime

pub add_bit-requires : goal.add_bit-requires
add_bit-requires c = search bit-room

pub returns-then-vector-eq1 : goal.returns-then-vector-eq1
returns-then-vector-eq1 c = search output-bit

pub add_block-requires : goal.add_block-requires
add_block-requires c = search block_room

pub returns : goal.returns
returns c = search output-block
