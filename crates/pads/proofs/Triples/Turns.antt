-- What a turn of the loop writes: the triple of one output.
use mathlib.Core.Path.{◌≡◌, refl}
use mathlib.Core.List.{List}
use Prim.Native.Nat.{ℕ, ◌+◌, ◌*◌, ◌%◌}
use native.Mathlib.Omega.{arith}
use native.Mathlib.Numerals.{towards_suc}
use lib.Bits.{bit_and, bit_xor}
use lib.ListN.{get_or, set}
use Rattle.algebra.specs.Inner.Put.{with_value}
use Rattle.algebra.proofs.Written.{Wide}
use Rattle.pads.specs.Triples.Triple.{triple_bytes, triple_from, triple_of}

pub wide-triple : Wide triple_bytes
wide-triple t = refl

-- three stores write a triple
pub triple-stored : (k : ℕ) (choices pads pad_pairs l : List ℕ)
    → (let a = get_or choices k 0 in
    let h = get_or pads (16 * k) 0 % 2 in
    let r = get_or pad_pairs (32 * k) 0 % 2 in
    let q = get_or pad_pairs (32 * k + 16) 0 % 2 in
    set (set (set l (3 * k) a) (3 * k + 1) (bit_xor r q)) (3 * k + 2) (bit_xor (bit_xor (bit_and a (bit_xor r q)) h) r))
    ≡ with_value triple_bytes l (3 * k) (triple_of choices pads pad_pairs k)
unfolding with_value triple_of triple_from
triple-stored k choices pads pad_pairs l =
    let z : 32 * k + 16 * 0 ≡ 32 * k = omega arith in
    rw z (simp towards_suc)
