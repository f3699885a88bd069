-- Of the pads taken for an output, the choice names the noise end's among the scalar end's: by the claim about pads of a source, and
-- by nothing below it. They are whole, so they stand in what is lent.
use mathlib.Core.Path.{◌≡◌, sym, ap, ◌∙◌}
use mathlib.Core.List.{List}
use Prim.Native.Nat.{ℕ, zero, suc, ◌+◌, ◌-◌, ◌*◌, ◌≤◌}
use native.Mathlib.Nat.{min-le_right}
use native.Mathlib.Omega.{arith}
use lib.ListN.{length, get_or, take, drop, length-take, length-drop}
use Rattle.field.specs.Kind.{kind_of}
use Rattle.pads.specs.Messages.Opening.{NamedAt}
use Rattle.pads.proofs.Accepts.{accepts}
use Rattle.pads.proofs.Choice.{noise-bytes, scalar-bytes}
use Rattle.pads.proofs.Blocks.{wide-block}
use Rattle.pads.specs.Choice.{pad_at, one_of_two_at}
use Rattle.pads.specs.Pad.{pad}
use Rattle.claims.specs.Taken.{TakenAt}
use Rattle.claims.specs.Source.{Binary}
use Rattle.claims.proofs.Pads.{pads_of}

-- noise values that are equal in field 1 are equal bytes
same_byte : (f : ℕ) → f ≡ 1 → (a b : List ℕ) (i j : ℕ)
    → (kind_of f).field.noise_values.read a i ≡ (kind_of f).field.noise_values.read b j → get_or a i 0 ≡ get_or b j 0
same_byte zero h a b i j e = absurd (omega arith)
same_byte (suc zero) h a b i j e = e
same_byte (suc (suc f)) h a b i j e = absurd (omega arith)

pub named : (S : Binary) (choices noise scalar : List ℕ) (k k' : ℕ) → TakenAt S.source choices noise scalar k k'
    → NamedAt choices noise scalar k k'
named S choices noise scalar k k' T =
    let i = T.x - T.first in
    let same : get_or choices k 0 ≡ get_or T.us i 0 =
    same_byte S.source.field S.binary choices T.us k i (T.choice ∙ sym T.lent.u_lent) in
    let bits : (k : ℕ) → get_or T.us k 0 ≤ 1 = search (((accepts pad).noise T.first T.count T.vs T.us T.out).1 T.accepted) in
    let bit = bits i in
    record {
      bit = omega arith;
      pad = T.pad
          ∙ pads_of S
          T.first T.count T.vs T.us T.out T.accepted
          T.first' T.count' T.ws T.Δ T.out' T.accepted'
          T.x T.below T.within T.within' T.lent
          ∙ sym (T.both (get_or T.us i 0) bit)
          ∙ ap (one_of_two_at scalar 0 k') (sym same);
    }

-- 16 bytes from a place on are there
there : (l : List ℕ) (a : ℕ) → length (take 16 (drop a l)) ≡ 16 → a + 16 ≤ length l
there l a e = omega (arith, length-take 16 (drop a l), min-le_right 16 (length (drop a l)), length-drop a l)

-- what is taken for k and k' stands in the pads and pairs of pads lent
pub within : (S : Binary) (choices noise scalar : List ℕ) (k k' : ℕ) → TakenAt S.source choices noise scalar k k'
    → (16 * k + 16 ≤ length noise) × (32 * k' + 32 ≤ length scalar)
within S choices noise scalar k k' T =
    let p : length (pad_at noise 0 k) ≡ 16 =
    ap length (T.pad ∙ noise-bytes pad T.first T.count T.vs T.us T.out T.accepted T.x T.within) ∙ wide-block _ in
    let m : length (one_of_two_at scalar 0 k' 1) ≡ 16 =
    ap length (T.both 1 (omega arith) ∙ scalar-bytes pad T.first' T.count' T.ws T.Δ T.out' T.accepted' T.x T.within' 1 (omega arith))
    ∙ wide-block _ in
    (omega (arith, there noise (16 * (k - 0)) p), omega (arith, there scalar (32 * (k' - 0) + 16 * 1) m))
