-- Both ends' triples match (document 02, 6): the two third bits combined equal the AND of the two combined first bits and the
-- two combined second bits. This holds for any pads of which each noise end's are those that its choices name: no rule of pads
-- is in this.
use Rattle.std.specs.Prelude.{◌≡◌, List, ℕ, ◌*◌, ◌<◌, length, take}
use Rattle.std.specs.Int.Bits.{bit_and, bit_xor}
use Rattle.algebra.specs.Coding.{at}
use Rattle.pads.specs.Messages.Opening.{NamedAt}
use Rattle.answer.specs.Bytes.{AreBits}
use Rattle.pads.specs.Triples.Triple.{Triple, triple_bytes}
use Rattle.pads.specs.Triples.Call.{TriplesLent, triples}

-- two triples match
abbrev pub MatchingAt : Triple → Triple → Type 0
MatchingAt t t' = bit_xor t.bit3 t'.bit3 ≡ bit_and (bit_xor t.bit1 t'.bit1) (bit_xor t.bit2 t'.bit2)

-- the first so many triples of two lists of bytes match
abbrev pub Matching : ℕ → List ℕ → List ℕ → Type 0
Matching count mine theirs = (k : ℕ) → k < count → MatchingAt (at triple_bytes mine k) (at triple_bytes theirs k)

-- the bytes that a call wrote
abbrev pub triples_of : TriplesLent → List ℕ
triples_of l = take (triples l).written (triples l).lent.triples

-- a triple is written as three bytes, 0 or 1
abbrev pub ZeroOrOne : Type 0
ZeroOrOne = (l : TriplesLent) → (triples l).number ≡ 0 → AreBits (3 * length l.choices) (triples_of l)

-- in the bytes that both ends' accepted calls write, the triples at a place of each match, if in each pairing the choice at the noise
-- end's place names its pad among the two at the scalar end's place: one end, with place k, is the noise end of the first pairing and
-- the scalar end of the second, the other, with place k', the scalar end of the first and the noise end of the second
abbrev pub Match : Type 0
Match =
    (l l' : TriplesLent) → (triples l).number ≡ 0 → (triples l').number ≡ 0
    → (k k' : ℕ) → k < length l.choices → k' < length l'.choices
    → NamedAt l.choices l.pads l'.pad_pairs k k'
    → NamedAt l'.choices l'.pads l.pad_pairs k' k
    → MatchingAt (at triple_bytes (triples_of l) k) (at triple_bytes (triples_of l') k')
