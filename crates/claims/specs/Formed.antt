-- Triples that two ends form from two pairings with the roles exchanged (document 02, 6), and triples gathered from such calls for
-- a run of a circuit (document 02, 9).
use Rattle.std.specs.Prelude.{◌≡◌, List, ℕ}
use Rattle.algebra.specs.Coding.{at}
use Rattle.pads.specs.Triples.Call.{TriplesLent, triples}
use Rattle.pads.specs.Triples.Matching.{triples_of}
use Rattle.pads.specs.Triples.Triple.{triple_bytes}
use Rattle.claims.specs.Source.{Source, Binary}
use Rattle.claims.specs.Taken.{Dealing, outputs_of, TakenAt}

-- place i of an accepted triples call of one end and place i' of one of the other end, whose counts of outputs may differ. The noise end
-- of the first pairing lends l: its choices and pads there, and its pairs of pads as the scalar end of the second. The other end lends
-- l': its choices and pads as the noise end of the second, and its pairs of pads as the scalar end of the first. What both lend, one for i
-- and the other for i', is in each pairing that of one output of its source; so each place is below its call's count. The ends may divide
-- their outputs into calls as they like: equal indices need not stand at equal places.
pub record FormedAt (l l' : TriplesLent) (i i' : ℕ) : Type 0 where
  pub source : Binary
  pub source' : Binary
  pub accepted : (triples l).number ≡ 0
  pub accepted' : (triples l').number ≡ 0
  pub taken : TakenAt source.source l.choices l.pads l'.pad_pairs i i'
  pub taken' : TakenAt source'.source l'.choices l'.pads l.pad_pairs i' i

-- what is taken of two sources forms a triple of two accepted calls
abbrev pub Form : Source → Source → Type 0
Form s s' =
    (l l' : TriplesLent) (i i' : ℕ) → (triples l).number ≡ 0 → (triples l').number ≡ 0
    → TakenAt s l.choices l.pads l'.pad_pairs i i' → TakenAt s' l'.choices l'.pads l.pad_pairs i' i → FormedAt l l' i i'

-- two accepted dealings of field 1 do
abbrev pub DealingsForm : Type 0
DealingsForm = (D D' : Dealing) → Form (outputs_of D) (outputs_of D')

-- triple j of one end's list is triple i of what its call on l wrote, and triple j of the other's is triple i' of what its call on l'
-- wrote; j has calls, places and sources of its own, so the lists may come from any draws, in any windows, of any sources
pub record GatheredAt (triples₁ triples₂ : List ℕ) (j : ℕ) : Type 0 where
  pub l : TriplesLent
  pub l' : TriplesLent
  pub i : ℕ
  pub i' : ℕ
  pub formed : FormedAt l l' i i'
  pub triple₁ : at triple_bytes triples₁ j ≡ at triple_bytes (triples_of l) i
  pub triple₂ : at triple_bytes triples₂ j ≡ at triple_bytes (triples_of l') i'
