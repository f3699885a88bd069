-- Inner: no promise cites this file. A run in rounds by its ANDs: it has the shares and sends the bits of a transcript (circuits in
-- rounds).
use Rattle.std.specs.Prelude.{ℕ, suc, ◌≤◌, true, List, ◌≡◌, get_or}
use Rattle.circuit.specs.Content.{Circuit, is_and}
use Rattle.circuit.specs.Levels.{level_of}
use Rattle.circuit_run.specs.Round.{known_as}
use Rattle.circuit_run.specs.Step.{gate_at, ands_before}
use Rattle.circuit_claims.specs.Transcript.{BitsByAnd, wire_shares, masked_bits, pair_at}
use Rattle.circuit_claims.specs.RoundRuns.{RoundMade, IsRound, bits_by, IsWire, byte_of}
use Rattle.circuit_claims.specs.Same.{level_at, place_at}

-- far bits are those that the accepted rounds got
abbrev pub FarGot : Circuit → List RoundMade → BitsByAnd → Type 0
FarGot c made far =
    (i : ℕ) → is_and (gate_at c i) ≡ true → (m : RoundMade) → IsRound made (level_at c i) m → far (ands_before c i) ≡ pair_at m.got.far (place_at c i)

-- after accepted round k the wires of a level of at most k have the shares of `wire_shares`, which are bits, and for each AND of level
-- k + 1 its bits were sent
pub record ByFar (role : ℕ) (c : Circuit) (shares triples : List ℕ) (far : BitsByAnd) (made : List RoundMade) : Type 0 where
  pub has : (k : ℕ) (m : RoundMade) → IsRound made k m → (w : ℕ) → IsWire c w → level_of c w ≤ k
      → (byte_of m.gave.state w ≡ known_as (get_or (wire_shares role c triples far shares) w 0)) × (get_or (wire_shares role c triples far shares) w 0 ≤ 1)
  pub sends : (k : ℕ) (m : RoundMade) → IsRound made k m → (i : ℕ) → is_and (gate_at c i) ≡ true → level_at c i ≡ suc k
      → pair_at (bits_by m.gave) (place_at c i) ≡ masked_bits role c triples far shares i
