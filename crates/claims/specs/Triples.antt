-- AND triples (document 02, 6): for all accepted dealings of two pairings with the roles exchanged, of any sizes, the triples
-- that both ends form match at equal indices, at whichever place each end's call has the index; each place is below its call's count of
-- outputs.
use Rattle.std.specs.Prelude.{ℕ, ◌<◌, length}
use Rattle.algebra.specs.Coding.{at}
use Rattle.pads.specs.Triples.Call.{TriplesLent}
use Rattle.pads.specs.Triples.Matching.{MatchingAt, triples_of}
use Rattle.pads.specs.Triples.Triple.{triple_bytes}
use Rattle.claims.specs.Formed.{FormedAt}

abbrev pub Triples : Type 0
Triples =
    (l l' : TriplesLent) (i i' : ℕ) → FormedAt l l' i i'
    → (i < length l.choices) × (i' < length l'.choices)
    × MatchingAt (at triple_bytes (triples_of l) i) (at triple_bytes (triples_of l') i')
