-- The triples of two dealings' pads match: the law `match` of `pads`, where in each pairing the choice names the pad. What is taken for
-- a place stands in what is lent, so the place is below both counts.
use mathlib.Core.Path.{◌≡◌}
use mathlib.Core.List.{List}
use Prim.Native.Nat.{ℕ, ◌<◌}
use native.Mathlib.Omega.{arith}
use lib.ListN.{length}
use Rattle.algebra.specs.Coding.{at}
use Rattle.pads.proofs.Triples.Accepts.{accepts}
use Rattle.pads.proofs.Triples.Matching.{match, match_at}
use Rattle.pads.specs.Triples.Call as call
use Rattle.pads.specs.Triples.Matching.{MatchingAt, Matching, triples_of}
use Rattle.pads.specs.Triples.Triple.{triple_bytes}
use Rattle.claims.specs.Formed.{FormedAt, Form, DealingsForm, GatheredAt}
use Rattle.claims.specs.Taken.{Taken}
use Rattle.claims.specs.Source.{Binary}
use Rattle.claims.specs.Triples.{Triples}
use Rattle.claims.proofs.Entire.{of_dealing}
use Rattle.claims.proofs.Taken.{named, within}

below : (l l' : call.TriplesLent) (i i' : ℕ) → FormedAt l l' i i' → (i < length l.choices) × (i' < length l'.choices)
below l l' i i' F =
    let w = within F.source l.choices l.pads l'.pad_pairs i i' F.taken in (
      omega (arith, w.0, ((accepts l).1 F.accepted).all),
      omega (arith, w.1, ((accepts l').1 F.accepted').all),
    )

pub triples : Triples
triples l l' i i' F =
    let b = below l l' i i' F in (
      b.0,
      b.1,
      match l l' F.accepted F.accepted' i i' b.0 b.1
          (named F.source l.choices l.pads l'.pad_pairs i i' F.taken)
          (named F.source' l'.choices l'.pads l.pad_pairs i' i F.taken'),
    )

-- any two sources form them, so accepted dealings do
pub sources_form : (S S' : Binary) → Form S.source S'.source
sources_form S S' l l' i i' e e' T T' = record { source = S; source' = S'; accepted = e; accepted' = e'; taken = T; taken' = T' }

pub dealings-form : DealingsForm
dealings-form D D' = sources_form (of_dealing D) (of_dealing D')

-- gathered triples match
pub gathered-match : (triples₁ triples₂ : List ℕ) (j : ℕ) → GatheredAt triples₁ triples₂ j
    → MatchingAt (at triple_bytes triples₁ j) (at triple_bytes triples₂ j)
gathered-match triples₁ triples₂ j G =
    match_at (at triple_bytes triples₁ j) (at triple_bytes triples₂ j) (at triple_bytes (triples_of G.l) G.i) (at triple_bytes (triples_of G.l') G.i')
    G.triple₁ G.triple₂ (triples G.l G.l' G.i G.i' G.formed).2

-- for equally many outputs of two dealings, all of them
pub triples_all : (first second : Binary) (l l' : call.TriplesLent) → length l.choices ≡ length l'.choices
    → Taken first.source (length l.choices) l.choices l.pads l'.pad_pairs
    → Taken second.source (length l.choices) l'.choices l'.pads l.pad_pairs
    → (call.triples l).number ≡ 0 → (call.triples l').number ≡ 0
    → Matching (length l.choices) (triples_of l) (triples_of l')
triples_all first second l l' equal T T' e e' k h =
    (triples l l' k k (record { source = first; source' = second; accepted = e; accepted' = e'; taken = T k h; taken' = T' k h })).2
