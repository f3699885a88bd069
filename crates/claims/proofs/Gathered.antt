-- Triples put together from several calls of each end, one after the other, are gathered: each place has its own two calls.
use mathlib.Core.Path.{◌≡◌, refl, sym, ap, ◌∙◌}
use mathlib.Core.List.{List, [], ◌∷◌, ◌++◌}
use Prim.Native.Nat.{ℕ, ◌+◌, ◌-◌, ◌*◌, ◌<◌}
use native.Mathlib.Omega.{arith}
use lib.ListN.{length, length-append}
use Rattle.algebra.specs.Coding.{at}
use Rattle.number.proofs.Places.{split}
use Rattle.pads.proofs.Triples.Matching.{length-triples, triple-front, triple_past}
use Rattle.pads.specs.Triples.Call.{TriplesLent, triples}
use Rattle.pads.specs.Triples.Matching.{triples_of}
use Rattle.pads.specs.Triples.Triple.{triple_bytes}
use Rattle.claims.specs.Formed.{FormedAt, GatheredAt}

-- one draw: a call of each end, for equally many outputs, all of whose places are formed, equal places with each other
pub record Drawn : Type 0 where
  pub l : TriplesLent
  pub l' : TriplesLent
  pub equal : length l.choices ≡ length l'.choices
  pub accepted : (triples l).number ≡ 0
  pub accepted' : (triples l').number ≡ 0
  pub formed : (i : ℕ) → i < length l.choices → FormedAt l l' i i

-- both ends' triples of several draws, one after the other, and how many they are
unfoldable pub drawn₁ : List Drawn → List ℕ
drawn₁ [] = []
drawn₁ (d ∷ ds) = triples_of d.l ++ drawn₁ ds

unfoldable pub drawn₂ : List Drawn → List ℕ
drawn₂ [] = []
drawn₂ (d ∷ ds) = triples_of d.l' ++ drawn₂ ds

unfoldable pub drawn : List Drawn → ℕ
drawn [] = 0
drawn (d ∷ ds) = length d.l.choices + drawn ds

pub drawn-length : (ds : List Drawn) → length (drawn₁ ds) ≡ drawn ds * 3
unfolding drawn₁ drawn
drawn-length [] = refl
drawn-length (d ∷ ds) =
    length-append (triples_of d.l) (drawn₁ ds) ∙ omega (arith, length-triples d.l d.accepted, drawn-length ds)

-- triples after a front of so many are gathered as they are by themselves
later : (front₁ rest₁ front₂ rest₂ : List ℕ) (count k j : ℕ) → length front₁ ≡ count * 3 → length front₂ ≡ count * 3 → count + k ≡ j
    → GatheredAt rest₁ rest₂ k → GatheredAt (front₁ ++ rest₁) (front₂ ++ rest₂) j
later front₁ rest₁ front₂ rest₂ count k j e₁ e₂ place G =
    record {
      l = G.l;
      l' = G.l';
      i = G.i;
      i' = G.i';
      formed = G.formed;
      triple₁ = ap (λ (n : ℕ). at triple_bytes (front₁ ++ rest₁) n) (sym place) ∙ triple_past front₁ rest₁ k count e₁ ∙ G.triple₁;
      triple₂ = ap (λ (n : ℕ). at triple_bytes (front₂ ++ rest₂) n) (sym place) ∙ triple_past front₂ rest₂ k count e₂ ∙ G.triple₂;
    }

pub gathered : (ds : List Drawn) (j : ℕ) → j < drawn ds → GatheredAt (drawn₁ ds) (drawn₂ ds) j
unfolding drawn₁ drawn₂ drawn
gathered [] j h = absurd (omega arith)
gathered (d ∷ ds) j h =
    let count : ℕ = length d.l.choices in
    let e₁ = length-triples d.l d.accepted in
    let e₂ : length (triples_of d.l') ≡ count * 3 = omega (arith, length-triples d.l' d.accepted', d.equal) in
    split j count
    (λ near.
    record {
      l = d.l;
      l' = d.l';
      i = j;
      i' = j;
      formed = d.formed j near;
      triple₁ = triple-front (triples_of d.l) (drawn₁ ds) j count e₁ near;
      triple₂ = triple-front (triples_of d.l') (drawn₂ ds) j count e₂ near;
    })
    (λ far.
    later (triples_of d.l) (drawn₁ ds) (triples_of d.l') (drawn₂ ds) count (j - count) j e₁ e₂ (omega arith)
    (gathered ds (j - count) (omega arith)))
