-- A run counted out (Hidden.antt): for each of the far inputs, how many of all lists of far triples fit what an end in role 1 sees. The
-- circuit has two ANDs, and three of the four far inputs have one result.
use Rattle.std.specs.Prelude.{ℕ, zero, suc, ◌+◌, ◌*◌, Bool, true, false, ◌&&◌, List, [], ◌∷◌, ◌++◌, map, ◌≡◌, eqb, get_or}
use Rattle.std.specs.Int.Bits.{bit_xor, bit_and}
use Rattle.algebra.specs.Choice.{choose}
use Rattle.algebra.specs.Coding.{at}
use Rattle.circuit.specs.Content.{And, Circuit}
use Rattle.circuit.specs.Value.{value_of}
use Rattle.circuit_claims.specs.Evaluation.{combined}
use Rattle.circuit_claims.specs.Transcript.{BitsByAnd, pair_at, wire_shares, masked_bits}
use Rattle.pads.specs.Triples.Triple.{Triple, triple_bytes}

-- wire 0 is the own input, wires 1 and 2 are the far ones; wire 3 is the AND of 0 and 1, and wire 4, the output, the AND of 3 and 2
abbrev pub circuit : Circuit
circuit = record { inputs = 3; gates = And 0 1 ∷ And 3 2 ∷ []; outputs = 4 ∷ [] }

-- the own shares, and the far shares for each of the far inputs; the far share of the own input, 0, stays
abbrev pub shares : List ℕ
shares = 1 ∷ 0 ∷ 1 ∷ []

abbrev pub far_shares : List (List ℕ)
far_shares = (0 ∷ 0 ∷ 1 ∷ []) ∷ (0 ∷ 0 ∷ 0 ∷ []) ∷ (0 ∷ 1 ∷ 1 ∷ []) ∷ (0 ∷ 1 ∷ 0 ∷ []) ∷ []

-- the own triples, and one triple for both ANDs
abbrev pub two_triples : List ℕ
two_triples = 1 ∷ 0 ∷ 1 ∷ 0 ∷ 1 ∷ 1 ∷ []

abbrev pub one_triple : List ℕ
one_triple = 1 ∷ 0 ∷ 1 ∷ 1 ∷ 0 ∷ 1 ∷ []

-- what an end gives on the four bits that it gets: the four bits that it sends, then its share of the output
abbrev pub run_of : ℕ → List ℕ → List ℕ → List ℕ → List ℕ
run_of role shares triples got =
    let far : BitsByAnd = (λ j. pair_at got (2 * j)) in
    let one : ℕ × ℕ = masked_bits role circuit triples far shares 0 in
    let two : ℕ × ℕ = masked_bits role circuit triples far shares 1 in
    one.0 ∷ one.1 ∷ two.0 ∷ two.1 ∷ get_or (wire_shares role circuit triples far shares) 4 0 ∷ []

-- whether two triples match
abbrev pub matches : Triple → Triple → Bool
matches t t' = eqb (bit_xor t.bit3 t'.bit3) (bit_and (bit_xor t.bit1 t'.bit1) (bit_xor t.bit2 t'.bit2))

-- whether a list begins with another
unfoldable pub begins_with : List ℕ → List ℕ → Bool
begins_with xs [] = true
begins_with [] (y ∷ ys) = false
begins_with (x ∷ xs) (y ∷ ys) = eqb x y && begins_with xs ys

-- all lists of so many bits
unfoldable pub bit_lists : ℕ → List (List ℕ)
bit_lists zero = [] ∷ []
bit_lists (suc n) = map (λ (l : List ℕ). 0 ∷ l) (bit_lists n) ++ map (λ (l : List ℕ). 1 ∷ l) (bit_lists n)

-- how many of these far triples match the own ones and have the far end, on its shares x and the bits sent to it, give what is seen
unfoldable pub fitting : List ℕ → List ℕ → List ℕ → List (List ℕ) → List ℕ → ℕ
fitting triples sent seen [] x = 0
fitting triples sent seen (T ∷ Ts) x =
    choose (matches (at triple_bytes triples 0) (at triple_bytes T 0) && matches (at triple_bytes triples 1) (at triple_bytes T 1)
    && begins_with (run_of 2 x T sent) seen) 1 0
    + fitting triples sent seen Ts x

pub record CountedOut : Type 0 where
  -- the own input is 1; the far inputs 0 and 0, 0 and 1, 1 and 0 have the result 0, and 1 and 1 has 1
  pub inputs : map (combined shares) far_shares ≡ (1 ∷ 0 ∷ 0 ∷ []) ∷ (1 ∷ 0 ∷ 1 ∷ []) ∷ (1 ∷ 1 ∷ 0 ∷ []) ∷ (1 ∷ 1 ∷ 1 ∷ []) ∷ []
  pub results : map (λ (x : List ℕ). value_of circuit (combined shares x)) far_shares ≡ (0 ∷ []) ∷ (0 ∷ []) ∷ (0 ∷ []) ∷ (1 ∷ []) ∷ []
  -- the end gets 0, 1, 1, 1 and sends 0, 0, 0, 0; its share of the output is 1
  pub own : run_of 1 shares two_triples (0 ∷ 1 ∷ 1 ∷ 1 ∷ []) ≡ 0 ∷ 0 ∷ 0 ∷ 0 ∷ 1 ∷ []
  -- with the output opened, the far share being 1: exactly one list for each of the far inputs with the result 0, none for the other
  pub opened : map (fitting two_triples (0 ∷ 0 ∷ 0 ∷ 0 ∷ []) (0 ∷ 1 ∷ 1 ∷ 1 ∷ 1 ∷ []) (bit_lists 6)) far_shares ≡ 1 ∷ 1 ∷ 1 ∷ 0 ∷ []
  -- with none opened: exactly one for each
  pub none-opened : map (fitting two_triples (0 ∷ 0 ∷ 0 ∷ 0 ∷ []) (0 ∷ 1 ∷ 1 ∷ 1 ∷ []) (bit_lists 6)) far_shares ≡ 1 ∷ 1 ∷ 1 ∷ 1 ∷ []
  -- one triple for both ANDs, at both ends: though none is opened, the bits got fit the far inputs 0 and 1 alone
  pub own-once : run_of 1 shares one_triple (0 ∷ 1 ∷ 0 ∷ 1 ∷ []) ≡ 0 ∷ 0 ∷ 1 ∷ 1 ∷ 1 ∷ []
  pub once : map (fitting one_triple (0 ∷ 0 ∷ 1 ∷ 1 ∷ []) (0 ∷ 1 ∷ 0 ∷ 1 ∷ []) (map (λ (t : List ℕ). t ++ t) (bit_lists 3))) far_shares
      ≡ 0 ∷ 1 ∷ 0 ∷ 0 ∷ []
