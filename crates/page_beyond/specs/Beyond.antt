-- What stands beyond both documents, over their pages and in the words of their statements. Each statement has one proof, in proofs/.
use Rattle.std.specs.Prelude.{ℕ, suc, ◌+◌, ◌-◌, ◌*◌, ◌/◌, ◌%◌, ◌^◌, ◌≤◌, ◌<◌, ◌≡◌, Bool, true, List, [], ◌∷◌, ◌++◌, map, ◌⊎◌, eqb, leb, ltb, length, take, drop, get_or}
use Rattle.std.proofs.Math.Option.{some}
use Rattle.std.proofs.Math.ListN.{get_elem?}
use Rattle.page.specs.Document01.{when◌then◌else◌, ◌!◌, list, joined, xor, from_bits, Head, Space, F, N, Input, scalar, dealt_trees, sum, μ, block_at, Return, returned, noise_pads, scalar_pads}
use Rattle.page_two.specs.Document02.{add, total, Circuit, value_of, read_circuit, write_circuit, AdmittedCircuit, gate_at, is_and, ands, Lent, round_count, RunKind, in_steps, in_rounds, accepted_from, IsCall, Finished, Unaltered, ands_before, level_at, place_at}
use Rattle.page_claims.specs.Statements.{entry, u, v, w, Correlated, slice, wrote, Gives, Setting, noise_left, scalar_left, Call, End, noise_end, scalar_end, listed}
use Rattle.page_two_claims.specs.Statements.{Correlates, Matching, Ends}
use Rattle.market.specs.Bytes.{market_bytes}

infix 68 ◌into◌
-- ==== Layers: several dealings added into one source of outputs
-- two dealings have one field, d, ℓ, n, code key and Δ; g, t, label, roots, positions and noise values may differ
abbrev pub Alike : Input → Input → Type 0
Alike D D' =
    (D'.head.field ≡ D.head.field) × (D'.head.d ≡ D.head.d) × (D'.head.ℓ ≡ D.head.ℓ) × (D'.head.n ≡ D.head.n)
    × (D'.head.code_key ≡ D.head.code_key) × (D'.Δ ≡ D.Δ)

-- layers 0 to k − 1, one or more: each an accepted dealing with an accepted offline call of each end, all alike
pub record Layered : Type 0 where
  pub k : ℕ
  pub some : 1 ≤ k
  pub input : ℕ → Input
  pub setting : (i : ℕ) → Setting (input i)
  pub alike : (i : ℕ) → i < k → Alike (input 0) (input i)

-- the head of the first, which has what they share
abbrev pub head : Layered → Head
head L = (L.input 0).head

-- u, the code matrix times the sum of the dealt noise; v and w, each the sum of the layers' own
unfoldable pub u_sum : Layered → ℕ → List ℕ
u_sum L x =
    let S : Space = (F (head L)).noise_values in
    sum S (N (head L)) λ j. S.multiple (entry (head L) x j) (sum S L.k λ i. μ (dealt_trees (L.input i)) (L.input i).head.t j)

unfoldable pub sum_of : (Input → ℕ → List ℕ) → Layered → ℕ → List ℕ
sum_of part L x = sum (F (head L)).elements L.k λ i. part (L.input i) x

-- an order of adding: the vector of a layer, or what one order left added by a call into what another left
pub data Order : Type 0 where
  layer : ℕ → Order
  ◌into◌ : Order → Order → Order

-- how often layer i stands in it
unfoldable pub occurs : ℕ → Order → ℕ
occurs i (layer j) = when eqb i j then 1 else 0
occurs i (a into b) = occurs i a + occurs i b

-- what its calls leave, from the vector of each layer, and the sum of their numbers: 0 if all are accepted
unfoldable pub added : ℕ → (ℕ → List ℕ) → Order → List ℕ × ℕ
added f vector (layer i) = (vector i, 0)
added f vector (a into b) =
    let r : Return = add f (added f vector a).0 (added f vector b).0 in
    (slice r.outputs 0, (added f vector a).1 + (added f vector b).1 + r.number)

-- the vectors that the offline calls wrote for layer i: 0 the noise, 1 v, 2 w; an order for each, with each layer once; each added up
abbrev pub vectors : Layered → ℕ → List (List ℕ)
vectors L i = wrote (noise_left (L.setting i)) 0 ∷ wrote (noise_left (L.setting i)) 1 ∷ wrote (scalar_left (L.setting i)) 0 ∷ []

pub record Orders (L : Layered) : Type 0 where
  pub order : ℕ → Order
  pub once : (q i : ℕ) → occurs i (order q) ≡ (when ltb i L.k then 1 else 0)

abbrev pub added_up : (L : Layered) → Orders L → ℕ → List ℕ × ℕ
added_up L O q = added (head L).field (λ i. slice (vectors L i) q) (O.order q)

-- what a call with record i returns, with its end's whole memory as input: the added vectors, then the records of all layers
abbrev pub with_records : ℕ → List (List ℕ) → Return → Return
with_records i records r =
    returned r.number r.lengths (drop 1 r.inputs ++ (take i records ++ (slice r.inputs 0 ∷ drop (i + 1) records))) r.outputs

-- each end as on one dealing, but for its memory and for what it hands out; a call takes record i
abbrev pub noise_on : (L : Layered) → Orders L → ℕ → End
noise_on L O i =
    record {
      memory = (added_up L O 0).0 ∷ (added_up L O 1).0 ∷ list L.k (λ j. slice (noise_left (L.setting j)).inputs 0);
      online = λ m x. with_records i (drop 2 m) ((noise_end (L.setting 0)).online (slice m (2 + i) ∷ slice m 0 ∷ slice m 1 ∷ []) x);
      standing = (noise_end (L.setting 0)).standing;
      dealt = λ x. u_sum L x ∷ sum_of v L x ∷ [];
    }

abbrev pub scalar_on : (L : Layered) → Orders L → ℕ → End
scalar_on L O i =
    record {
      memory = (added_up L O 2).0 ∷ list L.k (λ j. slice (scalar_left (L.setting j)).inputs 0);
      online = λ m x. with_records i (drop 1 m) ((scalar_end (L.setting 0)).online (slice m (1 + i) ∷ slice m 0 ∷ []) x);
      standing = (scalar_end (L.setting 0)).standing;
      dealt = λ x. sum_of w L x ∷ [];
    }

-- a call and the layer whose record it takes; what a list of such returns, each on the memory that the call before left
abbrev pub LayerCall : ℕ → Type 0
LayerCall k = (i : ℕ) × (i < k) × Call

unfoldable pub run : {k : ℕ} → (ℕ → End) → List (List ℕ) → List (LayerCall k) → List Return
run E memory [] = []
run E memory ((i, below, x) ∷ calls) = (E i).online memory x ∷ run E ((E i).online memory x).inputs calls

-- a list hands out a at index x: call j of it, accepted, with return r, has a at a place of its buffers, that of x in its window
abbrev pub HandsOut : {k : ℕ} → (ℕ → End) → List (LayerCall k) → ℕ → List (List ℕ) → Type 0
HandsOut {k} E calls x a =
    (j : ℕ) × (y : LayerCall k) × (r : Return) × (place : ℕ)
    × (get_elem? calls j ≡ some y) × (get_elem? (run E (E 0).memory calls) j ≡ some r) × (r.number ≡ 0)
    × (place < y.2.c) × (x ≡ y.2.first + place) × (a ≡ (E 0).standing r.outputs place)

-- the single claim about two lists of calls, one at each end, as demand 3 has it: calls of the noise end, and calls' of the scalar end
pub record LayersClaim (L : Layered) (O : Orders L) (calls calls' : List (LayerCall L.k)) : Type 0 where
  pub accepted : (q : ℕ) → q < 3 → (added_up L O q).1 ≡ 0
  pub noise_returns : run (noise_on L O) (noise_on L O 0).memory calls ≡ map (λ (i, h, x). listed (noise_on L O i) (head L).n x) calls
  pub scalar_returns : run (scalar_on L O) (scalar_on L O 0).memory calls' ≡ map (λ (i, h, x). listed (scalar_on L O i) (head L).n x) calls'
  pub noise_hands : (x : ℕ) (a : List (List ℕ)) → HandsOut (noise_on L O) calls x a → a ≡ u_sum L x ∷ sum_of v L x ∷ []
  pub scalar_hands : (x : ℕ) (a : List (List ℕ)) → HandsOut (scalar_on L O) calls' x a → a ≡ sum_of w L x ∷ []
  pub scalarΔ : (i : ℕ) → i < L.k → wrote (scalar_left (L.setting i)) 1 ≡ scalar (L.input 0) ! 0 ∷ scalar (L.input 0) ! 1 ∷ []
  pub correlated : (x : ℕ) (u' v' w' : List ℕ) → HandsOut (noise_on L O) calls x (u' ∷ v' ∷ [])
      → HandsOut (scalar_on L O) calls' x (w' ∷ []) → Correlated (L.input 0) u' v' w'

pub record Layers : Type 0 where
  pub outputs : (L : Layered) (x : ℕ) → x < (head L).n → Correlated (L.input 0) (u_sum L x) (sum_of v L x) (sum_of w L x)
  pub lists : (L : Layered) (O : Orders L) (calls calls' : List (LayerCall L.k)) → LayersClaim L O calls calls'
  -- one layer is its dealing; layers of field 1 are a source, on which messages, triples and circuits stand
  pub one : (L : Layered) → L.k ≡ 1 → (x : ℕ)
      → (u_sum L x ≡ u (L.input 0) x) × (sum_of v L x ≡ v (L.input 0) x) × (sum_of w L x ≡ w (L.input 0) x)
  pub source : (L : Layered) → (head L).field ≡ 1
      → Correlates (record { n = (head L).n; Δ = (L.input 0).Δ; u = u_sum L; v = sum_of v L; w = sum_of w L })
  -- pads, as in demand 3
  pub pads : (L : Layered) → (head L).field ≡ 1
      → (first c : ℕ) (vs choices pads : List ℕ) → (noise_pads first c vs choices pads).number ≡ 0
      → (first' c' : ℕ) (ws pads' : List ℕ) → (scalar_pads first' c' ws (L.input 0).Δ pads').number ≡ 0
      → (x : ℕ) → x < (head L).n → (first ≤ x) × (x < first + c) → (first' ≤ x) × (x < first' + c')
      → block_at vs (x - first) ≡ sum_of v L x → choices ! (x - first) ∷ [] ≡ u_sum L x → block_at ws (x - first') ≡ sum_of w L x
      → take 16 (drop (16 * (x - first)) (slice (noise_pads first c vs choices pads).outputs 0))
      ≡ take 16 (drop (32 * (x - first') + 16 * (choices ! (x - first))) (slice (scalar_pads first' c' ws (L.input 0).Δ pads').outputs 0))

-- ==== What a run shows
-- what an end has of a finished run: shares of the inputs, triples, the bits got and sent for the AND at each gate, shares of the outputs
abbrev pub View : Type 0
View = record { shares : List ℕ; triples : List ℕ; got : ℕ → ℕ × ℕ; sent : ℕ → ℕ × ℕ; outputs : List ℕ }

abbrev pub pair_at : List (List ℕ) → ℕ → ℕ → ℕ × ℕ
pair_at l k p = (get_or l k [] ! p, get_or l k [] ! (p + 1))

-- calls whose accepted ones are a run with this view; `opens` has which opens a gate's AND, and its place; the next is lent its far bits
pub record HasRun (K : RunKind) (opens : ℕ → ℕ × ℕ) (circuit : List ℕ) (c : Circuit) (role : ℕ) (view : View) : Type 0 where
  pub run : List Lent
  pub unaltered : Unaltered K role circuit view.shares view.triples run
  pub got : (i : ℕ) → is_and (gate_at c i) ≡ true
      → pair_at (map (λ m. m.0.far) (accepted_from K K.fresh run)) (suc (opens i).0) (opens i).1 ≡ view.got i
  pub sent : (i : ℕ) → is_and (gate_at c i) ≡ true
      → pair_at (map (λ m. K.sends (K.call m).0) (accepted_from K K.fresh run)) (opens i).0 (opens i).1 ≡ view.sent i
  pub ends : (k : ℕ) × (last : Lent × K.State) × IsCall K run k last × Finished K last × (wrote (K.call last).0 0 ≡ view.outputs)

-- two such runs on matching triples, each with the bits that the other sent: an end's view, in role 1 or 2; far shares, triples, outputs
abbrev pub Together : (ℕ → View → Type 0) → Circuit → Bool → View → List ℕ → List ℕ → List ℕ → Type 0
Together R c one view x T outputs =
    R (when one then 1 else 2) view
    × R (when one then 2 else 1) (record { shares = x; triples = T; got = view.sent; sent = view.got; outputs = outputs })
    × ((j : ℕ) → j < ands c.gates → Matching view.triples j T j)

abbrev pub SameAt : (ℕ → Bool) → List ℕ → List ℕ → Type 0
SameAt set l m = (k : ℕ) → set k ≡ true → l ! k ≡ m ! k

-- far shares x and triples T that give these inputs and show the end the same: its view, far shares of own inputs and opened outputs
abbrev pub Fits : (ℕ → View → Type 0) → Circuit → Bool → View → (ℕ → Bool) × (ℕ → Bool) → List ℕ × List ℕ
    → List ℕ → List ℕ → List ℕ → Type 0
Fits R c one view (own, opened) (shares, outputs) inputs x T =
    (length T ≡ 3 * ands c.gates) × ((k : ℕ) → T ! k ≤ 1) × (xor c.inputs view.shares x ≡ inputs) × SameAt own x shares
    × ((far : List ℕ) × Together R c one view x T far × SameAt opened far outputs)

pub record Hidden (R : ℕ → View → Type 0) (c : Circuit) : Type 0 where
  -- what a run sends and writes follows from its role, shares and triples and from what it gets
  pub follows : (role : ℕ) (v : View) (got sent : ℕ → ℕ × ℕ) (outputs : List ℕ)
      → R role v → R role (record { shares = v.shares; triples = v.triples; got = got; sent = sent; outputs = outputs })
      → ((i : ℕ) → is_and (gate_at c i) ≡ true → got i ≡ v.got i)
      → ((i : ℕ) → is_and (gate_at c i) ≡ true → sent i ≡ v.sent i) × (outputs ≡ v.outputs)
  -- what the end sees fixes the values of the opened outputs
  pub shown : (one : Bool) (view : View) (x T outputs x' T' outputs' : List ℕ) (opened : ℕ → Bool)
      → Together R c one view x T outputs → Together R c one view x' T' outputs' → SameAt opened outputs' outputs
      → SameAt opened (value_of c (xor c.inputs view.shares x')) (value_of c (xor c.inputs view.shares x))
  -- and nothing else: any inputs that have its own and give the opened outputs these values fit it in exactly one way
  pub hidden : (one : Bool) (view : View) (x T outputs : List ℕ) → Together R c one view x T outputs
      → (own opened : ℕ → Bool) (inputs : List ℕ) → length inputs ≡ c.inputs → ((k : ℕ) → inputs ! k ≤ 1)
      → SameAt own inputs (xor c.inputs view.shares x)
      → SameAt opened (value_of c inputs) (value_of c (xor c.inputs view.shares x))
      → (x' : List ℕ) × (T' : List ℕ) × Fits R c one view (own, opened) (x, outputs) inputs x' T'
      × ((y U : List ℕ) → Fits R c one view (own, opened) (x, outputs) inputs y U → (y ≡ x') × (U ≡ T'))

abbrev pub HiddenRuns : Type 0
HiddenRuns =
    (l : List ℕ) (c : Circuit) → Gives (read_circuit l 0) c
    → Hidden (HasRun in_rounds (λ i. (level_at c i - 1, place_at c i)) l c) c × Hidden (HasRun in_steps (λ i. (ands_before c i, 0)) l c) c

-- ==== Bids to price
-- of levels 1 to L the lowest at which supply is at least demand, and the demand there as quantity q; both 0 if there is none
abbrev pub Clears : ℕ → (ℕ → ℕ) → (ℕ → ℕ) → ℕ → ℕ → Type 0
Clears L demand supply level q =
    ((1 ≤ level) × (level ≤ L) × (demand level ≤ supply level) × ((k : ℕ) → 1 ≤ k → k < level → supply k < demand k) × (q ≡ demand level))
    ⊎ (((k : ℕ) → 1 ≤ k → k ≤ L → supply k < demand k) × (level ≡ 0) × (q ≡ 0))

-- the length of a number in binary: how many powers of 2 are at most it
abbrev pub bit_length : ℕ → ℕ
bit_length n = total n (λ i. when leb (2 ^ i) n then 1 else 0)

-- a house's bids: what it would buy and sell at each level, below 2^b; as bits, first what it buys, lowest level and lowest bit first
pub record Bids (L b : ℕ) : Type 0 where
  pub buy : ℕ → ℕ
  pub sell : ℕ → ℕ
  pub within : (k : ℕ) → 1 ≤ k → k ≤ L → (buy k < 2 ^ b) × (sell k < 2 ^ b)

abbrev pub bid_bits : (L b : ℕ) → Bids L b → List ℕ
bid_bits L b x =
    let curve : (ℕ → ℕ) → List ℕ = λ q. joined L (λ k. list b (λ i. q (suc k) / 2 ^ i % 2)) in curve x.buy ++ curve x.sell

-- outputs say what clears both houses' curves, added: the level's number, then the quantity, of b + 1 bits
abbrev pub SaysClearing : (L b : ℕ) → Bids L b → Bids L b → List ℕ → Type 0
SaysClearing L b x y outputs =
    Clears L (λ k. x.buy k + y.buy k) (λ k. x.sell k + y.sell k)
    (from_bits (bit_length L) (λ i. outputs ! i)) (from_bits (b + 1) (λ i. outputs ! (bit_length L + i)))

-- two ends that finish a circuit, on shares that combine to the bits of both houses' bids, have outputs that say what clears
abbrev pub Prices : RunKind → ℕ → ℕ → Circuit → Type 0
Prices K L b c =
    (x y : Bids L b) (shares₁ triples₁ shares₂ triples₂ : List ℕ) (run₁ run₂ : List Lent)
    → xor c.inputs shares₁ shares₂ ≡ bid_bits L b x ++ bid_bits L b y
    → Ends K (write_circuit c) c shares₁ triples₁ shares₂ triples₂ run₁ run₂
    → (k₁ k₂ : ℕ) (m₁ m₂ : Lent × K.State) → IsCall K run₁ k₁ m₁ → IsCall K run₂ k₂ m₂ → Finished K m₁ → Finished K m₂
    → SaysClearing L b x y (xor (length c.outputs) (wrote (K.call m₁).0 0) (wrote (K.call m₂).0 0))

pub record Market : Type 0 where
  -- exactly one level and quantity clear
  pub one : (L : ℕ) (demand supply : ℕ → ℕ) → (level : ℕ) × (quantity : ℕ) × Clears L demand supply level quantity
      × ((k q : ℕ) → Clears L demand supply k q → (k ≡ level) × (q ≡ quantity))
  -- there is a circuit for L levels and quantities of b bits; for 8 and 8, that of the demo's bytes
  pub circuit : ℕ → ℕ → Circuit
  pub bytes : write_circuit (circuit 8 8) ≡ market_bytes
  -- on the bits of both houses' bids it says what clears, and so do two ends that run it in rounds or in steps
  pub clears : (L b : ℕ) → 1 ≤ L → 1 ≤ b → (x y : Bids L b)
      → SaysClearing L b x y (value_of (circuit L b) (bid_bits L b x ++ bid_bits L b y))
  pub runs : (L b : ℕ) → 1 ≤ L → 1 ≤ b → Prices in_rounds L b (circuit L b) × Prices in_steps L b (circuit L b)
  -- with at most 4,096 wires it is admitted; its inputs, wires, ANDs, outputs and rounds
  pub admitted : (L b : ℕ) → 1 ≤ L → 1 ≤ b → (circuit L b).inputs + length (circuit L b).gates ≤ 4096 → AdmittedCircuit (circuit L b)
  pub counts : (L b : ℕ) → 1 ≤ L → 1 ≤ b → ((circuit L b).inputs ≡ 4 * (L * b))
      × ((circuit L b).inputs + length (circuit L b).gates + (L + b + 2 + bit_length L)
      ≡ 23 * (L * b) + total L (λ k. total (bit_length L) (λ i. suc k / 2 ^ i % 2)))
      × (ands (circuit L b).gates + 1 ≡ 2 * (L * b) + 2 * (L * (b + 1)) + L)
      × (length (circuit L b).outputs ≡ bit_length L + (b + 1)) × (round_count (circuit L b) ≡ L + b + 2)
