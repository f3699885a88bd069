-- What document 02 says beyond each call alone, over its page and document 01's (crates/page_two, crates/page), request by request. Each
-- statement has one proof, in proofs/.
use Rattle.std.specs.Prelude.{ℕ, suc, ◌+◌, ◌-◌, ◌*◌, ◌%◌, ◌≤◌, ◌<◌, ◌≡◌, Bool, true, false, ◌&&◌, ◌||◌, List, [], ◌∷◌, map, ◌↔◌, ◌≢◌, eqb, leb, ltb, ℤ, pos, neg_ℤ, ◌+ℤ◌, length, take, drop, ◌≤ℤ◌}
use Rattle.std.specs.Int.Bits.{bit_and, bit_xor}
use Rattle.page.specs.Document01.{when◌then◌else◌, ◌!◌, from_bytes, xor, words, block, blocks, p, Head, F, N, Input, Tree, read_noise, read_scalar, value_at, μ, v0, w0, pad, block_at, block_from, Return, returned, deal, noise_offline, scalar_offline, noise_online, scalar_online, noise_pads, scalar_pads}
use Rattle.page_claims.specs.Statements.{u, v, w, Below, slice, wrote, Gives}
use Rattle.page_two.specs.Document02.{are_bits, correction_bits, mask_messages, unmask_messages, Stock, total, remaining, held, Reply, open_stock, draw, pass_stock, StockCall, asks, passes, make, Made, made, last, those, is_passage, accepted_passage, triples, Circuit, value_of, write_circuit, read_circuit, gate_at, AdmittedCircuit, is_and, ands, Lent, StepState, step, waits, known, round, wire_levels, round_count, RunKind, in_steps, in_rounds, IsCall, Finished, OnCircuit, IsOwn, Unaltered, Receives, ands_before, level_at, ands_at, place_at, noise_direct, scalar_direct, greatest, amount, read_amount, write_amount, undescribed, described, describe}

-- ==== Pads of outputs
-- outputs of field 1: how many, the 16 bytes of Δ, and u, v and w at each index; those of a dealing
abbrev pub Source : Type 0
Source = record { n : ℕ; Δ : List ℕ; u : ℕ → List ℕ; v : ℕ → List ℕ; w : ℕ → List ℕ }

abbrev pub dealt_by : Input → Source
dealt_by D = record { n = D.head.n; Δ = D.Δ; u = u D; v = v D; w = w D }

-- w = Δu + v at each index
abbrev pub Correlates : Source → Type 0
Correlates S = (x : ℕ) → x < S.n → S.w x ≡ blocks.plus (blocks.multiple (S.u x ! 0) (words S.Δ)) (S.v x)

-- what is lent to later calls for one index x of a source: at place k of the noise end's slices its choice and its pad, at place k' of the
-- scalar end's both pads; `bit` follows from an accepted noise pad call
pub record TakenAt (S : Source) (choices pads pad_pairs : List ℕ) (k k' : ℕ) : Type 0 where
  pub x : ℕ
  pub below : x < S.n
  pub bit : choices ! k ≤ 1
  pub choice : choices ! k ∷ [] ≡ S.u x
  pub noise_pad : block_from pads (16 * k) ≡ block (pad x (S.v x))
  pub scalar_pad0 : block_from pad_pairs (32 * k') ≡ block (pad x (S.w x))
  pub scalar_pad1 : block_from pad_pairs (32 * k' + 16) ≡ block (pad x (xor 2 (S.w x) (words S.Δ)))

-- the outputs of an accepted dealing of field 1 correlate; at place k, accepted pad calls write the pads of index first + k
pub record Pads : Type 0 where
  pub dealings : (D : Input) → D.head.field ≡ 1 → (a b : List ℕ) → (deal D a b).number ≡ 0 → Correlates (dealt_by D)
  pub noise : (first c : ℕ) (vs choices pads : List ℕ) → (noise_pads first c vs choices pads).number ≡ 0 → (k : ℕ) → k < c
      → block_from (slice (noise_pads first c vs choices pads).outputs 0) (16 * k) ≡ block (pad (first + k) (block_at vs k))
  pub scalar : (first c : ℕ) (ws Δ pads : List ℕ) → (scalar_pads first c ws Δ pads).number ≡ 0 → (k : ℕ) → k < c
      → let written = slice (scalar_pads first c ws Δ pads).outputs 0 in
      (block_from written (32 * k) ≡ block (pad (first + k) (block_at ws k)))
      × (block_from written (32 * k + 16) ≡ block (pad (first + k) (xor 2 (block_at ws k) (words Δ))))

-- ==== 1. Messages of our own choosing
-- one batch of c outputs at both ends, and the buffers lent to the three calls
abbrev pub Batch : Type 0
Batch = record { c : ℕ; choices : List ℕ; wanted : List ℕ; pads : List ℕ; pad_pairs : List ℕ; messages : List ℕ; buffers : List (List ℕ) }

-- at most 4,096 outputs, slices of the lengths that they call for, wanted bits, and room
abbrev pub Fits : Batch → Type 0
Fits B =
    (B.c ≤ 4096) × (length B.choices ≡ B.c) × (length B.wanted ≡ B.c) × (length B.pads ≡ 16 * B.c)
    × (length B.pad_pairs ≡ 32 * B.c) × (length B.messages ≡ 32 * B.c) × (are_bits B.wanted ≡ true)
    × (B.c ≤ length (slice B.buffers 0)) × (32 * B.c ≤ length (slice B.buffers 1)) × (16 * B.c ≤ length (slice B.buffers 2))

-- on pads at equal indices the three calls in turn, each on what the one before wrote, are accepted, and open the messages wanted
abbrev pub Messages : Type 0
Messages =
    (S : Source) → Correlates S → (B : Batch) → Fits B
    → ((k : ℕ) → k < B.c → TakenAt S B.choices B.pads B.pad_pairs k k)
    → let bits = correction_bits B.c B.choices B.wanted (slice B.buffers 0) in
    let answers = mask_messages B.c (wrote bits 0) B.pad_pairs B.messages (slice B.buffers 1) in
    let opened = unmask_messages B.c B.wanted B.pads (wrote answers 0) (slice B.buffers 2) in
    (bits.number ≡ 0) × (answers.number ≡ 0) × (opened.number ≡ 0)
    × ((k : ℕ) → k < B.c → block_from (slice opened.outputs 0) (16 * k) ≡ block_from B.messages (32 * k + 16 * (B.wanted ! k)))

-- ==== 2, 5, 14. Every list of calls on a stock
-- draws; draws under a label of number L; draws and previews of caller k, and its draws
abbrev pub is_draw : StockCall → Bool
is_draw (asks draws l j c) = draws
is_draw (passes l n) = false

abbrev pub draws_under : ℕ → StockCall → Bool
draws_under L (asks draws l j c) = draws && eqb L (from_bytes l)
draws_under L (passes l n) = false

abbrev pub asks_of : ℕ → StockCall → Bool
asks_of k (asks draws l j c) = eqb k j
asks_of k (passes l n) = false

abbrev pub draws_of : ℕ → StockCall → Bool
draws_of k c = is_draw c && asks_of k c

-- the outputs handed out by accepted calls that a test picks: the sum of the counts replied
unfoldable pub handed : (StockCall → Bool) → List Made → ℕ
handed ok [] = 0
handed ok (m ∷ h) = (when ok m.call && eqb m.reply.number 0 then m.reply.count else 0) + handed ok h

-- from stock t of n outputs on, as long as no passage is accepted, a draw of c by caller k gives its next c indices: after those that it
-- drew since, within its block, which begins after the shares of the callers before it and ends within n
abbrev pub Next : ℕ → Stock → Type 0
Next n t =
    (since : List StockCall) → those accepted_passage (made t since) ≡ [] → (label : List ℕ) (k c : ℕ)
    → let reply = (draw (last t since) label k c).0 in
    reply.number ≡ 0
    → (reply.count ≡ c) × (reply.first ≡ total k (remaining t) + handed (draws_of k) (made t since))
    × (reply.first + c ≤ total (suc k) (remaining t)) × (total (suc k) (remaining t) ≤ n)

-- the numbers of calls that a test picks depend on these and on the accepted passages, in their order; without accepted passages the
-- whole replies do
abbrev pub Depends : (StockCall → Bool) → Stock → Type 0
Depends ok s =
    (calls other : List StockCall)
    → let concerning : List Made → List StockCall = λ h. map (λ m. m.call) (those (λ m. ok m.call || accepted_passage m) h) in
    let told : List Made → List Reply = λ h. map (λ m. m.reply) (those (λ m. ok m.call) h) in
    concerning (made s calls) ≡ concerning (made s other)
    → (map (λ r. r.number) (told (made s calls)) ≡ map (λ r. r.number) (told (made s other)))
    × (those accepted_passage (made s calls) ≡ [] → told (made s calls) ≡ told (made s other))

pub record StockClaim (n : ℕ) (shares : List ℕ) (s : Stock) : Type 0 where
  -- at most one accepted draw under a label has an index in its window
  pub once : (calls : List StockCall) (L x : ℕ)
      → let hands : Made → Bool = λ m. draws_under L m.call && eqb m.reply.number 0
      && leb m.reply.first x && ltb x (m.reply.first + m.reply.count) in
      length (those hands (made s calls)) ≤ 1
  -- what is handed out and what is still held make up the sum of shares; for each caller, its share; and under each label, what is handed
  -- out under it and what is held when it goes out of use make up what was held when it came into use
  pub sums : (calls : List StockCall) → handed is_draw (made s calls) + held (last s calls) ≡ total (length shares) (λ k. shares ! k)
  pub callers : (calls : List StockCall) (k : ℕ) → handed (draws_of k) (made s calls) + remaining (last s calls) k ≡ shares ! k
  pub labels : (calls : List StockCall) (L : ℕ)
      → let in_use = map held (those (λ t. eqb L (from_bytes t.label)) (s ∷ map (λ m. m.after) (made s calls))) in
      handed (draws_under L) (made s calls) + in_use ! (length in_use - 1) ≡ in_use ! 0
  -- each draw is its caller's next, after the opening and after every passage
  pub next : Next n s
  pub next_passed : (calls : List StockCall) (label : List ℕ) (n' : ℕ) → (pass_stock (last s calls) label n').0.number ≡ 0
      → Next n' (pass_stock (last s calls) label n').1
  -- what a caller is told depends on its own draws and previews; what its draws are told, on its draws
  pub own : (k : ℕ) → Depends (asks_of k) s
  pub own_draws : (k : ℕ) → Depends (draws_of k) s

pub record StockLists : Type 0 where
  pub opened : (label : List ℕ) (n : ℕ) (shares : List ℕ) → (open_stock label n shares).0.number ≡ 0
      → StockClaim n shares (open_stock label n shares).1
  -- on any stock: previews change nothing, a refused call leaves the stock as it was, and labels rise
  pub previews : (s : Stock) (calls : List StockCall) → let others : StockCall → Bool = λ c. is_draw c || is_passage c in
      (those (λ m. others m.call) (made s calls) ≡ made s (those others calls)) × (last s calls ≡ last s (those others calls))
  pub refused : (s : Stock) (c : StockCall) → (make s c).0.number ≢ 0 → (make s c).1 ≡ s
  pub rises : (s : Stock) (label : List ℕ) (n : ℕ) → (pass_stock s label n).0.number ≡ 0
      → (from_bytes s.label < from_bytes label) × ((pass_stock s label n).1.label ≡ label)

-- ==== 6. AND triples
-- what an end lends; its call
abbrev pub TripleInput : Type 0
TripleInput = record { choices : List ℕ; pads : List ℕ; pad_pairs : List ℕ; out : List ℕ }

abbrev pub formed : TripleInput → Return
formed l = triples l.choices l.pads l.pad_pairs l.out

-- triple i of one list of bytes and triple i' of another match: the third bits combined are the AND of the combined first and second
abbrev pub Matching : List ℕ → ℕ → List ℕ → ℕ → Type 0
Matching mine i theirs i' =
    let combined : ℕ → ℕ = λ b. bit_xor (mine ! (i * 3 + b)) (theirs ! (i' * 3 + b)) in combined 2 ≡ bit_and (combined 0) (combined 1)

-- place i of one end's accepted call and place i' of the other's: in each pairing both places belong to one index; the two pairings'
-- indices need not be equal. The first end lends choices and pads of the first pairing and pairs of pads of the second, the other the rest
pub record FormedAt (l l' : TripleInput) (i i' : ℕ) : Type 0 where
  pub source : Source
  pub source' : Source
  pub correlates : Correlates source
  pub correlates' : Correlates source'
  pub accepted : (formed l).number ≡ 0
  pub accepted' : (formed l').number ≡ 0
  pub taken : TakenAt source l.choices l.pads l'.pad_pairs i i'
  pub taken' : TakenAt source' l'.choices l'.pads l.pad_pairs i' i

-- such triples match, and the bytes written are bits
pub record Triples : Type 0 where
  pub matching : (l l' : TripleInput) (i i' : ℕ) → FormedAt l l' i i'
      → (i < length l.choices) × (i' < length l'.choices) × Matching (wrote (formed l) 0) i (wrote (formed l') 0) i'
  pub bits : (l : TripleInput) → (formed l).number ≡ 0 → (i : ℕ) → i < 3 * length l.choices → wrote (formed l) 0 ! i ≤ 1

-- ==== 9. Evaluate a circuit
-- two runs of one circuit, one in each role, with each other's bits, on triples that match for each AND
pub record Ends (K : RunKind) (circuit : List ℕ) (c : Circuit) (shares₁ triples₁ shares₂ triples₂ : List ℕ) (run₁ run₂ : List Lent)
    : Type 0 where
  pub reads : Gives (read_circuit circuit 0) c
  pub unaltered₁ : Unaltered K 1 circuit shares₁ triples₁ run₁
  pub unaltered₂ : Unaltered K 2 circuit shares₂ triples₂ run₂
  pub receives₁ : Receives K run₁ run₂
  pub receives₂ : Receives K run₂ run₁
  pub matching : (j : ℕ) → j < ands c.gates → Matching triples₁ j triples₂ j

pub record Runs (K : RunKind) : Type 0 where
  -- after an accepted call the next is accepted, with the same role, circuit, shares and triples, buffers no shorter, and as many far bits
  -- as it sent, each 0 or 1
  pub goes_on : (x y : Lent) (s : K.State) → (K.call (x, s)).0.number ≡ 0 → IsOwn x.role x.circuit x.shares x.triples y
      → length x.output ≤ length y.output → length x.bits ≤ length y.bits
      → length y.far ≡ length (K.sends (K.call (x, s)).0) → ((k : ℕ) → y.far ! k ≤ 1)
      → (K.call (y, (K.call (x, s)).1)).0.number ≡ 0
  -- a refused call leaves the state as it was; a finished run gives its outputs again, and its state stays
  pub refused : (x : Lent) (s : K.State) → (K.call (x, s)).0.number ≢ 0 → (K.call (x, s)).1 ≡ s
  pub again : (x y : Lent) (s : K.State) → let after = (K.call (x, s)).1 in
      Finished K (x, s) → y.circuit ≡ x.circuit → (K.call (y, after)).0.number ≡ 0
      → Finished K (y, after) × ((K.call (y, after)).1 ≡ after) × (wrote (K.call (y, after)).0 0 ≡ wrote (K.call (x, s)).0 0)
  -- what is sent and written are bits
  pub bits : (run : List Lent) (k : ℕ) (m : Lent × K.State) → IsCall K run k m
      → (i : ℕ) → (K.sends (K.call m).0 ! i ≤ 1) × (wrote (K.call m).0 0 ! i ≤ 1)
  -- when both ends have finished, the combined outputs are the circuit on the combined inputs
  pub evaluates : (circuit : List ℕ) (c : Circuit) (shares₁ triples₁ shares₂ triples₂ : List ℕ) (run₁ run₂ : List Lent)
      → Ends K circuit c shares₁ triples₁ shares₂ triples₂ run₁ run₂ → (k₁ k₂ : ℕ) (m₁ m₂ : Lent × K.State)
      → IsCall K run₁ k₁ m₁ → IsCall K run₂ k₂ m₂ → Finished K m₁ → Finished K m₂
      → xor (length c.outputs) (wrote (K.call m₁).0 0) (wrote (K.call m₂).0 0) ≡ value_of c (xor c.inputs shares₁ shares₂)

pub record Circuits : Type 0 where
  -- the writing of an admitted circuit is read; what is read is admitted, and is its only writing
  pub back : (c : Circuit) → AdmittedCircuit c → Gives (read_circuit (write_circuit c) 0) c
  pub one : (s : List ℕ) → Below 256 s → (c : Circuit) → Gives (read_circuit s 0) c → AdmittedCircuit c × (s ≡ write_circuit c)
  -- triples that are gathered from accepted calls of both ends match
  pub gathered : (l l' : TripleInput) (i i' : ℕ) → FormedAt l l' i i' → (triples₁ triples₂ : List ℕ) (j : ℕ)
      → take 3 (drop (j * 3) triples₁) ≡ take 3 (drop (i * 3) (wrote (formed l) 0))
      → take 3 (drop (j * 3) triples₂) ≡ take 3 (drop (i' * 3) (wrote (formed l') 0)) → Matching triples₁ j triples₂ j
  pub in-steps : Runs in_steps
  pub in-rounds : Runs in_rounds
  -- an accepted step of a run that waits passes a gate; while the circuit stays, a run waits after each of its first accepted steps, as
  -- many as there are ANDs, and has finished after one more; only a run that waits reads and tests far bits; its wires are bits
  pub advances : (x : Lent) (s : StepState) → s.phase ≡ 1 → (step x s).0.number ≡ 0 → s.gate < (step x s).1.gate
  pub finishes : (circuit : List ℕ) (c : Circuit) → Gives (read_circuit circuit 0) c → (run : List Lent) → OnCircuit in_steps circuit run
      → (k : ℕ) (m : Lent × StepState) → IsCall in_steps run k m
      → (k < ands c.gates → (in_steps.call m).1.phase ≡ 1) × (ands c.gates ≤ k → (in_steps.call m).1.phase ≡ 2)
  pub far_unread : (x y : Lent) (s : StepState) → s.phase ≢ 1 → IsOwn x.role x.circuit x.shares x.triples y
      → y.output ≡ x.output → ((step y s).0.number ≡ (step x s).0.number) × ((step y s).0.lengths ≡ (step x s).0.lengths)
      × ((step y s).0.outputs ≡ (step x s).0.outputs) × ((step y s).1 ≡ (step x s).1)
  pub wires : (run : List Lent) (k : ℕ) (m : Lent × StepState) → IsCall in_steps run k m → (w : ℕ) → (in_steps.call m).1.wires ! w ≤ 1

-- ==== 11. An expansion for the bench
-- on an accepted record it returns and leaves what online returns and leaves on the record's offline vectors, refusals too; and online
-- refuses these vectors neither by 3 nor by 8
pub record Bench : Type 0 where
  pub noise : (s a b : List ℕ) → (noise_offline s a b).number ≡ 0 → (first c : ℕ) (u_out v_out : List ℕ)
      → let online = noise_online s (wrote (noise_offline s a b) 0) (wrote (noise_offline s a b) 1) first c u_out v_out in
      (noise_direct s first c u_out v_out ≡ returned online.number online.lengths (slice online.inputs 0 ∷ []) online.outputs)
      × (online.number ≢ 3) × (online.number ≢ 8)
  pub scalar : (s a b : List ℕ) → (scalar_offline s a b).number ≡ 0 → (first c : ℕ) (w_out : List ℕ)
      → let online = scalar_online s (wrote (scalar_offline s a b) 0) first c w_out in
      (scalar_direct s first c w_out ≡ returned online.number online.lengths (slice online.inputs 0 ∷ []) online.outputs)
      × (online.number ≢ 3) × (online.number ≢ 8)

-- ==== 12. What accumulated buffers tell
-- w = Δu + v, in a field's elements
abbrev pub Holds : Head → List ℕ → List ℕ → List ℕ → List ℕ → Type 0
Holds h Δ' u' v' w' = w' ≡ (F h).elements.plus ((F h).elements.multiple (u' ! 0) Δ') v'

pub record Buffers : Type 0 where
  -- of accepted records with one head, of bytes (asked of s alone): w = Δu + v at accumulated places below k exactly if w0 = Δμ + v0 there
  pub correlation : (s s' a b a' b' : List ℕ) (h : Head) (trees : List Tree) (Δ : List ℕ) (roots : List (List ℕ))
      → Below 256 s → Gives (read_noise s 0) (h, trees) → Gives (read_scalar s' 0) (h, Δ, roots)
      → (noise_offline s a b).number ≡ 0 → (scalar_offline s' a' b').number ≡ 0 → (k : ℕ) → k ≤ N h
      → let noise = noise_offline s a b in
      let scalar = scalar_offline s' a' b' in
      ((j : ℕ) → j < k → Holds h (wrote scalar 1) (value_at (F h).noise_values (wrote noise 0) j)
      (value_at (F h).elements (wrote noise 1) j) (value_at (F h).elements (wrote scalar 0) j))
      ↔ ((j : ℕ) → j < k → Holds h Δ (μ trees h.t j) (v0 h trees j) (w0 h roots j))
  -- two noise records with one head give the same accumulated noise only if positions and noise values are equal
  pub noise : (s s' a b a' b' : List ℕ) (h : Head) (trees trees' : List Tree) → Below 256 s → Below 256 s'
      → Gives (read_noise s 0) (h, trees) → Gives (read_noise s' 0) (h, trees')
      → (noise_offline s a b).number ≡ 0 → (noise_offline s' a' b').number ≡ 0
      → wrote (noise_offline s a b) 0 ≡ wrote (noise_offline s' a' b') 0
      → (map (λ x. x.position) trees ≡ map (λ x. x.position) trees') × (map (λ x. x.value) trees ≡ map (λ x. x.value) trees')

-- ==== 13. Signed amounts
abbrev pub InRange : ℤ → Type 0
InRange z = (neg_ℤ (pos greatest) ≤ℤ z) × (z ≤ℤ pos greatest)

pub record Amounts : Type 0 where
  -- exactly the elements are read, and the amounts in range written, the others refused by 19 with element 0; each undoes the other
  pub reads : (x : ℕ) → x < p ↔ (read_amount x).0 ≡ 0
  pub writes : (z : ℤ) → InRange z ↔ (write_amount z).number ≡ 0
  pub out_of_range : (z : ℤ) → (InRange z → ⊥) → ((write_amount z).number ≡ 19) × ((write_amount z).element ≡ 0)
  pub read-written : (z : ℤ) → InRange z → read_amount (write_amount z).element ≡ amount 0 z
  pub written_read : (x : ℕ) → x < p → ((write_amount (read_amount x).1).number ≡ 0) × ((write_amount (read_amount x).1).element ≡ x)
  -- sums in range, and negation, agree with the field's
  pub sums : (a b : ℤ) → InRange a → InRange b → InRange (a +ℤ b)
      → read_amount (((write_amount a).element + (write_amount b).element) % p) ≡ amount 0 (a +ℤ b)
  pub negation : (x : ℕ) → x < p → read_amount ((p - x) % p) ≡ amount 0 (neg_ℤ (read_amount x).1)

-- ==== Circuits in rounds
pub record Rounds : Type 0 where
  -- an accepted round on any state: known wires stay; an AND that waits becomes known; it ends the run exactly if all wires are then known;
  -- the next is lent as many far bits as it sent; it writes bits to send, or ends the run and writes the outputs, and as many as it says
  pub keeps : (x : Lent) (s : List ℕ) → (round x s).0.number ≡ 0 → (w : ℕ) → known (s ! w) ≡ true → (round x s).1 ! w ≡ s ! w
  pub moves : (c : Circuit) (x : Lent) (s : List ℕ) → Gives (read_circuit x.circuit 0) c → (round x s).0.number ≡ 0
      → ((i : ℕ) → is_and (gate_at c i) ≡ true → waits (s ! (c.inputs + i)) ≡ true → known ((round x s).1 ! (c.inputs + i)) ≡ true)
      × (Finished in_rounds (x, s) ↔ ((w : ℕ) → w < c.inputs + length c.gates → known ((round x s).1 ! w) ≡ true))
      × ((y : Lent) → y.circuit ≡ x.circuit → (round y (round x s).1).0.number ≡ 0 → length y.far ≡ (round x s).0.lengths ! 1)
      × ((Finished in_rounds (x, s) → (round x s).0.lengths ! 0 ≡ length c.outputs)
      × ((Finished in_rounds (x, s) → ⊥) → (round x s).0.lengths ! 0 ≡ 0))
      × ((i : ℕ) → (length (wrote (round x s).0 i) ≡ (round x s).0.lengths ! i) × ((j : ℕ) → wrote (round x s).0 i ! j ≤ 1))
  -- while the circuit stays: after accepted round k a wire is known exactly if its level is at most k, and waits exactly if it is an AND's
  -- of level k + 1; it ends the run exactly if it is the last; the lengths that it writes are known in advance; the first gets no far bits
  pub stands : (circuit : List ℕ) (c : Circuit) → Gives (read_circuit circuit 0) c → (run : List Lent) → OnCircuit in_rounds circuit run
      → (k : ℕ) (m : Lent × List ℕ) → IsCall in_rounds run k m
      → ((w : ℕ) → w < c.inputs + length c.gates → known ((in_rounds.call m).1 ! w) ≡ true ↔ wire_levels c ! w ≤ k)
      × ((i : ℕ) → i < length c.gates → waits ((in_rounds.call m).1 ! (c.inputs + i)) ≡ true
      ↔ ((is_and (gate_at c i) ≡ true) × (level_at c i ≡ suc k)))
      × (Finished in_rounds m ↔ round_count c ≤ suc k)
      × ((in_rounds.call m).0.lengths
      ≡ (when leb (round_count c) (suc k) then length c.outputs else 0) ∷ 2 * ands_at c (suc k) (length c.gates) ∷ [])
  pub first : (x : Lent) → (round x in_rounds.fresh).0.number ≡ 0 → length x.far ≡ 0

-- for the AND at gate i of a run in steps and a run in rounds: the same far bits, where both got them; the same bits sent
abbrev pub SameTwo : List ℕ → List ℕ → ℕ → Type 0
SameTwo two l place = (two ! 0 ≡ l ! place) × (two ! 1 ≡ l ! (place + 1))

abbrev pub SameFar : Circuit → List Lent → List Lent → ℕ → Type 0
SameFar c run₁ run₂ i =
    (m : Lent × StepState) (r : Lent × List ℕ) → IsCall in_steps run₁ (suc (ands_before c i)) m → IsCall in_rounds run₂ (level_at c i) r
    → SameTwo m.0.far r.0.far (place_at c i)

abbrev pub SameSent : Circuit → List Lent → List Lent → ℕ → Type 0
SameSent c run₁ run₂ i =
    (k : ℕ) (m : Lent × StepState) (r : Lent × List ℕ) → level_at c i ≡ suc k → IsCall in_steps run₁ (ands_before c i) m
    → IsCall in_rounds run₂ k r → SameTwo (in_steps.sends (in_steps.call m).0) (in_rounds.sends (in_rounds.call r).0) (place_at c i)

-- both runs of one role, circuit and shares, with equal triples for the ANDs; neither honest far ends nor matching triples are asked for
pub record Alike (circuit : List ℕ) (c : Circuit) (role : ℕ) (shares triples₁ triples₂ : List ℕ) (run₁ run₂ : List Lent) : Type 0 where
  pub reads : Gives (read_circuit circuit 0) c
  pub unaltered₁ : Unaltered in_steps role circuit shares triples₁ run₁
  pub unaltered₂ : Unaltered in_rounds role circuit shares triples₂ run₂
  pub triples : take (3 * ands c.gates) triples₁ ≡ take (3 * ands c.gates) triples₂

pub record RoundsLikeSteps : Type 0 where
  -- the same outputs, and each wire's byte is 2 + the step's share
  pub outputs : (circuit : List ℕ) (c : Circuit) (role : ℕ) (shares triples₁ triples₂ : List ℕ) (run₁ run₂ : List Lent)
      → Alike circuit c role shares triples₁ triples₂ run₁ run₂ → ((i : ℕ) → is_and (gate_at c i) ≡ true → SameFar c run₁ run₂ i)
      → (k₁ k₂ : ℕ) (m : Lent × StepState) (r : Lent × List ℕ) → IsCall in_steps run₁ k₁ m → IsCall in_rounds run₂ k₂ r
      → Finished in_steps m → Finished in_rounds r → (wrote (in_steps.call m).0 0 ≡ wrote (in_rounds.call r).0 0)
      × ((w : ℕ) → w < c.inputs + length c.gates → (in_rounds.call r).1 ! w ≡ 2 + (in_steps.call m).1.wires ! w)
  -- the bits sent for an AND follow from the far bits of the ANDs before it
  pub bits : (circuit : List ℕ) (c : Circuit) (role : ℕ) (shares triples₁ triples₂ : List ℕ) (run₁ run₂ : List Lent)
      → Alike circuit c role shares triples₁ triples₂ run₁ run₂ → (i : ℕ) → is_and (gate_at c i) ≡ true
      → ((n : ℕ) → n < i → is_and (gate_at c n) ≡ true → SameFar c run₁ run₂ n) → SameSent c run₁ run₂ i
  -- accepted step j opens the AND with j ANDs before it, and no other does; a finished run has opened each (of rounds `stands` says it)
  pub opened : (circuit : List ℕ) (c : Circuit) → Gives (read_circuit circuit 0) c → (run : List Lent) → OnCircuit in_steps circuit run
      → (k : ℕ) (m : Lent × StepState) → IsCall in_steps run k m → (i : ℕ) → is_and (gate_at c i) ≡ true
      → ((((in_steps.call m).1.phase ≡ 1) × ((in_steps.call m).1.gate ≡ i)) ↔ ands_before c i ≡ k)
      × ((in_steps.call m).1.phase ≡ 2 → ands_before c i < k)

-- ==== Beyond the requests: what a record is
pub record Descriptions : Type 0 where
  -- the head that its end reads, with that end's byte; or the number of the refusal
  pub noise : (s : List ℕ) → (describe s).end ≡ 1
      → (h : Head) × (trees : List Tree) × Gives (read_noise s 0) (h, trees) × (describe s ≡ described s 1 h)
  pub scalar : (s : List ℕ) → (describe s).end ≡ 2
      → (h : Head) × (Δ : List ℕ) × (roots : List (List ℕ)) × Gives (read_scalar s 0) (h, Δ, roots) × (describe s ≡ described s 2 h)
  pub neither : (s : List ℕ) → (describe s).end ≢ 1 → (describe s).end ≢ 2 → describe s ≡ undescribed s (describe s).number
