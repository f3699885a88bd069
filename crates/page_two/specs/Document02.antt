-- Document 02 on one page: what its calls return and leave, for every input, request by request; after them the calls that no request asks
-- for, and the words in which the statements speak of lists of calls and runs. The contracts of `expander` cite it. It stands on document
-- 01's page, into which requests 4, 7, 8 and 10 are worked, and on the one definition by which an element, or none, has its number;
-- request 3 is about how the library computes, request 12 is a statement. A list of bits has a byte for each, 0 or 1.
use Rattle.std.specs.Prelude.{ℕ, zero, suc, ◌+◌, ◌-◌, ◌*◌, ◌%◌, ◌^◌, ◌≤◌, ◌<◌, max, ◌≡◌, Bool, true, false, not, ◌&&◌, ◌||◌, List, [], ◌∷◌, ◌++◌, map, eqb, leb, ltb, ℤ, pos, negsuc, ◌-ℤ◌, length, take, drop, get_or, set, replicate, Some, None}
use Rattle.std.proofs.Math.Option.{some}
use Rattle.std.specs.Int.Bits.{bit_and, bit_xor}
use Rattle.std.proofs.Math.ListN.{get_elem?}
use Rattle.page.specs.Document01.{when◌then◌else◌, ◌!◌, ◌otherwise◌, list, joined, every, each, xor, from_bytes, word, Space, p, is_field, within, Head, F, N, write_number, Read, got, fault, Reader, and_then, ◌>>=◌, give, test, read_byte, read_number, ended, read_noise, read_scalar, sum, μ, v0, w0, term, place, Return, returned, refused, on_record, Output, Test, room, answer, count_of}
use Rattle.prime.specs.Prime.{prime}
use Rattle.amounts.specs.declared.WrittenAmount.{WrittenAmount}
use Rattle.amounts.specs.Calls.{written_as}

-- ==== 1. Messages of our own choosing
-- each member is 0 or 1
abbrev pub are_bits : List ℕ → Bool
are_bits l = every (length l) (λ k. leb (l ! k) 1)

-- block k of a slice with 16 bytes an output; block b, 0 or 1, of output k of one with 32
abbrev pub block_of : List ℕ → ℕ → List ℕ
block_of l k = list 16 (λ i. l ! (16 * k + i))

abbrev pub block_of_two : List ℕ → ℕ → ℕ → List ℕ
block_of_two l k b = list 16 (λ i. l ! (32 * k + 16 * b + i))

-- each call, on a batch of c outputs, tests 3, 8, 13. The noise end sends choice exclusive-or wanted bit
unfoldable pub correction_bits : ℕ → List ℕ → List ℕ → List ℕ → Return
correction_bits c choices wanted bits_out =
    let bits' : Output = (bits_out, xor c choices wanted) in
    answer (choices ∷ wanted ∷ []) (bits' ∷ [])
    (leb c 4096 otherwise 3
    ∷ eqb (length choices) c otherwise 3
    ∷ eqb (length wanted) c otherwise 3
    ∷ are_bits choices otherwise 8
    ∷ are_bits wanted otherwise 8
    ∷ room bits'
    ∷ [])

-- the scalar end answers with message 0 masked by the pad that the bit names, and message 1 masked by the other
unfoldable pub mask_messages : ℕ → List ℕ → List ℕ → List ℕ → List ℕ → Return
mask_messages c bits pads messages answers_out =
    let under : ℕ → ℕ → ℕ → List ℕ = λ k b named. xor 16 (block_of_two messages k b) (block_of_two pads k named) in
    let answers' : Output = (answers_out, joined c (λ k. under k 0 (bits ! k) ++ under k 1 (1 - bits ! k))) in
    answer (bits ∷ pads ∷ messages ∷ []) (answers' ∷ [])
    (leb c 4096 otherwise 3
    ∷ eqb (length bits) c otherwise 3
    ∷ eqb (length pads) (32 * c) otherwise 3
    ∷ eqb (length messages) (32 * c) otherwise 3
    ∷ are_bits bits otherwise 8
    ∷ room answers'
    ∷ [])

-- the noise end unmasks the one it wants
unfoldable pub unmask_messages : ℕ → List ℕ → List ℕ → List ℕ → List ℕ → Return
unmask_messages c wanted pads answers messages_out =
    let messages' : Output = (messages_out, joined c (λ k. xor 16 (block_of_two answers k (wanted ! k)) (block_of pads k))) in
    answer (wanted ∷ pads ∷ answers ∷ []) (messages' ∷ [])
    (leb c 4096 otherwise 3
    ∷ eqb (length wanted) c otherwise 3
    ∷ eqb (length pads) (16 * c) otherwise 3
    ∷ eqb (length answers) (32 * c) otherwise 3
    ∷ are_bits wanted otherwise 8
    ∷ room messages'
    ∷ [])

-- ==== 2. Stock for up to eight callers; with the labels of 14
-- a stock: how many callers, the label in use, of 16 bytes, and for each of eight the index that it draws next and the end of its block
abbrev pub Stock : Type 0
Stock = record { callers : ℕ; label : List ℕ; next : List ℕ; end : List ℕ }

abbrev pub stock : ℕ → List ℕ → List ℕ → List ℕ → Stock
stock callers label next end = record { callers = callers; label = label; next = next; end = end }

-- a caller; there is none from 8 on, whatever the stock says
abbrev pub is_caller : Stock → ℕ → Bool
is_caller s k = ltb k 8 && ltb k s.callers

-- f 0 + .. + f (n − 1)
unfoldable pub total : ℕ → (ℕ → ℕ) → ℕ
total zero f = 0
total (suc n) f = total n f + f n

-- a caller's remaining share; all outputs still held
unfoldable pub remaining : Stock → ℕ → ℕ
remaining s k = when is_caller s k then (s.end ! k - s.next ! k) else 0

abbrev pub held : Stock → ℕ
held s = total 8 (remaining s)

-- shares as consecutive blocks, from index 0 in caller order, and zeros for those who are no callers
unfoldable pub shared : List ℕ → ℕ → (ℕ → ℕ) → Stock
shared label callers share =
    let entries : (ℕ → ℕ) → List ℕ = λ f. list 8 (λ k. when ltb k callers then f k else 0) in
    stock callers label (entries (λ k. total k share)) (entries (λ k. total (suc k) share))

-- a reply: its number, and a window, of 0 and 0 where it names no index: an opening and a passage name none; a call gives it with a stock
abbrev pub Reply : Type 0
Reply = record { number : ℕ; first : ℕ; count : ℕ }

abbrev pub gives : ℕ → ℕ → ℕ → Stock → Reply × Stock
gives number first count s = (record { number = number; first = first; count = count }, s)

-- a call that is refused, with this stock, by the first test that fails; else it is accepted
unfoldable pub tested : List Test → Stock → Reply × Stock → Reply × Stock
tested [] s accepted = accepted
tested (ok otherwise k ∷ tests) s accepted = when ok then tested tests s accepted else gives k 0 0 s

-- an opening tests 2, 16; refused, it gives a stock without callers, of label 0; the shares lent to it are as they were
unfoldable pub open_stock : List ℕ → ℕ → List ℕ → Reply × Stock × List ℕ
open_stock label n shares =
    let given = tested
    (within 8 (length shares) otherwise 2
    ∷ within 32768 n otherwise 2
    ∷ leb (total (length shares) (λ k. shares ! k)) n otherwise 16
    ∷ [])
    (shared (replicate 16 0) 0 (λ k. 0))
    (gives 0 0 0 (shared label (length shares) (λ k. shares ! k))) in
    (given.0, given.1, shares)

-- what an opening returns and leaves, as its contract has it
abbrev pub opened : ℕ → Stock → List ℕ → Reply × Stock × List ℕ
opened number s shares = (record { number = number; first = 0; count = 0 }, s, shares)

-- a draw of c by caller k tests 21, 14, 15; labels compare as LE numbers
unfoldable pub draw : Stock → List ℕ → ℕ → ℕ → Reply × Stock
draw s label k c =
    let x = s.next ! k in
    tested
    (eqb (from_bytes label) (from_bytes s.label) otherwise 21
    ∷ is_caller s k otherwise 14
    ∷ leb c (remaining s k) otherwise 15
    ∷ [])
    s
    (gives 0 x c (stock s.callers s.label (set s.next k (x + c)) s.end))

-- ==== 5. A look before the draw
-- a preview gives the reply, and the stock afterwards, of that draw on a copy
unfoldable pub preview : Stock → List ℕ → ℕ → ℕ → Reply × Stock
preview s label k c = draw s label k c

-- ==== 6. AND triples
-- of output k: the choice bit a and pad bit h of the first pairing, the message bits r and q of the second
unfoldable pub triple : List ℕ → List ℕ → List ℕ → ℕ → List ℕ
triple choices pads pad_pairs k =
    let a = choices ! k in
    let h = pads ! (16 * k) % 2 in
    let r = pad_pairs ! (32 * k) % 2 in
    let q = pad_pairs ! (32 * k + 16) % 2 in
    a ∷ bit_xor r q ∷ bit_xor (bit_xor (bit_and a (bit_xor r q)) h) r ∷ []

-- it tests 3, 13, 8
unfoldable pub triples : List ℕ → List ℕ → List ℕ → List ℕ → Return
triples choices pads pad_pairs triples_out =
    let c = length choices in
    let triples' : Output = (triples_out, joined c (triple choices pads pad_pairs)) in
    answer (choices ∷ pads ∷ pad_pairs ∷ []) (triples' ∷ [])
    (eqb (length pads) (16 * c) otherwise 3
    ∷ eqb (length pad_pairs) (32 * c) otherwise 3
    ∷ room triples'
    ∷ are_bits choices otherwise 8
    ∷ [])

-- ==== 9. Evaluate a circuit
-- a gate with its one or two wires; wires, from 0, are inputs first, then gates in order
pub data Gate : Type 0 where
  Xor : ℕ → ℕ → Gate
  And : ℕ → ℕ → Gate
  Not : ℕ → Gate

-- the number of inputs, the gates, the output wires
abbrev pub Circuit : Type 0
Circuit = record { inputs : ℕ; gates : List Gate; outputs : List ℕ }

-- the wires given, then for each gate in order what is made of it and of the wires before it
unfoldable pub over_gates : (Gate → List ℕ → ℕ) → List Gate → List ℕ → List ℕ
over_gates value [] wires = wires
over_gates value (g ∷ gates) wires = over_gates value gates (wires ++ (value g wires ∷ []))

-- the circuit on bits
unfoldable pub gate_value : Gate → List ℕ → ℕ
gate_value (Xor a b) wires = bit_xor (wires ! a) (wires ! b)
gate_value (And a b) wires = bit_and (wires ! a) (wires ! b)
gate_value (Not a) wires = bit_xor (wires ! a) 1

unfoldable pub value_of : Circuit → List ℕ → List ℕ
value_of c bits = map (λ (w : ℕ). over_gates gate_value c.gates bits ! w) c.outputs

-- its writing: how many inputs, gates and outputs, then the gates, each a kind and its wires, then the output wires
unfoldable pub gate_numbers : Gate → List ℕ
gate_numbers (Xor a b) = 1 ∷ a ∷ b ∷ []
gate_numbers (And a b) = 2 ∷ a ∷ b ∷ []
gate_numbers (Not a) = 3 ∷ a ∷ []

unfoldable pub write_circuit : Circuit → List ℕ
write_circuit c = each write_number (c.inputs ∷ length c.gates ∷ length c.outputs ∷ each gate_numbers c.gates ++ c.outputs)

-- its reading: each number whole, then tested; 17: a size, kind or wire that is not admitted
abbrev pub admitted : (ℕ → Bool) → Reader ℕ
admitted ok = test read_number ok 17

-- the gate at a wire; its own wires come before it
unfoldable pub read_gate : ℕ → Reader Gate
read_gate wire = do
  kind ← admitted (within 3)
  a ← admitted (λ w. ltb w wire)
  when eqb kind 3 then give (Not a) else do
    b ← admitted (λ w. ltb w wire)
    give (when eqb kind 1 then Xor a b else And a b)

-- n readings, the first for a wire and each later one for the next; a reading may ignore its wire, as that of output wires does
unfoldable pub read_each : {A : Type 0} → (ℕ → Reader A) → ℕ → ℕ → Reader (List A)
read_each read zero wire = give []
read_each read (suc n) wire = do
  a ← read wire
  l ← read_each read n (wire + 1)
  give (a ∷ l)

unfoldable pub read_circuit : Reader Circuit
read_circuit = do
  inputs ← admitted (within 4096)
  gate_count ← admitted (λ n. leb n (4096 - inputs))
  output_count ← admitted (within 4096)
  gates ← read_each read_gate gate_count inputs
  outputs ← read_each (λ wire. admitted (λ w. ltb w (inputs + gate_count))) output_count 0
  ended (record { inputs = inputs; gates = gates; outputs = outputs })

-- gate i, from 0, and NOT of wire 0 past the end; what a circuit must be for its writing to be read
abbrev pub gate_at : Circuit → ℕ → Gate
gate_at c i = get_or c.gates i (Not 0)

abbrev pub AdmittedCircuit : Circuit → Type 0
AdmittedCircuit c =
    let wires = c.inputs + length c.gates in
    (1 ≤ c.inputs) × (wires ≤ 4096) × (1 ≤ length c.outputs) × (length c.outputs ≤ 4096)
    × ((i k : ℕ) → i < length c.gates → drop 1 (gate_numbers (gate_at c i)) ! k < c.inputs + i) × ((k : ℕ) → c.outputs ! k < wires)

abbrev pub is_and : Gate → Bool
is_and (Xor a b) = false
is_and (And a b) = true
is_and (Not a) = false

-- how many ANDs
unfoldable pub ands : List Gate → ℕ
ands [] = 0
ands (g ∷ gates) = (when is_and g then 1 else 0) + ands gates

-- what a call of a run is lent: the role, 1 for the first pairing's noise end and 2 for the other; the circuit's bytes, this end's shares
-- of the inputs, its triples, the far bits; the buffers for its shares of the outputs and, in rounds, for the bits to send
abbrev pub Lent : Type 0
Lent = record { role : ℕ; circuit : List ℕ; shares : List ℕ; triples : List ℕ; far : List ℕ; output : List ℕ; bits : List ℕ }

abbrev pub read_only : Lent → List (List ℕ)
read_only x = x.circuit ∷ x.shares ∷ x.triples ∷ x.far ∷ []

-- such a call: what it returns, and the state that it leaves, which is as it was where the call is refused
unfoldable pub on_circuit : {S : Type 0} → Lent → List ℕ → S → Read Circuit → (Circuit → Return × S) → Return × S
on_circuit x bits_out s (fault k) call = (refused (read_only x) (x.output ∷ bits_out ∷ []) k, s)
on_circuit x bits_out s (got c next) call = ((call c).0, when eqb (call c).0.number 0 then (call c).1 else s)

-- an accepted call writes the bits to send; where there are none, the run has finished, and it writes the shares of the outputs
abbrev pub ran : Lent → List ℕ → List ℕ → List ℕ → List Test → Return
ran x bits_out sent outputs tests =
    answer (read_only x) ((x.output, when eqb (length sent) 0 then outputs else []) ∷ (bits_out, sent) ∷ []) tests

abbrev pub is_role : ℕ → Bool
is_role role = eqb role 1 || eqb role 2

-- NOT of a share: role 1 alone flips
unfoldable pub not_share : ℕ → ℕ → ℕ
not_share role a = when eqb role 1 then bit_xor a 1 else a

-- AND of shares a and b, by the first of the triples left: the two bits to send; its share, when the far bits d and e have come. The AND
-- with j ANDs before it takes triple j
abbrev pub masked : List ℕ → ℕ → ℕ → List ℕ
masked triples a b = bit_xor a (triples ! 0) ∷ bit_xor b (triples ! 1) ∷ []

unfoldable pub and_share : ℕ → List ℕ → ℕ → ℕ → ℕ → ℕ → ℕ
and_share role triples a b d e =
    let D = bit_xor (masked triples a b ! 0) d in
    let E = bit_xor (masked triples a b ! 1) e in
    let share = bit_xor (bit_xor (triples ! 2) (bit_and D (triples ! 1))) (bit_and E (triples ! 0)) in
    when eqb role 1 then bit_xor share (bit_and D E) else share

-- the state of a run in steps: phase 0 is fresh, 1 waits for the far bits of the AND at `gate`, 2 has finished; the shares of the wires
-- passed, and 0 past them in states that steps left
abbrev pub StepState : Type 0
StepState = record { phase : ℕ; gate : ℕ; wires : List ℕ }

abbrev pub step_state : ℕ → ℕ → List ℕ → StepState
step_state phase gate wires = record { phase = phase; gate = gate; wires = wires }

-- on through gates, gate i first, with the triples left, and the far bits if they have come: the state, and the bits to send, at the next
-- AND or at the end
unfoldable pub run_on : ℕ → ℕ → List Gate → ℕ → List ℕ → List ℕ → List ℕ → StepState × List ℕ
run_on role inputs [] i wires triples far = (step_state 2 i wires, [])
run_on role inputs (Xor a b ∷ gates) i wires triples far =
    run_on role inputs gates (i + 1) (set wires (inputs + i) (bit_xor (wires ! a) (wires ! b))) triples far
run_on role inputs (Not a ∷ gates) i wires triples far =
    run_on role inputs gates (i + 1) (set wires (inputs + i) (not_share role (wires ! a))) triples far
run_on role inputs (And a b ∷ gates) i wires triples [] = (step_state 1 i wires, masked triples (wires ! a) (wires ! b))
run_on role inputs (And a b ∷ gates) i wires triples (d ∷ rest) =
    run_on role inputs gates (i + 1) (set wires (inputs + i) (and_share role triples (wires ! a) (wires ! b) d (rest ! 0)))
    (drop 3 triples) []

-- a fresh run begins, one that waits goes on with its AND, a finished one stays
unfoldable pub stepped : Circuit → Lent → StepState → StepState × List ℕ
stepped c x s =
    let i = s.gate in
    when eqb s.phase 0
    then run_on x.role c.inputs c.gates 0 (x.shares ++ replicate (4096 - c.inputs) 0) x.triples []
    else (when eqb s.phase 1
    then run_on x.role c.inputs (drop i c.gates) i s.wires (drop (3 * ands (take i c.gates)) x.triples)
    (x.far ! 0 ∷ x.far ! 1 ∷ [])
    else (s, []))

-- a step tests the reading (10, 11, 17, 12), 3, 13, 8, 18, and what the request does not name: the state (17) and the role (9)
abbrev pub step_tests : Circuit → Lent → StepState → List Test
step_tests c x s =
    let waiting = eqb s.phase 1 in
    eqb (length x.shares) c.inputs otherwise 3
    ∷ eqb (length x.triples % 3) 0 otherwise 3
    ∷ leb (length c.outputs) (length x.output) otherwise 13
    ∷ are_bits x.shares otherwise 8
    ∷ are_bits x.triples otherwise 8
    ∷ (not waiting || (leb (x.far ! 0) 1 && leb (x.far ! 1) 1)) otherwise 8
    ∷ leb (3 * ands c.gates) (length x.triples) otherwise 18
    ∷ (leb s.phase 2 && (not waiting || is_and (gate_at c s.gate))) otherwise 17
    ∷ is_role x.role otherwise 9
    ∷ []

-- `far` has two far bits; a step returns the two bits to send, zeros where there are none, and no length of them
unfoldable pub step : Lent → StepState → Return × StepState
step x s =
    let zeros : List ℕ = 0 ∷ 0 ∷ [] in
    let (r, left) = on_circuit x zeros s (read_circuit x.circuit 0) λ c.
    let (after, sent) = stepped c x s in
    (ran x zeros sent (map (λ (w : ℕ). after.wires ! w) c.outputs) (step_tests c x s), after) in
    (returned r.number (take 1 r.lengths) r.inputs r.outputs, left)

-- ==== 11. An expansion for the bench
-- row x of the code matrix times a vector; entry j is the sum of the coefficients of those terms of the row whose place is j or more
unfoldable pub row_times : Space → Head → (ℕ → List ℕ) → ℕ → List ℕ
row_times S h f x =
    let coefficient : ℕ → List ℕ = λ i. (F h).coefficient (word (term h x i) 8) ∷ [] in
    let entry : ℕ → ℕ = λ j. sum (F h).noise_values h.ℓ (λ i. when leb j (place h x i) then coefficient i else (0 ∷ [])) ! 0 in
    sum S (N h) (λ j. S.multiple (entry j) (f j))

-- both ends test the record, 7, 13
unfoldable pub noise_direct : List ℕ → ℕ → ℕ → List ℕ → List ℕ → Return
noise_direct source first c u_out v_out =
    on_record (source ∷ []) (u_out ∷ v_out ∷ []) (read_noise source 0) λ (h, trees).
    let u' : Output = (u_out, joined c (λ k. row_times (F h).noise_values h (μ trees h.t) (first + k))) in
    let v' : Output = (v_out, joined c (λ k. row_times (F h).elements h (v0 h trees) (first + k))) in
    answer (source ∷ []) (u' ∷ v' ∷ []) (leb (first + c) h.n otherwise 7 ∷ room u' ∷ room v' ∷ [])

unfoldable pub scalar_direct : List ℕ → ℕ → ℕ → List ℕ → Return
scalar_direct source first c w_out =
    on_record (source ∷ []) (w_out ∷ []) (read_scalar source 0) λ (h, Δ, roots).
    let w' : Output = (w_out, joined c (λ k. row_times (F h).elements h (w0 h roots) (first + k))) in
    answer (source ∷ []) (w' ∷ []) (leb (first + c) h.n otherwise 7 ∷ room w' ∷ [])

-- ==== 13. Signed amounts
abbrev pub greatest : ℕ
greatest = 2 ^ 60 - 1

-- the number, and the amount, 0 where it is refused; `pos x` is x as a signed number
abbrev pub amount : ℕ → ℤ → ℕ × ℤ
amount number z = (number, z)

unfoldable pub read_amount : ℕ → ℕ × ℤ
read_amount x = when ltb x p then amount 0 (when leb x greatest then pos x else (pos x -ℤ pos p)) else amount 8 (pos 0)

-- `negsuc n` is −(n + 1); `written_as` gives the number and the element: 19 and 0 of `None`, as the statement `Amounts` says
unfoldable pub write_amount : ℤ → WrittenAmount
write_amount (pos n) = written_as (when ltb greatest n then None else Some (prime n))
write_amount (negsuc n) = written_as (when ltb greatest (suc n) then None else Some (prime (p - suc n)))

-- ==== 14. A fresh dealing under a live stock
-- a passage to another label and n tests 2, 20, 16; each caller keeps what it has not drawn
unfoldable pub pass_stock : Stock → List ℕ → ℕ → Reply × Stock
pass_stock s label n =
    tested
    (within 32768 n otherwise 2
    ∷ ltb (from_bytes s.label) (from_bytes label) otherwise 20
    ∷ leb (held s) n otherwise 16
    ∷ [])
    s
    (gives 0 0 0 (shared label s.callers (remaining s)))

-- calls on a stock: with `true` a draw, with `false` a preview; or a passage
pub data StockCall : Type 0 where
  asks : (draws : Bool) (label : List ℕ) (caller count : ℕ) → StockCall
  passes : (label : List ℕ) (n : ℕ) → StockCall

-- what a call replies, and the stock that it leaves: a preview leaves it as it was
unfoldable pub make : Stock → StockCall → Reply × Stock
make s (asks draws l k c) = when draws then draw s l k c else ((preview s l k c).0, s)
make s (passes l n) = pass_stock s l n

-- the calls of a list as they are made, each on the stock that the call before left; the stock after the last
abbrev pub Made : Type 0
Made = record { call : StockCall; reply : Reply; after : Stock }

unfoldable pub made : Stock → List StockCall → List Made
made s [] = []
made s (c ∷ calls) = record { call = c; reply = (make s c).0; after = (make s c).1 } ∷ made (make s c).1 calls

unfoldable pub last : Stock → List StockCall → Stock
last s [] = s
last s (c ∷ calls) = last (make s c).1 calls

-- those members of a list that a test picks, in their order
unfoldable pub those : {A : Type 0} → (A → Bool) → List A → List A
those ok [] = []
those ok (a ∷ l) = when ok a then (a ∷ those ok l) else those ok l

-- passages; those that were accepted
abbrev pub is_passage : StockCall → Bool
is_passage (asks draws l j c) = false
is_passage (passes l n) = true

abbrev pub accepted_passage : Made → Bool
accepted_passage m = is_passage m.call && eqb m.reply.number 0

-- ==== Circuits in rounds
-- the state of a run in rounds is a byte for each wire: 0 while its share is not known, 1 for an AND that waits for its far bits, from 2 on
-- a known share, the byte modulo 2
abbrev pub waits : ℕ → Bool
waits byte = eqb byte 1

abbrev pub known : ℕ → Bool
known byte = leb 2 byte

abbrev pub share_in : List ℕ → ℕ → ℕ
share_in bytes w = bytes ! w % 2

-- the byte of a gate that is not known, from the bytes of the wires before it; an AND that waited takes the first of the triples and of the
-- far bits left
unfoldable pub gate_byte : ℕ → Gate → Bool → List ℕ → List ℕ → List ℕ → ℕ
gate_byte role (Xor a b) waited bytes triples far =
    when known (bytes ! a) && known (bytes ! b) then 2 + bit_xor (share_in bytes a) (share_in bytes b) else 0
gate_byte role (Not a) waited bytes triples far = when known (bytes ! a) then 2 + not_share role (share_in bytes a) else 0
gate_byte role (And a b) waited bytes triples far =
    when waited then 2 + and_share role triples (share_in bytes a) (share_in bytes b) (far ! 0) (far ! 1)
    else (when known (bytes ! a) && known (bytes ! b) then 1 else 0)

-- through gates: the bytes of all wires, from those of the wires before these gates, those that stood from there on, and the triples and
-- far bits left. A known byte stays; each gate whose byte was 1 has two far bits
unfoldable pub round_on : ℕ → List Gate → List ℕ → List ℕ → List ℕ → List ℕ → List ℕ
round_on role [] bytes old triples far = bytes ++ old
round_on role (g ∷ gates) bytes old triples far =
    let byte = when known (old ! 0) then old ! 0 else gate_byte role g (waits (old ! 0)) bytes triples far in
    round_on role gates (bytes ++ (byte ∷ [])) (drop 1 old)
    (when is_and g then drop 3 triples else triples) (when waits (old ! 0) then drop 2 far else far)

-- the bits to send, two for each AND that waits after the round, which are those that it opened; `rest`: the bytes from these gates on
unfoldable pub opened_bits : List Gate → List ℕ → List ℕ → List ℕ → List ℕ
opened_bits [] bytes rest triples = []
opened_bits (Xor a b ∷ gates) bytes rest triples = opened_bits gates bytes (drop 1 rest) triples
opened_bits (Not a ∷ gates) bytes rest triples = opened_bits gates bytes (drop 1 rest) triples
opened_bits (And a b ∷ gates) bytes rest triples =
    (when waits (rest ! 0) then masked triples (share_in bytes a) (share_in bytes b) else [])
    ++ opened_bits gates bytes (drop 1 rest) (drop 3 triples)

-- a round tests the reading (10, 11, 17, 12), 3, 13, 8, 18, 9
abbrev pub round_tests : Circuit → Lent → List ℕ → List Test
round_tests c x state =
    eqb (length x.shares) c.inputs otherwise 3
    ∷ eqb (length x.triples % 3) 0 otherwise 3
    ∷ eqb (length x.far) (2 * count_of (length c.gates) (λ i. waits (state ! (c.inputs + i)))) otherwise 3
    ∷ leb (length c.outputs) (length x.output) otherwise 13
    ∷ leb (2 * ands c.gates) (length x.bits) otherwise 13
    ∷ are_bits x.shares otherwise 8
    ∷ are_bits x.triples otherwise 8
    ∷ are_bits x.far otherwise 8
    ∷ leb (3 * ands c.gates) (length x.triples) otherwise 18
    ∷ is_role x.role otherwise 9
    ∷ []

unfoldable pub round : Lent → List ℕ → Return × List ℕ
round x state =
    on_circuit x x.bits state (read_circuit x.circuit 0) λ c.
    let input_bytes = list c.inputs (λ i. when known (state ! i) then state ! i else (2 + x.shares ! i)) in
    let after = round_on x.role c.gates input_bytes (drop c.inputs state) x.triples x.far in
    let sent = opened_bits c.gates after (drop c.inputs after) x.triples in
    (ran x x.bits sent (map (share_in after) c.outputs) (round_tests c x state), after)

-- the level of a gate, from the levels of the wires before it: the most ANDs one behind the other on a way to it, itself included
unfoldable pub gate_level : Gate → List ℕ → ℕ
gate_level (Xor a b) levels = max (levels ! a) (levels ! b)
gate_level (And a b) levels = 1 + max (levels ! a) (levels ! b)
gate_level (Not a) levels = levels ! a

unfoldable pub wire_levels : Circuit → List ℕ
wire_levels c = over_gates gate_level c.gates (replicate c.inputs 0)

unfoldable pub highest : List ℕ → ℕ
highest [] = 0
highest (n ∷ l) = max n (highest l)

abbrev pub round_count : Circuit → ℕ
round_count c = highest (wire_levels c) + 1

-- ==== Runs of a circuit
-- a kind of runs: its fresh state, its call, the bits that a call sends, whether it ends the run
pub record RunKind : Type 1 where
  pub State : Type 0
  pub fresh : State
  pub call : Lent × State → Return × State
  pub sends : Return → List ℕ
  pub ends : Return × State → Bool

abbrev pub in_steps : RunKind
in_steps =
    record {
      State = StepState;
      fresh = step_state 0 0 (replicate 4096 0);
      call = λ (x, s). step x s;
      sends = λ r. get_or r.outputs 1 [];
      ends = λ (r, s). eqb s.phase 2;
    }

abbrev pub in_rounds : RunKind
in_rounds =
    record {
      State = List ℕ;
      fresh = replicate 4096 0;
      call = λ (x, s). round x s;
      sends = λ r. take (r.lengths ! 1) (get_or r.outputs 1 []);
      ends = λ (r, s). eqb (r.lengths ! 1) 0;
    }

-- of calls lent these in turn, each on the state that the call before left, the accepted ones with that state
unfoldable pub accepted_from : (K : RunKind) → K.State → List Lent → List (Lent × K.State)
accepted_from K s [] = []
accepted_from K s (x ∷ run) =
    let later = accepted_from K (K.call (x, s)).1 run in
    when eqb (K.call (x, s)).0.number 0 then ((x, s) ∷ later) else later

-- accepted call k, from 0, of a run is m; a call is accepted and ends the run
abbrev pub IsCall : (K : RunKind) → List Lent → ℕ → Lent × K.State → Type 0
IsCall K run k m = get_elem? (accepted_from K K.fresh run) k ≡ some m

abbrev pub Finished : (K : RunKind) → Lent × K.State → Type 0
Finished K m = ((K.call m).0.number ≡ 0) × (K.ends (K.call m) ≡ true)

-- each accepted call of a run is lent this circuit; a call is lent its end's role, circuit, shares and triples; each accepted one is
abbrev pub OnCircuit : RunKind → List ℕ → List Lent → Type 0
OnCircuit K circuit run = (k : ℕ) (m : Lent × K.State) → IsCall K run k m → m.0.circuit ≡ circuit

abbrev pub IsOwn : ℕ → List ℕ → List ℕ → List ℕ → Lent → Type 0
IsOwn role circuit shares triples x = (x.role ≡ role) × (x.circuit ≡ circuit) × (x.shares ≡ shares) × (x.triples ≡ triples)

abbrev pub Unaltered : RunKind → ℕ → List ℕ → List ℕ → List ℕ → List Lent → Type 0
Unaltered K role circuit shares triples run =
    (k : ℕ) (m : Lent × K.State) → IsCall K run k m → IsOwn role circuit shares triples m.0

-- accepted call k + 1 of a run that has not finished is lent what the far end's accepted call k sent
abbrev pub Receives : RunKind → List Lent → List Lent → Type 0
Receives K run far_run =
    (k : ℕ) (before m f : Lent × K.State) → IsCall K run k before → (Finished K before → ⊥) → IsCall K run (suc k) m → IsCall K far_run k f
    → m.0.far ≡ K.sends (K.call f).0

-- of the AND at gate i: the ANDs before it; its level; the ANDs of a level among the first n gates; the place of its bits in a round
abbrev pub ands_before : Circuit → ℕ → ℕ
ands_before c i = ands (take i c.gates)

abbrev pub level_at : Circuit → ℕ → ℕ
level_at c i = wire_levels c ! (c.inputs + i)

abbrev pub ands_at : Circuit → ℕ → ℕ → ℕ
ands_at c level n = count_of n (λ i. is_and (gate_at c i) && eqb (level_at c i) level)

abbrev pub place_at : Circuit → ℕ → ℕ
place_at c i = 2 * ands_at c (level_at c i) i

-- ==== Beyond the requests
-- the library's version, as the number 10000 × major + 100 × minor + patch
abbrev pub version : ℕ
version = 10000 * 2 + 100 * 2 + 0

-- what a record is: its number, end byte, head, N, how many words an element takes; and the record, as it was
abbrev pub Description : Type 0
Description = record { number : ℕ; end : ℕ; head : Head; leaves : ℕ; element_words : ℕ; source : List ℕ }

abbrev pub description : ℕ → ℕ → Head → ℕ → ℕ → List ℕ → Description
description number end h leaves element_words source =
    record { number = number; end = end; head = h; leaves = leaves; element_words = element_words; source = source }

-- of a record that is refused: its number, and zeros; of one that is accepted
abbrev pub undescribed : List ℕ → ℕ → Description
undescribed source k =
    let zeros : List ℕ = replicate 16 0 in
    description k 0 (record { field = 0; d = 0; g = 0; t = 0; ℓ = 0; n = 0; code_key = zeros; label = zeros }) 0 0 source

abbrev pub described : List ℕ → ℕ → Head → Description
described source end h = description 0 end h (N h) (F h).elements.width source

-- a record's number, or what follows from its content
unfoldable pub or_undescribed : {A : Type 0} → List ℕ → Read A → (A → Description) → Description
or_undescribed source (got a next) go = go a
or_undescribed source (fault k) go = undescribed source k

-- the end byte, 9 if it is neither end's, then the tests of that end's record
unfoldable pub describe : List ℕ → Description
describe source =
    or_undescribed source (test read_byte (λ e. eqb e 1 || eqb e 2) 9 source 0) λ e.
    when eqb e 1
    then or_undescribed source (read_noise source 0) (λ (h, trees). described source 1 h)
    else or_undescribed source (read_scalar source 0) (λ (h, Δ, roots). described source 2 h)

-- what a circuit is, its sizes in the place of lengths: inputs, gates, outputs, ANDs and rounds; zeros where its reading is refused
unfoldable pub circuit_described : List ℕ → Read Circuit → Return
circuit_described source (fault k) = returned k (replicate 5 0) (source ∷ []) []
circuit_described source (got c next) =
    returned 0 (c.inputs ∷ length c.gates ∷ length c.outputs ∷ ands c.gates ∷ round_count c ∷ []) (source ∷ []) []

abbrev pub describe_circuit : List ℕ → Return
describe_circuit source = circuit_described source (read_circuit source 0)

-- layers: one vector of words is added to another, word for word, by exclusive or in field 1 and modulo p in field 2, where each word is
-- below p; it tests 1, 3, 8
abbrev pub are_words : ℕ → List ℕ → Bool
are_words field l = eqb field 1 || every (length l) (λ k. ltb (l ! k) p)

unfoldable pub add : ℕ → List ℕ → List ℕ → Return
add field from into =
    let sum_at : ℕ → ℕ = λ k. when eqb field 1 then bit_xor (from ! k) (into ! k) else (from ! k + into ! k) % p in
    answer (from ∷ []) ((into, list (length into) sum_at) ∷ [])
    (is_field field otherwise 1
    ∷ eqb (length from) (length into) otherwise 3
    ∷ are_words field from otherwise 8
    ∷ are_words field into otherwise 8
    ∷ [])
