-- What document 01 says beyond each call alone, over its page (crates/page): demand 3, records, what is accepted, trees and rows, the pair
-- program on a dealing's own records, the starred cases. Each statement has one proof, in proofs/.
use Rattle.std.specs.Prelude.{ℕ, suc, ◌+◌, ◌-◌, ◌*◌, ◌/◌, ◌%◌, ◌^◌, ◌≤◌, ◌<◌, ◌≡◌, true, List, [], ◌∷◌, ◌++◌, map, ◌↔◌, ◌≢◌, eqb, leb, ltb, length, take, drop, get_or, replicate}
use Rattle.std.proofs.Math.Option.{some}
use Rattle.std.proofs.Math.ListN.{get_elem?}
use Rattle.page.specs.Document01.{when◌then◌else◌, ◌!◌, ◌otherwise◌, list, joined, every, front, word, s_box, Space, p, field_of, is_field, is_depth, is_branch, is_tree_count, is_term_count, is_output_count, is_noise_value, is_scalar, Head, F, N, children, levels, leaf, siblings_of, leaf_beside, Input, scalar, root, leaf_element_of, Tree, tree_at, dealt_tree, dealt_trees, write_number, write_trees, write_noise, write_scalar, noise_record, scalar_record, Read, got, read_number, read_noise, read_scalar, value_at, sum, accumulated, μ, term, place, output, block_at, Return, returned, on_record, Output, room, answer, deal, noise_offline, scalar_offline, noise_online, scalar_online, noise_pads, scalar_pads, decimal, line_text}

-- ==== Offline and online
-- the code matrix in row x at place j: the sum of the coefficients of those terms of the row whose place is j or more
unfoldable pub entry : Head → ℕ → ℕ → ℕ
entry h x j =
    sum (F h).noise_values h.ℓ (λ i. when leb j (place h x i) then ((F h).coefficient (word (term h x i) 8) ∷ []) else (0 ∷ [])) ! 0

-- ==== Lists of calls at both ends
-- from a dealing's input: u, the code matrix times the dealt noise; v and w, the outputs of the accumulated v0 and w0
unfoldable pub u : Input → ℕ → List ℕ
u D x =
    sum (F D.head).noise_values (N D.head) λ j.
    (F D.head).noise_values.multiple (entry D.head x j) (μ (dealt_trees D) D.head.t j)

unfoldable pub v : Input → ℕ → List ℕ
v D x =
    let v0 : ℕ → List ℕ = λ j. sum (F D.head).elements D.head.t λ i.
    when eqb (D.positions ! i) j then (dealt_tree D i).correction else leaf_element_of D i j in
    output (F D.head).elements D.head (accumulated (F D.head).elements v0) x

unfoldable pub w : Input → ℕ → List ℕ
w D x =
    let w0 : ℕ → List ℕ = λ j. sum (F D.head).elements D.head.t λ i. leaf_element_of D i j in
    output (F D.head).elements D.head (accumulated (F D.head).elements w0) x

-- w = Δu + v
abbrev pub Correlated : Input → List ℕ → List ℕ → List ℕ → Type 0
Correlated D u' v' w' = w' ≡ (F D.head).elements.plus ((F D.head).elements.multiple (u' ! 0) (scalar D)) v'

-- what lies in lent memory: bytes, positions of 32 bits, words of 64
abbrev pub Below : ℕ → List ℕ → Type 0
Below limit l = (i : ℕ) → l ! i < limit

abbrev pub InMemory : Input → Type 0
InMemory D =
    Below 256 D.roots × Below (2 ^ 32) D.positions × Below (2 ^ 64) D.values × Below 256 D.Δ
    × Below 256 D.head.code_key × Below 256 D.head.label

-- a slice of several; what a call wrote to output buffer i: its front, of the length returned
abbrev pub slice : List (List ℕ) → ℕ → List ℕ
slice l i = get_or l i []

abbrev pub wrote : Return → ℕ → List ℕ
wrote r i = take (r.lengths ! i) (slice r.outputs i)

-- an accepted dealing, and an accepted offline call of each end on its own record
pub record Setting (D : Input) : Type 0 where
  pub in_memory : InMemory D
  pub noise_buffer : List ℕ
  pub scalar_buffer : List ℕ
  pub dealt : (deal D noise_buffer scalar_buffer).number ≡ 0
  pub noise_out : List ℕ
  pub v_out : List ℕ
  pub noise_accepted : (noise_offline (wrote (deal D noise_buffer scalar_buffer) 0) noise_out v_out).number ≡ 0
  pub w_out : List ℕ
  pub ΔOut : List ℕ
  pub scalar_accepted : (scalar_offline (wrote (deal D noise_buffer scalar_buffer) 1) w_out ΔOut).number ≡ 0

abbrev pub noise_left : {D : Input} → Setting D → Return
noise_left {D} σ = noise_offline (wrote (deal D σ.noise_buffer σ.scalar_buffer) 0) σ.noise_out σ.v_out

abbrev pub scalar_left : {D : Input} → Setting D → Return
scalar_left {D} σ = scalar_offline (wrote (deal D σ.noise_buffer σ.scalar_buffer) 1) σ.w_out σ.ΔOut

-- a listed call: its window, and the output buffers that it lends
abbrev pub Call : Type 0
Call = record { first : ℕ; c : ℕ; buffers : List (List ℕ) }

-- an end: its record and vectors, its online call, what stands at place k of its output buffers, what the dealing has for them at index x
pub record End : Type 0 where
  pub memory : List (List ℕ)
  pub online : List (List ℕ) → Call → Return
  pub standing : List (List ℕ) → ℕ → List (List ℕ)
  pub dealt : ℕ → List (List ℕ)

abbrev pub noise_end : {D : Input} → Setting D → End
noise_end {D} σ =
    record {
      memory = slice (noise_left σ).inputs 0 ∷ wrote (noise_left σ) 0 ∷ wrote (noise_left σ) 1 ∷ [];
      online = λ m x. noise_online (slice m 0) (slice m 1) (slice m 2) x.first x.c (slice x.buffers 0) (slice x.buffers 1);
      standing = λ l k. value_at (F D.head).noise_values (slice l 0) k ∷ value_at (F D.head).elements (slice l 1) k ∷ [];
      dealt = λ x. u D x ∷ v D x ∷ [];
    }

abbrev pub scalar_end : {D : Input} → Setting D → End
scalar_end {D} σ =
    record {
      memory = slice (scalar_left σ).inputs 0 ∷ wrote (scalar_left σ) 0 ∷ [];
      online = λ m x. scalar_online (slice m 0) (slice m 1) x.first x.c (slice x.buffers 0);
      standing = λ l k. value_at (F D.head).elements (slice l 0) k ∷ [];
      dealt = λ x. w D x ∷ [];
    }

-- what the calls of a list return, each on the record and vectors that the call before left
unfoldable pub run : (List (List ℕ) → Call → Return) → List (List ℕ) → List Call → List Return
run online memory [] = []
run online memory (x ∷ calls) = online memory x ∷ run online (online memory x).inputs calls

-- what a listed call returns: 7 if its window passes n, else 13 if a buffer is too short, else what the dealing has in its window
abbrev pub listed : End → ℕ → Call → Return
listed E n x =
    let values : ℕ → List ℕ = λ i. joined x.c (λ k. slice (E.dealt (x.first + k)) i) in
    let outputs : List Output = list (length (E.dealt 0)) (λ i. (slice x.buffers i, values i)) in
    answer E.memory outputs (leb (x.first + x.c) n otherwise 7 ∷ map room outputs)

-- a list hands out a at index x: an accepted call of it has x in its window, first + k, and a stands at place k of its buffers
pub record HandsOut (E : End) (calls : List Call) (x : ℕ) (a : List (List ℕ)) : Type 0 where
  pub i : ℕ
  pub call : Call
  pub return : Return
  pub made : get_elem? calls i ≡ some call
  pub came : get_elem? (run E.online E.memory calls) i ≡ some return
  pub accepted : return.number ≡ 0
  pub k : ℕ
  pub within : k < call.c
  pub index : x ≡ call.first + k
  pub stands : a ≡ E.standing return.outputs k

-- the single claim about two lists of calls, one at each end: what every call returns and leaves; that what is handed out at x is the
-- dealing's; that the scalar end has the dealing's Δ, whole; w = Δu + v at each index that both hand out
pub record Claim {D : Input} (σ : Setting D) (noise_calls scalar_calls : List Call) : Type 0 where
  pub noise_returns : run (noise_end σ).online (noise_end σ).memory noise_calls ≡ map (listed (noise_end σ) D.head.n) noise_calls
  pub scalar_returns : run (scalar_end σ).online (scalar_end σ).memory scalar_calls ≡ map (listed (scalar_end σ) D.head.n) scalar_calls
  pub noise_hands : (x : ℕ) (a : List (List ℕ)) → HandsOut (noise_end σ) noise_calls x a → a ≡ u D x ∷ v D x ∷ []
  pub scalar_hands : (x : ℕ) (a : List (List ℕ)) → HandsOut (scalar_end σ) scalar_calls x a → a ≡ w D x ∷ []
  pub scalarΔ : wrote (scalar_left σ) 1 ≡ scalar D ! 0 ∷ scalar D ! 1 ∷ []
  pub correlated : (x : ℕ) (u' v' w' : List ℕ) → HandsOut (noise_end σ) noise_calls x (u' ∷ v' ∷ [])
      → HandsOut (scalar_end σ) scalar_calls x (w' ∷ []) → Correlated D u' v' w'

pub record Demand3 : Type 0 where
  pub outputs : (D : Input) (a b : List ℕ) → (deal D a b).number ≡ 0 → (x : ℕ) → x < D.head.n → Correlated D (u D x) (v D x) (w D x)
  pub lists : (D : Input) (σ : Setting D) (noise_calls scalar_calls : List Call) → Claim σ noise_calls scalar_calls
  -- accepted pad calls of both ends on one dealing of field 1, and an index x below n in both windows: where the bytes lent for x are v, u
  -- and w of output x, with the dealing's Δ, the noise end's 16 bytes for x are those of the message that the choice u names
  pub pads : (D : Input) → D.head.field ≡ 1 → (a b : List ℕ) → (deal D a b).number ≡ 0
      → (first c : ℕ) (vs choices pads : List ℕ) → (noise_pads first c vs choices pads).number ≡ 0
      → (first' c' : ℕ) (ws pads' : List ℕ) → (scalar_pads first' c' ws D.Δ pads').number ≡ 0
      → (x : ℕ) → x < D.head.n → (first ≤ x) × (x < first + c) → (first' ≤ x) × (x < first' + c')
      → block_at vs (x - first) ≡ v D x → choices ! (x - first) ∷ [] ≡ u D x → block_at ws (x - first') ≡ w D x
      → take 16 (drop (16 * (x - first)) (slice (noise_pads first c vs choices pads).outputs 0))
      ≡ take 16 (drop (32 * (x - first') + 16 * (choices ! (x - first))) (slice (scalar_pads first' c' ws D.Δ pads').outputs 0))

-- values written over the front of a buffer are read off it again
abbrev pub ReadsOff : Type 0
ReadsOff = (S : Space) (c : ℕ) (f : ℕ → List ℕ) (buffer : List ℕ) → ((k : ℕ) → length (f k) ≡ S.width)
    → (k : ℕ) → k < c → value_at S (front (joined c f) buffer) k ≡ f k

-- ==== Key records
abbrev pub IsBlock : List ℕ → Type 0
IsBlock b = (length b ≡ 16) × Below 256 b

unfoldable pub Each : {A : Type 0} → (A → Type 0) → List A → Type 0
Each P [] = Unit {0}
Each P (x ∷ l) = P x × Each P l

abbrev pub AdmittedHead : Head → Type 0
AdmittedHead h =
    (is_field h.field ≡ true) × (is_depth h.d ≡ true) × (is_branch h.d h.g ≡ true) × (is_tree_count h.d h.t ≡ true)
    × (is_term_count h.d h.ℓ ≡ true) × (is_output_count h.d h.n ≡ true) × IsBlock h.code_key × IsBlock h.label

abbrev pub AdmittedTree : Head → Tree → Type 0
AdmittedTree h x =
    (ltb x.position (N h) ≡ true) × (is_noise_value h.field x.value ≡ true)
    × (length x.correction ≡ (F h).elements.width) × Below (2 ^ 64) x.correction × ((F h).elements.is_value x.correction ≡ true)
    × (length x.siblings ≡ levels h * (children h - 1)) × Each IsBlock x.siblings

abbrev pub AdmittedNoise : Head → List Tree → Type 0
AdmittedNoise h trees =
    AdmittedHead h × (length trees ≡ h.t) × Each (AdmittedTree h) trees
    × (every (h.t - 1) (λ i. ltb (tree_at trees i).position (tree_at trees (suc i)).position) ≡ true)

abbrev pub AdmittedScalar : Head → List ℕ → List (List ℕ) → Type 0
AdmittedScalar h Δ roots =
    AdmittedHead h × (length Δ ≡ (F h).elements.width) × Below (2 ^ 64) Δ × (is_scalar h.field Δ ≡ true)
    × (length roots ≡ h.t) × Each IsBlock roots

abbrev pub Gives : {A : Type 0} → Read A → A → Type 0
Gives r a = (next : ℕ) × (r ≡ got a next)

pub record Records : Type 0 where
  -- what an accepted dealing wrote reads back as that end's part
  pub noise-back : (D : Input) → InMemory D → (a b : List ℕ) → (deal D a b).number ≡ 0
      → Gives (read_noise (wrote (deal D a b) 0) 0) (D.head, dealt_trees D)
  pub scalar-back : (D : Input) → InMemory D → (a b : List ℕ) → (deal D a b).number ≡ 0
      → Gives (read_scalar (wrote (deal D a b) 1) 0) (D.head, scalar D, list D.head.t (root D))
  -- an accepted record is the only writing of its content, which is admitted
  pub noise-one : (s : List ℕ) → Below 256 s → (h : Head) (trees : List Tree) → Gives (read_noise s 0) (h, trees)
      → AdmittedNoise h trees × (s ≡ write_noise h trees)
  pub scalar-one : (s : List ℕ) → Below 256 s → (h : Head) (Δ : List ℕ) (roots : List (List ℕ)) → Gives (read_scalar s 0) (h, Δ, roots)
      → AdmittedScalar h Δ roots × (s ≡ write_scalar h Δ roots)
  -- the writing of admitted content is accepted, whether a dealing wrote it or not
  pub noise-accepted : (h : Head) (trees : List Tree) → AdmittedNoise h trees → Gives (read_noise (write_noise h trees) 0) (h, trees)
  pub scalar-accepted : (h : Head) (Δ : List ℕ) (roots : List (List ℕ)) → AdmittedScalar h Δ roots
      → Gives (read_scalar (write_scalar h Δ roots) 0) (h, Δ, roots)
  pub one_end : (s : List ℕ) (x : Head × List Tree) (y : Head × List ℕ × List (List ℕ))
      → Gives (read_noise s 0) x → Gives (read_scalar s 0) y → ⊥

-- ==== Numbers of the calls: what is accepted (two dealings among the starred cases show it); the input that a dealing admits
abbrev pub Admitted : Input → Type 0
Admitted D =
    let h = D.head in
    (is_field h.field ≡ true) × (1 ≤ h.d) × (h.d ≤ 16) × (1 ≤ h.g) × (h.g ≤ 3) × (h.d % h.g ≡ 0) × (1 ≤ h.t) × (h.t ≤ 64)
    × (h.t ≤ N h) × (1 ≤ h.ℓ) × (h.ℓ ≤ 32) × (h.ℓ ≤ N h) × (1 ≤ h.n) × (h.n ≤ N h / 2)
    × (length D.roots ≡ 16 * h.t) × (length D.positions ≡ h.t) × (length D.values ≡ h.t) × (length D.Δ ≡ 16)
    × (length h.code_key ≡ 16) × (length h.label ≡ 16)
    × (every (h.t - 1) (λ i. ltb (D.positions ! i) (D.positions ! suc i)) ≡ true) × ((i : ℕ) → i < h.t → D.positions ! i < N h)
    × (h.field ≡ 1 → ((i : ℕ) → i < h.t → D.values ! i ≡ 1) × ((word D.Δ 0 ≡ 0) × (word D.Δ 8 ≡ 0) → ⊥))
    × (h.field ≡ 2 → ((i : ℕ) → i < h.t → (1 ≤ D.values ! i) × (D.values ! i ≤ p - 1))
    × (0 < word D.Δ 0) × (word D.Δ 0 < p) × (word D.Δ 8 ≡ 0))

pub record Acceptance : Type 0 where
  pub dealing : (D : Input) (a b : List ℕ)
      → (Admitted D × (length (noise_record D) ≤ length a) × (length (scalar_record D) ≤ length b)) ↔ (deal D a b).number ≡ 0
  -- offline, on every record that is read whole, whoever wrote it; and every window within n of a dealing
  pub noise-offline : (s noise_out v_out : List ℕ) (h : Head) (trees : List Tree) → Gives (read_noise s 0) (h, trees)
      → N h ≤ length noise_out → N h * (F h).elements.width ≤ length v_out → (noise_offline s noise_out v_out).number ≡ 0
  pub scalar-offline : (s w_out ΔOut : List ℕ) (h : Head) (Δ : List ℕ) (roots : List (List ℕ)) → Gives (read_scalar s 0) (h, Δ, roots)
      → N h * (F h).elements.width ≤ length w_out → 2 ≤ length ΔOut → (scalar_offline s w_out ΔOut).number ≡ 0
  pub noise-window : (D : Input) (σ : Setting D) (x : Call) → x.first + x.c ≤ D.head.n
      → x.c ≤ length (slice x.buffers 0) → x.c * (F D.head).elements.width ≤ length (slice x.buffers 1)
      → ((noise_end σ).online (noise_end σ).memory x).number ≡ 0
  pub scalar-window : (D : Input) (σ : Setting D) (x : Call) → x.first + x.c ≤ D.head.n
      → x.c * (F D.head).elements.width ≤ length (slice x.buffers 0)
      → ((scalar_end σ).online (scalar_end σ).memory x).number ≡ 0
  pub noise-pads : (first c : ℕ) (vs choices pads : List ℕ)
      → ((length vs ≡ 16 * c) × (length choices ≡ c) × (first + c ≤ 32768) × (16 * c ≤ length pads) × ((k : ℕ) → choices ! k ≤ 1))
      ↔ (noise_pads first c vs choices pads).number ≡ 0
  pub scalar-pads : (first c : ℕ) (ws Δ pads : List ℕ)
      → ((length ws ≡ 16 * c) × (length Δ ≡ 16) × (first + c ≤ 32768) × (block_at Δ 0 ≢ 0 ∷ 0 ∷ []) × (32 * c ≤ length pads))
      ↔ (scalar_pads first c ws Δ pads).number ≡ 0

-- ==== Trees, and rows: all leaves but q follow from the siblings at q, for any number of children; a row's ℓ places differ
pub record TreesAndRows : Type 0 where
  pub leaves : (k m : ℕ) (s : List ℕ) (q j : ℕ) → q < k ^ m → j < k ^ m → q ≢ j → leaf_beside k m (siblings_of k m s q) q j ≡ leaf k m s j
  pub places : (h : Head) → 1 ≤ h.ℓ → h.ℓ ≤ N h → (x i : ℕ) → i < h.ℓ
      → (place h x i < N h) × ((j : ℕ) → j < h.ℓ → place h x i ≡ place h x j → i ≡ j)

-- ==== Cases: a dealing's own records, of at most 1,024 leaves, print `checked n held n`
abbrev pub Held : Type 0
Held = (D : Input) → InMemory D → (a b : List ℕ) → (deal D a b).number ≡ 0 → N D.head ≤ 1024
    → line_text (wrote (deal D a b) 0) (wrote (deal D a b) 1)
    ≡ (99 ∷ 104 ∷ 101 ∷ 99 ∷ 107 ∷ 101 ∷ 100 ∷ 32 ∷ []) ++ (decimal 9 D.head.n
    ++ ((32 ∷ 104 ∷ 101 ∷ 108 ∷ 100 ∷ 32 ∷ []) ++ decimal 9 D.head.n))

-- the starred cases: what the page gives, and what document 01 says; records have the byte of g and the label's 16 bytes besides
unfoldable pub starred : List (List ℕ × List ℕ)
starred =
    let field2 : Space = (field_of 2).elements in
    let at : ℕ → ℕ → Tree = λ q y. record { position = q; value = y; correction = []; siblings = [] } in
    let zeros : ℕ → List ℕ = λ n. replicate n 0 in
    let h : ℕ → Head = λ f. record { field = f; d = 1; g = 1; t = 1; ℓ = 1; n = 1; code_key = zeros 16; label = zeros 16 } in
    let D : ℕ → Input = λ f. record { head = h f; roots = zeros 16; positions = 0 ∷ []; values = 1 ∷ []; Δ = 1 ∷ zeros 15 } in
    let dealt : ℕ → Return = λ f. deal (D f) (zeros 96) (zeros 96) in
    (s_box 0x00 ∷ s_box 0x53 ∷ [], 0x63 ∷ 0xed ∷ [])
    ∷ (write_number 127, 0x7f ∷ []) ∷ (write_number 128, 0x80 ∷ 0x01 ∷ [])
    ∷ (write_number 300, 0xac ∷ 0x02 ∷ []) ∷ (write_number 16384, 0x80 ∷ 0x80 ∷ 0x01 ∷ [])
    ∷ ((on_record [] [] (read_number (0x80 ∷ 0x00 ∷ []) 0) (λ x. returned 0 [] [] [])).number ∷ [], 11 ∷ [])
    ∷ (write_trees 1 0 (at 1 1 ∷ at 4 1 ∷ at 5 1 ∷ []), 1 ∷ 2 ∷ 0 ∷ [])
    ∷ (field2.multiple (2 ^ 60) (2 ∷ []), 1 ∷ []) ∷ (field2.multiple (p - 1) ((p - 1) ∷ []), 1 ∷ [])
    ∷ ((field_of 2).leaf_element (replicate 8 0xff), 7 ∷ [])
    ∷ (joined 8 (accumulated (field_of 1).noise_values (μ (at 1 1 ∷ at 4 1 ∷ []) 2)), 0 ∷ 1 ∷ 1 ∷ 1 ∷ 0 ∷ 0 ∷ 0 ∷ 0 ∷ [])
    ∷ (joined 8 (accumulated (field_of 2).noise_values (μ (at 1 5 ∷ at 4 (p - 2) ∷ []) 2)), 0 ∷ 5 ∷ 5 ∷ 5 ∷ 3 ∷ 3 ∷ 3 ∷ 3 ∷ [])
    ∷ (field2.minus (7 ∷ []) (field2.multiple 5 (3 ∷ [])), (p - 8) ∷ [])
    ∷ ((dealt 1).number ∷ (dealt 1).lengths, 0 ∷ 72 ∷ 71 ∷ [])
    ∷ ((dealt 2).number ∷ (dealt 2).lengths, 0 ∷ 72 ∷ 63 ∷ [])
    ∷ []

abbrev pub Cases : Type 0
Cases = map (λ (given, said). given) starred ≡ map (λ (given, said). said) starred
