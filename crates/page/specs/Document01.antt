-- Document 01 on one page: what its seven calls and the pair program's line return and leave, for every input. Requests 4 (pads in two
-- steps), 7 (full rows), 8 (a label) and 10 (four or eight children) of document 02 are worked in. The contracts of `expander` and
-- `pair_line` cite it. It needs nothing but whole numbers (`a - b` is 0 where b is more), lists, truth values and exclusive or.
-- A buffer is the list of its bytes or words, a block that of its 16 bytes. `pub`, `unfoldable` and `abbrev` are for proofs alone.
use Rattle.std.specs.Prelude.{ℕ, zero, suc, ◌+◌, ◌-◌, ◌*◌, ◌/◌, ◌%◌, ◌^◌, min, Bool, true, false, not, ◌&&◌, ◌||◌, List, [], ◌∷◌, ◌++◌, map, eqb, leb, ltb, length, take, drop, get_or, replicate}
use Rattle.std.specs.Int.Bits.{bit_xor}

infix 20 when◌then◌else◌
infixl 85 ◌!◌
infix 68 ◌otherwise◌
infixr 10 ◌>>=◌
-- ==== Lists, bytes and words
unfoldable pub when◌then◌else◌ : {A : Type 0} → Bool → A → A → A
when true then a else b = a
when false then a else b = b

-- member i of a list of numbers, 0 past its end
abbrev pub ◌!◌ : List ℕ → ℕ → ℕ
l ! i = get_or l i 0

-- f 0 to f (n − 1): as a list; one list after another; whether all hold
unfoldable pub list : {A : Type 0} → ℕ → (ℕ → A) → List A
list zero f = []
list (suc n) f = list n f ++ (f n ∷ [])

unfoldable pub joined : ℕ → (ℕ → List ℕ) → List ℕ
joined zero f = []
joined (suc n) f = joined n f ++ f n

unfoldable pub every : ℕ → (ℕ → Bool) → Bool
every zero f = true
every (suc n) f = every n f && f n

-- what each member of a list is written as, one after another
unfoldable pub each : {A : Type 0} → (A → List ℕ) → List A → List ℕ
each write [] = []
each write (a ∷ l) = write a ++ each write l

-- the exclusive or of two lists of n numbers
unfoldable pub xor : ℕ → List ℕ → List ℕ → List ℕ
xor n a b = list n (λ i. bit_xor (a ! i) (b ! i))

-- LE, least byte first: the number of a list of bytes; a number's n lowest bytes
unfoldable pub from_bytes : List ℕ → ℕ
from_bytes [] = 0
from_bytes (b ∷ l) = b + 256 * from_bytes l

unfoldable pub to_bytes : ℕ → ℕ → List ℕ
to_bytes zero x = []
to_bytes (suc n) x = x % 256 ∷ to_bytes n (x / 256)

-- the LE word of the eight bytes from place k on; a block's two words; the block of two words
unfoldable pub word : List ℕ → ℕ → ℕ
word s k = from_bytes (list 8 (λ i. s ! (k + i)))

unfoldable pub words : List ℕ → List ℕ
words b = word b 0 ∷ word b 8 ∷ []

unfoldable pub block : List ℕ → List ℕ
block l = to_bytes 8 (l ! 0) ++ to_bytes 8 (l ! 1)

-- a buffer with a list written over its front
abbrev pub front : List ℕ → List ℕ → List ℕ
front l buffer = l ++ drop (length l) buffer

-- ==== What the unit contains
-- E is AES-128 of FIPS 197 (2001, updated 2023); its sections are named. Byte 4c + r of a block is row r of column c of the state.
-- 4.2: a byte times x; the product of a with the n lowest bits of b
unfoldable pub xtime : ℕ → ℕ
xtime b = bit_xor (b / 128 * 0x1b) (b * 2 % 256)

unfoldable pub times : ℕ → ℕ → ℕ → ℕ
times zero a b = 0
times (suc n) a b = bit_xor (b % 2 * a) (times n (xtime a) (b / 2))

-- 4.4: b^2 · b^4 · .. · b^(2^n); for n = 7 that is b^254, the inverse of b, and 00 for 00
unfoldable pub squares : ℕ → ℕ → ℕ
squares zero b = 1
squares (suc n) b = times 8 (times 8 b b) (squares n (times 8 b b))

-- bit i mod 8 of a byte; the number whose bit i is f i, for i below n
abbrev pub bit : ℕ → ℕ → ℕ
bit b i = b / 2 ^ (i % 8) % 2

unfoldable pub from_bits : ℕ → (ℕ → ℕ) → ℕ
from_bits zero f = 0
from_bits (suc n) f = from_bits n f + f n * 2 ^ n

-- 5.1.1: the S-box is the inverse, then the affine step with 63; SubBytes; 5.1.2: ShiftRows
unfoldable pub s_box : ℕ → ℕ
s_box b =
    let y : ℕ → ℕ = bit (squares 7 b) in
    from_bits 8 λ i.
    bit_xor (y i) (bit_xor (y (i + 4)) (bit_xor (y (i + 5)) (bit_xor (y (i + 6)) (bit_xor (y (i + 7)) (bit 0x63 i)))))

unfoldable pub sub_bytes : List ℕ → List ℕ
sub_bytes s = list 16 (λ i. s_box (s ! i))

unfoldable pub shift_rows : List ℕ → List ℕ
shift_rows s = list 16 (λ i. s ! ((i + 4 * (i % 4)) % 16))

-- 5.1.3: row i mod 4 of a column is 2 times that row, 3 times the next, and the two after it
unfoldable pub mix_columns : List ℕ → List ℕ
mix_columns s = list 16 λ i.
    let b : ℕ → ℕ = λ k. s ! (i - i % 4 + (i + k) % 4) in
    bit_xor (bit_xor (bit_xor (times 8 2 (b 0)) (times 8 3 (b 1))) (b 2)) (b 3)

-- 5.2: x^n; Rcon[j] is x^(j − 1) and three zeros
unfoldable pub power : ℕ → ℕ
power zero = 1
power (suc n) = xtime (power n)

abbrev pub rcon : ℕ → List ℕ
rcon j = power (j - 1) ∷ 0 ∷ 0 ∷ 0 ∷ []

abbrev pub rot_word : List ℕ → List ℕ
rot_word w = list 4 (λ r. w ! ((r + 1) % 4))

abbrev pub sub_word : List ℕ → List ℕ
sub_word w = list 4 (λ r. s_box (w ! r))

-- temp, which is added to w[i − 4], from w[i − 1]
unfoldable pub temp : ℕ → List ℕ → List ℕ
temp i w = when eqb (i % 4) 0 then xor 4 (sub_word (rot_word w)) (rcon (i / 4)) else w

-- FIPS 197's words, of four bytes: w[0] to w[n + 3]; round key i is w[4i] to w[4i + 3]
unfoldable pub schedule : List ℕ → ℕ → List (List ℕ)
schedule key zero = list 4 (λ c. list 4 (λ r. key ! (4 * c + r)))
schedule key (suc n) =
    let i = n + 4 in
    let w = schedule key n in
    w ++ (xor 4 (get_or w (i - 4) []) (temp i (get_or w (i - 1) [])) ∷ [])

unfoldable pub round_key : List ℕ → ℕ → List ℕ
round_key key i = list 16 (λ j. get_or (schedule key 40) (4 * i + j / 4) [] ! (j % 4))

-- 5.1: the state after the first AddRoundKey and n rounds; the last of ten rounds is without MixColumns
unfoldable pub rounds : List ℕ → List ℕ → ℕ → List ℕ
rounds key s zero = xor 16 s (round_key key 0)
rounds key s (suc n) = xor 16 (mix_columns (shift_rows (sub_bytes (rounds key s n)))) (round_key key (suc n))

unfoldable pub E : List ℕ → List ℕ → List ℕ
E key s = xor 16 (shift_rows (sub_bytes (rounds key s 9))) (round_key key 10)

-- ==== Two fields
-- values as lists of words: how many words, which words are a value, sum, difference, multiple by a noise value or a coefficient
pub record Space : Type 0 where
  pub width : ℕ
  pub is_value : List ℕ → Bool
  pub plus : List ℕ → List ℕ → List ℕ
  pub minus : List ℕ → List ℕ → List ℕ
  pub multiple : ℕ → List ℕ → List ℕ

-- the numbers below m, modulo m
abbrev pub modulo : ℕ → Space
modulo m =
    record {
      width = 1;
      is_value = λ a. ltb (a ! 0) m;
      plus = λ a b. (a ! 0 + b ! 0) % m ∷ [];
      minus = λ a b. (a ! 0 + (m - b ! 0 % m)) % m ∷ [];
      multiple = λ y a. (y * a ! 0) % m ∷ [];
    }

-- blocks as two words, under exclusive or
abbrev pub blocks : Space
blocks = record { width = 2; is_value = λ a. true; plus = xor 2; minus = xor 2; multiple = λ y a. when eqb y 1 then a else (0 ∷ 0 ∷ []) }

abbrev pub p : ℕ
p = 2 ^ 61 - 1

-- a field: its noise values and its elements, the element of a leaf's block, the coefficient that a row's term takes from a word
abbrev pub Field : Type 0
Field = record { noise_values : Space; elements : Space; leaf_element : List ℕ → List ℕ; coefficient : ℕ → ℕ }

-- the field of a number: 1 is binary, 2 prime
abbrev pub is_field : ℕ → Bool
is_field f = eqb f 1 || eqb f 2

unfoldable pub field_of : ℕ → Field
field_of f =
    when eqb f 1
    then record { noise_values = modulo 2; elements = blocks; leaf_element = words; coefficient = λ w. 1 }
    else record { noise_values = modulo p; elements = modulo p; leaf_element = λ b. word b 0 % p ∷ []; coefficient = λ w. w % p }

-- ==== Sizes
-- 1 to the largest
abbrev pub within : ℕ → ℕ → Bool
within top x = leb 1 x && leb x top

abbrev pub is_depth : ℕ → Bool
is_depth d = within 16 d

-- g divides d (document 02, 10); below, ℓ is at most 32 and N (document 02, 7)
abbrev pub is_branch : ℕ → ℕ → Bool
is_branch d g = within 3 g && eqb (d % g) 0

abbrev pub is_tree_count : ℕ → ℕ → Bool
is_tree_count d t = within (min 64 (2 ^ d)) t

abbrev pub is_term_count : ℕ → ℕ → Bool
is_term_count d ℓ = within (min 32 (2 ^ d)) ℓ

abbrev pub is_output_count : ℕ → ℕ → Bool
is_output_count d n = within (2 ^ d / 2) n

-- what both records of a dealing begin with: the field's number, the sizes, the code key and the label (document 02, 8)
abbrev pub Head : Type 0
Head = record { field : ℕ; d : ℕ; g : ℕ; t : ℕ; ℓ : ℕ; n : ℕ; code_key : List ℕ; label : List ℕ }

abbrev pub F : Head → Field
F h = field_of h.field

abbrev pub N : Head → ℕ
N h = 2 ^ h.d

-- the children of a node, and the levels of a tree (document 02, 10)
abbrev pub children : Head → ℕ
children h = 2 ^ h.g

abbrev pub levels : Head → ℕ
levels h = h.d / h.g

-- ==== Trees
-- child c of node s, under sixteen bytes c; in this part k is the number of children, m that of levels (document 02, 10)
unfoldable pub child : ℕ → List ℕ → List ℕ
child c s = xor 16 (E (list 16 (λ i. c)) s) s

-- the step towards leaf j at a node whose children have m levels below them: digit m of j to the base k, counted from the lowest
abbrev pub digit : ℕ → ℕ → ℕ → ℕ
digit k m j = j / k ^ m % k

-- leaf j below node s, m levels down
unfoldable pub leaf : ℕ → ℕ → List ℕ → ℕ → List ℕ
leaf k zero s j = s
leaf k (suc m) s j = leaf k m (child (digit k m j) s) j

-- the tree below s punctured at j: the siblings beside the path, top first, each level's in rising order
unfoldable pub siblings_of : ℕ → ℕ → List ℕ → ℕ → List (List ℕ)
siblings_of k zero s j = []
siblings_of k (suc m) s j =
    let c = digit k m j in
    let nodes = list k (λ b. child b s) in
    take c nodes ++ drop (suc c) nodes ++ siblings_of k m (child c s) j

-- leaf j from the siblings of a tree punctured at q: it lies below the sibling where the path to j leaves that to q (none for j = q)
unfoldable pub leaf_beside : ℕ → ℕ → List (List ℕ) → ℕ → ℕ → List ℕ
leaf_beside k zero siblings q j = []
leaf_beside k (suc m) siblings q j =
    let a = digit k m q in
    let b = digit k m j in
    when eqb a b then leaf_beside k m (drop (k - 1) siblings) q j
    else leaf k m (get_or siblings (when ltb b a then b else (b - 1)) []) j

-- ==== Dealing
-- the head, t roots one after another (16 t bytes), t positions, t noise values, the 16 bytes of Δ
abbrev pub Input : Type 0
Input = record { head : Head; roots : List ℕ; positions : List ℕ; values : List ℕ; Δ : List ℕ }

-- a noise value that a dealing admits; an element that may be Δ, not zero
abbrev pub is_noise_value : ℕ → ℕ → Bool
is_noise_value f y = when eqb f 1 then eqb y 1 else (leb 1 y && leb y (p - 1))

abbrev pub is_scalar : ℕ → List ℕ → Bool
is_scalar f Δ = (field_of f).elements.is_value Δ && not (every (field_of f).elements.width (λ i. eqb (Δ ! i) 0))

-- Δ as an element; field 2 uses the first eight bytes
abbrev pub scalar : Input → List ℕ
scalar D = when eqb D.head.field 1 then words D.Δ else (word D.Δ 0 ∷ [])

abbrev pub root : Input → ℕ → List ℕ
root D i = list 16 (λ k. D.roots ! (16 * i + k))

-- tree i: the element of leaf j
abbrev pub leaf_element_of : Input → ℕ → ℕ → List ℕ
leaf_element_of D i j = (F D.head).leaf_element (leaf (children D.head) (levels D.head) (root D i) j)

-- a punctured tree, as the noise end has it
abbrev pub Tree : Type 0
Tree = record { position : ℕ; value : ℕ; correction : List ℕ; siblings : List (List ℕ) }

-- tree i of a dealing; the correction is the leaf's element at the position, minus Δ × the noise value
unfoldable pub dealt_tree : Input → ℕ → Tree
dealt_tree D i =
    let elements = (F D.head).elements in
    let q = D.positions ! i in
    record {
      position = q;
      value = D.values ! i;
      correction = elements.minus (leaf_element_of D i q) (elements.multiple (D.values ! i) (scalar D));
      siblings = siblings_of (children D.head) (levels D.head) (root D i) q;
    }

abbrev pub dealt_trees : Input → List Tree
dealt_trees D = list D.head.t (dealt_tree D)

-- ==== Key records
-- their writing: a number in groups of seven bits, lowest first, in the shortest form; the head; the records
unfoldable pub write_number : ℕ → List ℕ
write_number x =
    when ltb x 128 then (x ∷ [])
    else (when ltb x 16384 then ((128 + x % 128) ∷ x / 128 ∷ []) else ((128 + x % 128) ∷ (128 + x / 128 % 128) ∷ x / 16384 ∷ []))

unfoldable pub write_head : ℕ → Head → List ℕ
write_head end h = end ∷ h.field ∷ each write_number (h.d ∷ h.g ∷ h.t ∷ h.ℓ ∷ h.n ∷ []) ++ h.code_key ++ h.label

-- `base` is 0 before the first tree, then one more than the position before
unfoldable pub write_trees : ℕ → ℕ → List Tree → List ℕ
write_trees f base [] = []
write_trees f base (x ∷ trees) =
    write_number (x.position - base)
    ++ (when eqb f 1 then [] else to_bytes 8 x.value)
    ++ each (to_bytes 8) x.correction
    ++ each (λ b. b) x.siblings
    ++ write_trees f (x.position + 1) trees

unfoldable pub write_noise : Head → List Tree → List ℕ
write_noise h trees = write_head 1 h ++ write_trees h.field 0 trees

unfoldable pub write_scalar : Head → List ℕ → List (List ℕ) → List ℕ
write_scalar h Δ roots = write_head 2 h ++ each (to_bytes 8) Δ ++ each (λ b. b) roots

-- the two records of a dealing
abbrev pub noise_record : Input → List ℕ
noise_record D = write_noise D.head (dealt_trees D)

abbrev pub scalar_record : Input → List ℕ
scalar_record D = write_scalar D.head (scalar D) (list D.head.t (root D))

-- their reading, from a place in a record on: what was read and the place after it, or the number of a fault
pub data Read (A : Type 0) : Type 0 where
  got : A → ℕ → Read A
  fault : ℕ → Read A

abbrev pub Reader : Type 0 → Type 0
Reader A = List ℕ → ℕ → Read A

-- `do`: one reader after another, up to the first fault
unfoldable pub and_then : {A B : Type 0} → Read A → (A → ℕ → Read B) → Read B
and_then (got a next) k = k a next
and_then (fault n) k = fault n

abbrev pub ◌>>=◌ : {A B : Type 0} → Reader A → (A → Reader B) → Reader B
◌>>=◌ r k s at = and_then (r s at) (λ a next. k a s next)

abbrev pub give : {A : Type 0} → A → Reader A
give a s at = got a at

abbrev pub fail : {A : Type 0} → ℕ → Reader A
fail k s at = fault k

-- the next `count` bytes, read as `value` says; 10: the record ends inside them
unfoldable pub item : {A : Type 0} → ℕ → (List ℕ → ℕ → A) → Reader A
item count value s at = when leb (at + count) (length s) then got (value s at) (at + count) else fault 10

-- what was read, tested once it is whole
unfoldable pub test : {A : Type 0} → Reader A → (A → Bool) → ℕ → Reader A
test r ok k = r >>= λ a. when ok a then give a else fail k

abbrev pub read_byte : Reader ℕ
read_byte = item 1 (λ s at. s ! at)

abbrev pub block_from : List ℕ → ℕ → List ℕ
block_from s at = take 16 (drop at s)

abbrev pub read_blocks : ℕ → Reader (List (List ℕ))
read_blocks n = item (16 * n) (λ s at. list n (λ i. block_from s (at + 16 * i)))

abbrev pub read_words : ℕ → Reader (List ℕ)
read_words n = item (8 * n) (λ s at. list n (λ i. word s (at + 8 * i)))

-- a number: 11 if the last of several groups is 0, or if the third byte's top bit is set
unfoldable pub read_number : Reader ℕ
read_number = do
  a ← read_byte
  when ltb a 128 then give a else do
    b ← read_byte
    when ltb b 128 then (when eqb b 0 then fail 11 else give (a - 128 + b * 128)) else do
      c ← read_byte
      when ltb c 128 then (when eqb c 0 then fail 11 else give (a - 128 + (b - 128) * 128 + c * 16384)) else fail 11

unfoldable pub read_head : ℕ → Reader Head
read_head end = do
  e ← test read_byte (λ e. eqb e end) 9
  f ← test read_byte is_field 1
  d ← test read_number is_depth 2
  g ← test read_number (is_branch d) 2
  t ← test read_number (is_tree_count d) 2
  ℓ ← test read_number (is_term_count d) 2
  n ← test read_number (is_output_count d) 2
  code_key ← item 16 block_from
  label ← item 16 block_from
  give (record { field = f; d = d; g = g; t = t; ℓ = ℓ; n = n; code_key = code_key; label = label })

-- a tree whose position is `base` or more
unfoldable pub read_tree : Head → ℕ → Reader Tree
read_tree h base = do
  position ← test (read_number >>= λ x. give (base + x)) (λ q. ltb q (N h)) 4
  value ← when eqb h.field 1 then give 1 else test (item 8 word) (is_noise_value h.field) 5
  correction ← test (read_words (F h).elements.width) (F h).elements.is_value 8
  siblings ← read_blocks (levels h * (children h - 1))
  give (record { position = position; value = value; correction = correction; siblings = siblings })

unfoldable pub read_trees : Head → ℕ → ℕ → Reader (List Tree)
read_trees h zero base = give []
read_trees h (suc n) base = do
  x ← read_tree h base
  trees ← read_trees h n (x.position + 1)
  give (x ∷ trees)

-- 12: bytes after the record
unfoldable pub ended : {A : Type 0} → A → Reader A
ended a s at = when ltb at (length s) then fault 12 else got a at

unfoldable pub read_noise : Reader (Head × List Tree)
read_noise = do
  h ← read_head 1
  trees ← read_trees h h.t 0
  ended (h, trees)

unfoldable pub read_scalar : Reader (Head × List ℕ × List (List ℕ))
read_scalar = do
  h ← read_head 2
  Δ ← test (read_words (F h).elements.width) (is_scalar h.field) 6
  roots ← read_blocks h.t
  ended (h, Δ, roots)

-- ==== Offline and online
-- value j of a list of words
abbrev pub value_at : Space → List ℕ → ℕ → List ℕ
value_at S l j = list S.width (λ k. l ! (j * S.width + k))

-- f 0 + .. + f (n − 1); at j, the sum of places 0 to j
unfoldable pub sum : Space → ℕ → (ℕ → List ℕ) → List ℕ
sum S zero f = replicate S.width 0
sum S (suc n) f = S.plus (sum S n f) (f n)

abbrev pub accumulated : Space → (ℕ → List ℕ) → ℕ → List ℕ
accumulated S f j = sum S (suc j) f

abbrev pub tree_at : List Tree → ℕ → Tree
tree_at trees i = get_or trees i (record { position = 0; value = 0; correction = []; siblings = [] })

-- μ at j, of the first i trees: the noise value at its position, zero elsewhere
unfoldable pub μ : List Tree → ℕ → ℕ → List ℕ
μ trees zero j = 0 ∷ []
μ trees (suc i) j = when eqb (tree_at trees i).position j then ((tree_at trees i).value ∷ []) else μ trees i j

-- v0 at j: the sum of the trees' leaves, the correction standing in for the punctured leaf
unfoldable pub v0 : Head → List Tree → ℕ → List ℕ
v0 h trees j =
    sum (F h).elements h.t λ i.
    let x = tree_at trees i in
    when eqb x.position j then x.correction
    else (F h).leaf_element (leaf_beside (children h) (levels h) x.siblings x.position j)

-- w0 at j: the sum of all leaves
unfoldable pub w0 : Head → List (List ℕ) → ℕ → List ℕ
w0 h roots j = sum (F h).elements h.t λ i. (F h).leaf_element (leaf (children h) (levels h) (get_or roots i []) j)

-- term i of row x: its block; its place, in strip i of ℓ (document 02, 7)
unfoldable pub term : Head → ℕ → ℕ → List ℕ
term h x i = E h.code_key (block (x ∷ i ∷ []))

unfoldable pub place : Head → ℕ → ℕ → ℕ
place h x i = let strip = N h / h.ℓ in i * strip + word (term h x i) 0 % strip

-- output x of an accumulated vector: the sum of coefficient × the value at the place
unfoldable pub output : Space → Head → (ℕ → List ℕ) → ℕ → List ℕ
output S h f x = sum S h.ℓ λ i. S.multiple ((F h).coefficient (word (term h x i) 8)) (f (place h x i))

-- whether every place that rows first to first + c − 1 read passes a test
unfoldable pub every_used : Head → ℕ → ℕ → (ℕ → Bool) → Bool
every_used h first c ok = every c (λ k. every h.ℓ (λ i. ok (place h (first + k) i)))

-- ==== Pads
-- E under sixteen bytes FF; the pad of index x and block w, in two steps (document 02, 4); blocks stand as their two words
unfoldable pub under_ff : List ℕ → List ℕ
under_ff w = words (E (list 16 (λ i. 0xff)) (block w))

unfoldable pub pad : ℕ → List ℕ → List ℕ
pad x w = let a = under_ff w in xor 2 (under_ff (xor 2 a (x ∷ 0 ∷ []))) a

-- block k of a slice of bytes, as its two words
abbrev pub block_at : List ℕ → ℕ → List ℕ
block_at l k = word l (k * 16) ∷ word l (k * 16 + 8) ∷ []

-- ==== Numbers of the calls
-- what stands when a call returns: its number, the lengths written, the slices lent to be read, the output buffers
abbrev pub Return : Type 0
Return = record { number : ℕ; lengths : List ℕ; inputs : List (List ℕ); outputs : List (List ℕ) }

abbrev pub returned : ℕ → List ℕ → List (List ℕ) → List (List ℕ) → Return
returned number lengths inputs outputs = record { number = number; lengths = lengths; inputs = inputs; outputs = outputs }

-- a refused call: its number, zero for each length, all lent memory as it was
abbrev pub refused : List (List ℕ) → List (List ℕ) → ℕ → Return
refused inputs buffers k = returned k (map (λ b. 0) buffers) inputs buffers

-- an output buffer, and what is to be written over its front
abbrev pub Output : Type 0
Output = List ℕ × List ℕ

-- a test, and the number of the fault where it fails; 13: room in an output buffer
pub data Test : Type 0 where
  ◌otherwise◌ : Bool → ℕ → Test

abbrev pub room : Output → Test
room (buffer, l) = leb (length l) (length buffer) otherwise 13

-- a call: refused by the first test that fails; else 0, and each output written with its length, memory past it untouched
unfoldable pub answer : List (List ℕ) → List Output → List Test → Return
answer inputs outputs [] = returned 0 (map (λ (buffer, l). length l) outputs) inputs (map (λ (buffer, l). front l buffer) outputs)
answer inputs outputs (ok otherwise k ∷ tests) =
    when ok then answer inputs outputs tests else refused inputs (map (λ (buffer, l). buffer) outputs) k

-- a call on a record: refused with the record's number, else what follows from its content
unfoldable pub on_record : {A : Type 0} → List (List ℕ) → List (List ℕ) → Read A → (A → Return) → Return
on_record inputs buffers (got a next) call = call a
on_record inputs buffers (fault k) call = refused inputs buffers k

-- the dealing tests 1, 2, 3, 4, 5, 6, 13
abbrev pub deal_tests : Input → List ℕ → List ℕ → List Test
deal_tests D noise_buffer scalar_buffer =
    let h = D.head in
    let q : ℕ → ℕ = λ i. D.positions ! i in
    is_field h.field otherwise 1
    ∷ is_depth h.d otherwise 2
    ∷ is_branch h.d h.g otherwise 2
    ∷ is_tree_count h.d h.t otherwise 2
    ∷ is_term_count h.d h.ℓ otherwise 2
    ∷ is_output_count h.d h.n otherwise 2
    ∷ eqb (length D.roots) (16 * h.t) otherwise 3
    ∷ eqb (length D.positions) h.t otherwise 3
    ∷ eqb (length D.values) h.t otherwise 3
    ∷ eqb (length D.Δ) 16 otherwise 3
    ∷ eqb (length h.code_key) 16 otherwise 3
    ∷ eqb (length h.label) 16 otherwise 3
    ∷ (every (h.t - 1) (λ i. ltb (q i) (q (suc i))) && every h.t (λ i. ltb (q i) (N h))) otherwise 4
    ∷ every h.t (λ i. is_noise_value h.field (D.values ! i)) otherwise 5
    ∷ (is_scalar h.field (scalar D) && (eqb h.field 1 || eqb (word D.Δ 8) 0)) otherwise 6
    ∷ room (noise_buffer, noise_record D)
    ∷ room (scalar_buffer, scalar_record D)
    ∷ []

unfoldable pub deal : Input → List ℕ → List ℕ → Return
deal D noise_buffer scalar_buffer =
    answer (D.roots ∷ D.positions ∷ D.values ∷ D.Δ ∷ D.head.code_key ∷ D.head.label ∷ [])
    ((noise_buffer, noise_record D) ∷ (scalar_buffer, scalar_record D) ∷ [])
    (deal_tests D noise_buffer scalar_buffer)

-- offline tests the record, 13
unfoldable pub noise_offline : List ℕ → List ℕ → List ℕ → Return
noise_offline source noise_out v_out =
    on_record (source ∷ []) (noise_out ∷ v_out ∷ []) (read_noise source 0) λ (h, trees).
    let noise' : Output = (noise_out, joined (N h) (accumulated (F h).noise_values (μ trees h.t))) in
    let v' : Output = (v_out, joined (N h) (accumulated (F h).elements (v0 h trees))) in
    answer (source ∷ []) (noise' ∷ v' ∷ []) (room noise' ∷ room v' ∷ [])

unfoldable pub scalar_offline : List ℕ → List ℕ → List ℕ → Return
scalar_offline source w_out ΔOut =
    on_record (source ∷ []) (w_out ∷ ΔOut ∷ []) (read_scalar source 0) λ (h, Δ, roots).
    let w' : Output = (w_out, joined (N h) (accumulated (F h).elements (w0 h roots))) in
    let Δ' : Output = (ΔOut, Δ ! 0 ∷ (when eqb h.field 1 then Δ ! 1 else 0) ∷ []) in
    answer (source ∷ []) (w' ∷ Δ' ∷ []) (room w' ∷ room Δ' ∷ [])

-- online tests the record, 3, 7, 13, 8
unfoldable pub noise_online : List ℕ → List ℕ → List ℕ → ℕ → ℕ → List ℕ → List ℕ → Return
noise_online source noise v first c u_out v_out =
    on_record (source ∷ noise ∷ v ∷ []) (u_out ∷ v_out ∷ []) (read_noise source 0) λ (h, trees).
    let noise_values = (F h).noise_values in
    let elements = (F h).elements in
    let u' : Output = (u_out, joined c (λ k. output noise_values h (value_at noise_values noise) (first + k))) in
    let v' : Output = (v_out, joined c (λ k. output elements h (value_at elements v) (first + k))) in
    answer (source ∷ noise ∷ v ∷ []) (u' ∷ v' ∷ [])
    (eqb (length noise) (N h) otherwise 3
    ∷ eqb (length v) (N h * elements.width) otherwise 3
    ∷ leb (first + c) h.n otherwise 7
    ∷ room u'
    ∷ room v'
    ∷ every_used h first c (λ j. noise_values.is_value (value_at noise_values noise j) && elements.is_value (value_at elements v j))
    otherwise 8
    ∷ [])

unfoldable pub scalar_online : List ℕ → List ℕ → ℕ → ℕ → List ℕ → Return
scalar_online source w first c w_out =
    on_record (source ∷ w ∷ []) (w_out ∷ []) (read_scalar source 0) λ (h, Δ, roots).
    let elements = (F h).elements in
    let w' : Output = (w_out, joined c (λ k. output elements h (value_at elements w) (first + k))) in
    answer (source ∷ w ∷ []) (w' ∷ [])
    (eqb (length w) (N h * elements.width) otherwise 3
    ∷ leb (first + c) h.n otherwise 7
    ∷ room w'
    ∷ every_used h first c (λ j. elements.is_value (value_at elements w j)) otherwise 8
    ∷ [])

-- pads test 3, 7, 6, 13, 8 and return the number alone
abbrev pub alone : Return → Return
alone r = returned r.number [] r.inputs r.outputs

unfoldable pub noise_pads : ℕ → ℕ → List ℕ → List ℕ → List ℕ → Return
noise_pads first c v choices pads =
    let pads' : Output = (pads, joined c (λ k. block (pad (first + k) (block_at v k)))) in
    alone (answer (v ∷ choices ∷ []) (pads' ∷ [])
    (eqb (length v) (16 * c) otherwise 3
    ∷ eqb (length choices) c otherwise 3
    ∷ leb (first + c) 32768 otherwise 7
    ∷ room pads'
    ∷ every (length choices) (λ k. leb (choices ! k) 1) otherwise 8
    ∷ []))

unfoldable pub scalar_pads : ℕ → ℕ → List ℕ → List ℕ → List ℕ → Return
scalar_pads first c w Δ pads =
    let message0 : ℕ → List ℕ = λ k. block (pad (first + k) (block_at w k)) in
    let message1 : ℕ → List ℕ = λ k. block (pad (first + k) (xor 2 (block_at w k) (block_at Δ 0))) in
    let pads' : Output = (pads, joined c (λ k. message0 k ++ message1 k)) in
    alone (answer (w ∷ Δ ∷ []) (pads' ∷ [])
    (eqb (length w) (16 * c) otherwise 3
    ∷ eqb (length Δ) 16 otherwise 3
    ∷ leb (first + c) 32768 otherwise 7
    ∷ not (every (length Δ) (λ i. eqb (Δ ! i) 0)) otherwise 6
    ∷ room pads'
    ∷ []))

-- ==== Cases: the pair program's line
-- the decimal digits of a number, at most n + 1
unfoldable pub decimal : ℕ → ℕ → List ℕ
decimal zero x = (48 + x % 10) ∷ []
decimal (suc n) x = when ltb x 10 then ((48 + x) ∷ []) else (decimal n (x / 10) ++ ((48 + x % 10) ∷ []))

-- `refused ` and the number of a record that is refused, else what follows from its content
unfoldable pub or_refused : {A : Type 0} → Read A → (A → List ℕ) → List ℕ
or_refused (got a next) go = go a
or_refused (fault k) go = (114 ∷ 101 ∷ 102 ∷ 117 ∷ 115 ∷ 101 ∷ 100 ∷ 32 ∷ []) ++ decimal 9 k

unfoldable pub same : List ℕ → List ℕ → Bool
same [] [] = true
same [] (b ∷ m) = false
same (a ∷ l) [] = false
same (a ∷ l) (b ∷ m) = eqb a b && same l m

-- field, sizes, code key and label are all equal (document 02, 8)
unfoldable pub same_dealing : Head → Head → Bool
same_dealing h h' =
    eqb h.field h'.field && eqb h.d h'.d && eqb h.g h'.g && eqb h.t h'.t && eqb h.ℓ h'.ℓ && eqb h.n h'.n
    && same h.code_key h'.code_key && same h.label h'.label

-- w = Δu + v at output x of a noise record's trees and a scalar record's Δ and roots
unfoldable pub holds_at : Head → List Tree → List ℕ → List (List ℕ) → ℕ → Bool
holds_at h trees Δ roots x =
    let noise_values = (F h).noise_values in
    let elements = (F h).elements in
    let u = output noise_values h (accumulated noise_values (μ trees h.t)) x in
    let v = output elements h (accumulated elements (v0 h trees)) x in
    let w = output elements h (accumulated elements (w0 h roots)) x in
    same w (elements.plus (elements.multiple (u ! 0) Δ) v)

-- how many of 0 to n − 1 hold
unfoldable pub count_of : ℕ → (ℕ → Bool) → ℕ
count_of zero ok = 0
count_of (suc n) ok = count_of n ok + (when ok n then 1 else 0)

-- two accepted records: `too large`, `different dealing`, or `checked ` and ` held ` with the outputs tried and those that hold
unfoldable pub pair_line : Head × List Tree → Head × List ℕ × List (List ℕ) → List ℕ
pair_line (h, trees) (h', Δ, roots) =
    when ltb 1024 (N h) || ltb 1024 (N h') then (116 ∷ 111 ∷ 111 ∷ 32 ∷ 108 ∷ 97 ∷ 114 ∷ 103 ∷ 101 ∷ [])
    else (when not (same_dealing h h')
    then (100 ∷ 105 ∷ 102 ∷ 102 ∷ 101 ∷ 114 ∷ 101 ∷ 110 ∷ 116 ∷ 32 ∷ 100 ∷ 101 ∷ 97 ∷ 108 ∷ 105 ∷ 110 ∷ 103 ∷ [])
    else ((99 ∷ 104 ∷ 101 ∷ 99 ∷ 107 ∷ 101 ∷ 100 ∷ 32 ∷ []) ++ (decimal 9 h.n
    ++ ((32 ∷ 104 ∷ 101 ∷ 108 ∷ 100 ∷ 32 ∷ []) ++ decimal 9 (count_of h.n (holds_at h trees Δ roots))))))

-- the text of `noise.key` and `scalar.key`, where a missing file is [], without the newline; the call that writes it
unfoldable pub line_text : List ℕ → List ℕ → List ℕ
line_text noise_key scalar_key = or_refused (read_noise noise_key 0) λ x. or_refused (read_scalar scalar_key 0) λ y. pair_line x y

unfoldable pub line : List ℕ → List ℕ → List ℕ → Return
line noise_key scalar_key out = answer (noise_key ∷ scalar_key ∷ []) ((out, line_text noise_key scalar_key) ∷ []) []
