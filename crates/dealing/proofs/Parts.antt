-- Both ends' parts of an admitted dealing are contents that a record may hold.
use mathlib.Core.Path.{◌≡◌, refl, ap, ◌∙◌}
use mathlib.Core.Bool.{true}
use mathlib.Core.List.{List, [], ◌∷◌, map}
use mathlib.Core.Logic.{◌⊎◌, ⊎_elim}
use Prim.Native.Nat.{ℕ, zero, suc, ◌+◌, ◌-◌, ◌*◌, ◌/◌, ◌%◌, ◌^◌, ◌≤◌, ◌<◌}
use native.Mathlib.Nat.{mod-lt, lt_trans}
use native.Mathlib.Omega.{arith}
use borrow.Author.Tests.{lt-ltb}
use lib.Bits.{xor_lt}
use lib.Dec.{lit<}
use lib.ListN.{length, get_or}
use lib.Pow.{pow_pos, pow_mono}
use Rattle.algebra.proofs.Rising.{Rises, rises, rising_is}
use Rattle.algebra.proofs.Tests.{and_left}
use Rattle.algebra.specs.Expansion.{correction}
use Rattle.algebra.specs.Field.{NoiseValue}
use Rattle.field.proofs.ByteWords.{le_number-below, low_of-below, high_of-below}
use Rattle.field.specs.Bytes.{eight_at, word_at, four_at}
use Rattle.field.specs.Binary.{block, block_scale}
use Rattle.prime.specs.declared.prime.Prime.{Prime}
use Rattle.field.specs.Kind.{kind_of, element_words, prime_leaf}
use Rattle.prime.specs.Prime.{modulus, prime, prime_sub, prime_mul}
use Rattle.aes128.proofs.Sizes.{state-bytes}
use Rattle.aes128.specs.State.{column}
use Rattle.aes128.specs.Inner.Sizes.{IsState}
use Rattle.number.specs.Reading.{Bytes}
use Rattle.field.specs.ByNumber.{element_of, is_element}
use Rattle.record.specs.Admitted.{Each, SixteenBytes, SixtyFourBits, AdmittedHead, AdmittedTree, AdmittedNoise, AdmittedScalar}
use Rattle.record.specs.Content.{NoiseTree, sibling_count, tree_in}
use Rattle.tree.proofs.ChildLaws.{leaf-state, siblings_states}
use Rattle.tree.proofs.Laws as tree
use Rattle.tree.proofs.Nodes.{columns-state}
use Rattle.tree.proofs.Listed.{length-listed, listed-none, listed-front, listed_at}
use Rattle.tree.specs.Child.{child}
use Rattle.tree.specs.Columns.{columns_bytes}
use Rattle.tree.specs.Tree.{listed, siblings, leaf_at}
use Rattle.dealing.specs.Admitted.{InMemory, Admitted}
use Rattle.dealing.specs.Input.{Input, delta_admitted, position}
use Rattle.dealing.specs.Parts.{noise_tree, noise_part, scalar_part}
use Rattle.dealing.specs.Vectors.{head, root, value}
use Rattle.dealing.proofs.Faults.{size_is, branch_is, field_is, noise_is, delta_is}

-- ---- blocks

bytes-none : Bytes []
unfolding Bytes
bytes-none i = lit< tt

bytes_cons : (x : ℕ) (l : List ℕ) → x < 256 → Bytes l → Bytes (x ∷ l)
unfolding Bytes
bytes_cons x l h b zero = h
bytes_cons x l h b (suc i) = b i

-- the bytes of a state
state-block : (s : List (List ℕ)) → IsState s → SixteenBytes (columns_bytes s)
unfolding columns_bytes
state-block s h =
    (refl, next 0 _ (lit< tt) (next 1 _ (lit< tt) (next 2 _ (lit< tt) (next 3 _ (lit< tt) bytes-none))))
  where
    next : (c : ℕ) (l : List ℕ) → c < 4 → Bytes l → Bytes (four_at (column s c) 0 l)
    next c l b r =
        let w = (h.words c b).bytes in
        bytes_cons _ _ (w 0) (bytes_cons _ _ (w 1) (bytes_cons _ _ (w 2) (bytes_cons _ _ (w 3) r)))

states_blocks : (xs : List (List (List ℕ))) → tree.Each IsState xs → Each SixteenBytes (map columns_bytes xs)
unfolding Each
states_blocks [] h = tt
states_blocks (x ∷ xs) h = (state-block x h.0, states_blocks xs h.1)

length-map : {A B : Type 0} (f : A → B) (l : List A) → length (map f l) ≡ length l
length-map f [] = refl
length-map f (x ∷ l) = ap suc (length-map f l)

-- a condition on each value of a list by index
each-listed : {A : Type 0} (P : A → Type 0) (n : ℕ) (f : ℕ → A) → ((i : ℕ) → i < n → P (f i)) → Each P (listed n f)
unfolding Each
each-listed P zero f h = rw listed-none tt
each-listed P (suc n) f h = rw listed-front (h 0 (omega arith), each-listed P n (λ k. f (suc k)) (λ i b. h (suc i) (omega arith)))

-- ---- words

eight-bytes : (bytes : List ℕ) (at : ℕ) → ((i : ℕ) → get_or bytes i 0 < 256) → Bytes (eight_at bytes at)
eight-bytes bytes at b =
    next at _ (next (at + 1) _ (next (at + 2) _ (next (at + 3) _ (next (at + 4) _ (next (at + 5) _ (next (at + 6) _ (next (at + 7) _ bytes-none)))))))
  where
    next : (k : ℕ) (l : List ℕ) → Bytes l → Bytes (get_or bytes k 0 ∷ l)
    next k l r = bytes_cons _ l (b k) r

word_below : (bytes : List ℕ) (at : ℕ) → ((i : ℕ) → get_or bytes i 0 < 256) → SixtyFourBits (word_at bytes at)
unfolding word_at Bytes
word_below bytes at b = le_number-below (eight_at bytes at) (λ k h. eight-bytes bytes at b k)

-- an element of two words
element-words : (k low high : ℕ) → (k ≡ 1) ⊎ (k ≡ 2) → SixtyFourBits low → SixtyFourBits high
    → (length (element_of k low high) ≡ element_words k) × Each SixtyFourBits (element_of k low high)
unfolding Each
element-words k low high h a b = ⊎_elim (λ e. rw e (refl, (a, (b, tt)))) (λ e. rw e (refl, (a, tt))) h

-- what is known of an element that a record holds
pub record ElementAdmitted (k : ℕ) (e : List ℕ) : Type 0 where
  pub words : (length e ≡ element_words k) × Each SixtyFourBits e
  pub element : is_element k e ≡ true

-- a block scaled has words
scale-words : (y : ℕ) (low high : ℕ) → SixtyFourBits low → SixtyFourBits high
    → SixtyFourBits (block_scale y (block low high)).low × SixtyFourBits (block_scale y (block low high)).high
unfolding block_scale
scale-words zero low high a b = (lit< tt, lit< tt)
scale-words (suc zero) low high a b = (a, b)
scale-words (suc (suc y)) low high a b = (lit< tt, lit< tt)

-- a difference modulo p
difference_admitted : (a b : Prime) → ElementAdmitted 2 ((prime_sub a b).word ∷ [])
unfolding prime_sub Each
difference_admitted a b =
    let below : (a.word + (modulus - b.word % modulus)) % modulus < modulus = mod-lt _ (lit< tt) in
    record { words = (refl, (lt_trans below (lit< tt), tt)); element = lt-ltb _ _ below }

-- a correction is such
correction-admitted : (k : ℕ) → (k ≡ 1) ⊎ (k ≡ 2) → (low high : ℕ) → SixtyFourBits low → SixtyFourBits high → (s : List (List ℕ)) → IsState s
    → (y : NoiseValue (kind_of k).field)
    → ElementAdmitted k
    ((kind_of k).field.elements.words (correction (kind_of k).field.scaled ((kind_of k).field.elements.read (element_of k low high) 0) ((kind_of k).leaf s) y))
unfolding correction Each
correction-admitted zero h low high a b s is y = absurd (⊎_elim (λ e. omega arith) (λ e. omega arith) h)
correction-admitted (suc zero) h low high a b s is y =
    let z = scale-words y low high a b in
    record {
      words = (refl, (xor_lt 64 _ _ (low_of-below s (state-bytes s is)) z.0, (xor_lt 64 _ _ (high_of-below s (state-bytes s is)) z.1, tt)));
      element = refl;
    }
correction-admitted (suc (suc zero)) h low high a b s is y =
    difference_admitted (prime_leaf s) (prime_mul y (prime low))
correction-admitted (suc (suc (suc k))) h low high a b s is y = absurd (⊎_elim (λ e. omega arith) (λ e. omega arith) h)

-- ---- parts

module _ (I : Input) (A : Admitted I) (M : InMemory I) where
  head-admitted : AdmittedHead (head I)
  unfolding Bytes
  head-admitted =
      record {
        field = field_is I.field A.field;
        depth = size_is 16 I.depth A.depth.0 A.depth.1;
        branch = branch_is I.depth I.branch_bits A.branch;
        trees = size_is _ I.trees A.trees.0 (omega (arith, A.trees.1, A.trees.2));
        terms = size_is _ I.terms A.terms.0 (omega (arith, A.terms.1, A.terms.2));
        outputs = size_is _ I.outputs A.outputs.0 A.outputs.1;
        code_key = (A.code_key, M.code_key);
        label = (A.label, M.label);
      }

  root-state : (i : ℕ) → IsState (root I i)
  root-state i = columns-state I.roots (16 * i) M.roots

  -- the children of a node
  some-children : 0 < 2 ^ I.branch_bits
  some-children = pow_pos I.branch_bits

  few-children : 2 ^ I.branch_bits ≤ 256
  few-children = let h : 2 ^ I.branch_bits ≤ 2 ^ 3 = pow_mono A.branch.1 in omega (arith, h)

  tree-admitted : (i : ℕ) → i < I.trees → AdmittedTree I.field I.depth (sibling_count I.depth I.branch_bits) (noise_tree I i)
  unfolding noise_tree sibling_count
  tree-admitted i h =
      let k = 2 ^ I.branch_bits in
      let levels = I.depth / I.branch_bits in
      let c =
      correction-admitted I.field A.field _ _ (word_below I.delta 0 M.delta) (word_below I.delta 8 M.delta)
      (leaf_at k child levels (root I i) (position I i)) (leaf-state k some-children few-children levels (root I i) (position I i) (root-state i)) (value I i)
      in
      let beside = siblings k child levels (root I i) (position I i) in
      record {
        below = lt-ltb _ _ (A.below i h);
        value = noise_is I.field _ A.field (A.noise i h);
        words = c.words;
        correction = c.element;
        siblings = (
          length-map columns_bytes beside ∙ tree.length-siblings k child some-children levels (root I i) (position I i),
          states_blocks beside (siblings_states k some-children few-children levels (root I i) (position I i) (root-state i)),
        );
      }

  listed-position : (i : ℕ) → i < I.trees → (tree_in (listed I.trees (noise_tree I)) i).position ≡ position I i
  unfolding noise_tree
  listed-position i h = ap (λ (t : NoiseTree). t.position) (listed_at I.trees (noise_tree I) _ i h)

  listed-rises : Rises I.trees (λ i. (tree_in (listed I.trees (noise_tree I)) i).position)
  listed-rises i h =
      rw (listed-position i (omega arith), listed-position (suc i) h) (rises I.trees (position I) A.rising i h)

  -- the noise end's part
  pub noise-admitted : AdmittedNoise (noise_part I)
  unfolding noise_tree
  noise-admitted =
      record {
        head = head-admitted;
        count = length-listed I.trees (noise_tree I);
        rising = rising_is I.trees _ listed-rises;
        trees = each-listed (AdmittedTree I.field I.depth (sibling_count I.depth I.branch_bits)) I.trees (noise_tree I) tree-admitted;
      }

  -- the scalar end's part
  pub scalar-admitted : AdmittedScalar (scalar_part I)
  unfolding delta_admitted
  scalar-admitted =
      record {
        head = head-admitted;
        words = element-words I.field _ _ A.field (word_below I.delta 0 M.delta) (word_below I.delta 8 M.delta);
        delta = and_left _ _ (delta_is I A.field A.scalar);
        roots = (
          length-listed I.trees (λ i. columns_bytes (root I i)),
          each-listed SixteenBytes I.trees (λ i. columns_bytes (root I i)) (λ i b. state-block (root I i) (root-state i)),
        );
      }
