-- The page's reading of records is the library's.
use Prim.Native.Nat.{ℕ, zero, suc, ◌+◌, ◌*◌, ◌%◌, ◌^◌}
use native.Mathlib.Omega.{arith}
use mathlib.Core.Path.{◌≡◌, refl, ap, ap₂, ◌∙◌, fun_ext}
use mathlib.Core.Bool.{Bool, true, false, not, ◌&&◌}
use mathlib.Core.List.{List, [], ◌∷◌, map}
use lib.Dec.{eqb, leb, ltb}
use lib.ListN.{length, get_or}
use Rattle.algebra.specs.Choice.{choose}
use Rattle.answer.specs.Numbers.{bad_field, bad_size, bad_position, bad_noise, bad_delta, not_element, wrong_end, record_ends, bad_number, bytes_after}
use Rattle.field.specs.Bytes.{word_at}
use Rattle.field.specs.ByNumber.{is_field, is_noise, is_element, is_scalar}
use Rattle.field.specs.Kind.{element_words}
use Rattle.number.specs.Number.{read_number, last_group}
use Rattle.number.specs.Reading.{Reading, Whole, Refused, Parsed, then, tested, part, read_byte, read_bytes, after_reading}
use Rattle.record.specs.Admitted.{is_size, most_trees, most_terms, most_outputs}
use Rattle.record.specs.Content.{Head, NoisePart, ScalarPart, sibling_count}
use Rattle.record.specs.Reading as rec
use Rattle.tree.specs.Tree.{listed}
use Rattle.tree.proofs.Listed.{listed-front}
use Rattle.page.specs.Document01 as page
use Rattle.page.proofs.Basics.{if_both}
use Rattle.page.proofs.Trees.{word-at}
use Rattle.page.proofs.Fields.{kind_is}
use Rattle.page.proofs.Rows.{head}
use Rattle.page.proofs.Vectors.{tree, noise_record, scalar_record}

-- what the library read, as the page has it
unfoldable pub read : {A B : Type 0} → (A → B) → Parsed A → page.Read B
read c (Whole r) = page.got (c r.0) r.1
read c (Refused n) = page.fault n

pub give_is : {A B : Type 0} (c : A → B) (a : A) (at : ℕ) → page.got (c a) at ≡ read c (Whole (a, at))
unfolding read
give_is c a at = refl

pub fault_is : {A B : Type 0} (c : A → B) (n : ℕ) → page.fault n ≡ read c (Refused n)
unfolding read
fault_is c n = refl

abbrev pub same : {A : Type 0} → A → A
same a = a

-- ---- one field after another

pub then_is : {A B A' B' : Type 0} (c : A → B) (c' : A' → B') (r : Parsed A) (r' : page.Read B) → r' ≡ read c r
    → (k : A → ℕ → Parsed A') (k' : B → ℕ → page.Read B') → ((a : A) (next : ℕ) → k' (c a) next ≡ read c' (k a next))
    → page.and_then r' k' ≡ read c' (then r k)
unfolding page.and_then read
then_is c c' r r' e k k' h = ap (λ x. page.and_then x k') e ∙ go r
  where
    go : (x : Parsed _) → page.and_then (read c x) k' ≡ read c' (then x k)
    go (Whole x) = h x.0 x.1
    go (Refused n) = refl

then_assoc : {A B C : Type 0} (r : Parsed A) (k : A → ℕ → Parsed B) (m : B → ℕ → Reading C)
    → then r (λ a next. then (k a next) m) ≡ then (then r k) m
then_assoc (Whole x) k m = refl
then_assoc (Refused n) k m = refl

pub if_read : {A B : Type 0} (c : A → B) (t : Bool) (p q : page.Reader B) (s : List ℕ) (at : ℕ) (x y : Parsed A)
    → p s at ≡ read c x → q s at ≡ read c y → page.when◌then◌else◌ t p q s at ≡ read c (choose t x y)
unfolding page.when◌then◌else◌
if_read c true p q s at x y e f = e
if_read c false p q s at x y e f = f

module _ {A : Type 0} where
  pub test_is : (r : page.Reader A) (s : List ℕ) (at : ℕ) (r' : Parsed A) → r s at ≡ read same r' → (ok ok' : A → Bool) → ((a : A) → ok a ≡ ok' a)
      → (k : ℕ) → page.test r ok k s at ≡ read same (tested r' ok' k)
  unfolding page.test tested
  test_is r s at r' e ok ok' h k =
      then_is same same r' (r s at) e _ _ λ a next.
      ap (λ t. page.when◌then◌else◌ t (page.give a) (page.fail k) s next) (h a)
      ∙ if_read same (ok' a) _ _ s next (Whole (a, next)) (Refused k) (give_is same a next) (fault_is same k)

  tested_twice : (r : Parsed A) (p q : A → Bool) (k : ℕ) → tested r (λ a. p a && q a) k ≡ tested (tested r p k) q k
  unfolding tested
  tested_twice (Refused n) p q k = refl
  tested_twice (Whole x) p q k = go (p x.0)
    where
      go : (t : Bool) → choose {A = Parsed A} (t && q x.0) (Whole (x.0, x.1)) (Refused k)
          ≡ then {A = A} (choose {A = Parsed A} t (Whole (x.0, x.1)) (Refused k)) (λ a next. choose {A = Parsed A} (q a) (Whole (a, next)) (Refused k))
      go true = refl
      go false = refl

  -- a field of so many bytes
  pub item_is : (size : ℕ) (f g : List ℕ → ℕ → A) (s : List ℕ) (at : ℕ) → f s at ≡ g s at
      → page.item size f s at ≡ read same (choose (leb (at + size) (length s)) (Whole (g s at, at + size)) (Refused record_ends))
  unfolding page.item
  item_is size f g s at e =
      if_both (λ x y. x ≡ read same y) (leb (at + size) (length s)) _ _ (Whole (g s at, at + size)) (Refused record_ends) (ap (λ a. page.got a (at + size)) e ∙ give_is same (g s at) (at + size)) (fault_is same record_ends)

  items_is : (f g : List ℕ → ℕ → A) (size : ℕ) (s : List ℕ) → ((at : ℕ) → f s at ≡ g s at) → (n at : ℕ)
      → page.list n (λ i. f s (at + size * i)) ≡ rec.items g size s at n
  unfolding page.list rec.items listed
  items_is f g size s e zero at = refl
  items_is f g size s e (suc n) at =
      let next : (k : ℕ) → f s (at + size * suc k) ≡ f s (at + size + size * k) = λ k. let m : at + size * suc k ≡ at + size + size * k = omega arith in ap (f s) m in
      let first : at + size * 0 ≡ at = omega arith in
      listed-front n (λ i. f s (at + size * i))
      ∙ ap₂ (λ (a : A) (l : List A). a ∷ l) (ap (f s) first ∙ e at) (ap (page.list n) (fun_ext next) ∙ items_is f g size s e n (at + size))

pub byte_is : (s : List ℕ) (at : ℕ) → page.read_byte s at ≡ read same (read_byte s at)
unfolding page.item read_byte
byte_is s at =
    let m : at + 1 ≡ suc at = omega arith in
    ap (λ (x : ℕ). page.when◌then◌else◌ (leb x (length s)) (page.got (get_or s at 0) (at + 1)) (page.fault record_ends)) m
    ∙ if_both (λ x y. x ≡ read same y) (ltb at (length s)) _ _ (Whole (get_or s at 0, at + 1)) (Refused record_ends) (give_is same (get_or s at 0) (at + 1)) (fault_is same record_ends)

last : (s : List ℕ) (b n next : ℕ) → page.when◌then◌else◌ (eqb b 0) (page.fail 11) (page.give n) s next ≡ read same (last_group b n next)
unfolding last_group
last s b n next = if_read same (eqb b 0) _ _ s next (Refused bad_number) (Whole (n, next)) (fault_is same bad_number) (give_is same n next)

pub number_is : (s : List ℕ) (at : ℕ) → page.read_number s at ≡ read same (read_number s at)
unfolding page.read_number read_number
number_is s at =
    then_is same same _ _ (byte_is s at) _ _ λ a at1.
    if_read same (ltb a 128) _ _ s at1 _ _ (give_is same a at1)
    (then_is same same _ _ (byte_is s at1) _ _ λ b at2.
    if_read same (ltb b 128) _ _ s at2 _ _ (last s b _ at2)
    (then_is same same _ _ (byte_is s at2) _ _ λ c at3.
    if_read same (ltb c 128) _ _ s at3 _ _ (last s c _ at3) (fault_is same bad_number)))

-- ---- the head

module _ (s : List ℕ) where
  size_is : (top at : ℕ) → page.test page.read_number (page.within top) 2 s at ≡ read same (rec.read_size top s at)
  unfolding rec.read_size
  size_is top at = test_is page.read_number s at _ (number_is s at) (page.within top) (is_size top) (λ n. refl) bad_size

  branch_is : (d at : ℕ) → page.test page.read_number (page.is_branch d) 2 s at ≡ read same (rec.read_branch d s at)
  unfolding rec.read_branch rec.read_size
  branch_is d at =
      test_is page.read_number s at _ (number_is s at) (page.is_branch d) (λ g. is_size 3 g && eqb (d % g) 0) (λ g. refl) bad_size
      ∙ ap (read same) (tested_twice (read_number s at) (is_size 3) (λ g. eqb (d % g) 0) bad_size)

  block_is : (at : ℕ) → page.item 16 page.block_from s at ≡ read same (read_bytes 16 s at)
  unfolding read_bytes
  block_is at = item_is 16 page.block_from (λ l k. part l k 16) s at refl

  after-depth : (f d at : ℕ)
      → page.◌>>=◌ (page.test page.read_number (page.is_branch d) 2) (λ g.
      page.◌>>=◌ (page.test page.read_number (page.is_tree_count d) 2) (λ t.
      page.◌>>=◌ (page.test page.read_number (page.is_term_count d) 2) (λ l.
      page.◌>>=◌ (page.test page.read_number (page.is_output_count d) 2) (λ n.
      page.◌>>=◌ (page.item 16 page.block_from) (λ code_key.
      page.◌>>=◌ (page.item 16 page.block_from) (λ label.
      page.give (record { field = f; d = d; g = g; t = t; ℓ = l; n = n; code_key = code_key; label = label }))))))) s at
      ≡ read head (rec.read_after_depth f d s at)
  unfolding rec.read_after_depth
  after-depth f d at =
      then_is same head _ _ (branch_is d at) _ _ λ g at3.
      then_is same head _ _ (size_is (most_trees d) at3) _ _ λ t at4.
      then_is same head _ _ (size_is (most_terms d) at4) _ _ λ l at5.
      then_is same head _ _ (size_is (most_outputs d) at5) _ _ λ n at6.
      then_is same head _ _ (block_is at6) _ _ λ key at7.
      then_is same head _ _ (block_is at7) _ _ λ label at8.
      give_is head _ at8

  pub head_is : (end : ℕ) → page.read_head end s 0 ≡ read head (rec.read_head end s)
  unfolding page.read_head rec.read_head rec.read_field rec.read_sizes
  head_is end =
      (then_is same head _ _ (test_is page.read_byte s 0 _ (byte_is s 0) (λ e. eqb e end) (λ e. eqb e end) (λ e. refl) wrong_end) _ _ λ e at.
      then_is same head _ _ (test_is page.read_byte s at _ (byte_is s at) page.is_field is_field (λ f. refl) bad_field) _ _ λ f at1.
      then_is same head _ _ (size_is 16 at1) _ _ λ d at2.
      after-depth f d at2)
      ∙ ap (read head) (then_assoc (tested (read_byte s 0) (λ e. eqb e end) wrong_end) (λ e at. tested (read_byte s at) is_field bad_field) _)

-- ---- trees, Δ and roots

zero_is : (l : List ℕ) (t : Bool) → page.every (page.when◌then◌else◌ t (page.field_of 1) (page.field_of 2)).elements.width (λ i. eqb (get_or l i 0) 0)
    ≡ choose t (eqb (get_or l 0 0) 0 && eqb (get_or l 1 0) 0) (eqb (get_or l 0 0) 0)
unfolding page.field_of page.when◌then◌else◌ page.every
zero_is l true = refl
zero_is l false = refl

pub is-scalar : (f : ℕ) (l : List ℕ) → page.is_scalar f l ≡ is_scalar f l
unfolding page.field_of page.when◌then◌else◌
is-scalar f l = ap₂ (λ a b. a && not b) ((kind_is f).elements.is_value-read l) (zero_is l (eqb f 1))

module _ (h : Head) (s : List ℕ) where
  words_is : (n at : ℕ) → page.read_words n s at ≡ read same (rec.read_words n s at)
  unfolding rec.read_items
  words_is n at =
      item_is (8 * n) (λ l k. page.list n (λ i. page.word l (k + 8 * i))) (λ l k. rec.items word_at 8 l k n) s at (items_is page.word word_at 8 s (word-at s) n at)

  pub blocks_is : (n at : ℕ) → page.read_blocks n s at ≡ read same (rec.read_blocks n s at)
  unfolding rec.read_items
  blocks_is n at =
      item_is (16 * n) (λ l k. page.list n (λ i. page.block_from l (k + 16 * i))) (λ l k. rec.items rec.block_at 16 l k n) s at (items_is page.block_from rec.block_at 16 s (λ k. refl) n at)

  element_is : (at k : ℕ) (ok ok' : List ℕ → Bool) → ((l : List ℕ) → ok l ≡ ok' l)
      → page.test (page.read_words (page.F (head h)).elements.width) ok k s at
      ≡ read same (tested (rec.read_words (element_words h.field) s at) ok' k)
  element_is at k ok ok' e =
      test_is (page.read_words (page.F (head h)).elements.width) s at _
      (ap (λ (w : ℕ). page.read_words w s at) (kind_is h.field).elements.width ∙ words_is (element_words h.field) at) ok ok' e k

  position_is : (base at : ℕ)
      → page.test (page.◌>>=◌ page.read_number (λ x. page.give (base + x))) (λ q. ltb q (2 ^ h.depth)) 4 s at
      ≡ read same (rec.read_position base (2 ^ h.depth) s at)
  unfolding rec.read_position
  position_is base at =
      test_is (page.◌>>=◌ page.read_number (λ x. page.give (base + x))) s at _
      (then_is same same _ _ (number_is s at) _ _ λ x next. give_is same (base + x) next)
      (λ q. ltb q (2 ^ h.depth)) (λ q. ltb q (2 ^ h.depth)) (λ q. refl) bad_position

  value_is : (at : ℕ)
      → page.when◌then◌else◌ (eqb h.field 1) (page.give 1) (page.test (page.item 8 page.word) (page.is_noise_value h.field) 5) s at
      ≡ read same (rec.read_value h.field s at)
  unfolding rec.read_value page.when◌then◌else◌
  value_is at =
      if_read same (eqb h.field 1) _ _ s at _ _ (give_is same 1 at)
      (test_is (page.item 8 page.word) s at _ (item_is 8 page.word word_at s at (word-at s at)) (page.is_noise_value h.field) (is_noise h.field) (λ y. refl) bad_noise)

  abbrev beside : ℕ
  beside = sibling_count h.depth h.branch_bits

  tree_is : (base at : ℕ) → page.read_tree (head h) base s at ≡ read tree (rec.read_tree h.field h.depth beside base s at)
  unfolding page.read_tree rec.read_tree rec.read_correction sibling_count
  tree_is base at =
      then_is same tree _ _ (position_is base at) _ _ λ position at1.
      then_is same tree _ _ (value_is at1) _ _ λ value at2.
      then_is same tree _ _ (element_is at2 not_element (page.F (head h)).elements.is_value (is_element h.field) (kind_is h.field).elements.is_value-read) _ _ λ correction at3.
      then_is same tree _ _ (blocks_is beside at3) _ _ λ siblings at4.
      give_is tree _ at4

  pub trees_is : (n base at : ℕ) → page.read_trees (head h) n base s at ≡ read (map tree) (rec.read_trees h.field h.depth beside n base s at)
  unfolding page.read_trees rec.read_trees
  trees_is zero base at = give_is (map tree) [] at
  trees_is (suc n) base at =
      then_is tree (map tree) _ _ (tree_is base at) _ _ λ x next.
      then_is (map tree) (map tree) _ _ (trees_is n (x.position + 1) next) _ _ λ trees end.
      give_is (map tree) (x ∷ trees) end

  pub delta_is : (at : ℕ) → page.test (page.read_words (page.F (head h)).elements.width) (page.is_scalar h.field) 6 s at
      ≡ read same (rec.read_delta h.field s at)
  unfolding rec.read_delta
  delta_is at = element_is at bad_delta (page.is_scalar h.field) (is_scalar h.field) (is-scalar h.field)

-- ---- whole records: what is read, as a call goes on with it

module _ {A B O : Type 0} (c : A → B) (o : O → page.Return) (refusal : ℕ → O) (call : A → O) (inputs buffers : List (List ℕ)) (call' : B → page.Return)
    (on-no : (n : ℕ) → page.refused inputs buffers n ≡ o (refusal n)) (on-yes : (a : A) → call' (c a) ≡ o (call a)) where
  end_is : (s : List ℕ) (at : ℕ) (a : A) → page.on_record inputs buffers (page.ended (c a) s at) call' ≡ o (after_reading (rec.ended s at a) refusal call)
  unfolding page.on_record page.ended after_reading page.when◌then◌else◌
  end_is s at a = go (ltb at (length s))
    where
      go : (t : Bool) → page.on_record inputs buffers (page.when◌then◌else◌ t (page.fault bytes_after) (page.got (c a) at)) call'
          ≡ o (after_reading (choose t (Refused bytes_after) (Whole a)) refusal call)
      go true = on-no bytes_after
      go false = on-yes a

  then-end : {A' B' : Type 0} (c' : A' → B') (r : Parsed A') (r' : page.Read B') → r' ≡ read c' r
      → (k : A' → ℕ → Reading A) (k' : B' → ℕ → page.Read B)
      → ((a : A') (next : ℕ) → page.on_record inputs buffers (k' (c' a) next) call' ≡ o (after_reading (k a next) refusal call))
      → page.on_record inputs buffers (page.and_then r' k') call' ≡ o (after_reading (then r k) refusal call)
  unfolding page.on_record page.and_then after_reading read
  then-end c' r r' e k k' h = ap (λ x. page.on_record inputs buffers (page.and_then x k') call') e ∙ go r
    where
      go : (x : Parsed _) → page.on_record inputs buffers (page.and_then (read c' x) k') call' ≡ o (after_reading (then x k) refusal call)
      go (Whole x) = h x.0 x.1
      go (Refused n) = on-no n

pub noise_is : {O : Type 0} (o : O → page.Return) (refusal : ℕ → O) (call : NoisePart → O) (inputs buffers : List (List ℕ)) (call' : page.Head × List page.Tree → page.Return)
    → ((n : ℕ) → page.refused inputs buffers n ≡ o (refusal n)) → ((P : NoisePart) → call' (noise_record P) ≡ o (call P))
    → (s : List ℕ) → page.on_record inputs buffers (page.read_noise s 0) call' ≡ o (after_reading (rec.read_noise s) refusal call)
unfolding page.read_noise rec.read_noise
noise_is o refusal call inputs buffers call' on-no on-yes s =
    then-end noise_record o refusal call inputs buffers call' on-no on-yes head _ _ (head_is s 1) _ _ λ h body.
    then-end noise_record o refusal call inputs buffers call' on-no on-yes (map tree) _ _ (trees_is h s h.trees 0 body) _ _ λ trees end.
    end_is noise_record o refusal call inputs buffers call' on-no on-yes s end (record { head = h; trees = trees })

pub scalar_is : {O : Type 0} (o : O → page.Return) (refusal : ℕ → O) (call : ScalarPart → O) (inputs buffers : List (List ℕ)) (call' : page.Head × List ℕ × List (List ℕ) → page.Return)
    → ((n : ℕ) → page.refused inputs buffers n ≡ o (refusal n)) → ((P : ScalarPart) → call' (scalar_record P) ≡ o (call P))
    → (s : List ℕ) → page.on_record inputs buffers (page.read_scalar s 0) call' ≡ o (after_reading (rec.read_scalar s) refusal call)
unfolding page.read_scalar rec.read_scalar
scalar_is o refusal call inputs buffers call' on-no on-yes s =
    then-end scalar_record o refusal call inputs buffers call' on-no on-yes head _ _ (head_is s 2) _ _ λ h body.
    then-end scalar_record o refusal call inputs buffers call' on-no on-yes same _ _ (delta_is h s body) _ _ λ delta at.
    then-end scalar_record o refusal call inputs buffers call' on-no on-yes same _ _ (blocks_is h s h.trees at) _ _ λ roots end.
    end_is scalar_record o refusal call inputs buffers call' on-no on-yes s end (record { head = h; delta = delta; roots = roots })
