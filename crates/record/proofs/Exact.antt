-- Each field, a head, a tree and trees: reading what was written gives it back, and what reads as one is exactly its writing
-- and is admitted. Assumes nothing.
use Prim.Native.Nat.{ℕ, zero, suc, ◌+◌, ◌-◌, ◌%◌, ◌^◌, ◌≤◌, ◌<◌}
use mathlib.Core.Bool.{Bool, true, ◌&&◌}
use mathlib.Core.List.{List, [], ◌∷◌, ◌++◌}
use mathlib.Core.Path.{◌≡◌, refl, sym, ap, ◌∙◌, subst}
use borrow.Author.Tests.{eq-eqb, ne_eqb, le-leb, leb-true, ltb-true, eqb-true}
use native.Mathlib.Nat.{add-zero, min-le_left}
use native.Mathlib.Omega.{arith}
use lib.Dec.{leb, ltb, eqb}
use lib.ListN.{length, get_or, take, drop, length-append, length-take, get_or-eq_default}
use lib.Pow.{pow_mono}
use lib.Seq.{get_or-take, get_or-drop}
use Rattle.field.proofs.ByteWords.{length-le_bytes, le_number-le_bytes-word, le_bytes-le_number, le_number-below, word_at-take}
use Rattle.field.specs.Bytes.{le_number, le_bytes, word_at}
use Rattle.field.specs.ByNumber.{is_field, is_noise, is_element, is_scalar}
use Rattle.prime.specs.Prime.{modulus}
use Rattle.number.proofs.Laws.{length-number, number-reads, number-whole}
use Rattle.number.proofs.Places.{split, either, whole_is, then-whole, tested-whole, tested_reads, choose_yes, choose_no, has-front, has-back, has-next, has_is, part-has, byte_reads, byte-whole, bytes-reads, bytes_whole}
use Rattle.number.specs.Number.{write_number, read_number}
use Rattle.number.specs.Inner.Written.{numbers}
use Rattle.number.specs.Reading.{Whole, Refused, Parsed, then, choose, tested, part, read_byte, Bytes}
use Rattle.number.specs.Inner.Known.{Has}
use Rattle.record.proofs.Again.{value_parts_1, value_parts_2}
use Rattle.record.proofs.Fields.{and_both}
use Rattle.record.proofs.Items.{items-reads, items-exact}
use Rattle.record.proofs.Parts.{head_parts, tree_parts, trees_parts, trees-none}
use Rattle.record.specs.Admitted.{is_size, is_branch, most_trees, most_terms, most_outputs, Each, SixteenBytes, SixtyFourBits, AdmittedHead}
use Rattle.record.specs.Inner.Rising.{TreeFrom, TreesFrom}
use Rattle.field.specs.Kind.{element_words}
use Rattle.record.specs.Content.{Head, NoiseTree}
use Rattle.record.specs.Reading.{read_words, block_at, read_blocks, read_size, read_branch, read_position, read_value, read_correction, read_delta, read_field, read_after_depth, read_sizes, read_head, read_tree, read_trees}
use Rattle.record.specs.Writing.{write_words, write_blocks, write_head, write_value, write_tree_start, write_tree, write_trees}

-- ---- words and blocks

-- the bytes of a part
pub part_bytes : (s : List ℕ) (at n : ℕ) → Bytes s → Bytes (part s at n)
unfolding Bytes
part_bytes s at n b i =
    split i n (λ h. subst (λ (x : ℕ). x < 256) (sym (get_or-take n (drop at s) i 0 h ∙ get_or-drop at s i 0)) (b (at + i)))
    (λ h. subst (λ (x : ℕ). x < 256) (sym (past (take n (drop at s)) i (omega (arith, length-take n (drop at s), min-le_left n (length (drop at s)))))) (omega arith))
  where
    past : (l : List ℕ) (k : ℕ) → length l ≤ k → get_or l k 0 ≡ 0
    past l k h = get_or-eq_default l 0 h

module _ (s : List ℕ) where
  word_back : (at x : ℕ) → SixtyFourBits x → Has s at (le_bytes 8 x) → word_at s at ≡ x
  unfolding Has
  word_back at x h w =
      let l = length-le_bytes 8 x in
      word_at-take s at (omega (arith, w.0, l)) ∙ ap le_number (ap (part s at) (sym l) ∙ w.1) ∙ le_number-le_bytes-word x h

  word_only : Bytes s → (at : ℕ) → at + 8 ≤ length s → SixtyFourBits (word_at s at) × Has s at (le_bytes 8 (word_at s at))
  unfolding Bytes
  word_only bytes at h =
      let p = part-has s at 8 h in
      let below : (k : ℕ) → k < length (part s at 8) → get_or (part s at 8) k 0 < 256 = λ k g. part_bytes s at 8 bytes k in
      let same : le_bytes 8 (word_at s at) ≡ part s at 8 =
      ap (le_bytes 8) (word_at-take s at h) ∙ ap (λ (n : ℕ). le_bytes n (le_number (part s at 8))) (sym p.0) ∙ le_bytes-le_number (part s at 8) below in (
        subst (λ (x : ℕ). x < 18446744073709551616) (sym (word_at-take s at h))
            (subst (λ (n : ℕ). le_number (part s at 8) < 256 ^ n) p.0 (le_number-below (part s at 8) below)),
        has_is s at (sym same) p.1,
      )

  block_back : (at : ℕ) (b : List ℕ) → SixteenBytes b → Has s at b → block_at s at ≡ b
  unfolding Has
  block_back at b ok h = ap (part s at) (sym ok.0) ∙ h.1

  block_only : Bytes s → (at : ℕ) → at + 16 ≤ length s → SixteenBytes (block_at s at) × Has s at (block_at s at)
  block_only bytes at h = let p = part-has s at 16 h in ((p.0, part_bytes s at 16 bytes), p.1)

  pub words-reads : (at n : ℕ) (ws : List ℕ) → length ws ≡ n → Each SixtyFourBits ws → Has s at (write_words ws)
      → read_words n s at ≡ Whole (ws, at + length (write_words ws))
  words-reads at n ws = items-reads word_at 8 (le_bytes 8) SixtyFourBits (λ x ok. length-le_bytes 8 x) s word_back at n ws

  pub words-exact : Bytes s → (at n : ℕ) {ws : List ℕ} {next : ℕ} → read_words n s at ≡ Whole (ws, next)
      → (length ws ≡ n) × Each SixtyFourBits ws × Has s at (write_words ws) × (next ≡ at + length (write_words ws))
  words-exact bytes at n = items-exact word_at 8 (le_bytes 8) SixtyFourBits (λ x ok. length-le_bytes 8 x) s (word_only bytes) at n

  pub blocks-reads : (at n : ℕ) (bs : List (List ℕ)) → length bs ≡ n → Each SixteenBytes bs → Has s at (write_blocks bs)
      → read_blocks n s at ≡ Whole (bs, at + length (write_blocks bs))
  blocks-reads at n bs = items-reads block_at 16 (λ b. b) SixteenBytes (λ b ok. ok.0) s block_back at n bs

  pub blocks-exact : Bytes s → (at n : ℕ) {bs : List (List ℕ)} {next : ℕ} → read_blocks n s at ≡ Whole (bs, next)
      → (length bs ≡ n) × Each SixteenBytes bs × Has s at (write_blocks bs) × (next ≡ at + length (write_blocks bs))
  blocks-exact bytes at n = items-exact block_at 16 (λ b. b) SixteenBytes (λ b ok. ok.0) s (block_only bytes) at n

  -- ---- numbers with a test

  pub size-reads : (top at n : ℕ) → top < numbers → is_size top n ≡ true → Has s at (write_number n)
      → read_size top s at ≡ Whole (n, at + length (write_number n))
  unfolding read_size
  size-reads top at n t ok h =
      let most = leb-true n top (and_both (leb 1 n) (leb n top) ok).1 in
      tested_reads (λ m. is_size top m) 2
      (number-reads s at n (omega arith) h ∙ ap (λ (k : ℕ). Whole (n, at + k)) (sym (length-number n))) ok

  pub size_exact : Bytes s → (top at : ℕ) {n next : ℕ} → read_size top s at ≡ Whole (n, next)
      → (is_size top n ≡ true) × Has s at (write_number n) × (next ≡ at + length (write_number n))
  unfolding read_size
  size_exact bytes top at {n} e =
      let t = tested-whole (read_number s at) (λ m. is_size top m) 2 e in
      let w = number-whole s at bytes t.0 in
      (t.1, w.1, w.2 ∙ ap (λ (k : ℕ). at + k) (sym (length-number n)))

  pub branch-reads : (depth at g : ℕ) → is_branch depth g ≡ true → Has s at (write_number g) → read_branch depth s at ≡ Whole (g, at + length (write_number g))
  unfolding read_branch
  branch-reads depth at g ok h =
      let b = and_both (is_size 3 g) (eqb (depth % g) 0) ok in
      tested_reads (λ x. eqb (depth % x) 0) 2 (size-reads 3 at g (omega arith) b.0 h) b.1

  pub branch-exact : Bytes s → (depth at : ℕ) {g next : ℕ} → read_branch depth s at ≡ Whole (g, next)
      → (is_branch depth g ≡ true) × Has s at (write_number g) × (next ≡ at + length (write_number g))
  unfolding read_branch
  branch-exact bytes depth at {g} e =
      let t = tested-whole (read_size 3 s at) (λ x. eqb (depth % x) 0) 2 e in
      let z = size_exact bytes 3 at t.0 in
      (and-true z.0 t.1, z.1, z.2)
    where
      and-true : {a b : Bool} → a ≡ true → b ≡ true → a && b ≡ true
      and-true p q = rw (p, q)

  pub position-reads : (base all at p : ℕ) → all < numbers → base ≤ p → ltb p all ≡ true → Has s at (write_number (p - base))
      → read_position base all s at ≡ Whole (p, at + length (write_number (p - base)))
  unfolding read_position
  position-reads base all at p t rise ok h =
      let below = ltb-true p all ok in
      let r : read_number s at ≡ Whole (p - base, at + length (write_number (p - base))) =
      number-reads s at (p - base) (omega arith) h ∙ ap (λ (k : ℕ). Whole (p - base, at + k)) (sym (length-number (p - base))) in
      let back : base + (p - base) ≡ p = omega arith in
      tested_reads (λ q. ltb q all) 4 (simp (r, back)) ok

  pub position-exact : Bytes s → (base all at : ℕ) {p next : ℕ} → read_position base all s at ≡ Whole (p, next)
      → (base ≤ p) × (ltb p all ≡ true) × Has s at (write_number (p - base)) × (next ≡ at + length (write_number (p - base)))
  unfolding read_position
  position-exact bytes base all at {p} {next} e =
      let t = tested-whole (then (read_number s at) λ x next. Whole (base + x, next)) (λ q. ltb q all) 4 e in
      let c = then-whole (read_number s at) _ t.0 in
      let z = whole_is c.3 in
      let w = number-whole s at bytes c.2 in
      let q : p ≡ base + c.0 = ap (λ (y : ℕ × ℕ). y.0) (sym z) in
      let x : c.0 ≡ p - base = omega arith in (
        omega arith,
        t.1,
        has_is s at (ap write_number x) w.1,
        ap (λ (y : ℕ × ℕ). y.1) (sym z) ∙ w.2 ∙ ap (λ (k : ℕ). at + k) (sym (length-number c.0) ∙ ap (λ (k : ℕ). length (write_number k)) x),
      )

  -- ---- noise values and elements

  pub value-reads : (field at y : ℕ) → is_noise field y ≡ true → Has s at (write_value field y)
      → read_value field s at ≡ Whole (y, at + length (write_value field y))
  unfolding read_value Has
  value-reads field at y ok h =
      either field 1
      (λ f.
      let one : y ≡ 1 = eqb-true y 1 (sym (choose_yes (eqb y 1) (is_size (modulus - 1) y) (eq-eqb field 1 f)) ∙ ok) in
      simp (eq-eqb _ _ f, one, add-zero))
      (λ f.
      let in_range = and_both (leb 1 y) (leb y (modulus - 1)) (sym (choose_no (eqb y 1) (is_size (modulus - 1) y) (ne_eqb field 1 f)) ∙ ok) in
      let most = leb-true y (modulus - 1) in_range.1 in
      let w : write_value field y ≡ le_bytes 8 y = choose_no [] (le_bytes 8 y) (ne_eqb field 1 f) in
      let g : Has s at (le_bytes 8 y) = subst (Has s at) w h in
      let back = word_back at y (omega arith) g in
      let room : at + 8 ≤ length s = omega (arith, g.0, length-le_bytes 8 y) in
      let long : length (write_value field y) ≡ 8 = ap length w ∙ length-le_bytes 8 y in
      choose_no {A = Parsed ℕ} (Whole (1, at)) (tested (choose (leb (at + 8) (length s)) (Whole (word_at s at, at + 8)) (Refused 10)) (λ z. is_noise field z) 5) (ne_eqb field 1 f)
      ∙ tested_reads (λ z. is_noise field z) 5 (choose_yes {A = Parsed ℕ} (Whole (word_at s at, at + 8)) (Refused 10) (le-leb (at + 8) (length s) room) ∙ pair back (ap (λ (k : ℕ). at + k) (sym long))) ok)
    where
      pair : {a b p q : ℕ} → a ≡ b → p ≡ q → ◌≡◌ {A = Parsed ℕ} (Whole (a, p)) (Whole (b, q))
      pair e f = cc

  pub value-exact : Bytes s → (field at : ℕ) {y next : ℕ} → at ≤ length s → read_value field s at ≡ Whole (y, next)
      → (is_noise field y ≡ true) × Has s at (write_value field y) × (next ≡ at + length (write_value field y))
  unfolding Has
  value-exact bytes field at {y} {next} room e =
      either field 1
      (λ f.
      let v = value_parts_1 field s at (eq-eqb field 1 f) e in
      let w : write_value field y ≡ [] = choose_yes [] (le_bytes 8 y) (eq-eqb field 1 f) in (
        choose_yes (eqb y 1) (is_size (modulus - 1) y) (eq-eqb field 1 f) ∙ eq-eqb y 1 v.0,
        subst (Has s at) (sym w) (omega arith, refl),
        v.1 ∙ sym (add-zero at) ∙ ap (λ (l : List ℕ). at + length l) (sym w),
      ))
      (λ f.
      let v = value_parts_2 field s at (ne_eqb field 1 f) e in
      let w : write_value field y ≡ le_bytes 8 (word_at s at) = choose_no [] (le_bytes 8 y) (ne_eqb field 1 f) ∙ ap (le_bytes 8) v.1 in (
        v.3,
        subst (Has s at) (sym w) (word_only bytes at v.0).1,
        v.2 ∙ ap (λ (k : ℕ). at + k) (sym (ap length w ∙ length-le_bytes 8 (word_at s at))),
      ))

  pub correction-reads : (field at : ℕ) (c : List ℕ) → (length c ≡ element_words field) × Each SixtyFourBits c → is_element field c ≡ true → Has s at (write_words c)
      → read_correction field s at ≡ Whole (c, at + length (write_words c))
  unfolding read_correction
  correction-reads field at c w ok h = tested_reads (λ x. is_element field x) 8 (words-reads at (element_words field) c w.0 w.1 h) ok

  pub correction-exact : Bytes s → (field at : ℕ) {c : List ℕ} {next : ℕ} → read_correction field s at ≡ Whole (c, next)
      → ((length c ≡ element_words field) × Each SixtyFourBits c) × (is_element field c ≡ true) × Has s at (write_words c) × (next ≡ at + length (write_words c))
  unfolding read_correction
  correction-exact bytes field at e =
      let t = tested-whole (read_words (element_words field) s at) (λ x. is_element field x) 8 e in
      let w = words-exact bytes at (element_words field) t.0 in
      ((w.0, w.1), t.1, w.2, w.3)

  pub delta-reads : (field at : ℕ) (c : List ℕ) → (length c ≡ element_words field) × Each SixtyFourBits c → is_scalar field c ≡ true → Has s at (write_words c)
      → read_delta field s at ≡ Whole (c, at + length (write_words c))
  unfolding read_delta
  delta-reads field at c w ok h = tested_reads (λ x. is_scalar field x) 6 (words-reads at (element_words field) c w.0 w.1 h) ok

  pub delta-exact : Bytes s → (field at : ℕ) {c : List ℕ} {next : ℕ} → read_delta field s at ≡ Whole (c, next)
      → ((length c ≡ element_words field) × Each SixtyFourBits c) × (is_scalar field c ≡ true) × Has s at (write_words c) × (next ≡ at + length (write_words c))
  unfolding read_delta
  delta-exact bytes field at e =
      let t = tested-whole (read_words (element_words field) s at) (λ x. is_scalar field x) 6 e in
      let w = words-exact bytes at (element_words field) t.0 in
      ((w.0, w.1), t.1, w.2, w.3)

  -- ---- the head

  pub field-reads : (end field : ℕ) → is_field field ≡ true → Has s 0 (end ∷ field ∷ []) → read_field end s ≡ Whole (field, 2)
  unfolding read_field
  field-reads end field ok h =
      let e = tested_reads (λ x. eqb x end) 9 (byte_reads s 0 end (has-front s 0 (end ∷ []) (field ∷ []) h)) (eq-eqb end end refl) in
      let f = tested_reads is_field 1 (byte_reads s 1 field (has-back s 0 (end ∷ []) (field ∷ []) h)) ok in
      simp (e, f)

  pub field-exact : (end : ℕ) {field at : ℕ} → read_field end s ≡ Whole (field, at) → (is_field field ≡ true) × Has s 0 (end ∷ field ∷ []) × (at ≡ 2)
  unfolding read_field
  field-exact end {field} {at} e =
      let a = then-whole (tested (read_byte s 0) (λ x. eqb x end) 9) (λ x next. tested (read_byte s next) is_field 1) e in
      let t = tested-whole (read_byte s 0) (λ x. eqb x end) 9 a.2 in
      let b = byte-whole s 0 t.0 in
      let u = tested-whole (read_byte s a.1) is_field 1 a.3 in
      let c = byte-whole s a.1 u.0 in (
        u.1,
        has-next s 0 (end ∷ []) (field ∷ []) (has_is s 0 (ap (λ (x : ℕ). x ∷ []) (eqb-true a.0 end t.1)) b.0) b.1 c.0,
        omega (arith, b.1, c.1),
      )

  pub head-reads : (end : ℕ) (h : Head) → AdmittedHead h → Has s 0 (write_head end h) → read_head end s ≡ Whole (h, length (write_head end h))
  unfolding write_head read_head read_sizes read_after_depth
  head-reads end h ok g₀ =
      let D : List ℕ = write_number h.depth in
      let G : List ℕ = write_number h.branch_bits in
      let T : List ℕ = write_number h.trees in
      let L : List ℕ = write_number h.terms in
      let N : List ℕ = write_number h.outputs in
      let K : List ℕ = h.code_key in
      let A : List ℕ = h.label in
      let shallow = leb-true h.depth 16 (and_both (leb 1 h.depth) (leb h.depth 16) ok.depth).1 in
      let g₁ : Has s 2 (D ++ (G ++ (T ++ (L ++ (N ++ (K ++ A)))))) = has-back s 0 (end ∷ h.field ∷ []) (D ++ (G ++ (T ++ (L ++ (N ++ (K ++ A)))))) g₀ in
      let at3 : ℕ = 2 + length D in
      let g₂ = has-back s 2 D (G ++ (T ++ (L ++ (N ++ (K ++ A))))) g₁ in
      let at4 : ℕ = at3 + length G in
      let g₃ = has-back s at3 G (T ++ (L ++ (N ++ (K ++ A)))) g₂ in
      let at5 : ℕ = at4 + length T in
      let g₄ = has-back s at4 T (L ++ (N ++ (K ++ A))) g₃ in
      let at6 : ℕ = at5 + length L in
      let g₅ = has-back s at5 L (N ++ (K ++ A)) g₄ in
      let at7 : ℕ = at6 + length N in
      let g₆ = has-back s at6 N (K ++ A) g₅ in
      let g₇ = has-back s at7 K A g₆ in
      let e₀ = field-reads end h.field ok.field (has-front s 0 (end ∷ h.field ∷ []) (D ++ (G ++ (T ++ (L ++ (N ++ (K ++ A)))))) g₀) in
      let e₁ = size-reads 16 2 h.depth (omega arith) ok.depth (has-front s 2 D (G ++ (T ++ (L ++ (N ++ (K ++ A))))) g₁) in
      let e₂ = branch-reads h.depth at3 h.branch_bits ok.branch (has-front s at3 G (T ++ (L ++ (N ++ (K ++ A)))) g₂) in
      let e₃ = size-reads (most_trees h.depth) at4 h.trees (omega (arith, min-le_left 64 (2 ^ h.depth))) ok.trees (has-front s at4 T (L ++ (N ++ (K ++ A))) g₃) in
      let e₄ = size-reads (most_terms h.depth) at5 h.terms (omega (arith, min-le_left 32 (2 ^ h.depth))) ok.terms (has-front s at5 L (N ++ (K ++ A)) g₄) in
      let e₅ = size-reads (most_outputs h.depth) at6 h.outputs (omega (arith, pow_mono shallow)) ok.outputs (has-front s at6 N (K ++ A) g₅) in
      let e₆ = bytes-reads s at7 K ok.code_key.0 (has-front s at7 K A g₆) in
      let e₇ = bytes-reads s (at7 + 16) A ok.label.0 (subst (λ (i : ℕ). Has s i A) (ap (λ (n : ℕ). at7 + n) ok.code_key.0) g₇) in
      let l : at7 + 16 + 16 ≡ length (end ∷ h.field ∷ (D ++ (G ++ (T ++ (L ++ (N ++ (K ++ A))))))) =
      omega (
        arith,
        length-append D (G ++ (T ++ (L ++ (N ++ (K ++ A))))),
        length-append G (T ++ (L ++ (N ++ (K ++ A)))),
        length-append T (L ++ (N ++ (K ++ A))),
        length-append L (N ++ (K ++ A)),
        length-append N (K ++ A),
        length-append K A,
        ok.code_key.0,
        ok.label.0,
      ) in
      simp (e₀, e₁, e₂, e₃, e₄, e₅, e₆, e₇, l)

  pub head-exact : Bytes s → (end : ℕ) {h : Head} {body : ℕ} → read_head end s ≡ Whole (h, body)
      → AdmittedHead h × Has s 0 (write_head end h) × (body ≡ length (write_head end h))
  unfolding write_head
  head-exact bytes end {h} {body} e =
      let p = head_parts end s e in
      let D : List ℕ = write_number h.depth in
      let G : List ℕ = write_number h.branch_bits in
      let T : List ℕ = write_number h.trees in
      let L : List ℕ = write_number h.terms in
      let N : List ℕ = write_number h.outputs in
      let K : List ℕ = h.code_key in
      let A : List ℕ = h.label in
      let f = field-exact end p.field in
      let d = size_exact bytes 16 p.at1 p.depth in
      let g = branch-exact bytes h.depth p.at2 p.branch in
      let t = size_exact bytes (most_trees h.depth) p.at3 p.trees in
      let l = size_exact bytes (most_terms h.depth) p.at4 p.terms in
      let n = size_exact bytes (most_outputs h.depth) p.at5 p.outputs in
      let k = bytes_whole s p.at6 16 p.code_key in
      let a = bytes_whole s p.at7 16 p.label in
      let key : Bytes K = subst Bytes (sym k.3) (part_bytes s p.at6 16 bytes) in
      let label : Bytes A = subst Bytes (sym a.3) (part_bytes s p.at7 16 bytes) in (
        record { field = f.0; depth = d.0; branch = g.0; trees = t.0; terms = l.0; outputs = n.0; code_key = (k.0, key); label = (a.0, label) },
        has-next s 0 (end ∷ h.field ∷ []) (D ++ (G ++ (T ++ (L ++ (N ++ (K ++ A)))))) f.1 f.2
            (has-next s p.at1 D (G ++ (T ++ (L ++ (N ++ (K ++ A))))) d.1 d.2
            (has-next s p.at2 G (T ++ (L ++ (N ++ (K ++ A)))) g.1 g.2
            (has-next s p.at3 T (L ++ (N ++ (K ++ A))) t.1 t.2
            (has-next s p.at4 L (N ++ (K ++ A)) l.1 l.2 (has-next s p.at5 N (K ++ A) n.1 n.2 (has-next s p.at6 K A k.1 (k.2 ∙ ap (λ (m : ℕ). p.at6 + m) (sym k.0)) a.1)))))),
        omega (
          arith,
          f.2,
          d.2,
          g.2,
          t.2,
          l.2,
          n.2,
          k.2,
          k.0,
          a.2,
          a.0,
          length-append D (G ++ (T ++ (L ++ (N ++ (K ++ A))))),
          length-append G (T ++ (L ++ (N ++ (K ++ A)))),
          length-append T (L ++ (N ++ (K ++ A))),
          length-append L (N ++ (K ++ A)),
          length-append N (K ++ A),
          length-append K A,
        ),
      )

  -- ---- trees

  -- the place after bytes that stand in the record is within it
  pub within : (at : ℕ) (w : List ℕ) {next : ℕ} → Has s at w → next ≡ at + length w → next ≤ length s
  unfolding Has
  within at w h e = omega (arith, h.0)

  pub tree-reads : (field depth beside base at : ℕ) (t : NoiseTree) → depth ≤ 16 → TreeFrom field depth beside base t → Has s at (write_tree field base t)
      → read_tree field depth beside base s at ≡ Whole (t, at + length (write_tree field base t))
  unfolding write_tree write_tree_start read_tree
  tree-reads field depth beside base at t shallow ok g =
      let P : List ℕ = write_number (t.position - base) in
      let Y : List ℕ = write_value field t.value in
      let C : List ℕ = write_words t.correction in
      let B : List ℕ = write_blocks t.siblings in
      let g₀ = has-front s at (P ++ (Y ++ C)) B g in
      let g₁ = has-back s at P (Y ++ C) g₀ in
      let at1 : ℕ = at + length P in
      let at2 : ℕ = at1 + length Y in
      let g₂ = has-back s at1 Y C g₁ in
      let at3 : ℕ = at2 + length C in
      let place : at + length (P ++ (Y ++ C)) ≡ at3 = omega (arith, length-append P (Y ++ C), length-append Y C) in
      let g₃ : Has s at3 B = subst (λ (i : ℕ). Has s i B) place (has-back s at (P ++ (Y ++ C)) B g) in
      let e₀ = position-reads base (2 ^ depth) at t.position (omega (arith, pow_mono shallow)) ok.rising ok.tree.below (has-front s at P (Y ++ C) g₀) in
      let e₁ = value-reads field at1 t.value ok.tree.value (has-front s at1 Y C g₁) in
      let e₂ = correction-reads field at2 t.correction ok.tree.words ok.tree.correction g₂ in
      let e₃ = blocks-reads at3 beside t.siblings ok.tree.siblings.0 ok.tree.siblings.1 g₃ in
      let l : at3 + length B ≡ at + length ((P ++ (Y ++ C)) ++ B) = omega (arith, place, length-append (P ++ (Y ++ C)) B) in
      simp (e₀, e₁, e₂, e₃, l)

  pub tree-exact : Bytes s → (field depth beside base at : ℕ) {t : NoiseTree} {next : ℕ} → read_tree field depth beside base s at ≡ Whole (t, next)
      → TreeFrom field depth beside base t × Has s at (write_tree field base t) × (next ≡ at + length (write_tree field base t))
  unfolding write_tree write_tree_start
  tree-exact bytes field depth beside base at {t} {next} e =
      let p = tree_parts field depth beside base s at e in
      let P : List ℕ = write_number (t.position - base) in
      let Y : List ℕ = write_value field t.value in
      let C : List ℕ = write_words t.correction in
      let B : List ℕ = write_blocks t.siblings in
      let a = position-exact bytes base (2 ^ depth) at p.position in
      let v = value-exact bytes field p.at1 (within at P a.2 a.3) p.value in
      let c = correction-exact bytes field p.at2 p.correction in
      let b = blocks-exact bytes p.at3 beside p.siblings in (
        record {
          rising = a.0;
          tree = record { below = a.1; value = v.0; words = c.0; correction = c.1; siblings = (b.0, b.1) };
        },
        has-next s at (P ++ (Y ++ C)) B
            (has-next s at P (Y ++ C) a.2 a.3 (has-next s p.at1 Y C v.1 v.2 c.2))
            (omega (arith, a.3, v.2, c.3, length-append P (Y ++ C), length-append Y C)) b.2,
        omega (arith, a.3, v.2, c.3, b.3, length-append (P ++ (Y ++ C)) B, length-append P (Y ++ C), length-append Y C),
      )

  pub trees-reads : (field depth beside base at : ℕ) (ts : List NoiseTree) → depth ≤ 16 → TreesFrom field depth beside base ts → Has s at (write_trees field base ts)
      → read_trees field depth beside (length ts) base s at ≡ Whole (ts, at + length (write_trees field base ts))
  unfolding write_trees read_trees TreesFrom
  trees-reads field depth beside base at [] shallow ok g = simp add-zero
  trees-reads field depth beside base at (t ∷ ts) shallow ok g =
      let W : List ℕ = write_tree field base t in
      let R : List ℕ = write_trees field (t.position + 1) ts in
      let e₀ = tree-reads field depth beside base at t shallow ok.0 (has-front s at W R g) in
      let e₁ = trees-reads field depth beside (t.position + 1) (at + length W) ts shallow ok.1 (has-back s at W R g) in
      let l : at + length W + length R ≡ at + length (W ++ R) = omega (arith, length-append W R) in
      simp (e₀, e₁, l)

  pub trees-exact : Bytes s → (field depth beside n base at : ℕ) {ts : List NoiseTree} {end : ℕ} → at ≤ length s → read_trees field depth beside n base s at ≡ Whole (ts, end)
      → (length ts ≡ n) × TreesFrom field depth beside base ts × Has s at (write_trees field base ts) × (end ≡ at + length (write_trees field base ts))
  unfolding write_trees TreesFrom Has
  trees-exact bytes field depth beside zero base at {ts} {end} room e =
      let z = trees-none field depth beside base s at e in (
        ap length z.0,
        subst (TreesFrom field depth beside base) (sym z.0) tt,
        subst (λ (l : List NoiseTree). Has s at (write_trees field base l)) (sym z.0) (omega arith, refl),
        z.1 ∙ sym (add-zero at) ∙ ap (λ (l : List NoiseTree). at + length (write_trees field base l)) (sym z.0),
      )
  trees-exact bytes field depth beside (suc n) base at {ts} {end} room e =
      let p = trees_parts field depth beside n base s at e in
      let t : NoiseTree = p.0 in
      let rest : List NoiseTree = p.1 in
      let W : List ℕ = write_tree field base t in
      let R : List ℕ = write_trees field (t.position + 1) rest in
      let a = tree-exact bytes field depth beside base at p.4 in
      let b = trees-exact bytes field depth beside n (t.position + 1) p.2 (omega (arith, a.1.0, a.2)) p.5 in (
        ap length p.3 ∙ ap suc b.0,
        subst (TreesFrom field depth beside base) (sym p.3) (a.0, b.1),
        subst (λ (l : List NoiseTree). Has s at (write_trees field base l)) (sym p.3) (has-next s at W R a.1 a.2 b.2),
        b.3 ∙ omega (arith, a.2, length-append W R) ∙ ap (λ (l : List NoiseTree). at + length (write_trees field base l)) (sym p.3),
      )
