-- The page's writing of records and its dealing are the library's.
use Prim.Native.Nat.{ℕ, ◌+◌, ◌-◌, ◌*◌, ◌/◌, ◌^◌}
use native.Mathlib.Nat.{add-zero}
use native.Mathlib.Omega.{arith}
use mathlib.Core.Path.{◌≡◌, refl, sym, ap, ap₂, ◌∙◌, fun_ext}
use mathlib.Core.Bool.{Bool, true, false, ◌&&◌, ◌||◌}
use mathlib.Core.List.{List, [], ◌∷◌, ◌++◌, map, append_assoc}
use lib.Dec.{eqb, leb}
use lib.ListN.{length, get_or}
use Rattle.algebra.specs.Choice.{choose}
use Rattle.algebra.specs.Every.{every}
use Rattle.algebra.specs.Expansion.{rising, correction}
use Rattle.answer.specs.Tests.{is_met}
use Rattle.answer.specs.Outcome.{Outcome, TwoWritten}
use Rattle.field.specs.Bytes.{le_bytes, word_at}
use Rattle.field.specs.Kind.{kind_of}
use Rattle.field.proofs.KindOf.{kind_by}
use Rattle.number.specs.Number as numbers
use Rattle.record.specs.Content.{Head, NoiseTree}
use Rattle.record.specs.Writing as rec
use Rattle.tree.specs.Child.{child}
use Rattle.tree.specs.Columns.{columns_at, columns_bytes}
use Rattle.tree.specs.Tree as trees
use Rattle.dealing.specs.Input.{Input, positions_admitted, delta_admitted, delta_words, position}
use Rattle.dealing.specs.Parts.{noise_tree, noise_part, scalar_part}
use Rattle.dealing.specs.Vectors as vectors
use Rattle.dealing.specs.Deal.{DealLent, deal}
use Rattle.aes128.proofs.Words.{four_eq}
use Rattle.page.specs.Document01 as page
use Rattle.page.proofs.Basics.{if_both}
use Rattle.page.proofs.Cipher.{state}
use Rattle.page.proofs.Trees.{tidy, leaf-at, siblings_is, list-map, word-at}
use Rattle.page.proofs.Fields.{KindIs, kind_is}
use Rattle.page.proofs.Rows.{head}
use Rattle.page.proofs.Vectors.{tree}
use Rattle.page.proofs.Reading.{is-scalar}
use Rattle.page.proofs.Calls.{none, more, answer-two}

-- ---- writing

-- the writings of a list's members, before what follows
abbrev before : List ℕ → List ℕ → List ℕ
before [] r = r
before (x ∷ l) r = numbers.write_number x ++ before l r

each_before : (l r : List ℕ) → page.each page.write_number l ++ r ≡ before l r
unfolding page.each page.write_number numbers.write_number page.when◌then◌else◌
each_before [] r = refl
each_before (x ∷ l) r = append_assoc (numbers.write_number x) (page.each page.write_number l) r ∙ ap (λ (m : List ℕ). numbers.write_number x ++ m) (each_before l r)

pub head-written : (end : ℕ) (h : Head) → page.write_head end (head h) ≡ rec.write_head end h
unfolding page.write_head rec.write_head
head-written end h =
    let sizes = h.depth ∷ h.branch_bits ∷ h.trees ∷ h.terms ∷ h.outputs ∷ [] in
    ap (λ (l : List ℕ). end ∷ h.field ∷ l) (append_assoc (page.each page.write_number sizes) h.code_key h.label ∙ each_before sizes (h.code_key ++ h.label))

pub trees-written : (f base : ℕ) (l : List NoiseTree) → page.write_trees f base (map tree l) ≡ rec.write_trees f base l
unfolding page.write_trees rec.write_trees rec.write_tree rec.write_tree_start page.when◌then◌else◌ page.write_number numbers.write_number page.each rec.write_each page.to_bytes le_bytes
trees-written f base [] = refl
trees-written f base (x ∷ l) =
    ap₂ (λ (a r : List ℕ). a ++ rec.write_blocks x.siblings ++ r)
    (append_assoc (numbers.write_number (x.position - base)) (rec.write_value f x.value) (rec.write_words x.correction))
    (trees-written f (x.position + 1) l)

-- ---- a dealing's input

state_at : (l : List ℕ) (at : ℕ) → state (page.list 16 (λ k. get_or l (at + k) 0)) ≡ columns_at l at
unfolding page.list columns_at
state_at l at =
    four_eq (four_eq (g (add-zero at)) refl refl refl)
    (four_eq refl (g (omega arith)) (g (omega arith)) (g (omega arith)))
    (four_eq refl (g (omega arith)) (g (omega arith)) (g (omega arith)))
    (four_eq refl (g (omega arith)) (g (omega arith)) (g (omega arith)))
  where
    g : {x y : ℕ} → x ≡ y → get_or l x 0 ≡ get_or l y 0
    g e = ap (λ (x : ℕ). get_or l x 0) e

abbrev pub input : Input → page.Input
input I = record { head = head (vectors.head I); roots = I.roots; positions = I.positions; values = I.values; Δ = I.delta }

module _ (I : Input) where
  pub root_is : (i : ℕ) → state (page.root (input I) i) ≡ vectors.root I i
  root_is i = state_at I.roots (16 * i)

  root-bytes : (i : ℕ) → page.root (input I) i ≡ columns_bytes (vectors.root I i)
  unfolding page.list columns_at columns_bytes
  root-bytes i = ap columns_bytes (root_is i)

  pub scalar-words : page.scalar (input I) ≡ delta_words I
  unfolding page.words
  scalar-words =
      if_both (λ a b. a ≡ b) (eqb I.field 1) _ _ _ _
      (ap₂ (λ (x z : ℕ). x ∷ z ∷ []) (word-at I.delta 0) (word-at I.delta 8)) (ap (λ (x : ℕ). x ∷ []) (word-at I.delta 0))

  pub delta-words : delta_words I ≡ (vectors.field I).elements.words (vectors.delta I)
  delta-words = of (eqb I.field 1)
    where
      of : (t : Bool) → choose t (word_at I.delta 0 ∷ word_at I.delta 8 ∷ []) (word_at I.delta 0 ∷ [])
          ≡ (kind_by t).field.elements.words ((kind_by t).field.elements.read (choose t (word_at I.delta 0 ∷ word_at I.delta 8 ∷ []) (word_at I.delta 0 ∷ [])) 0)
      of true = refl
      of false = refl

  abbrev same : KindIs (page.field_of I.field) (kind_of I.field)
  same = kind_is I.field

  pub tree_is : (i : ℕ) → page.dealt_tree (input I) i ≡ tree (noise_tree I i)
  unfolding page.dealt_tree noise_tree correction columns_at
  tree_is i =
      let k = 2 ^ I.branch_bits in
      let m = I.depth / I.branch_bits in
      let q = position I i in
      let leaf = same.leaf _ _ (ap tidy (leaf-at k m (page.root (input I) i) q ∙ ap (λ r. trees.leaf_at k child m r q) (root_is i))) in
      let shift =
      ap₂ (page.field_of I.field).elements.multiple (sym (same.num_read I.values i)) (scalar-words ∙ delta-words)
      ∙ same.elements.multiple (vectors.value I i) (vectors.delta I) in
      let fixed = ap₂ (page.field_of I.field).elements.minus leaf shift ∙ same.elements.minus _ _ in
      let beside = siblings_is k m (page.root (input I) i) q ∙ ap (λ r. map columns_bytes (trees.siblings k child m r q)) (root_is i) in
      λ j. record { position = q; value = get_or I.values i 0; correction = fixed j; siblings = beside j }

  pub correction_is : (i : ℕ) → (page.dealt_tree (input I) i).correction
      ≡ (vectors.field I).elements.words (vectors.tree_correction I i)
  unfolding noise_tree
  correction_is i = ap (λ (x : page.Tree). x.correction) (tree_is i)

  pub trees-dealt : page.list I.trees (page.dealt_tree (input I))
      ≡ map tree (trees.listed I.trees (noise_tree I))
  unfolding page.list trees.listed
  trees-dealt = ap (page.list I.trees) (fun_ext tree_is) ∙ sym (list-map tree I.trees (noise_tree I))

  pub roots-dealt : page.list I.trees (page.root (input I))
      ≡ trees.listed I.trees (λ i. columns_bytes (vectors.root I i))
  unfolding page.list trees.listed
  roots-dealt = ap (page.list I.trees) (fun_ext root-bytes)

  pub noise-record : page.noise_record (input I) ≡ rec.write_noise (noise_part I)
  unfolding page.write_noise rec.write_noise page.list trees.listed
  noise-record =
      ap₂ (λ (a b : List ℕ). a ++ b) (head-written 1 (vectors.head I))
      (ap (page.write_trees I.field 0) (ap (page.list I.trees) (fun_ext tree_is) ∙ sym (list-map tree I.trees (noise_tree I)))
      ∙ trees-written I.field 0 (trees.listed I.trees (noise_tree I)))

  pub scalar-record : page.scalar_record (input I) ≡ rec.write_scalar (scalar_part I)
  unfolding page.write_scalar rec.write_scalar page.list trees.listed page.each rec.write_each page.to_bytes le_bytes
  scalar-record =
      ap₂ (λ (a b : List ℕ). a ++ page.each (page.to_bytes 8) b ++ page.each (λ x. x) (page.list I.trees (page.root (input I)))) (head-written 2 (vectors.head I)) scalar-words
      ∙ ap (λ (r : ℕ → List ℕ). rec.write_head 2 (vectors.head I) ++ page.each (page.to_bytes 8) (delta_words I) ++ page.each (λ x. x) (page.list I.trees r)) (fun_ext root-bytes)
      ∙ append_assoc (rec.write_head 2 (vectors.head I)) (page.each (page.to_bytes 8) (delta_words I)) _

  pub delta-admitted : (page.is_scalar I.field (page.scalar (input I)) && (eqb I.field 1 || eqb (page.word I.delta 8) 0))
      ≡ delta_admitted I.field I.delta
  unfolding delta_admitted
  delta-admitted =
      ap₂ ◌&&◌ (ap (page.is_scalar I.field) scalar-words ∙ is-scalar I.field (delta_words I))
      (ap (λ (x : ℕ). eqb I.field 1 || eqb x 0) (word-at I.delta 8))

abbrev lent : Input → List (List ℕ)
lent I = I.roots ∷ I.positions ∷ I.values ∷ I.delta ∷ I.code_key ∷ I.label ∷ []

abbrev pub deal_return : Outcome TwoWritten DealLent → page.Return
deal_return o =
    page.returned o.number (o.written.first_written ∷ o.written.second_written ∷ []) (lent o.lent.input)
    (o.lent.noise_record ∷ o.lent.scalar_record ∷ [])

pub deal_is : (I : Input) (a b : List ℕ) → page.deal (input I) a b ≡ deal_return (deal I a b)
unfolding page.deal deal is_met positions_admitted rising page.every every page.when◌then◌else◌
deal_is I a b =
    let n = noise-record I in
    let s = scalar-record I in
    answer-two deal_return (lent I) _ _ a (page.noise_record (input I)) b (page.scalar_record (input I)) (λ k. refl)
    (λ i. page.returned 0 (length (n i) ∷ length (s i) ∷ []) (lent I) (page.front (n i) a ∷ page.front (s i) b ∷ []))
    (more _ _ _ refl (more _ _ _ refl (more _ _ _ refl (more _ _ _ refl (more _ _ _ refl (more _ _ _ refl
    (more _ _ _ refl (more _ _ _ refl (more _ _ _ refl (more _ _ _ refl (more _ _ _ refl (more _ _ _ refl
    (more _ _ _ refl (more _ _ _ refl (more _ _ _ (delta-admitted I)
    (more _ _ _ (ap (λ (l : List ℕ). leb (length l) (length a)) n)
    (more _ _ _ (ap (λ (l : List ℕ). leb (length l) (length b)) s) none)))))))))))))))))
