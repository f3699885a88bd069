-- What document 01 says of records, over the page: they read back, in one way only, and exactly the writings of admitted content are accepted.
use Prim.Native.Nat.{ℕ, zero, suc, ◌-◌, ◌^◌}
use native.Mathlib.Omega.{arith}
use mathlib.Core.Path.{◌≡◌, refl, sym, ap, ap₂, subst, ◌∙◌, fun_ext}
use mathlib.Core.List.{List, [], ◌∷◌, ◌++◌, map, append_assoc}
use lib.Dec.{ltb}
use lib.ListN.{length-map}
use Rattle.algebra.specs.Every.{every}
use Rattle.algebra.specs.Expansion.{rising}
use Rattle.dealing.specs.Admitted as dealing
use Rattle.dealing.specs.Input.{Input}
use Rattle.dealing.specs.Deal.{deal}
use Rattle.field.specs.Bytes.{le_bytes}
use Rattle.number.specs.Reading.{Reading, Whole, Refused, Bytes}
use Rattle.record.specs.Admitted as adm
use Rattle.record.specs.Content.{Head, NoiseTree, NoisePart, ScalarPart, sibling_count}
use Rattle.record.specs.Reading as rec
use Rattle.record.specs.Writing as wr
use Rattle.claims.proofs.Entire.{record_laws}
use Rattle.page.specs.Document01 as page
use Rattle.page.proofs.Fields.{kind_is}
use Rattle.page.proofs.Rows.{head, head_of}
use Rattle.page.proofs.Vectors.{tree, tree-at, noise_record, scalar_record}
use Rattle.page.proofs.Reading.{is-scalar}
use Rattle.page.proofs.Contents.{content, mapped, noise-content, scalar-content}
use Rattle.page.proofs.Dealing.{deal_is, trees-dealt, roots-dealt, scalar-words, head-written, trees-written}
use Rattle.page_claims.specs.Statements as says
use Rattle.page_claims.proofs.Outputs.{input_of}

-- ---- accepted or refused

abbrev inside : {A : Type 0} → A → Reading A → A
inside d (Whole a) = a
inside d (Refused k) = d

abbrev IsWhole : {A : Type 0} → Reading A → Type 0
IsWhole (Whole a) = Unit {0}
IsWhole (Refused k) = ⊥

gives : {A : Type 0} (r : page.Read A) (a : A) → content r ≡ Whole a → says.Gives r a
unfolding content
gives (page.got a' next) a e = (next, ap (λ x. page.got x next) (ap (inside a) e))
gives (page.fault k) a e = absurd (subst IsWhole (sym e) tt)

given : {A B : Type 0} (c : A → B) (r : Reading A) (b : B) → mapped c r ≡ Whole b → (a : A) × (r ≡ Whole a) × (c a ≡ b)
unfolding mapped
given c (Whole a) b e = (a, refl, ap (inside b) e)
given c (Refused k) b e = absurd (subst IsWhole (sym e) tt)

accepted : {A : Type 0} (r : page.Read A) (a : A) → says.Gives r a → content r ≡ Whole a
unfolding content
accepted r a g = ap content g.1

-- ---- the writing of a content

noise-written : (P : NoisePart) → page.write_noise (head P.head) (map tree P.trees) ≡ wr.write_noise P
unfolding page.write_noise wr.write_noise
noise-written P = ap₂ (λ (a b : List ℕ). a ++ b) (head-written 1 P.head) (trees-written P.head.field 0 P.trees)

scalar-written : (P : ScalarPart) → page.write_scalar (head P.head) P.delta P.roots ≡ wr.write_scalar P
unfolding page.write_scalar wr.write_scalar page.each wr.write_each page.to_bytes le_bytes
scalar-written P =
    ap (λ (a : List ℕ). a ++ wr.write_words P.delta ++ wr.write_blocks P.roots) (head-written 2 P.head)
    ∙ append_assoc (wr.write_head 2 P.head) (wr.write_words P.delta) (wr.write_blocks P.roots)

-- ---- admitted content

each_in : {A B : Type 0} (P : A → Type 0) (Q : B → Type 0) (f : A → B) → ((a : A) → P a → Q (f a)) → (l : List A) → adm.Each P l → says.Each Q (map f l)
unfolding adm.Each says.Each
each_in P Q f g [] e = tt
each_in P Q f g (x ∷ l) e = (g x e.0, each_in P Q f g l e.1)

each-out : {A B : Type 0} (P : A → Type 0) (Q : B → Type 0) (f : B → A) → ((b : B) → Q b → P (f b)) → (l : List B) → says.Each Q l → adm.Each P (map f l)
unfolding adm.Each says.Each
each-out P Q f g [] e = tt
each-out P Q f g (x ∷ l) e = (g x e.0, each-out P Q f g l e.1)

blocks_in : (l : List (List ℕ)) → adm.Each adm.SixteenBytes l → says.Each says.IsBlock l
unfolding adm.Each says.Each Bytes
blocks_in [] e = tt
blocks_in (x ∷ l) e = (e.0, blocks_in l e.1)

blocks-out : (l : List (List ℕ)) → says.Each says.IsBlock l → adm.Each adm.SixteenBytes l
unfolding adm.Each says.Each Bytes
blocks-out [] e = tt
blocks-out (x ∷ l) e = (e.0, blocks-out l e.1)

words_in : (l : List ℕ) → adm.Each adm.SixtyFourBits l → says.Below (2 ^ 64) l
unfolding adm.Each
words_in [] e i = omega arith
words_in (x ∷ l) e zero = e.0
words_in (x ∷ l) e (suc i) = words_in l e.1 i

words-out : (l : List ℕ) → says.Below (2 ^ 64) l → adm.Each adm.SixtyFourBits l
unfolding adm.Each
words-out [] b = tt
words-out (x ∷ l) b = (b 0, words-out l (λ i. b (suc i)))

head_in_lem : (h : Head) → adm.AdmittedHead h → says.AdmittedHead (head h)
unfolding Bytes
head_in_lem h A = (A.field, A.depth, A.branch, A.trees, A.terms, A.outputs, A.code_key, A.label)

head-out : (h : Head) → says.AdmittedHead (head h) → adm.AdmittedHead h
unfolding Bytes
head-out h A =
    record {
      field = A.0;
      depth = A.1;
      branch = A.2;
      trees = A.3;
      terms = A.4;
      outputs = A.5;
      code_key = A.6;
      label = A.7;
    }

abbrev untree : page.Tree → NoiseTree
untree x = record { position = x.position; value = x.value; correction = x.correction; siblings = x.siblings }

there_and_back : (l : List page.Tree) → map tree (map untree l) ≡ l
there_and_back [] = refl
there_and_back (x ∷ l) = ap (λ (r : List page.Tree). x ∷ r) (there_and_back l)

module _ (h : Head) where
  abbrev beside : ℕ
  beside = sibling_count h.depth h.branch_bits

  tree-in : (x : NoiseTree) → adm.AdmittedTree h.field h.depth beside x → says.AdmittedTree (head h) (tree x)
  unfolding sibling_count page.when◌then◌else◌
  tree-in x A = (
    A.below,
    A.value,
    A.words.0 ∙ sym (kind_is h.field).elements.width,
    words_in x.correction A.words.1,
    (kind_is h.field).elements.is_value-read x.correction ∙ A.correction,
    A.siblings.0,
    blocks_in x.siblings A.siblings.1,
  )

  tree-out : (x : page.Tree) → says.AdmittedTree (head h) x → adm.AdmittedTree h.field h.depth beside (untree x)
  unfolding sibling_count page.when◌then◌else◌
  tree-out x A =
      record {
        below = A.0;
        value = A.1;
        words = (A.2 ∙ (kind_is h.field).elements.width, words-out x.correction A.3);
        correction = sym ((kind_is h.field).elements.is_value-read x.correction) ∙ A.4;
        siblings = (A.5, blocks-out x.siblings A.6);
      }

noise-in : (P : NoisePart) → adm.AdmittedNoise P → says.AdmittedNoise (head P.head) (map tree P.trees)
unfolding page.every every rising
noise-in P A = (
  head_in_lem P.head A.head,
  length-map P.trees tree ∙ A.count,
  each_in (adm.AdmittedTree P.head.field P.head.depth (beside P.head)) (says.AdmittedTree (head P.head)) tree (tree-in P.head) P.trees A.trees,
  ap (λ (f : ℕ → page.Tree). every (P.head.trees - 1) (λ i. ltb (f i).position (f (suc i)).position)) (fun_ext (tree-at P.trees)) ∙ A.rising,
)

noise-out : (h : page.Head) (trees : List page.Tree) → says.AdmittedNoise h trees
    → adm.AdmittedNoise (record { head = head_of h; trees = map untree trees })
unfolding page.every every rising
noise-out h trees A =
    record {
      head = head-out (head_of h) A.0;
      count = length-map trees untree ∙ A.1;
      rising =
          sym (ap (λ (f : ℕ → page.Tree). every (h.t - 1) (λ i. ltb (f i).position (f (suc i)).position)) (fun_ext (tree-at (map untree trees))))
          ∙ ap (λ (l : List page.Tree). every (h.t - 1) (λ i. ltb (page.tree_at l i).position (page.tree_at l (suc i)).position)) (there_and_back trees)
          ∙ A.3;
      trees =
          each-out (adm.AdmittedTree h.field h.d (beside (head_of h))) (says.AdmittedTree h) untree (tree-out (head_of h)) trees A.2;
    }

scalar_in : (P : ScalarPart) → adm.AdmittedScalar P → says.AdmittedScalar (head P.head) P.delta P.roots
scalar_in P A = (
  head_in_lem P.head A.head,
  A.words.0 ∙ sym (kind_is P.head.field).elements.width,
  words_in P.delta A.words.1,
  is-scalar P.head.field P.delta ∙ A.delta,
  A.roots.0,
  blocks_in P.roots A.roots.1,
)

scalar-out : (h : page.Head) (Δ : List ℕ) (roots : List (List ℕ)) → says.AdmittedScalar h Δ roots
    → adm.AdmittedScalar (record { head = head_of h; delta = Δ; roots = roots })
scalar-out h Δ roots A =
    record {
      head = head-out (head_of h) A.0;
      words = (A.1 ∙ (kind_is h.field).elements.width, words-out Δ A.2);
      delta = sym (is-scalar h.field Δ) ∙ A.3;
      roots = (A.4, blocks-out roots A.5);
    }

-- ---- a dealing's own records

module _ (D : page.Input) (M : says.InMemory D) (a b : List ℕ) (dealt : (page.deal D a b).number ≡ 0) where
  abbrev I : Input
  I = input_of D

  pub memory : dealing.InMemory I
  memory = record { roots = M.0; positions = M.1; values = M.2; delta = M.3; code_key = M.4; label = M.5 }

  pub number : (deal I a b).number ≡ 0
  number = sym (ap (λ (r : page.Return). r.number) (deal_is I a b)) ∙ dealt

  noise-reads : says.Gives (page.read_noise (says.wrote (page.deal D a b) 0) 0) (D.head, page.dealt_trees D)
  unfolding mapped
  noise-reads =
      gives _ _
      (ap (λ (r : page.Return). content (page.read_noise (says.wrote r 0) 0)) (deal_is I a b)
      ∙ noise-content _
      ∙ ap (mapped noise_record) (record_laws.noise-back I memory a b number)
      ∙ ap (λ l. Whole (D.head, l)) (sym (trees-dealt I)))

  scalar-reads : says.Gives (page.read_scalar (says.wrote (page.deal D a b) 1) 0) (D.head, page.scalar D, page.list D.head.t (page.root D))
  unfolding mapped
  scalar-reads =
      gives _ _
      (ap (λ (r : page.Return). content (page.read_scalar (says.wrote r 1) 0)) (deal_is I a b)
      ∙ scalar-content _
      ∙ ap (mapped scalar_record) (record_laws.scalar-back I memory a b number)
      ∙ ap₂ (λ d l. Whole (D.head, d, l)) (sym (scalar-words I)) (sym (roots-dealt I)))

-- ---- any record

abbrev pub Noise : Type 0
Noise = page.Head × List page.Tree

abbrev pub Scalar : Type 0
Scalar = page.Head × List ℕ × List (List ℕ)

module _ (s : List ℕ) where
  -- the content that the workings read
  pub noise-given : (x : Noise) → says.Gives (page.read_noise s 0) x → (P : NoisePart) × (rec.read_noise s ≡ Whole P) × (noise_record P ≡ x)
  noise-given x g = given noise_record (rec.read_noise s) x (sym (noise-content s) ∙ accepted _ _ g)

  pub scalar-given : (x : Scalar) → says.Gives (page.read_scalar s 0) x → (P : ScalarPart) × (rec.read_scalar s ≡ Whole P) × (scalar_record P ≡ x)
  scalar-given x g = given scalar_record (rec.read_scalar s) x (sym (scalar-content s) ∙ accepted _ _ g)

  noise-one : says.Below 256 s → (x : Noise) → says.Gives (page.read_noise s 0) x → says.AdmittedNoise x.0 x.1 × (s ≡ page.write_noise x.0 x.1)
  unfolding Bytes
  noise-one bytes x g =
      let P = noise-given x g in
      let one = record_laws.noise-one s bytes P.0 P.1 in
      subst (λ (x : Noise). says.AdmittedNoise x.0 x.1 × (s ≡ page.write_noise x.0 x.1)) P.2 (
        noise-in P.0 one.0,
        one.1 ∙ sym (noise-written P.0),
      )

  scalar-one : says.Below 256 s → (x : Scalar) → says.Gives (page.read_scalar s 0) x
      → says.AdmittedScalar x.0 x.1 x.2 × (s ≡ page.write_scalar x.0 x.1 x.2)
  unfolding Bytes
  scalar-one bytes x g =
      let P = scalar-given x g in
      let one = record_laws.scalar-one s bytes P.0 P.1 in
      subst (λ (x : Scalar). says.AdmittedScalar x.0 x.1 x.2 × (s ≡ page.write_scalar x.0 x.1 x.2)) P.2 (
        scalar_in P.0 one.0,
        one.1 ∙ sym (scalar-written P.0),
      )

noise-accepted : (h : page.Head) (trees : List page.Tree) → says.AdmittedNoise h trees → says.Gives (page.read_noise (page.write_noise h trees) 0) (h, trees)
unfolding mapped
noise-accepted h trees A =
    let P : NoisePart = record { head = head_of h; trees = map untree trees } in
    gives _ _
    (ap (λ (l : List page.Tree). content (page.read_noise (page.write_noise h l) 0)) (sym (there_and_back trees))
    ∙ ap (λ (s : List ℕ). content (page.read_noise s 0)) (noise-written P)
    ∙ noise-content (wr.write_noise P)
    ∙ ap (mapped noise_record) (record_laws.noise-accepted P (noise-out h trees A))
    ∙ ap (λ (l : List page.Tree). Whole (h, l)) (there_and_back trees))

scalar-accepted : (h : page.Head) (Δ : List ℕ) (roots : List (List ℕ)) → says.AdmittedScalar h Δ roots
    → says.Gives (page.read_scalar (page.write_scalar h Δ roots) 0) (h, Δ, roots)
unfolding mapped
scalar-accepted h Δ roots A =
    let P : ScalarPart = record { head = head_of h; delta = Δ; roots = roots } in
    gives _ _
    (ap (λ (s : List ℕ). content (page.read_scalar s 0)) (scalar-written P)
    ∙ scalar-content (wr.write_scalar P)
    ∙ ap (mapped scalar_record) (record_laws.scalar-accepted P (scalar-out h Δ roots A)))

pub records : says.Records
records =
    record {
      noise-back = noise-reads;
      scalar-back = scalar-reads;
      noise-one = λ s bytes h trees g. noise-one s bytes (h, trees) g;
      scalar-one = λ s bytes h Δ roots g. scalar-one s bytes (h, Δ, roots) g;
      noise-accepted = noise-accepted;
      scalar-accepted = scalar-accepted;
      one_end = λ s x y g k.
          let P = noise-given s x g in
          let Q = scalar-given s y k in
          record_laws.one_end s P.0 Q.0 P.1 Q.1;
    }
