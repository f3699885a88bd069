-- Laws of trees for callers, for any number k of children: a tree by its children, siblings by levels, and that from the
-- siblings at s every leaf but s comes out as the tree's own. A level with two children has one sibling.
use mathlib.Core.Path.{◌≡◌, refl, ap, ap₂, sym, ◌∙◌}
use mathlib.Core.Logic.{◌≢◌}
use mathlib.Core.Bool.{Bool, true, false}
use mathlib.Core.List.{List, [], ◌∷◌, ◌++◌}
use Prim.Native.Nat.{ℕ, zero, suc, ◌+◌, ◌-◌, ◌*◌, ◌%◌, ◌^◌, ◌<◌}
use native.Mathlib.Nat.{mod-eq_of_lt, mod-one, pow-zero, zero-mul}
use native.Mathlib.Omega.{arith}
use lib.Dec.{eqb, ltb}
use lib.ListN.{length, get_or, take, drop, length-append, length-drop, get_or-append}
use lib.Seq.{length-take-le, drop_at, get_or-append-add, get_or-take, get_or-drop}
use borrow.Author.Tests.{eq-eqb, ne_eqb, eqb-true, eqb-false, ltb-true, ltb-false, lt-ltb, le-ltb}
use Rattle.algebra.specs.Choice.{choose}
use Rattle.tree.specs.Tree.{path, reach, leaf_at, listed, others, beside, siblings, rank, follow, from_siblings}
use Rattle.tree.specs.Follows.{FromSiblings}
use Rattle.tree.specs.Added.{leaf_element, punctured_element}
use Rattle.tree.proofs.Paths.{digit, digit-below, digit-first, path_past, mod_suc-digit}
use Rattle.tree.proofs.Listed.{length-listed, listed_at, listed_cong, listed-none, listed-last}

-- ---- a condition on each of a list's values

abbrev pub Each : {A : Type 0} → (A → Type 0) → List A → Type 0
Each P [] = Unit {0}
Each P (x ∷ xs) = P x × Each P xs

module _ {A : Type 0} (P : A → Type 0) where
  each_append : (xs ys : List A) → Each P xs → Each P ys → Each P (xs ++ ys)
  each_append [] ys px py = py
  each_append (x ∷ xs) ys px py = (px.0, each_append xs ys px.1 py)

  each_take : (n : ℕ) (xs : List A) → Each P xs → Each P (take n xs)
  each_take zero xs p = tt
  each_take (suc n) [] p = tt
  each_take (suc n) (x ∷ xs) p = (p.0, each_take n xs p.1)

  each-drop : (n : ℕ) (xs : List A) → Each P xs → Each P (drop n xs)
  each-drop zero xs p = p
  each-drop (suc n) [] p = tt
  each-drop (suc n) (x ∷ xs) p = each-drop n xs p.1

  each-listed : (n : ℕ) (f : ℕ → A) → ((i : ℕ) → i < n → P (f i)) → Each P (listed n f)
  each-listed zero f p = rw listed-none tt
  each-listed (suc n) f p =
      rw listed-last (each_append (listed n f) (f n ∷ []) (each-listed n f (λ i h. p i (omega arith))) (p n (omega arith), tt))

-- ---- the other children of a node

pub rank-low : (c b : ℕ) → b < c → rank c b ≡ b
rank-low c b h = rw (lt-ltb b c h)

pub rank-high : (c b : ℕ) → c < b → rank c b ≡ b - 1
rank-high c b h = rw (le-ltb b c (omega arith))

pub rank_below : (k c b : ℕ) → c < k → b < k → c ≢ b → rank c b < k - 1
rank_below k c b hc hb h = decide (ltb b c) refl
  where
    decide : (t : Bool) → ltb b c ≡ t → rank c b < k - 1
    decide true e =
        let l : b < c = ltb-true b c e in
        rw (rank-low c b l) (omega arith)
    decide false e =
        let l : c < b = omega (arith, ltb-false b c e, h) in
        rw (rank-high c b l) (omega arith)

module _ {A : Type 0} (k : ℕ) (child : ℕ → A → A) (s : A) where
  children : List A
  children = listed k (λ b. child b s)

  module _ (c : ℕ) (hc : c < k) where
    length_front : length (take c children) ≡ c
    unfolding children
    length_front = length-take-le c children (rw (length-listed k (λ b. child b s)) (omega arith))

    pub length-others : length (others k child s c) ≡ k - 1
    unfolding others children
    length-others =
        let all = length-listed k (λ b. child b s) in
        omega (arith, length-append (take c children) (drop (suc c) children), length_front, length-drop (suc c) children)

    module _ (b : ℕ) (hb : b < k) (h : c ≢ b) where
      others-low : (none : A) → b < c → get_or (others k child s c) b none ≡ child b s
      unfolding others children
      others-low none l =
          get_or-append (take c children) (drop (suc c) children) none b (omega (arith, length_front))
          ∙ get_or-take c children b none l
          ∙ listed_at k (λ i. child i s) none b hb

      others-high : (none : A) → c < b → get_or (others k child s c) (b - 1) none ≡ child b s
      unfolding others children
      others-high none l =
          ap (λ n. get_or (take c children ++ drop (suc c) children) n none) {y = length (take c children) + (b - suc c)}
          (omega (arith, length_front))
          ∙ get_or-append-add (take c children) (drop (suc c) children) (b - suc c) none
          ∙ get_or-drop (suc c) children (b - suc c) none
          ∙ ap (λ n. get_or children n none) {y = b} (omega arith)
          ∙ listed_at k (λ i. child i s) none b hb

      -- child b stands at its rank, also before the siblings of further levels
      pub others-front : (none : A) (rest : List A) → get_or (others k child s c ++ rest) (rank c b) none ≡ child b s
      others-front none rest = decide (ltb b c) refl
        where
          at : (n : ℕ) → rank c b ≡ n → n < k - 1 → get_or (others k child s c) n none ≡ child b s
              → get_or (others k child s c ++ rest) (rank c b) none ≡ child b s
          at n e l o =
              ap (λ m. get_or (others k child s c ++ rest) m none) e
              ∙ get_or-append (others k child s c) rest none n (omega (arith, length-others))
              ∙ o

          decide : (t : Bool) → ltb b c ≡ t → get_or (others k child s c ++ rest) (rank c b) none ≡ child b s
          decide true e =
              let l : b < c = ltb-true b c e in
              at b (rank-low c b l) (omega arith) (others-low none l)
          decide false e =
              let l : c < b = omega (arith, ltb-false b c e, h) in
              at (b - 1) (rank-high c b l) (omega arith) (others-high none l)

-- ---- trees by their children

module _ {A : Type 0} (k : ℕ) (child : ℕ → A → A) where
  pub leaf-none : (s : A) (j : ℕ) → leaf_at k child 0 s j ≡ s
  unfolding leaf_at path reach
  leaf-none s j = refl

  pub leaf-suc : (d : ℕ) (s : A) (j : ℕ) → leaf_at k child (suc d) s j ≡ leaf_at k child d (child (digit k d j) s) j
  unfolding leaf_at path reach
  leaf-suc d s j = refl

  pub siblings-none : (s : A) (j : ℕ) → siblings k child 0 s j ≡ []
  unfolding siblings path beside
  siblings-none s j = refl

  pub siblings-suc : (d : ℕ) (s : A) (j : ℕ)
      → siblings k child (suc d) s j ≡ others k child s (digit k d j) ++ siblings k child d (child (digit k d j) s) j
  unfolding siblings path beside
  siblings-suc d s j = refl

  pub from_suc : (none : A) (xs : List A) (d s j : ℕ)
      → from_siblings k child none xs (suc d) s j
      ≡ choose (eqb (digit k d s) (digit k d j)) (from_siblings k child none (drop (k - 1) xs) d s j)
      (leaf_at k child d (get_or xs (rank (digit k d s) (digit k d j)) none) j)
  unfolding from_siblings follow path leaf_at
  from_suc none xs d s j = refl

  module _ (some : 0 < k) where
    -- the leaves of a node are those of its children, one child after another
    pub leaf-child : (d : ℕ) (s : A) (c j : ℕ) → c < k → j < k ^ d
        → leaf_at k child (suc d) s (c * k ^ d + j) ≡ leaf_at k child d (child c s) j
    unfolding leaf_at
    leaf-child d s c j hc hj =
        leaf-suc d s (c * k ^ d + j)
        ∙ ap₂ (λ b digits. reach child (child b s) digits) (digit-first k some d c j hc hj) (path_past k some d c j)

    -- a level has k − 1 siblings
    pub length-siblings : (d : ℕ) (s : A) (j : ℕ) → length (siblings k child d s j) ≡ d * (k - 1)
    length-siblings zero s j = ap length (siblings-none s j) ∙ sym (zero-mul (k - 1))
    length-siblings (suc d) s j =
        let e = digit k d j in
        let rest = siblings k child d (child e s) j in
        rw (siblings-suc d s j, length-append (others k child s e) rest)
        (omega (arith, length-others k child s e (digit-below k some d j), length-siblings d (child e s) j))

    module _ (none : A) (xs : List A) (d s j : ℕ) (hs : s < k ^ d) (hj : j < k ^ d) where
      -- below the child that the position lies in, a leaf follows from the siblings of the further levels
      pub from-within : (c : ℕ) → c < k
          → from_siblings k child none xs (suc d) (c * k ^ d + s) (c * k ^ d + j) ≡ from_siblings k child none (drop (k - 1) xs) d s j
      unfolding from_siblings
      from-within c hc =
          let e = eq-eqb _ _ (digit-first k some d c s hc hs ∙ sym (digit-first k some d c j hc hj)) in
          cc (from_suc none xs d (c * k ^ d + s) (c * k ^ d + j), path_past k some d c s, path_past k some d c j)

      -- below another child b, from that child among the first level's siblings
      pub from-beside : (c b : ℕ) → c < k → b < k → c ≢ b
          → from_siblings k child none xs (suc d) (c * k ^ d + s) (b * k ^ d + j) ≡ leaf_at k child d (get_or xs (rank c b) none) j
      unfolding leaf_at
      from-beside c b hc hb h =
          let es = digit-first k some d c s hc hs in
          let ej = digit-first k some d b j hb hj in
          let n = ne_eqb _ _ (λ e. h (sym es ∙ e ∙ ej)) in
          cc (from_suc none xs d (c * k ^ d + s) (b * k ^ d + j), path_past k some d b j)

    -- numbers that differ modulo k ^ d
    from-siblings_mod : (none : A) (d : ℕ) (root : A) (s j : ℕ) → s % k ^ d ≢ j % k ^ d
        → from_siblings k child none (siblings k child d root s) d s j ≡ leaf_at k child d root j
    from-siblings_mod none zero root s j h = absurd (h (cc (pow-zero k, mod-one s, mod-one j)))
    from-siblings_mod none (suc d) root s j h = decide (eqb (digit k d s) (digit k d j)) refl (from-siblings_mod none d (child (digit k d s) root) s j)
      where
        decide : (t : Bool) → eqb (digit k d s) (digit k d j) ≡ t
            → (s % k ^ d ≢ j % k ^ d
            → from_siblings k child none (siblings k child d (child (digit k d s) root) s) d s j ≡ leaf_at k child d (child (digit k d s) root) j)
            → from_siblings k child none (siblings k child (suc d) root s) (suc d) s j ≡ leaf_at k child (suc d) root j
        decide true t ih =
            let first = others k child root (digit k d s) in
            let rest = siblings k child d (child (digit k d s) root) s in
            let e = eqb-true (digit k d s) (digit k d j) t in
            let low = ih (λ f. h (cc (mod_suc-digit k some d s, mod_suc-digit k some d j))) in
            let past = drop_at first rest (k - 1) (length-others k child root (digit k d s) (digit-below k some d s)) in
            cc (siblings-suc d root s, from_suc none (first ++ rest) d s j, leaf-suc d root j)
        decide false t ih =
            let first = others k child root (digit k d s) in
            let rest = siblings k child d (child (digit k d s) root) s in
            let e = eqb-false (digit k d s) (digit k d j) t in
            let front = others-front k child root (digit k d s) (digit-below k some d s) (digit k d j) (digit-below k some d j) e none rest in
            cc (siblings-suc d root s, from_suc none (first ++ rest) d s j, leaf-suc d root j)

    -- ---- what children keep, all nodes have

    module _ (P : A → Type 0) (kept : (b : ℕ) → b < k → (s : A) → P s → P (child b s)) where
      pub leaf-has : (d : ℕ) (s : A) (j : ℕ) → P s → P (leaf_at k child d s j)
      leaf-has zero s j p = rw leaf-none p
      leaf-has (suc d) s j p =
          rw leaf-suc (leaf-has d (child (digit k d j) s) j (kept (digit k d j) (digit-below k some d j) s p))

      others_have : (s : A) (c : ℕ) → P s → Each P (others k child s c)
      unfolding others
      others_have s c p =
          let all : Each P (listed k (λ b. child b s)) = each-listed P k (λ b. child b s) (λ b h. kept b h s p) in
          each_append P (take c (listed k (λ b. child b s))) (drop (suc c) (listed k (λ b. child b s)))
          (each_take P c (listed k (λ b. child b s)) all) (each-drop P (suc c) (listed k (λ b. child b s)) all)

      pub siblings_have : (d : ℕ) (s : A) (j : ℕ) → P s → Each P (siblings k child d s j)
      siblings_have zero s j p = rw siblings-none tt
      siblings_have (suc d) s j p =
          rw siblings-suc
          (each_append P (others k child s (digit k d j)) (siblings k child d (child (digit k d j) s) j)
          (others_have s (digit k d j) p)
          (siblings_have d (child (digit k d j) s) j (kept (digit k d j) (digit-below k some d j) s p)))

-- from the siblings of root at s, every leaf but s comes out as root's own leaf
pub from-siblings : {A : Type 0} (child : ℕ → A → A) (none : A) → FromSiblings child none
from-siblings child none zero zero root s j hs hj h = absurd (h (omega arith))
from-siblings child none zero (suc d) root s j hs hj h = absurd (omega arith)
from-siblings child none (suc k) d root s j hs hj h =
    from-siblings_mod (suc k) child (omega arith) none d root s j (λ e. h (sym (mod-eq_of_lt hs) ∙ e ∙ mod-eq_of_lt hj))

-- ---- two child functions that agree on the k children

module _ {A : Type 0} (k : ℕ) (some : 0 < k) (f g : ℕ → A → A) (same : (c : ℕ) → c < k → (s : A) → f c s ≡ g c s) where
  pub leaf-same : (d : ℕ) (s : A) (j : ℕ) → leaf_at k f d s j ≡ leaf_at k g d s j
  unfolding leaf_at path reach
  leaf-same zero s j = refl
  leaf-same (suc d) s j = cc (same (digit k d j) (digit-below k some d j) s, leaf-same d (g (digit k d j) s) j)

  others_same : (s : A) (c : ℕ) → others k f s c ≡ others k g s c
  unfolding others
  others_same s c =
      ap (λ l. take c l ++ drop (suc c) l) (listed_cong k (λ b. f b s) (λ b. g b s) (λ b h. same b h s))

  pub siblings-same : (d : ℕ) (s : A) (j : ℕ) → siblings k f d s j ≡ siblings k g d s j
  unfolding siblings path beside
  siblings-same zero s j = refl
  siblings-same (suc d) s j =
      cc (others_same s (digit k d j), same (digit k d j) (digit-below k some d j) s, siblings-same d (g (digit k d j) s) j)

  pub from-same : (none : A) (xs : List A) (d s j : ℕ) → from_siblings k f none xs d s j ≡ from_siblings k g none xs d s j
  unfolding from_siblings follow path leaf_at
  from-same none xs zero s j = refl
  from-same none xs (suc d) s j =
      cc (from-same none (drop (k - 1) xs) d s j, leaf-same d (get_or xs (rank (digit k d s) (digit k d j)) none) j)

-- ---- elements

module _ {A E : Type 0} (element : A → E) (k : ℕ) where
  module _ (some : 0 < k) (f g : ℕ → A → A) (same : (c : ℕ) → c < k → (s : A) → f c s ≡ g c s) where
    pub leaf-element-same : (d : ℕ) (s : A) (j : ℕ) → leaf_element element k f d s j ≡ leaf_element element k g d s j
    unfolding leaf_element
    leaf-element-same d s j = ap element (leaf-same k some f g same d s j)

    pub punctured-element-same : (none : A) (xs : List A) (d s : ℕ) (correction : E) (j : ℕ)
        → punctured_element element k f none xs d s correction j ≡ punctured_element element k g none xs d s correction j
    unfolding punctured_element
    punctured-element-same none xs d s correction j =
        ap (λ a. choose (eqb s j) correction (element a)) (from-same k some f g same none xs d s j)

-- ---- two children

-- bit d of j
abbrev pub bit : ℕ → ℕ → ℕ
bit d j = digit 2 d j

pub two : 0 < 2
two = omega arith

module _ {A : Type 0} (child : ℕ → A → A) where
  others-two : (s : A) (c : ℕ) → c < 2 → others 2 child s c ≡ child (1 - c) s ∷ []
  unfolding others listed
  others-two s zero h = refl
  others-two s (suc zero) h = refl
  others-two s (suc (suc c)) h = absurd (omega arith)

  -- a level's one sibling
  pub siblings-two : (d : ℕ) (s : A) (j : ℕ)
      → siblings 2 child (suc d) s j ≡ child (1 - bit d j) s ∷ siblings 2 child d (child (bit d j) s) j
  siblings-two d s j = cc (siblings-suc 2 child d s j, others-two s (bit d j) (digit-below 2 two d j))
