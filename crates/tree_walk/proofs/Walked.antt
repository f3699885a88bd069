-- The walk to a leaf: children written one after another, a level passed, and the walk by levels.
use mathlib.Core.Path.{◌≡◌, refl, ap, ap₂, sym, ◌∙◌}
use mathlib.Core.Logic.{◌≢◌}
use mathlib.Core.List.{List, [], ◌∷◌, ◌++◌, append-nil, append_assoc}
use Prim.Native.Nat.{ℕ, zero, suc, ◌+◌, ◌-◌, ◌*◌, ◌/◌, ◌%◌, ◌^◌, ◌≤◌, ◌<◌}
use native.Mathlib.Nat.{mod-lt, add-zero, zero-add}
use native.Mathlib.Omega.{arith}
use lib.ListN.{length, take, drop, length-append}
use lib.Pow.{pow_pos}
use lib.Seq.{sets, take_at, drop_at}
use Rattle.tree.specs.Tree.{leaf_at, listed, others, siblings}
use Rattle.tree.specs.Columns.{columns_bytes, blocks_bytes}
use Rattle.tree.specs.Expanded.{Walk, walk, walked}
use Rattle.tree.specs.Inner.Branches.{IsPunctured}
use Rattle.tree_walk.specs.Inner.Levels.{IsLevel, children_from, children_put, twin, twin_put, before_put, level_passed}
use Rattle.tree.specs.declared.punctured.Punctured.{Punctured}
use Rattle.tree.proofs.Paths.{digit, digit-below}
use Rattle.tree.proofs.Laws.{leaf-none, leaf-suc, siblings-none, siblings-suc, length-others}
use Rattle.tree.proofs.Listed.{length-listed, listed-front, listed_cong, listed-none, listed-last}
use Rattle.algebra.proofs.Written.{sets_append}
use Rattle.tree.proofs.Blocks.{length-blocks}
use Rattle.tree.proofs.PowerLaws.{down, level_less, halved, eight}

-- ---- blocks written one after another

blocks_append : (xs ys : List (List (List ℕ))) → blocks_bytes (xs ++ ys) ≡ blocks_bytes xs ++ blocks_bytes ys
unfolding blocks_bytes
blocks_append [] ys = refl
blocks_append (x ∷ xs) ys =
    ap (λ l. columns_bytes x ++ l) (blocks_append xs ys) ∙ sym (append_assoc (columns_bytes x) (blocks_bytes xs) (blocks_bytes ys))

sets-blocks : (l : List ℕ) (at place : ℕ) (xs ys : List (List (List ℕ))) → place ≡ at + length xs * 16
    → sets (sets l at (blocks_bytes xs)) place (blocks_bytes ys) ≡ sets l at (blocks_bytes (xs ++ ys))
sets-blocks l at place xs ys e =
    ap (λ n. sets (sets l at (blocks_bytes xs)) n (blocks_bytes ys)) (e ∙ ap (λ n. at + n) (sym (length-blocks xs)))
    ∙ sym (sets_append l at (blocks_bytes xs) (blocks_bytes ys))
    ∙ ap (sets l at) (sym (blocks_append xs ys))

-- one block
one_block : (l : List ℕ) (at : ℕ) (x : List (List ℕ)) → sets l at (columns_bytes x) ≡ sets l at (blocks_bytes (x ∷ []))
unfolding blocks_bytes
one_block l at x = ap (sets l at) (sym (append-nil (columns_bytes x)))

-- two blocks
sets-two : (l : List ℕ) {l₁ l₂ : List ℕ} (at : ℕ) (a b : List (List ℕ)) → l₁ ≡ sets l at (columns_bytes a) → l₂ ≡ sets l₁ (at + 16) (columns_bytes b)
    → l₂ ≡ sets l at (blocks_bytes (a ∷ b ∷ []))
sets-two l at a b e₁ e₂ =
    e₂
    ∙ ap (λ k. sets k (at + 16) (columns_bytes b)) (e₁ ∙ one_block l at a)
    ∙ one_block (sets l at (blocks_bytes (a ∷ []))) (at + 16) b
    ∙ sets-blocks l at (at + 16) (a ∷ []) (b ∷ []) refl

-- ---- children written

module _ {A : Type 0} (child : ℕ → A → A) (s : A) where
  from-none : (c : ℕ) → children_from child s c 0 ≡ []
  unfolding children_from
  from-none c = listed-none (λ i. child (c + i) s)

  from-two : (c n : ℕ) → children_from child s c (suc (suc n)) ≡ child c s ∷ child (c + 1) s ∷ children_from child s (c + 2) n
  unfolding children_from
  from-two c n =
      listed-front (suc n) (λ i. child (c + i) s)
      ∙ ap₂ (λ x l. x ∷ l) (ap (λ i. child i s) (add-zero c))
      (listed-front n (λ i. child (c + suc i) s)
      ∙ ap (λ l. child (c + 1) s ∷ l) (listed_cong n (λ i. child (c + suc (suc i)) s) (λ i. child (c + 2 + i) s) (λ i h. ap (λ k. child k s) (more c i))))
    where
      more : (c i : ℕ) → c + suc (suc i) ≡ c + 2 + i
      more c i = omega arith

  from-last : (c n : ℕ) → children_from child s c (suc (suc n)) ≡ children_from child s c n ++ (child (c + n) s ∷ child (c + n + 1) s ∷ [])
  unfolding children_from
  from-last c n =
      listed-last (suc n) f
      ∙ ap (λ l. l ++ (f (suc n) ∷ [])) (listed-last n f)
      ∙ append_assoc (listed n f) (f n ∷ []) (f (suc n) ∷ [])
      ∙ ap (λ k. listed n f ++ (f n ∷ child k s ∷ [])) (more c n)
    where
      f : ℕ → A
      f i = child (c + i) s

      more : (c n : ℕ) → c + suc n ≡ c + n + 1
      more c n = omega arith

  length_from : (c n : ℕ) → length (children_from child s c n) ≡ n
  unfolding children_from
  length_from c n = length-listed n (λ i. child (c + i) s)

module _ (child : ℕ → List (List ℕ) → List (List ℕ)) (s : List (List ℕ)) (first at : ℕ) (l₀ : List ℕ) where
  -- so many pairs of children written into a buffer
  pub record Put (pairs : ℕ) (l : List ℕ) : Type 0 where
    pub put : l ≡ children_put child s first (2 * pairs) at l₀
    pub long : length l ≡ length l₀

  pub put-none : Put 0 l₀
  unfolding children_put blocks_bytes
  put-none = record { put = sym (ap (λ x. sets l₀ at (blocks_bytes x)) (from-none child s first)); long = refl }

  -- a pair after them
  pub put_next : (pair : ℕ) {x y : List (List ℕ)} {l l₁ l₂ : List ℕ} → Put pair l
      → x ≡ child (first + 2 * pair) s → y ≡ child (first + 2 * pair + 1) s
      → l₁ ≡ sets l (at + 32 * pair) (columns_bytes x) → l₂ ≡ sets l₁ (at + 32 * pair + 16) (columns_bytes y)
      → length l₂ ≡ length l → Put (pair + 1) l₂
  unfolding children_put
  put_next pair {x} {y} {l} p ex ey e₁ e₂ same =
      record {
        put =
            sets-two l (at + 32 * pair) x y e₁ e₂
            ∙ ap₂ (λ a b. sets l (at + 32 * pair) (blocks_bytes (a ∷ b ∷ []))) ex ey
            ∙ ap (λ k. sets k (at + 32 * pair) (blocks_bytes two)) p.put
            ∙ sets-blocks l₀ at (at + 32 * pair) (children_from child s first (2 * pair)) two (omega (arith, length_from child s first (2 * pair)))
            ∙ ap (λ z. sets l₀ at (blocks_bytes z)) (sym (from-last child s first (2 * pair)) ∙ ap (children_from child s first) (twice pair));
        long = same ∙ p.long;
      }
    where
      two : List (List (List ℕ))
      two = child (first + 2 * pair) s ∷ child (first + 2 * pair + 1) s ∷ []

      twice : (n : ℕ) → suc (suc (2 * n)) ≡ 2 * (n + 1)
      twice n = omega arith

-- ---- a level passed

module _ {A : Type 0} (child : ℕ → A → A) (s : A) where
  abbrev f : ℕ → A
  f b = child b s

  -- the first m children, and the n after them
  listed_parts : (m n : ℕ) → listed (m + n) f ≡ children_from child s 0 m ++ children_from child s m n
  unfolding children_from
  listed_parts m zero =
      ap (λ k. listed k f) (add-zero m)
      ∙ listed_cong m f (λ i. child (0 + i) s) (λ i h. ap f (sym (zero-add i)))
      ∙ sym (ap (λ l. listed m (λ i. child (0 + i) s) ++ l) (listed-none (λ i. child (m + i) s)) ∙ append-nil (listed m (λ i. child (0 + i) s)))
  listed_parts m (suc n) =
      ap (λ k. listed k f) (more m n)
      ∙ listed-last (m + n) f
      ∙ ap (λ l. l ++ (f (m + n) ∷ [])) (listed_parts m n)
      ∙ append_assoc (listed m (λ i. child (0 + i) s)) (listed n (λ i. child (m + i) s)) (f (m + n) ∷ [])
      ∙ ap (λ l. listed m (λ i. child (0 + i) s) ++ l) (sym (listed-last n (λ i. child (m + i) s)))
    where
      more : (m n : ℕ) → m + suc n ≡ suc (m + n)
      more m n = omega arith

  -- the others of child p or p + 1, of a pair with n children after it
  module _ (p n : ℕ) where
    before : List A
    before = children_from child s 0 p

    after : List A
    after = children_from child s (p + 2) n

    all : listed (p + suc (suc n)) f ≡ before ++ (f p ∷ f (p + 1) ∷ after)
    unfolding before after
    all = listed_parts p (suc (suc n)) ∙ ap (λ l. children_from child s 0 p ++ l) (from-two child s p n)

    long : length before ≡ p
    unfolding before
    long = length_from child s 0 p

    others-first : others (p + suc (suc n)) child s p ≡ before ++ (f (p + 1) ∷ after)
    unfolding others
    others-first =
        ap₂ (λ a b. a ++ b)
        (ap (take p) all ∙ take_at before (f p ∷ f (p + 1) ∷ after) p long)
        (ap (drop (suc p)) (all ∙ sym (append_assoc before (f p ∷ []) (f (p + 1) ∷ after)))
        ∙ drop_at (before ++ (f p ∷ [])) (f (p + 1) ∷ after) (suc p) (length-append before (f p ∷ []) ∙ omega (arith, long)))

    others-second : others (p + suc (suc n)) child s (p + 1) ≡ before ++ (f p ∷ after)
    unfolding others
    others-second =
        ap₂ (λ a b. a ++ b)
        (ap (take (p + 1)) (all ∙ sym (append_assoc before (f p ∷ []) (f (p + 1) ∷ after)))
        ∙ take_at (before ++ (f p ∷ [])) (f (p + 1) ∷ after) (p + 1) (length-append before (f p ∷ []) ∙ omega (arith, long)))
        (ap (drop (suc (p + 1))) (all ∙ sym (append_assoc before (f p ∷ f (p + 1) ∷ []) after))
        ∙ drop_at (before ++ (f p ∷ f (p + 1) ∷ [])) after (suc (p + 1)) (length-append before (f p ∷ f (p + 1) ∷ []) ∙ omega (arith, long)))
        ∙ append_assoc before (f p ∷ []) after

module _ (child : ℕ → List (List ℕ) → List (List ℕ)) (s : List (List ℕ)) (at : ℕ) (l : List ℕ) where
  -- a child and its twin, of two children made together
  module _ (digit : ℕ) {x y : List (List ℕ)} {l₁ : List ℕ} (ex : x ≡ child (2 * (digit / 2)) s) (ey : y ≡ child (2 * (digit / 2) + 1) s) where
    pub twin-second : digit % 2 ≡ 0 → l₁ ≡ sets l at (columns_bytes y) → walk x l₁ ≡ twin_put child s digit at l
    unfolding twin_put
    twin-second e e₁ =
        ap₂ walk (ex ∙ ap (λ i. child i s) {y = digit} (omega arith))
        (e₁ ∙ ap (λ z. sets l at (columns_bytes z)) (ey ∙ ap (λ i. child i s) {y = twin digit} (omega arith)))

    pub twin-first : digit % 2 ≢ 0 → l₁ ≡ sets l at (columns_bytes x) → walk y l₁ ≡ twin_put child s digit at l
    unfolding twin_put
    twin-first e e₁ =
        ap₂ walk (ey ∙ ap (λ i. child i s) {y = digit} (omega arith))
        (e₁ ∙ ap (λ z. sets l at (columns_bytes z)) (ex ∙ ap (λ i. child i s) {y = twin digit} (omega arith)))

  -- the others of a child: those before its pair, its twin, and those after its pair
  others-twin : (digit after : ℕ)
      → others (2 * (digit / 2) + suc (suc (2 * after))) child s digit
      ≡ children_from child s 0 (2 * (digit / 2)) ++ (child (twin digit) s ∷ children_from child s (2 * (digit / 2) + 2) (2 * after))
  unfolding before after
  others-twin digit n = decide (digit % 2) refl (mod-lt digit (omega arith))
    where
      p : ℕ
      p = 2 * (digit / 2)

      by : (c x : ℕ) → digit ≡ c → twin digit ≡ x
          → others (p + suc (suc (2 * n))) child s c ≡ children_from child s 0 p ++ (child x s ∷ children_from child s (p + 2) (2 * n))
          → others (p + suc (suc (2 * n))) child s digit ≡ children_from child s 0 p ++ (child (twin digit) s ∷ children_from child s (p + 2) (2 * n))
      by c x d e o =
          ap (others (p + suc (suc (2 * n))) child s) d
          ∙ o
          ∙ ap (λ i. children_from child s 0 p ++ (child i s ∷ children_from child s (p + 2) (2 * n))) (sym e)

      decide : (b : ℕ) → digit % 2 ≡ b → b < 2
          → others (p + suc (suc (2 * n))) child s digit ≡ children_from child s 0 p ++ (child (twin digit) s ∷ children_from child s (p + 2) (2 * n))
      decide zero e h = by p (p + 1) (omega arith) (omega arith) (others-first child s p (2 * n))
      decide (suc zero) e h = by (p + 1) p (omega arith) (omega arith) (others-second child s p (2 * n))
      decide (suc (suc b)) e h = absurd (omega arith)

  -- the children before the pair, and the twin
  pub front-put : (digit : ℕ) {r : List (List ℕ)} {l₁ l₂ : List ℕ}
      → walk r l₂ ≡ twin_put child s digit (at + 32 * (digit / 2)) l₁ → l₁ ≡ children_put child s 0 (2 * (digit / 2)) at l
      → walk r l₂ ≡ before_put child s digit at l
  unfolding twin_put before_put children_put
  front-put digit {r} e₂ e₁ =
      e₂
      ∙ ap (walk (child digit s))
      (ap (λ k. sets k (at + 32 * (digit / 2)) (columns_bytes (child (twin digit) s))) e₁
      ∙ one_block (sets l at (blocks_bytes before)) (at + 32 * (digit / 2)) (child (twin digit) s)
      ∙ sets-blocks l at (at + 32 * (digit / 2)) before (child (twin digit) s ∷ []) (omega (arith, length_from child s 0 (2 * (digit / 2)))))
    where
      before : List (List (List ℕ))
      before = children_from child s 0 (2 * (digit / 2))

  -- a level: those, and the children after the pair
  pub level-passed : (g digit after : ℕ) {r : List (List ℕ)} {l₁ l₂ : List ℕ}
      → l₂ ≡ children_put child s (2 * (digit / 2) + 2) (2 * after) (at + 32 * (digit / 2) + 16) l₁
      → walk r l₁ ≡ before_put child s digit at l
      → 2 ^ g ≡ 2 * (digit / 2) + (2 + 2 * after)
      → walk r l₂ ≡ level_passed (2 ^ g) child s digit at l
  unfolding level_passed before_put children_put
  level-passed g digit n {r} {l₁} e₂ e₁ total =
      ap₂ walk (ap (λ w. w.leaf) e₁)
      (e₂
      ∙ ap (λ k. sets k (at + 32 * (digit / 2) + 16) (blocks_bytes after)) (ap (λ w. w.bytes) e₁)
      ∙ sets-blocks l at (at + 32 * (digit / 2) + 16) (before ++ (child (twin digit) s ∷ [])) after
      (omega (arith, length-append before (child (twin digit) s ∷ []), length_from child s 0 (2 * (digit / 2))))
      ∙ ap (λ z. sets l at (blocks_bytes z))
      (append_assoc before (child (twin digit) s ∷ []) after ∙ sym (ap (λ k. others k child s digit) (total ∙ omega arith) ∙ others-twin digit n)))
    where
      before : List (List (List ℕ))
      before = children_from child s 0 (2 * (digit / 2))

      after : List (List (List ℕ))
      after = children_from child s (2 * (digit / 2) + 2) (2 * n)

-- room for the other child of the pair
pub other-room : (g digit at n m : ℕ) → IsLevel g digit at n → m ≡ n → at + 32 * (digit / 2) + 16 ≤ m
other-room g digit at n m ok same = omega (arith, ok.named, ok.room, halved g ok.branch.two)

-- ---- the walk by levels

module _ (child : ℕ → List (List ℕ) → List (List ℕ)) (s : List (List ℕ)) (t : Punctured) (l : List ℕ) where
  abbrev k : ℕ
  k = 2 ^ t.branch_bits

  -- what a walk gives where n levels are left
  By : ℕ → Walk
  By n = walk (leaf_at k child n s t.position) (sets l t.at (blocks_bytes (siblings k child n s t.position)))

  pub walked-leaf : t.levels ≡ 0 → walk s l ≡ walked k child s t l
  unfolding walked By blocks_bytes
  walked-leaf e =
      ap₂ (λ x y. walk x (sets l t.at (blocks_bytes y))) (sym (leaf-none k child s t.position)) (sym (siblings-none k child s t.position))
      ∙ ap By (sym e)

  -- from the root's block to the leaf's columns
  pub walked-root : {x y r : List (List ℕ)} {l₂ : List ℕ} → x ≡ s → r ≡ y → walk y l₂ ≡ walked k child x t l → walk r l₂ ≡ walked k child s t l
  walked-root {l₂ = l₂} ex er e = ap (λ z. walk z l₂) er ∙ e ∙ ap (λ z. walked k child z t l) ex

  -- one level on, past the other children
  pub walked_on : {count c : ℕ} {x r : List (List ℕ)} {l₁ l₂ : List ℕ} → t.levels ≢ 0 → count ≡ 2 ^ t.branch_bits
      → c ≡ digit k (t.levels - 1) t.position → walk x l₁ ≡ level_passed k child s c t.at l
      → walk r l₂ ≡ walked k child x (record { branch_bits = t.branch_bits; levels = t.levels - 1; position = t.position; at = t.at + 16 * (count - 1) }) l₁
      → walk r l₂ ≡ walked k child s t l
  unfolding walked level_passed By
  walked_on {count} {c} {x} {r} {l₁} h ec same e₁ e₂ =
      e₂
      ∙ ap₂ (λ a b. walked k child a (record { branch_bits = t.branch_bits; levels = t.levels - 1; position = t.position; at = t.at + 16 * (count - 1) }) b)
      (ap (λ w. w.leaf) e₁) (ap (λ w. w.bytes) e₁)
      ∙ ap₂ (λ d c. next d c) same ec
      ∙ ap₂ walk (sym (leaf-suc k child (t.levels - 1) s t.position))
      (sets-blocks l t.at (t.at + 16 * (k - 1)) (others k child s named) (siblings k child (t.levels - 1) (child named s) t.position)
      (ap (λ n. t.at + n) (sixteen (k - 1) ∙ ap (λ n. n * 16) (sym (length-others k child s named (digit-below k (pow_pos t.branch_bits) (t.levels - 1) t.position)))))
      ∙ ap (λ z. sets l t.at (blocks_bytes z)) (sym (siblings-suc k child (t.levels - 1) s t.position)))
      ∙ ap By (sym (down t.levels h))
    where
      named : ℕ
      named = digit k (t.levels - 1) t.position

      -- the walk below child d, its siblings after c − 1 others
      next : ℕ → ℕ → Walk
      next d c =
          walk (leaf_at k child (t.levels - 1) (child d s) t.position)
          (sets (sets l t.at (blocks_bytes (others k child s d))) (t.at + 16 * (c - 1))
          (blocks_bytes (siblings k child (t.levels - 1) (child d s) t.position)))

      sixteen : (n : ℕ) → 16 * n ≡ n * 16
      sixteen n = omega arith

-- ---- the walk as a loop

module _ (child : ℕ → List (List ℕ) → List (List ℕ)) (root : List (List ℕ)) (g levels₀ position at₀ : ℕ) (l₀ : List ℕ) where
  -- the tree below a node with so many levels left
  abbrev rest_of : ℕ → ℕ → Punctured
  rest_of levels at = record { branch_bits = g; levels = levels; position = position; at = at }

  -- the walk from a node gives what the whole walk gives
  pub record Going (count : ℕ) (node : List (List ℕ)) (levels at : ℕ) (l : List ℕ) : Type 0 where
    pub counted : count ≡ 2 ^ g
    pub room : IsPunctured (rest_of levels at) (length l)
    pub left : walked (2 ^ g) child node (rest_of levels at) l ≡ walked (2 ^ g) child root (rest_of levels₀ at₀) l₀
    pub long : length l ≡ length l₀

  module _ {count : ℕ} {node : List (List ℕ)} {levels at : ℕ} {l : List ℕ} (G : Going count node levels at l) where
    pub going_done : levels ≤ 0 → walk node l ≡ walked (2 ^ g) child root (rest_of levels₀ at₀) l₀
    going_done e = walked-leaf child node (rest_of levels at) l (omega arith) ∙ G.left

    module _ (h : 0 < levels) where
      some : levels ≢ 0
      some e = omega arith

      less-levels : levels * g ≡ (levels - 1) * g + g
      less-levels = level_less levels g some

      less-room : levels * (2 ^ g - 1) ≡ (levels - 1) * (2 ^ g - 1) + (2 ^ g - 1)
      less-room = level_less levels (2 ^ g - 1) some

      pub going_level : {c : ℕ} → c < 2 ^ g → IsLevel g c at (length l)
      going_level named =
          record {
            branch = G.room.branch;
            few = eight g G.room.branch;
            named = named;
            room = omega (arith, G.room.room, less-room);
          }

      -- one level on, past the other children
      pub going_next : {c : ℕ} {x : List (List ℕ)} {l₁ : List ℕ} → c ≡ digit (2 ^ g) (levels - 1) position
          → walk x l₁ ≡ level_passed (2 ^ g) child node c at l → length l₁ ≡ length l → Going count x (levels - 1) (at + 16 * (count - 1)) l₁
      unfolding walked
      going_next {c} {x} {l₁} named e same =
          record {
            counted = G.counted;
            room = record {
              branch = G.room.branch;
              short = omega (arith, G.room.short, less-levels);
              room = omega (arith, G.counted, G.room.room, less-room);
            };
            left = walked_on child node (rest_of levels at) l {x = x} {l₁ = l₁} some G.counted named e refl ∙ G.left;
            long = same ∙ G.long;
          }
