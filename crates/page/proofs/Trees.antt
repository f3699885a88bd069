-- The page's trees are the library's.
use Prim.Native.Nat.{ℕ, zero, suc, ◌+◌, ◌-◌, ◌*◌, ◌/◌, ◌%◌, ◌^◌}
use mathlib.Core.Path.{◌≡◌, refl, sym, ap, ap₂, ◌∙◌, fun_ext}
use native.Mathlib.Nat.{add-zero}
use mathlib.Core.List.{List, [], ◌∷◌, ◌++◌, map}
use package.lib.Dec.{eqb}
use package.lib.ListN.{get_or, take, drop}
use Rattle.aes128.specs.State.{four, byte_at, xor_word, xor_state}
use Rattle.aes128.specs.Cipher.{aes, cipher, rounds, key_expansion}
use Rattle.aes128.specs.Cipher as aesm
use Rattle.field.specs.Bytes.{low_of, high_of, le_number, word_at}
use Rattle.tree.specs.Child.{child_key, child}
use Rattle.tree.specs.Columns.{columns_at, columns_bytes}
use Rattle.tree.specs.Tree as lib
use Rattle.page.specs.Document01 as page
use Rattle.page.proofs.Basics.{if_both}
use Rattle.page.proofs.Cipher.{state, cipher_is, xor_is}

pub child_is : (c : ℕ) (s : List ℕ) → state (page.child c s) ≡ child c (state s)
unfolding page.child child page.list columns_at
child_is c s = xor_is _ s ∙ ap (λ x. xor_state x (state s)) (cipher_is _ s)

-- leaf j below a node
pub leaf_is : (k m : ℕ) (s : List ℕ) (j : ℕ) → state (page.leaf k m s j) ≡ lib.reach child (state s) (lib.path k m j)
unfolding page.leaf lib.reach lib.path
leaf_is k zero s j = refl
leaf_is k (suc m) s j = leaf_is k m _ j ∙ ap (λ x. lib.reach child x (lib.path k m j)) (child_is _ s)

pub leaf-at : (k m : ℕ) (s : List ℕ) (j : ℕ) → state (page.leaf k m s j) ≡ lib.leaf_at k child m (state s) j
unfolding lib.leaf_at
leaf-at = leaf_is

-- ---- a punctured tree. A block that is not there counts as zeros: `tidy` is the block with every byte in its place

abbrev pub tidy : List (List ℕ) → List (List ℕ)
tidy y = four (λ c. four (λ r. byte_at y r c))

rounds_tidy : (w : List (List (List ℕ))) (n : ℕ) (y : List (List ℕ)) → rounds w n y ≡ rounds w n (tidy y)
unfolding rounds xor_state xor_word
rounds_tidy w zero y = refl
rounds_tidy w (suc n) y = ap (λ x. aesm.add_round_key (aesm.mix_columns (aesm.shift_rows (aesm.sub_bytes x))) (aesm.round_key w (suc n))) (rounds_tidy w n y)

child_tidy : (c : ℕ) (y : List (List ℕ)) → tidy (child c y) ≡ child c (tidy y)
unfolding child aes cipher xor_state xor_word
child_tidy c y = ap (λ x. xor_state (aesm.add_round_key (aesm.shift_rows (aesm.sub_bytes x)) (aesm.round_key (key_expansion (child_key c)) 10)) y)
    (rounds_tidy (key_expansion (child_key c)) 9 y)

reach_tidy : (ds : List ℕ) (y : List (List ℕ)) → tidy (lib.reach child y ds) ≡ lib.reach child (tidy y) ds
unfolding lib.reach
reach_tidy [] y = refl
reach_tidy (c ∷ ds) y = reach_tidy ds (child c y) ∙ ap (λ x. lib.reach child x ds) (child_tidy c y)

get_tidy : (xs : List (List ℕ)) (i : ℕ) → state (get_or xs i []) ≡ tidy (get_or (map state xs) i [])
unfolding columns_at
get_tidy [] i = refl
get_tidy (x ∷ xs) zero = refl
get_tidy (x ∷ xs) (suc i) = get_tidy xs i

drop-map : {A B : Type 0} (f : A → B) (n : ℕ) (l : List A) → map f (drop n l) ≡ drop n (map f l)
drop-map f zero l = refl
drop-map f (suc n) [] = refl
drop-map f (suc n) (x ∷ l) = drop-map f n l

take-map : {A B : Type 0} (f : A → B) (n : ℕ) (l : List A) → map f (take n l) ≡ take n (map f l)
take-map f zero l = refl
take-map f (suc n) [] = refl
take-map f (suc n) (x ∷ l) = ap (λ r. f x ∷ r) (take-map f n l)

append_map : {A B : Type 0} (f : A → B) (l m : List A) → map f (l ++ m) ≡ map f l ++ map f m
append_map f [] m = refl
append_map f (x ∷ l) m = ap (λ r. f x ∷ r) (append_map f l m)

pub list-map : {A B : Type 0} (f : A → B) (n : ℕ) (g : ℕ → A) → map f (page.list n g) ≡ page.list n (λ i. f (g i))
unfolding page.list
list-map f zero g = refl
list-map f (suc n) g = append_map f (page.list n g) _ ∙ ap (λ r. r ++ (f (g n) ∷ [])) (list-map f n g)

pub punctured_is : (k m : ℕ) (xs : List (List ℕ)) (q j : ℕ)
    → state (page.leaf_beside k m xs q j) ≡ tidy (lib.from_siblings k child [] (map state xs) m q j)
unfolding page.leaf_beside lib.from_siblings lib.follow lib.path columns_at page.when◌then◌else◌
punctured_is k zero xs q j = refl
punctured_is k (suc m) xs q j =
    if_both (λ x y. state x ≡ tidy y) (eqb (q / k ^ m % k) (j / k ^ m % k)) _ _ _ _
    (punctured_is k m (drop (k - 1) xs) q j
    ∙ ap (λ x. tidy (lib.follow k child [] x (lib.path k m q) (lib.path k m j))) (drop-map state (k - 1) xs))
    (leaf_is k m _ j
    ∙ ap (λ x. lib.reach child x (lib.path k m j)) (get_tidy xs (lib.rank (q / k ^ m % k) (j / k ^ m % k)))
    ∙ sym (reach_tidy (lib.path k m j) (get_or (map state xs) (lib.rank (q / k ^ m % k) (j / k ^ m % k)) [])))

-- ---- siblings

pub bytes-child : (s : List ℕ) (c : ℕ) → page.child c s ≡ columns_bytes (child c (state s))
unfolding page.child page.xor page.list columns_at columns_bytes
bytes-child s c = ap columns_bytes (child_is c s)

pub siblings_is : (k m : ℕ) (s : List ℕ) (j : ℕ) → page.siblings_of k m s j ≡ map columns_bytes (lib.siblings k child m (state s) j)
unfolding page.siblings_of lib.siblings lib.beside lib.path lib.others page.list lib.listed
siblings_is k zero s j = refl
siblings_is k (suc m) s j =
    let c = j / k ^ m % k in
    let nodes : page.list k (λ b. page.child b s) ≡ map columns_bytes (lib.listed k (λ b. child b (state s))) =
    ap (page.list k) (fun_ext (bytes-child s)) ∙ sym (list-map columns_bytes k (λ b. child b (state s))) in
    ap₂ (λ x y. x ++ y)
    (ap (λ x. take c x ++ drop (suc c) x) nodes
    ∙ ap₂ (λ x y. x ++ y) (sym (take-map columns_bytes c (lib.listed k (λ b. child b (state s))))) (sym (drop-map columns_bytes (suc c) (lib.listed k (λ b. child b (state s)))))
    ∙ sym (append_map columns_bytes (take c (lib.listed k (λ b. child b (state s)))) (drop (suc c) (lib.listed k (λ b. child b (state s))))))
    (siblings_is k m (page.child c s) j ∙ ap (λ x. map columns_bytes (lib.beside k child x (lib.path k m j))) (child_is c s))
    ∙ sym (append_map columns_bytes (lib.others k child (state s) c) (lib.beside k child (child c (state s)) (lib.path k m j)))

-- ---- words

pub word_low : (b : List ℕ) → page.word b 0 ≡ low_of (state b)
unfolding page.word page.list page.from_bytes low_of le_number columns_at
word_low b = refl

pub word-high : (b : List ℕ) → page.word b 8 ≡ high_of (state b)
unfolding page.word page.list page.from_bytes high_of le_number columns_at
word-high b = refl

pub low_tidy : (y : List (List ℕ)) → low_of (tidy y) ≡ low_of y
unfolding low_of
low_tidy y = refl

pub high_tidy : (y : List (List ℕ)) → high_of (tidy y) ≡ high_of y
unfolding high_of
high_tidy y = refl

pub word-at : (s : List ℕ) (at : ℕ) → page.word s at ≡ word_at s at
unfolding page.word page.list page.from_bytes word_at le_number
word-at s at = ap (λ (x : ℕ). get_or s x 0 + 256 * le_number (get_or s (at + 1) 0 ∷ get_or s (at + 2) 0 ∷ get_or s (at + 3) 0 ∷ get_or s (at + 4) 0 ∷ get_or s (at + 5) 0 ∷ get_or s (at + 6) 0 ∷ get_or s (at + 7) 0 ∷ [])) (add-zero at)
