-- Laws of codings: values flattened into words and read back, and values written over a buffer.
use mathlib.Core.Path.{◌≡◌, refl, sym, ap, ◌∙◌}
use mathlib.Core.List.{List, [], ◌++◌, append_assoc, append-nil}
use mathlib.Core.Bool.{Bool, true, false}
use mathlib.Core.Logic.{⊎_elim}
use Prim.Native.Nat.{ℕ, zero, suc, ◌+◌, ◌-◌, ◌*◌, ◌<◌, ◌≤◌}
use native.Mathlib.Omega.{arith}
use native.Mathlib.Nat.{add-zero, add-suc, eq-or-lt_of_le, suc-mul, zero-mul, mul-le-mul_right}
use lib.Dec.{ltb}
use borrow.Author.Tests.{ltb-true, ltb-false}
use lib.ListN.{length, take, drop, length-append, length-drop, take-append-drop}
use lib.Seq.{drop_at, take-add, drop-drop, take_all, take-append-le, drop-append-le, length-take-le}
use Rattle.algebra.specs.Coding.{Coding, CodingLaws, at, flat, over}
use Rattle.algebra.specs.Inner.Put.{put}
use Rattle.algebra.proofs.Written.{flat-length, flat-same, front-none, front-take, front-drop, front_past, front_length, front-put}

module _ {A : Type 0} (C : Coding A) (L : CodingLaws C) where
  -- the clauses of `flat`
  pub flat-none : (f : ℕ → A) → flat C zero f ≡ []
  unfolding flat
  flat-none f = refl

  pub flat-suc : (n : ℕ) (f : ℕ → A) → flat C (suc n) f ≡ flat C n f ++ C.words (f n)
  unfolding flat
  flat-suc n f = refl

  pub length-flat : (n : ℕ) (f : ℕ → A) → length (flat C n f) ≡ n * C.width
  length-flat = flat-length C L.length-words

  -- equal values below n give equal words
  pub flat_cong : (n : ℕ) (f g : ℕ → A) → ((i : ℕ) → i < n → f i ≡ g i) → flat C n f ≡ flat C n g
  flat_cong = flat-same C L.length-words

  -- the values below n + m are those below n and m more
  pub flat-add : (n m : ℕ) (f : ℕ → A) → flat C (n + m) f ≡ flat C n f ++ flat C m (λ i. f (n + i))
  unfolding flat
  flat-add n zero f = ap (λ (k : ℕ). flat C k f) (add-zero n) ∙ sym (append-nil (flat C n f))
  flat-add n (suc m) f =
      ap (λ (k : ℕ). flat C k f) (add-suc n m)
      ∙ ap (λ (l : List ℕ). l ++ C.words (f (n + m))) (flat-add n m f)
      ∙ append_assoc (flat C n f) (flat C m (λ i. f (n + i))) (C.words (f (n + m)))

  -- value i of the values below n with anything after them
  pub at_flat_append : (n : ℕ) (f : ℕ → A) (after : List ℕ) (i : ℕ) → i < n → at C (flat C n f ++ after) i ≡ f i
  unfolding flat
  at_flat_append zero f after i h = absurd (omega arith)
  at_flat_append (suc n) f after i h =
      let e : (flat C n f ++ C.words (f n)) ++ after ≡ flat C n f ++ (C.words (f n) ++ after) =
      append_assoc (flat C n f) (C.words (f n)) after in
      rw e (⊎_elim
      (λ (q : i ≡ n).
      rw q (ap (C.read (flat C n f ++ (C.words (f n) ++ after))) (sym (length-flat n f))
      ∙ L.read-words (flat C n f) (f n) after))
      (λ (k : i < n). at_flat_append n f (C.words (f n) ++ after) i k)
      (eq-or-lt_of_le {n = i} {m = n} (omega arith)))

  pub at_flat : (n : ℕ) (f : ℕ → A) (i : ℕ) → i < n → at C (flat C n f) i ≡ f i
  at_flat n f i h = ap (λ (l : List ℕ). at C l i) (sym (append-nil (flat C n f))) ∙ at_flat_append n f [] i h

  -- a value is determined by its words
  pub read_local : (l r : List ℕ) (j k : ℕ) → j + C.width ≤ length l → k + C.width ≤ length r
      → take C.width (drop j l) ≡ take C.width (drop k r) → C.read l j ≡ C.read r k
  read_local l r j k hl hr e =
      let same : C.words (C.read l j) ≡ C.words (C.read r k) = L.words-read l j hl ∙ e ∙ sym (L.words-read r k hr) in
      sym (L.read-words [] (C.read l j) []) ∙ ap (λ (w : List ℕ). C.read ([] ++ (w ++ [])) (length {A = ℕ} [])) same
      ∙ L.read-words [] (C.read r k) []

  -- a list's values, flattened, are its front
  pub flat_at : (n : ℕ) (l : List ℕ) → n * C.width ≤ length l → flat C n (at C l) ≡ take (n * C.width) l
  unfolding flat
  flat_at zero l h = rw zero-mul
  flat_at (suc n) l h =
      let s : suc n * C.width ≡ n * C.width + C.width = suc-mul n C.width in
      cc (flat_at n l (omega arith), L.words-read l (n * C.width) (omega arith), take-add (n * C.width) C.width l, s)

  pub flat_at_all : (n : ℕ) (l : List ℕ) → length l ≡ n * C.width → flat C n (at C l) ≡ l
  flat_at_all n l e = flat_at n l (omega arith) ∙ take_all (n * C.width) l (omega arith)

  -- a list of n values is determined by them
  pub ext_at : (n : ℕ) (l r : List ℕ) → length l ≡ n * C.width → length r ≡ n * C.width
      → ((i : ℕ) → i < n → at C l i ≡ at C r i) → l ≡ r
  ext_at n l r hl hr e = sym (flat_at_all n l hl) ∙ flat_cong n (at C l) (at C r) e ∙ flat_at_all n r hr

  -- ---- values written over a buffer
  pub over_none : (f : ℕ → A) (b : List ℕ) → over C 0 f b ≡ b
  over_none f b = sym (front-none C f b)

  pub take-over : (n : ℕ) (f : ℕ → A) (b : List ℕ) → take (n * C.width) (over C n f b) ≡ flat C n f
  take-over = front-take C L.length-words

  pub drop-over : (n : ℕ) (f : ℕ → A) (b : List ℕ) → drop (n * C.width) (over C n f b) ≡ drop (n * C.width) b
  drop-over = front-drop C L.length-words

  -- from any place past the values on a buffer is as it was
  pub drop-over-add : (n : ℕ) (f : ℕ → A) (b : List ℕ) (k : ℕ) → drop (n * C.width + k) (over C n f b) ≡ drop (n * C.width + k) b
  drop-over-add = front_past C L.length-words

  pub length_over : (n : ℕ) (f : ℕ → A) (b : List ℕ) → n * C.width ≤ length b → length (over C n f b) ≡ length b
  length_over = front_length C L.length-words

  -- one value more, as code counts
  pub over-one : (n : ℕ) (f : ℕ → A) (b : List ℕ) → over C (n + 1) f b ≡ put C (over C n f b) n (f n)
  over-one n f b = sym (front-put C L.length-words f b n _ _ refl refl)

  pub at_over : (n : ℕ) (f : ℕ → A) (b : List ℕ) (i : ℕ) → i < n → at C (over C n f b) i ≡ f i
  unfolding over
  at_over n f b i h = at_flat_append n f (drop (n * C.width) b) i h

  -- later places are read as they were
  pub at_over_past : (n : ℕ) (f : ℕ → A) (b : List ℕ) (i : ℕ) → n ≤ i → i * C.width + C.width ≤ length b
      → at C (over C n f b) i ≡ at C b i
  at_over_past n f b i h k =
      let m : n * C.width ≤ i * C.width = mul-le-mul_right C.width h in
      let e : n * C.width + (i * C.width - n * C.width) ≡ i * C.width = omega arith in
      let s : drop (i * C.width) (over C n f b) ≡ drop (i * C.width) b =
      rw e at (drop-over-add n f b (i * C.width - n * C.width)) in
      read_local (over C n f b) b (i * C.width) (i * C.width)
      (let l = length_over n f b (omega arith) in omega arith) k (ap (take C.width) s)

  -- a whole buffer
  pub over-whole : (n : ℕ) (f : ℕ → A) (b : List ℕ) → length b ≡ n * C.width → over C n f b ≡ flat C n f
  over-whole n f b e =
      sym (take_all (n * C.width) (over C n f b) (let l = length_over n f b (omega arith) in omega arith)) ∙ take-over n f b

  -- ---- one value replaced
  pub length-put : (l : List ℕ) (i : ℕ) (a : A) → i * C.width + C.width ≤ length l → length (put C l i a) ≡ length l
  unfolding put
  length-put l i a h =
      simp (length-append, length-drop)
      (let t = length-take-le (i * C.width) l (omega arith) in let w = L.length-words a in omega arith)

  pub at_put-same : (l : List ℕ) (i : ℕ) (a : A) → i * C.width ≤ length l → at C (put C l i a) i ≡ a
  unfolding put
  at_put-same l i a h =
      let t : length (take (i * C.width) l) ≡ i * C.width = length-take-le (i * C.width) l h in
      ap (C.read (take (i * C.width) l ++ (C.words a ++ drop (i * C.width + C.width) l))) (sym t)
      ∙ L.read-words (take (i * C.width) l) a (drop (i * C.width + C.width) l)

  -- the other values stay
  at_put_before : (l : List ℕ) (i j : ℕ) (a : A) → i * C.width + C.width ≤ length l → j < i → at C (put C l i a) j ≡ at C l j
  unfolding put
  at_put_before l i j a h k =
      let w = C.width in
      let m : suc j * w ≤ i * w = mul-le-mul_right w k in
      let s : suc j * w ≡ j * w + w = suc-mul j w in
      let t : length (take (i * w) l) ≡ i * w = length-take-le (i * w) l (omega arith) in
      let front : (rest : List ℕ) → take w (drop (j * w) (take (i * w) l ++ rest)) ≡ take w (drop (j * w) (take (i * w) l)) =
      λ rest.
      ap (take w) (drop-append-le (j * w) (take (i * w) l) rest (omega arith))
      ∙ take-append-le w (drop (j * w) (take (i * w) l)) rest (simp length-drop (omega arith)) in
      read_local (put C l i a) l (j * w) (j * w) (let e = length-put l i a h in omega arith) (omega arith)
      (front (C.words a ++ drop (i * w + w) l)
      ∙ sym (ap (λ (r : List ℕ). take w (drop (j * w) r)) (sym (take-append-drop (i * w) l)) ∙ front (drop (i * w) l)))

  at_put-after : (l : List ℕ) (i j : ℕ) (a : A) → i < j → j * C.width + C.width ≤ length l → at C (put C l i a) j ≡ at C l j
  unfolding put
  at_put-after l i j a k h =
      let w = C.width in
      let m : suc i * w ≤ j * w = mul-le-mul_right w k in
      let s : suc i * w ≡ i * w + w = suc-mul i w in
      let t : length (take (i * w) l) ≡ i * w = length-take-le (i * w) l (omega arith) in
      let n : length (take (i * w) l ++ C.words a) ≡ i * w + w =
      length-append (take (i * w) l) (C.words a) ∙ cc (t, L.length-words a) in
      let r = j * w - (i * w + w) in
      let q : i * w + w + r ≡ j * w = omega arith in
      let rest : drop (j * w) (put C l i a) ≡ drop (j * w) l =
      ap (λ (x : ℕ). drop x (put C l i a)) (sym q)
      ∙ sym (drop-drop r (i * w + w) (put C l i a))
      ∙ ap (drop r) (ap (drop (i * w + w)) (sym (append_assoc (take (i * w) l) (C.words a) (drop (i * w + w) l)))
      ∙ drop_at (take (i * w) l ++ C.words a) (drop (i * w + w) l) (i * w + w) n)
      ∙ drop-drop r (i * w + w) l
      ∙ ap (λ (x : ℕ). drop x l) q in
      read_local (put C l i a) l (j * w) (j * w) (let e = length-put l i a (omega arith) in omega arith) h (ap (take w) rest)

  pub at_put-other : (l : List ℕ) (i j : ℕ) (a : A) → (j ≡ i → ⊥) → i * C.width + C.width ≤ length l → j * C.width + C.width ≤ length l
      → at C (put C l i a) j ≡ at C l j
  at_put-other l i j a n h k = side (ltb j i) refl
    where
      side : (b : Bool) → ltb j i ≡ b → at C (put C l i a) j ≡ at C l j
      side true e = at_put_before l i j a h (ltb-true j i e)
      side false e = at_put-after l i j a (let m = ltb-false j i e in omega arith) k
