-- Values written over a buffer's front, in any coding whose values all have its width: loop by loop, read again, and in two passes.
-- `front-none`, `front_more` and `front-all` are a loop's start, turn and end.
use mathlib.Core.Path.{◌≡◌, refl, sym, ap, ◌∙◌}
use mathlib.Core.Logic.{⊎_elim}
use mathlib.Core.List.{List, [], ◌∷◌, ◌++◌, append_assoc}
use Prim.Native.Nat.{ℕ, zero, suc, ◌+◌, ◌-◌, ◌*◌, ◌≤◌, ◌<◌}
use native.Mathlib.Nat.{eq-or-lt_of_le, le_of_suc-le-suc, mul-le-mul_right, suc-mul, zero-mul}
use native.Mathlib.Numerals.{add-one}
use native.Mathlib.Omega.{arith}
use lib.ListN.{length, get_or, set, take, drop, length-append, length-drop}
use lib.Seq.{sets, sets-eq, take_at, drop_at, take-append_seam, drop-append_seam, drop-append-add, drop-drop, get_or-drop, get_or-take, length-take-le}
use Rattle.algebra.specs.Coding.{Coding, at, flat, over}
use Rattle.algebra.specs.Inner.Put.{put, with_value}

-- every value has as many words as the coding's width
abbrev pub Wide : {A : Type 0} → Coding A → Type 0
Wide {A} C = (a : A) → length (C.words a) ≡ C.width

-- a value is read from what stands at its place and after it
abbrev pub Placed : {A : Type 0} → Coding A → Type 0
Placed C = (l : List ℕ) (i : ℕ) → C.read l i ≡ C.read (drop i l) 0

-- a value is read back from its words
abbrev pub Back : {A : Type 0} → Coding A → A → Type 0
Back C a = (rest : List ℕ) → C.read (C.words a ++ rest) 0 ≡ a

-- stores one after the other are one run of stores
pub sets_append : (l : List ℕ) (i : ℕ) (xs ys : List ℕ) → sets l i (xs ++ ys) ≡ sets (sets l i xs) (i + length xs) ys
sets_append l i [] ys = ap (λ (k : ℕ). sets l k ys) (omega arith)
sets_append l i (x ∷ xs) ys = sets_append (set l i x) (suc i) xs ys ∙ ap (λ (k : ℕ). sets (sets (set l i x) (suc i) xs) k ys) (omega arith)

-- ---- a loop: before the first turn, one turn more (below), after the last

module _ {A : Type 0} (C : Coding A) (f : ℕ → A) (b : List ℕ) where
  pub front-none : b ≡ over C 0 f b
  unfolding over flat
  front-none = rw zero-mul

  pub front-all : (k count : ℕ) (l : List ℕ) → k ≤ count → count ≤ k → l ≡ over C k f b → l ≡ over C count f b
  front-all k count l h m e = let s : count ≡ k = omega arith in rw s e

module _ {A : Type 0} (C : Coding A) (wide : Wide C) where
  -- ---- how long it is, and what lies where

  pub flat-length : (n : ℕ) (f : ℕ → A) → length (flat C n f) ≡ n * C.width
  unfolding flat
  flat-length zero f = sym (zero-mul C.width)
  flat-length (suc n) f =
      length-append (flat C n f) (C.words (f n)) ∙ cc (flat-length n f, wide (f n), suc-mul n C.width)

  pub front-take : (n : ℕ) (f : ℕ → A) (b : List ℕ) → take (n * C.width) (over C n f b) ≡ flat C n f
  unfolding over
  front-take n f b = take_at (flat C n f) (drop (n * C.width) b) (n * C.width) (flat-length n f)

  -- what stands past the values is as it was
  pub front-drop : (n : ℕ) (f : ℕ → A) (b : List ℕ) → drop (n * C.width) (over C n f b) ≡ drop (n * C.width) b
  unfolding over
  front-drop n f b = drop_at (flat C n f) (drop (n * C.width) b) (n * C.width) (flat-length n f)

  pub front_past : (n : ℕ) (f : ℕ → A) (b : List ℕ) (k : ℕ) → drop (n * C.width + k) (over C n f b) ≡ drop (n * C.width + k) b
  front_past n f b k =
      sym (drop-drop k (n * C.width) (over C n f b)) ∙ ap (drop k) (front-drop n f b) ∙ drop-drop k (n * C.width) b

  pub front_length : (n : ℕ) (f : ℕ → A) (b : List ℕ) → n * C.width ≤ length b → length (over C n f b) ≡ length b
  unfolding over
  front_length n f b h = simp (length-append, length-drop, flat-length) (omega arith)

  -- what lies from value k on
  pub from-value : (n : ℕ) (f : ℕ → A) (k : ℕ) (rest : List ℕ) → k < n
      → drop (k * C.width) (flat C n f ++ rest) ≡ C.words (f k) ++ drop (suc k * C.width) (flat C n f ++ rest)
  unfolding flat
  from-value zero f k rest h = absurd (omega arith)
  from-value (suc n) f k rest h =
      let l : n * C.width ≡ length (flat C n f) = sym (flat-length n f) in
      let m : suc n * C.width ≡ length (flat C n f) + length (C.words (f n)) = omega (arith, wide (f n)) in
      ⊎_elim
      (λ (e : k ≡ n). rw (e, append_assoc, l, m, drop-append_seam, drop-append-add, drop-append_seam))
      (λ (s : k < n). rw append_assoc (from-value n f k (C.words (f n) ++ rest) s))
      (eq-or-lt_of_le (le_of_suc-le-suc h))

  -- ---- one turn more of a loop

  module _ (f : ℕ → A) (b : List ℕ) where
    -- the turn stores a value word by word
    pub front_more : (k place : ℕ) (l l' : List ℕ) → place ≡ k * C.width → k * C.width + C.width ≤ length b
        → l ≡ over C k f b → l' ≡ with_value C l place (f k) → l' ≡ over C (k + 1) f b
    unfolding over flat with_value
    front_more k place l l' p room e g =
        let ws = C.words (f k) in
        let h : k * C.width ≡ length (flat C k f) = sym (flat-length k f) in
        let m : suc k * C.width ≡ length (flat C k f) + length ws = omega (arith, wide (f k)) in
        g ∙ rw (p, e, add-one, h, m)
        (sets-eq ws (flat C k f ++ drop (length (flat C k f)) b) (length (flat C k f)) (simp (length-append, length-drop) (omega (arith, wide (f k))))
        ∙ rw (take-append_seam, drop-append-add, drop-drop))

    -- the turn replaces a value
    pub front-put : (k : ℕ) (l l' : List ℕ) → l ≡ over C k f b → l' ≡ put C l k (f k) → l' ≡ over C (k + 1) f b
    unfolding over put flat
    front-put k l l' e g =
        g ∙ rw (e, add-one) (sym (append_assoc (flat C k f) (C.words (f k)) (drop (suc k * C.width) b)
        ∙ cc (suc-mul k C.width, front-take k f b, front_past k f b C.width)))

  -- ---- each value again

  module _ (n : ℕ) (f : ℕ → A) (b : List ℕ) where
    -- from value k on
    pub over-from : (k : ℕ) → k < n → drop (k * C.width) (over C n f b) ≡ C.words (f k) ++ drop (suc k * C.width) (over C n f b)
    unfolding over
    over-from k h = from-value n f k (drop (n * C.width) b) h

    -- its words
    pub over-value : (k : ℕ) → k < n → take C.width (drop (k * C.width) (over C n f b)) ≡ C.words (f k)
    over-value k h = rw (over-from k h) (take_at (C.words (f k)) _ C.width (wide (f k)))

    -- word j of value k
    pub over_word : (k j : ℕ) → k < n → j < C.width → get_or (over C n f b) (k * C.width + j) 0 ≡ get_or (C.words (f k)) j 0
    over_word k j h i =
        sym (get_or-drop (k * C.width) (over C n f b) j 0)
        ∙ sym (get_or-take C.width (drop (k * C.width) (over C n f b)) j 0 i)
        ∙ ap (λ (l : List ℕ). get_or l j 0) (over-value k h)

    -- the front by itself
    pub taken-length : n * C.width ≤ length b → length (take (n * C.width) (over C n f b)) ≡ n * C.width
    taken-length room = length-take-le (n * C.width) (over C n f b) (omega (arith, front_length n f b room))

    pub taken_word : (k j : ℕ) → k < n → j < C.width
        → get_or (take (n * C.width) (over C n f b)) (k * C.width + j) 0 ≡ get_or (C.words (f k)) j 0
    taken_word k j h i =
        let m : suc k * C.width ≤ n * C.width = mul-le-mul_right C.width h in
        get_or-take (n * C.width) (over C n f b) (k * C.width + j) 0 (omega arith) ∙ over_word k j h i

  -- equal values are written alike
  pub flat-same : (n : ℕ) (f g : ℕ → A) → ((i : ℕ) → i < n → f i ≡ g i) → flat C n f ≡ flat C n g
  unfolding flat
  flat-same zero f g e = refl
  flat-same (suc n) f g e = cc (flat-same n f g (λ i h. e i (omega arith)), e n (omega arith))

  -- ---- two passes

  module _ (placed : Placed C) where
    -- a value past those written, read as it was
    pub read_past : (n i j : ℕ) (f : ℕ → A) (b l : List ℕ) → n ≤ i → j ≡ i * C.width → l ≡ over C n f b → C.read l j ≡ at C b i
    read_past n i j f b l h place e =
        let m : n * C.width ≤ i * C.width = mul-le-mul_right C.width h in
        let rest : i * C.width ≡ n * C.width + (i * C.width - n * C.width) = omega arith in
        rw (place, e) (placed (over C n f b) (i * C.width)
        ∙ ap (λ (r : List ℕ). C.read r 0) (rw rest (front_past n f b (i * C.width - n * C.width)))
        ∙ sym (placed b (i * C.width)))

    -- a value written, read back
    at_written : (n i : ℕ) (f : ℕ → A) (b : List ℕ) → i < n → Back C (f i) → at C (over C n f b) i ≡ f i
    at_written n i f b h back =
        placed (over C n f b) (i * C.width)
        ∙ ap (λ (l : List ℕ). C.read l 0) (over-from n f b i h)
        ∙ back _

    -- a second pass writes over the first
    over-again : (n : ℕ) (f g : ℕ → A) (b : List ℕ) → over C n g (over C n f b) ≡ over C n g b
    unfolding over
    over-again n f g b = ap (λ (l : List ℕ). flat C n g ++ l) (front-drop n f b)

    -- values f, and over each what g makes of it as it is read back
    pub two-passes : (n : ℕ) (f h : ℕ → A) (g : ℕ → A → A) (b l l' : List ℕ) → ((i : ℕ) → Back C (f i)) → ((i : ℕ) → g i (f i) ≡ h i)
        → l ≡ over C n f b → l' ≡ over C n (λ i. g i (at C l i)) l → l' ≡ over C n h b
    unfolding over
    two-passes n f h g b l l' back same e e' =
        e' ∙ rw e (over-again n f (λ i. g i (at C (over C n f b) i)) b
        ∙ ap (λ (r : List ℕ). r ++ drop (n * C.width) b)
        (flat-same n (λ i. g i (at C (over C n f b) i)) h (λ i k. ap (g i) (at_written n i f b k (back i)) ∙ same i)))
