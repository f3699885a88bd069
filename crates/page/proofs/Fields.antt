-- The page's fields, sums and written buffers are the library's: a value of the page is the words of the library's.
use Prim.Native.Nat.{ℕ, zero, suc, ◌+◌, ◌*◌, ◌%◌}
use native.Mathlib.Nat.{add-zero, mul-one}
use mathlib.Core.Path.{◌≡◌, refl, ap, ap₂, ◌∙◌}
use mathlib.Core.Bool.{Bool, true, false}
use mathlib.Core.List.{List, [], ◌∷◌, ◌++◌}
use native.Mathlib.Omega.{arith}
use borrow.Author.Tests.{ne_eqb}
use lib.Dec.{eqb}
use lib.ListN.{length, get_or, drop, replicate}
use Rattle.algebra.specs.Choice.{choose}
use Rattle.algebra.specs.Coding.{Coding, at, flat, over}
use Rattle.algebra.specs.Field.{NoiseValue, Value}
use Rattle.algebra.specs.Group.{Ring, Scaled, itself}
use Rattle.algebra.specs.Sum.{sum, accumulate}
use Rattle.algebra.proofs.Written.{flat-length}
use Rattle.field.specs.Binary.{block_scale}
use Rattle.field.specs.declared.block.Block.{Block}
use Rattle.field.specs.Kind.{Kind, binary_kind, prime_kind, kind_of}
use Rattle.field.specs.Bytes.{low_of, high_of}
use Rattle.prime.specs.Prime.{prime_add, prime_sub, prime_mul, prime_reduce, primes}
use Rattle.prime.specs.declared.prime.Prime.{Prime}
use Rattle.page.specs.Document01 as page
use Rattle.page.proofs.Cipher.{state}
use Rattle.page.proofs.Trees.{tidy, word_low, word-high, low_tidy, high_tidy}

pub record SpaceIs (S : page.Space) {R : Ring} (G : Scaled R) (C : Coding G.group.Of) (num : R.group.Of → ℕ) : Type 0 where
  pub width : S.width ≡ C.width
  pub length-words : (a : G.group.Of) → length (C.words a) ≡ C.width
  pub zeros : replicate S.width 0 ≡ C.words G.group.zero
  pub plus : (a b : G.group.Of) → S.plus (C.words a) (C.words b) ≡ C.words (G.group.add a b)
  pub plus-read : (a l : List ℕ) → S.plus a l ≡ S.plus a (C.words (C.read l 0))
  pub minus : (a b : G.group.Of) → S.minus (C.words a) (C.words b) ≡ C.words (G.group.sub a b)
  pub multiple : (y : R.group.Of) (a : G.group.Of) → S.multiple (num y) (C.words a) ≡ C.words (G.scale y a)
  pub is_value : (a : G.group.Of) → S.is_value (C.words a) ≡ G.group.is_element a
  pub is_value-read : (l : List ℕ) → S.is_value l ≡ G.group.is_element (C.read l 0)
  pub place : (l : List ℕ) (j : ℕ) → page.value_at S l j ≡ C.words (at C l j)

pub record KindIs (F : page.Field) (K : Kind) : Type 0 where
  pub num : NoiseValue K.field → ℕ
  pub noise_values : SpaceIs F.noise_values (itself K.field.ring) K.field.noise_values num
  pub elements : SpaceIs F.elements K.field.scaled K.field.elements num
  pub noise-width : K.field.noise_values.width ≡ 1
  pub one : (y : NoiseValue K.field) → K.field.noise_values.words y ≡ num y ∷ []
  pub none : 0 ∷ [] ≡ K.field.noise_values.words K.field.ring.group.zero
  pub num_read : (l : List ℕ) (i : ℕ) → num (K.field.noise_values.read l i) ≡ get_or l i 0
  pub num_same : (a b : NoiseValue K.field) → num a ≡ num b → a ≡ b
  pub back : (a : Value K.field) → K.field.elements.read (K.field.elements.words a) 0 ≡ a
  pub multiple-read : (y : ℕ) (l v : List ℕ)
      → F.elements.plus (F.elements.multiple y l) v
      ≡ F.elements.plus (F.elements.multiple y (K.field.elements.words (K.field.elements.read l 0))) v
  pub leaf : (b : List ℕ) (y : List (List ℕ)) → state b ≡ tidy y → F.leaf_element b ≡ K.field.elements.words (K.leaf y)
  pub coefficient : (w : ℕ) → F.coefficient w ≡ num (K.coefficient w)

times-one : (y : ℕ) (b : Block) → (page.blocks).multiple y (b.low ∷ b.high ∷ []) ≡ (block_scale y b).low ∷ (block_scale y b).high ∷ []
unfolding page.when◌then◌else◌ block_scale
times-one zero b = refl
times-one (suc zero) b = refl
times-one (suc (suc y)) b = rw (ne_eqb (suc (suc y)) 1 (omega arith))

-- the residues of p
residues : SpaceIs (page.modulo page.p) primes.scaled primes.elements (λ (a : Prime). a.word)
unfolding prime_add prime_sub prime_mul page.list
residues =
    record {
      width = refl;
      length-words = λ a. refl;
      zeros = refl;
      plus = λ a b. refl;
      plus-read = λ a l. refl;
      minus = λ a b. refl;
      multiple = λ y a. refl;
      is_value = λ a. refl;
      is_value-read = λ l. refl;
      place = λ l j. ap (λ (x : ℕ). get_or l x 0 ∷ []) (add-zero (j * 1));
    }

read_first : (t : Bool) (l v : List ℕ)
    → page.xor 2 (page.when◌then◌else◌ t l (0 ∷ 0 ∷ [])) v ≡ page.xor 2 (page.when◌then◌else◌ t (get_or l 0 0 ∷ get_or l 1 0 ∷ []) (0 ∷ 0 ∷ [])) v
unfolding page.when◌then◌else◌ page.xor page.list
read_first true l v = refl
read_first false l v = refl

binary_is : KindIs (page.field_of 1) binary_kind
unfolding page.field_of page.when◌then◌else◌ page.list page.xor page.words
binary_is =
    record {
      num = λ y. y;
      noise_values = record {
        width = refl;
        length-words = λ a. refl;
        zeros = refl;
        plus = λ a b. refl;
        plus-read = λ a l. refl;
        minus = λ a b. ap (λ (x : ℕ). x ∷ []) (omega arith);
        multiple = λ y a. refl;
        is_value = λ a. refl;
        is_value-read = λ l. refl;
        place = λ l j. ap (λ (x : ℕ). get_or l x 0 ∷ []) (add-zero (j * 1));
      };
      elements = record {
        width = refl;
        length-words = λ a. refl;
        zeros = refl;
        plus = λ a b. refl;
        plus-read = λ a l. refl;
        minus = λ a b. refl;
        multiple = times-one;
        is_value = λ a. refl;
        is_value-read = λ l. refl;
        place = λ l j. ap (λ (x : ℕ). get_or l x 0 ∷ get_or l (j * 2 + 1) 0 ∷ []) (add-zero (j * 2));
      };
      noise-width = refl;
      one = λ y. refl;
      none = refl;
      num_read = λ l i. refl;
      num_same = λ a b e. e;
      back = λ a. refl;
      multiple-read = λ y l v. read_first (eqb y 1) l v;
      leaf = λ b y e. ap₂ (λ (a c : ℕ). a ∷ c ∷ []) (word_low b ∙ ap low_of e ∙ low_tidy y) (word-high b ∙ ap high_of e ∙ high_tidy y);
      coefficient = λ w. refl;
    }

prime_is : KindIs (page.field_of 2) prime_kind
unfolding page.field_of page.when◌then◌else◌ prime_reduce
prime_is =
    record {
      num = λ a. a.word;
      noise_values = residues;
      elements = residues;
      noise-width = refl;
      one = λ y. refl;
      none = refl;
      num_read = λ l i. refl;
      num_same = λ a b e. λ i. record { word = e i };
      back = λ a. refl;
      multiple-read = λ y l v. refl;
      leaf = λ b y e. ap (λ (x : ℕ). x % page.p ∷ []) (word_low b ∙ ap low_of e ∙ low_tidy y);
      coefficient = λ w. refl;
    }

pub kind_is : (f : ℕ) → KindIs (page.field_of f) (kind_of f)
unfolding page.field_of page.when◌then◌else◌
kind_is f = of (eqb f 1)
  where
    of : (t : Bool) → KindIs (page.when◌then◌else◌ t (page.field_of 1) (page.field_of 2)) (choose t binary_kind prime_kind)
    of true = binary_is
    of false = prime_is

-- ---- sums, vectors and written buffers

pub flat_is : {A : Type 0} (C : Coding A) (n : ℕ) (f : ℕ → List ℕ) (g : ℕ → A) → ((i : ℕ) → f i ≡ C.words (g i)) → page.joined n f ≡ flat C n g
unfolding page.joined flat
flat_is C zero f g e = refl
flat_is C (suc n) f g e = ap₂ (λ (l m : List ℕ). l ++ m) (flat_is C n f g e) (e n)

-- what is written over the front of a buffer, and its length, in any coding whose values all have its width
module _ {A : Type 0} (C : Coding A) (wide : (a : A) → length (C.words a) ≡ C.width) where
  pub joined-long : (n : ℕ) (f : ℕ → List ℕ) (g : ℕ → A) → ((i : ℕ) → f i ≡ C.words (g i)) → length (page.joined n f) ≡ n * C.width
  joined-long n f g e = ap length (flat_is C n f g e) ∙ flat-length C wide n g

  pub front-over : (n : ℕ) (f : ℕ → List ℕ) (g : ℕ → A) → ((i : ℕ) → f i ≡ C.words (g i))
      → (buffer : List ℕ) → page.front (page.joined n f) buffer ≡ over C n g buffer
  unfolding over
  front-over n f g e buffer = ap₂ (λ (l : List ℕ) (k : ℕ). l ++ drop k buffer) (flat_is C n f g e) (joined-long n f g e)

module _ {S : page.Space} {R : Ring} {G : Scaled R} {C : Coding G.group.Of} {num : R.group.Of → ℕ} (same : SpaceIs S G C num) where
  pub sum_is : (n : ℕ) (f : ℕ → List ℕ) (g : ℕ → G.group.Of) → ((i : ℕ) → f i ≡ C.words (g i)) → page.sum S n f ≡ C.words (sum G.group n g)
  unfolding page.sum sum
  sum_is zero f g e = same.zeros
  sum_is (suc n) f g e = ap₂ S.plus (sum_is n f g e) (e n) ∙ same.plus (sum G.group n g) (g n)

  -- where only the value that a list of words begins with counts
  pub sum-reads : (n : ℕ) (f : ℕ → List ℕ) (g : ℕ → G.group.Of) → ((i : ℕ) → C.read (f i) 0 ≡ g i) → page.sum S n f ≡ C.words (sum G.group n g)
  unfolding page.sum sum
  sum-reads zero f g e = same.zeros
  sum-reads (suc n) f g e =
      ap (λ (a : List ℕ). S.plus a (f n)) (sum-reads n f g e) ∙ same.plus-read _ (f n)
      ∙ ap (λ a. S.plus (C.words (sum G.group n g)) (C.words a)) (e n)
      ∙ same.plus (sum G.group n g) (g n)

  pub accumulated_is : (f : ℕ → List ℕ) (g : ℕ → G.group.Of) → ((i : ℕ) → f i ≡ C.words (g i))
      → (j : ℕ) → page.accumulated S f j ≡ C.words (accumulate G.group g j)
  unfolding accumulate
  accumulated_is f g e j = sum_is (suc j) f g e

  pub joined_length : (n : ℕ) (f : ℕ → List ℕ) (g : ℕ → G.group.Of) → ((i : ℕ) → f i ≡ C.words (g i)) → length (page.joined n f) ≡ n * C.width
  joined_length = joined-long C same.length-words

  pub over_is : (n : ℕ) (f : ℕ → List ℕ) (g : ℕ → G.group.Of) → ((i : ℕ) → f i ≡ C.words (g i))
      → (buffer : List ℕ) → page.front (page.joined n f) buffer ≡ over C n g buffer
  over_is = front-over C same.length-words

-- as many words as noise values
pub noise-length : {F : page.Field} {K : Kind} (same : KindIs F K) (n : ℕ) (f : ℕ → List ℕ) (g : ℕ → NoiseValue K.field)
    → ((i : ℕ) → f i ≡ K.field.noise_values.words (g i)) → length (page.joined n f) ≡ n
noise-length same n f g e = joined_length same.noise_values n f g e ∙ ap (λ (w : ℕ). n * w) same.noise-width ∙ mul-one n
