-- The numbers of the small dealings: leaves and rows by computation with the cipher that looks up, each block once; then what is made
-- of leaves and rows from their words.
use mathlib.Core.Path.{◌≡◌, refl, sym, ap, ap₂, ◌∙◌}
use mathlib.Core.Bool.{Bool, true, false}
use mathlib.Core.List.{List, []}
use Prim.Native.Nat.{ℕ, ◌<◌}
use borrow.Author.Tests.{ltb-true}
use lib.Dec.{ltb}
use lib.ListN.{get_or}
use Rattle.algebra.proofs.Coding.{flat_cong, at_flat}
use Rattle.algebra.proofs.Matrix.{output_is_matrix}
use Rattle.algebra.proofs.Same.{accumulate-same, punctured-same, whole_same}
use Rattle.algebra.proofs.Sum.{sum_cong, itself_laws}
use Rattle.algebra.specs.Choice.{choose}
use Rattle.algebra.specs.Coding.{Coding, CodingLaws, at, flat}
use Rattle.algebra.specs.Expansion.{noise, correction, punctured, whole}
use Rattle.algebra.specs.Field.{NoiseValue, Value}
use Rattle.algebra.specs.Group.{Scaled, itself}
use Rattle.algebra.specs.Row.{output}
use Rattle.algebra.specs.Sum.{sum, accumulate}
use Rattle.field.proofs.BothKinds.{kind_laws}
use Rattle.field.specs.Binary.{block_scale}
use Rattle.field.specs.Bytes.{le_number, le_bytes, word_at, columns_of, low_of, high_of}
use Rattle.prime.specs.Prime.{prime_add, prime_sub, prime_mul, prime_reduce}
use Rattle.aes_sbox.specs.Byte.{xtime}
use Rattle.aes128.specs.State.{xor_word, xor_state}
use Rattle.aes128.specs.Cipher.{shift_rows, power, keys_of}
use Rattle.tree.proofs.Listed.{listed_at}
use Rattle.tree.specs.Columns.{columns_at}
use Rattle.tree.specs.Tree.{path, reach, leaf_at, listed}
use Rattle.code.specs.Row.{place_of, row_of_blocks}
use Rattle.window.proofs.Rows.{row_within}
use Rattle.window.specs.Head.{places, row}
use Rattle.dealing.specs.Admitted.{Admitted}
use Rattle.dealing.specs.Input.{Input, position}
use Rattle.dealing.specs.Vectors.{head, field, value, leaf, delta, tree_correction, mu, v0, w0, u, v, w}
use Rattle.example.proofs.Cipher.{looked, looked_from, mix_by, sub_by, round_by, rounds_by, cipher_by, temp_by, words_by, looked_cipher, looked_words, looked_keys}
use Rattle.example.proofs.Made.{looked_aes, looked_child, leaf_by, leaf_looked, row_by, looked_row, row_looked}
use Rattle.example.specs.Worked.{Numbers, Worked, binary_input, prime_input, second_input, binary_numbers, prime_numbers, second_numbers, WorkedDealings}
use Rattle.example.proofs.Dealt.{binary-admitted, prime-admitted, second-admitted}

-- ---- what is made of the words of leaves and rows

-- leaf j of tree i, and row x
abbrev leaf_in : (I : Input) → Numbers → ℕ → ℕ → Value (field I)
leaf_in I N i j = at (field I).elements (get_or N.leaves i []) j

abbrev place_in : Numbers → ℕ → ℕ → ℕ
place_in N x i = get_or (get_or N.places x []) i 0

abbrev coefficient_in : (I : Input) → Numbers → ℕ → ℕ → NoiseValue (field I)
coefficient_in I N x i = at (field I).noise_values (get_or N.coefficients x []) i

-- the output of row x
abbrev output_in : (I : Input) → Numbers → (S : Scaled (field I).ring) → (ℕ → S.group.Of) → ℕ → S.group.Of
output_in I N S f x = sum S.group I.terms (λ i. S.scale (coefficient_in I N x i) (f (place_in N x i)))

pub record Computed (I : Input) (N : Numbers) : Type 0 where
  pub leaves : listed I.trees (λ i. flat (field I).elements (places (head I)) (leaf_by looked_child I i)) ≡ N.leaves
  pub corrections : flat (field I).elements I.trees (λ i. correction (field I).scaled (delta I) (leaf_in I N i (position I i)) (value I i)) ≡ N.corrections
  pub noise : flat (field I).noise_values (places (head I)) (accumulate (field I).ring.group (mu I)) ≡ N.noise
  pub v_accumulated : flat (field I).elements (places (head I))
      (accumulate (field I).scaled.group (punctured (field I).scaled I.trees (position I) (at (field I).elements N.corrections) (leaf_in I N)))
      ≡ N.v
  pub w_accumulated : flat (field I).elements (places (head I)) (accumulate (field I).scaled.group (whole (field I).scaled I.trees (leaf_in I N))) ≡ N.w
  pub row-places : listed I.outputs (λ x. listed I.terms (looked_row (head I) x).place) ≡ N.places
  pub coefficients : listed I.outputs (λ x. flat (field I).noise_values I.terms (looked_row (head I) x).coefficient) ≡ N.coefficients
  pub u_outputs : flat (field I).noise_values I.outputs (output_in I N (itself (field I).ring) (at (field I).noise_values N.noise)) ≡ N.us
  pub v_outputs : flat (field I).elements I.outputs (output_in I N (field I).scaled (at (field I).elements N.v)) ≡ N.vs
  pub w_outputs : flat (field I).elements I.outputs (output_in I N (field I).scaled (at (field I).elements N.w)) ≡ N.ws

module _ (I : Input) (A : Admitted I) (N : Numbers) (C : Computed I N) where
  leaves_are : listed I.trees (λ i. flat (field I).elements (places (head I)) (leaf I i)) ≡ N.leaves
  leaves_are = ap (λ f. listed I.trees (λ i. flat (field I).elements (places (head I)) (f i))) (leaf_looked I) ∙ C.leaves

  leaf-at : (i j : ℕ) → i < I.trees → j < places (head I) → leaf I i j ≡ leaf_in I N i j
  leaf-at i j h b =
      sym (at_flat (field I).elements (kind_laws I.field).field.elements (places (head I)) (leaf I i) j b)
      ∙ ap (λ l. at (field I).elements l j)
      (sym (listed_at I.trees (λ k. flat (field I).elements (places (head I)) (leaf I k)) [] i h) ∙ ap (λ l. get_or l i []) leaves_are)

  corrections_are : flat (field I).elements I.trees (tree_correction I) ≡ N.corrections
  corrections_are =
      flat_cong (field I).elements (kind_laws I.field).field.elements I.trees (tree_correction I) _
      (λ i h. ap (λ l. correction (field I).scaled (delta I) l (value I i)) (leaf-at i (position I i) h (A.below i h)))
      ∙ C.corrections

  correction_at : (i : ℕ) → i < I.trees → tree_correction I i ≡ at (field I).elements N.corrections i
  correction_at i h =
      sym (at_flat (field I).elements (kind_laws I.field).field.elements I.trees (tree_correction I) i h)
      ∙ ap (λ l. at (field I).elements l i) corrections_are

  v_are : flat (field I).elements (places (head I)) (accumulate (field I).scaled.group (v0 I)) ≡ N.v
  unfolding v0
  v_are =
      flat_cong (field I).elements (kind_laws I.field).field.elements (places (head I)) _ _
      (accumulate-same (field I).scaled.group (places (head I)) (v0 I) _
      (λ j b. punctured-same (field I).ring (field I).scaled I.trees (position I) (position I) (tree_correction I) _ (leaf I) (leaf_in I N) j
      (λ i h. refl) correction_at (λ i h n. leaf-at i j h b)))
      ∙ C.v_accumulated

  w_are : flat (field I).elements (places (head I)) (accumulate (field I).scaled.group (w0 I)) ≡ N.w
  unfolding w0
  w_are =
      flat_cong (field I).elements (kind_laws I.field).field.elements (places (head I)) _ _
      (accumulate-same (field I).scaled.group (places (head I)) (w0 I) _
      (λ j b. whole_same (field I).ring (field I).scaled I.trees (leaf I) (leaf_in I N) j (λ i h. leaf-at i j h b)))
      ∙ C.w_accumulated

  places_are : listed I.outputs (λ x. listed I.terms (row (head I) x).place) ≡ N.places
  places_are = (λ i. listed I.outputs (λ x. listed I.terms (row_looked (head I) x i).place)) ∙ C.row-places

  coefficients_are : listed I.outputs (λ x. flat (field I).noise_values I.terms (row (head I) x).coefficient) ≡ N.coefficients
  coefficients_are = (λ i. listed I.outputs (λ x. flat (field I).noise_values I.terms (row_looked (head I) x i).coefficient)) ∙ C.coefficients

  place_at_lem : (x i : ℕ) → x < I.outputs → i < I.terms → (row (head I) x).place i ≡ place_in N x i
  place_at_lem x i h k =
      sym (listed_at I.terms (row (head I) x).place 0 i k)
      ∙ ap (λ (l : List ℕ). get_or l i 0)
      (sym (listed_at I.outputs (λ y. listed I.terms (row (head I) y).place) [] x h) ∙ ap (λ l. get_or l x []) places_are)

  coefficient_at : (x i : ℕ) → x < I.outputs → i < I.terms → (row (head I) x).coefficient i ≡ coefficient_in I N x i
  coefficient_at x i h k =
      sym (at_flat (field I).noise_values (kind_laws I.field).field.noise_values I.terms (row (head I) x).coefficient i k)
      ∙ ap (λ l. at (field I).noise_values l i)
      (sym (listed_at I.outputs (λ y. flat (field I).noise_values I.terms (row (head I) y).coefficient) [] x h) ∙ ap (λ l. get_or l x []) coefficients_are)

  -- the output of row x on a vector, from the vector's words
  output-at : (S : Scaled (field I).ring) (f g : ℕ → S.group.Of) → ((j : ℕ) → j < places (head I) → f j ≡ g j)
      → (x : ℕ) → x < I.outputs → output S (row (head I) x) f ≡ output_in I N S g x
  unfolding output row_of_blocks
  output-at S f g e x h =
      sum_cong S.group I.terms _ _
      (λ i k.
      ap (S.scale ((row (head I) x).coefficient i)) (e ((row (head I) x).place i) ((row_within (head I) A.terms.2 x).place-below i k))
      ∙ ap₂ (λ c p. S.scale c (g p)) (coefficient_at x i h k) (place_at_lem x i h k))

  elements_at : (f : ℕ → Value (field I)) (words : List ℕ) → flat (field I).elements (places (head I)) f ≡ words
      → (j : ℕ) → j < places (head I) → f j ≡ at (field I).elements words j
  elements_at f words e j h =
      sym (at_flat (field I).elements (kind_laws I.field).field.elements (places (head I)) f j h) ∙ ap (λ l. at (field I).elements l j) e

  noise-at : (j : ℕ) → j < places (head I) → accumulate (field I).ring.group (mu I) j ≡ at (field I).noise_values N.noise j
  noise-at j h =
      sym (at_flat (field I).noise_values (kind_laws I.field).field.noise_values (places (head I)) (accumulate (field I).ring.group (mu I)) j h)
      ∙ ap (λ l. at (field I).noise_values l j) C.noise

  -- u: a row's output on the accumulated noise is the matrix row times the noise
  u-at : (x : ℕ) → x < I.outputs → u I x ≡ output_in I N (itself (field I).ring) (at (field I).noise_values N.noise) x
  unfolding u
  u-at x h =
      sym (output_is_matrix (field I).ring (itself (field I).ring) (kind_laws I.field).field.ring
      (itself_laws (field I).ring (kind_laws I.field).field.ring) (places (head I)) (row (head I) x) (row_within (head I) A.terms.2 x) (mu I))
      ∙ output-at (itself (field I).ring) (accumulate (field I).ring.group (mu I)) (at (field I).noise_values N.noise) noise-at x h

  pub worked : Worked I N
  unfolding v w
  worked =
      record {
        leaves = leaves_are;
        corrections = corrections_are;
        noise = C.noise;
        v_accumulated = v_are;
        w_accumulated = w_are;
        row-places = places_are;
        coefficients = coefficients_are;
        u_outputs = flat_cong (field I).noise_values (kind_laws I.field).field.noise_values I.outputs (u I) _ u-at ∙ C.u_outputs;
        v_outputs =
            flat_cong (field I).elements (kind_laws I.field).field.elements I.outputs (v I) _
            (output-at (field I).scaled (accumulate (field I).scaled.group (v0 I)) (at (field I).elements N.v) (elements_at _ N.v v_are))
            ∙ C.v_outputs;
        w_outputs =
            flat_cong (field I).elements (kind_laws I.field).field.elements I.outputs (w I) _
            (output-at (field I).scaled (accumulate (field I).scaled.group (w0 I)) (at (field I).elements N.w) (elements_at _ N.w w_are))
            ∙ C.w_outputs;
      }

-- ---- the dealings

binary-computed : Computed binary_input binary_numbers
unfolding looked looked_from mix_by sub_by round_by rounds_by cipher_by temp_by words_by looked_cipher looked_words looked_keys looked_aes looked_child leaf_by row_by looked_row flat noise correction punctured whole sum accumulate block_scale le_number le_bytes word_at columns_of low_of high_of prime_add prime_sub prime_mul prime_reduce xtime xor_word xor_state shift_rows power keys_of columns_at path reach leaf_at listed place_of mu
binary-computed =
    record {
      leaves = refl;
      corrections = refl;
      noise = refl;
      v_accumulated = refl;
      w_accumulated = refl;
      row-places = refl;
      coefficients = refl;
      u_outputs = refl;
      v_outputs = refl;
      w_outputs = refl;
    }

prime-computed : Computed prime_input prime_numbers
unfolding looked looked_from mix_by sub_by round_by rounds_by cipher_by temp_by words_by looked_cipher looked_words looked_keys looked_aes looked_child leaf_by row_by looked_row flat noise correction punctured whole sum accumulate block_scale le_number le_bytes word_at columns_of low_of high_of prime_add prime_sub prime_mul prime_reduce xtime xor_word xor_state shift_rows power keys_of columns_at path reach leaf_at listed place_of mu
prime-computed =
    record {
      leaves = refl;
      corrections = refl;
      noise = refl;
      v_accumulated = refl;
      w_accumulated = refl;
      row-places = refl;
      coefficients = refl;
      u_outputs = refl;
      v_outputs = refl;
      w_outputs = refl;
    }

second-computed : Computed second_input second_numbers
unfolding looked looked_from mix_by sub_by round_by rounds_by cipher_by temp_by words_by looked_cipher looked_words looked_keys looked_aes looked_child leaf_by row_by looked_row flat noise correction punctured whole sum accumulate block_scale le_number le_bytes word_at columns_of low_of high_of prime_add prime_sub prime_mul prime_reduce xtime xor_word xor_state shift_rows power keys_of columns_at path reach leaf_at listed place_of mu
second-computed =
    record {
      leaves = refl;
      corrections = refl;
      noise = refl;
      v_accumulated = refl;
      w_accumulated = refl;
      row-places = refl;
      coefficients = refl;
      u_outputs = refl;
      v_outputs = refl;
      w_outputs = refl;
    }

pub worked_dealings : WorkedDealings
worked_dealings =
    record {
      binary = worked binary_input binary-admitted binary_numbers binary-computed;
      prime = worked prime_input prime-admitted prime_numbers prime-computed;
      second = worked second_input second-admitted second_numbers second-computed;
    }

-- ---- a dealing's outputs, by their words

-- the values of words below n, and those of f from there on
abbrev pub in_words : {A : Type 0} → Coding A → ℕ → List ℕ → (ℕ → A) → ℕ → A
in_words C n words f x = choose (ltb x n) (at C words x) (f x)

-- where the words are f's, f is that
in-words : {A : Type 0} (C : Coding A) → CodingLaws C → (n : ℕ) (words : List ℕ) (f : ℕ → A) → flat C n f ≡ words → f ≡ in_words C n words f
in-words C L n words f e i x = from (ltb x n) refl i
  where
    from : (b : Bool) → ltb x n ≡ b → f x ≡ choose (ltb x n) (at C words x) (f x)
    from true q = rw q (sym (at_flat C L n f x (ltb-true x n q)) ∙ ap (λ l. at C l x) e)
    from false q = rw q

module _ (I : Input) (N : Numbers) (W : Worked I N) where
  pub u_is : u I ≡ in_words (field I).noise_values I.outputs N.us (u I)
  u_is = in-words (field I).noise_values (kind_laws I.field).field.noise_values I.outputs N.us (u I) W.u_outputs

  pub v_is : v I ≡ in_words (field I).elements I.outputs N.vs (v I)
  v_is = in-words (field I).elements (kind_laws I.field).field.elements I.outputs N.vs (v I) W.v_outputs

  pub w_is : w I ≡ in_words (field I).elements I.outputs N.ws (w I)
  w_is = in-words (field I).elements (kind_laws I.field).field.elements I.outputs N.ws (w I) W.w_outputs
