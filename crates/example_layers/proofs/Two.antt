-- The two layers of each field: the second dealing by computation, as those of `example`, then what the call and the sums make of the words
-- of both.
use mathlib.Core.Path.{◌≡◌, refl, ap₂, ◌∙◌}
use mathlib.Core.List.{List}
use Prim.Native.Nat.{ℕ, zero, suc, ◌<◌}
use lib.Dec.{lit≤}
use lib.ListN.{replicate}
use Rattle.algebra.proofs.Orders.{in_turn, in_turn_once}
use Rattle.algebra.specs.Coding.{flat, over}
use Rattle.algebra.specs.Every.{every}
use Rattle.algebra.specs.Expansion.{rising, noise, correction, punctured, whole}
use Rattle.algebra.specs.Field.{NoiseValue, Value}
use Rattle.algebra.specs.Sum.{sum, accumulate}
use Rattle.answer.specs.Bytes.{any_above}
use Rattle.answer.specs.Outcome.{answered, by_number}
use Rattle.answer.specs.Tests.{first_fault, is_met}
use Rattle.field.specs.Binary.{block_scale}
use Rattle.field.specs.Bytes.{le_number, le_bytes, word_at, columns_of, low_of, high_of}
use Rattle.prime.specs.Prime.{prime_add, prime_sub, prime_mul, prime_reduce}
use Rattle.number.specs.Number.{write_number}
use Rattle.record.specs.Writing as writing
use Rattle.record.specs.Writing.{write_head, write_tree_start, write_tree, write_trees, write_noise, write_scalar}
use Rattle.aes_sbox.specs.Byte.{xtime}
use Rattle.aes128.specs.State.{xor_word, xor_state}
use Rattle.aes128.specs.Cipher.{shift_rows, power, keys_of}
use Rattle.tree.specs.Columns.{columns_at, columns_bytes}
use Rattle.tree.specs.Tree.{path, reach, leaf_at, listed, others, beside, siblings}
use Rattle.code.specs.Row.{place_of}
use Rattle.dealing.proofs.Laws.{deal-number}
use Rattle.dealing.specs.Admitted.{InMemory}
use Rattle.dealing.specs.Deal.{deal}
use Rattle.dealing.specs.Input.{Input, positions_admitted, delta_admitted}
use Rattle.dealing.specs.Parts.{noise_tree}
use Rattle.dealing.specs.Vectors as dealt
use Rattle.dealing.specs.Vectors.{mu}
use Rattle.claims.specs.Correlation.{Setting}
use Rattle.example.specs.Worked.{Numbers, Worked, binary_input, prime_input, binary_numbers, prime_numbers}
use Rattle.example.proofs.Cipher.{looked, looked_from, mix_by, sub_by, round_by, rounds_by, cipher_by, temp_by, words_by, looked_cipher, looked_words, looked_keys}
use Rattle.example.proofs.Made.{looked_aes, looked_child, leaf_by, row_by, looked_row}
use Rattle.example.proofs.Worked.{Computed, worked, in_words, u_is, v_is, w_is, worked_dealings}
use Rattle.example.proofs.Computed.{within, held, setting_of, binary-setting, prime-setting}
use Rattle.layer_add.specs.Add.{lent_add, prime_sum, sum_at, summed, add}
use Rattle.layer_claims.specs.Adding.{added_up}
use Rattle.layer_claims.specs.Correlation.{Orders, noise_at, v_at, w_at}
use Rattle.layer_claims.specs.Layers.{Layers, Alike, input_at, shared, field, u, v, w}
use Rattle.layer_claims.proofs.Sums.{Left, layer-left, u-sum}
use Rattle.example_layers.specs.Two.{second, second_binary, second_prime, LayersExample}

-- ---- the second dealing of each field

binary-dealt : (deal (second binary_input) (replicate 256 0) (replicate 256 0)).number ≡ 0
unfolding rising every le_number le_bytes word_at write_number writing.write_each write_head write_tree_start write_tree write_trees write_noise write_scalar columns_bytes path listed others beside siblings deal answered by_number first_fault is_met positions_admitted delta_admitted noise_tree
binary-dealt = refl

prime-dealt : (deal (second prime_input) (replicate 256 0) (replicate 256 0)).number ≡ 0
unfolding rising every le_number le_bytes word_at write_number writing.write_each write_head write_tree_start write_tree write_trees write_noise write_scalar columns_bytes path listed others beside siblings deal answered by_number first_fault is_met positions_admitted delta_admitted noise_tree
prime-dealt = refl

binary-memory : InMemory (second binary_input)
unfolding within
binary-memory =
    held (second binary_input)
    (record { roots = refl; positions = refl; values = refl; delta = refl; code_key = refl; label = refl })

prime-memory : InMemory (second prime_input)
unfolding within
prime-memory =
    held (second prime_input)
    (record { roots = refl; positions = refl; values = refl; delta = refl; code_key = refl; label = refl })

binary-computed : Computed (second binary_input) second_binary
unfolding looked looked_from mix_by sub_by round_by rounds_by cipher_by temp_by words_by looked_cipher looked_words looked_keys looked_aes looked_child leaf_by row_by looked_row flat noise correction punctured whole sum accumulate block_scale le_number le_bytes word_at columns_of low_of high_of prime_add prime_sub prime_mul prime_reduce xtime xor_word xor_state shift_rows power keys_of columns_at path reach leaf_at listed place_of mu
binary-computed =
    record {
      leaves = refl;
      corrections = refl;
      noise = refl;
      v_accumulated = refl;
      w_accumulated = refl;
      row-places = refl;
      coefficients = refl;
      u_outputs = refl;
      v_outputs = refl;
      w_outputs = refl;
    }

prime-computed : Computed (second prime_input) second_prime
unfolding looked looked_from mix_by sub_by round_by rounds_by cipher_by temp_by words_by looked_cipher looked_words looked_keys looked_aes looked_child leaf_by row_by looked_row flat noise correction punctured whole sum accumulate block_scale le_number le_bytes word_at columns_of low_of high_of prime_add prime_sub prime_mul prime_reduce xtime xor_word xor_state shift_rows power keys_of columns_at path reach leaf_at listed place_of mu
prime-computed =
    record {
      leaves = refl;
      corrections = refl;
      noise = refl;
      v_accumulated = refl;
      w_accumulated = refl;
      row-places = refl;
      coefficients = refl;
      u_outputs = refl;
      v_outputs = refl;
      w_outputs = refl;
    }

binary_worked : Worked (second binary_input) second_binary
binary_worked = worked (second binary_input) (deal-number (second binary_input) _ _ binary-dealt).admitted second_binary binary-computed

prime_worked : Worked (second prime_input) second_prime
prime_worked = worked (second prime_input) (deal-number (second prime_input) _ _ prime-dealt).admitted second_prime prime-computed

-- ---- two settings as layers

-- the first of two, else the second
abbrev either : {A : Type 0} → A → A → ℕ → A
either a b zero = a
either a b (suc i) = b

abbrev two : (S T : Setting) → Alike S.input T.input → Layers
two S T a = record { count = 2; some = lit≤ tt; layer = either S T; alike = λ i h. of i }
  where
    of : (i : ℕ) → Alike S.input (either S T i).input
    of zero = record { field = refl; depth = refl; terms = refl; outputs = refl; delta = refl; code_key = refl }
    of (suc i) = a

-- two settings whose numbers are known
record Both : Type 0 where
  S : Setting
  T : Setting
  alike : Alike S.input T.input
  N : Numbers
  M : Numbers
  first : Worked S.input N
  second : Worked (input_at (two S T alike) 1) M

module _ (B : Both) where
  abbrev L : Layers
  L = two B.S B.T B.alike

  abbrev I : Input
  I = shared L

  abbrev J : Input
  J = input_at L 1

  orders : Orders L
  orders =
      let once = in_turn_once 1 in
      record { noise = in_turn 1; noise-once = once; v = in_turn 1; v_once = once; w = in_turn 1; w_once = once }

  -- the second's words added into the first's
  abbrev added : List ℕ → List ℕ → List ℕ
  added from into = (add I.field (lent_add from into)).lent.into

  abbrev left : (i : ℕ) → i < 2 → Left (L.layer i) (input_at L i)
  left = layer-left L

  noise-added : added_up I.field (noise_at L) (in_turn 1) ≡ added B.M.noise B.N.noise
  unfolding added_up in_turn
  noise-added = ap₂ added ((left 1 (lit≤ tt)).noise ∙ B.second.noise) ((left 0 (lit≤ tt)).noise ∙ B.first.noise)

  v_added : added_up I.field (v_at L) (in_turn 1) ≡ added B.M.v B.N.v
  unfolding added_up in_turn
  v_added = ap₂ added ((left 1 (lit≤ tt)).v ∙ B.second.v_accumulated) ((left 0 (lit≤ tt)).v ∙ B.first.v_accumulated)

  w_added : added_up I.field (w_at L) (in_turn 1) ≡ added B.M.w B.N.w
  unfolding added_up in_turn
  w_added = ap₂ added ((left 1 (lit≤ tt)).w ∙ B.second.w_accumulated) ((left 0 (lit≤ tt)).w ∙ B.first.w_accumulated)

  -- the sums of the outputs, by the words of both layers' own
  abbrev noise_sums : (ℕ → NoiseValue (field L)) → (ℕ → NoiseValue (field L)) → List ℕ
  noise_sums f g = flat (field L).noise_values 2 (λ x. sum (field L).ring.group 2 (either (f x) (g x)))

  abbrev element_sums : (ℕ → Value (field L)) → (ℕ → Value (field L)) → List ℕ
  element_sums f g = flat (field L).elements 2 (λ x. sum (field L).scaled.group 2 (either (f x) (g x)))

  abbrev noise_in : List ℕ → (ℕ → NoiseValue (field L)) → ℕ → NoiseValue (field L)
  noise_in = in_words (field L).noise_values I.outputs

  abbrev elements_in : List ℕ → (ℕ → Value (field L)) → ℕ → Value (field L)
  elements_in = in_words (field L).elements I.outputs

  u_both : flat (field L).noise_values 2 (u L) ≡ noise_sums (noise_in B.N.us (dealt.u I)) (noise_in B.M.us (dealt.u J))
  unfolding sum
  u_both =
      (λ t. flat (field L).noise_values 2 (λ x. u-sum L x t))
      ∙ (λ t. noise_sums (u_is I B.N B.first t) (u_is J B.M B.second t))

  v_both : flat (field L).elements 2 (v L) ≡ element_sums (elements_in B.N.vs (dealt.v I)) (elements_in B.M.vs (dealt.v J))
  unfolding v sum
  v_both = λ t. element_sums (v_is I B.N B.first t) (v_is J B.M B.second t)

  w_both : flat (field L).elements 2 (w L) ≡ element_sums (elements_in B.N.ws (dealt.w I)) (elements_in B.M.ws (dealt.w J))
  unfolding w sum
  w_both = λ t. element_sums (w_is I B.N B.first t) (w_is J B.M B.second t)

-- ---- both fields

binary-both : Both
unfolding setting_of
binary-both =
    record {
      S = binary-setting;
      T = setting_of (second binary_input) binary-memory binary-dealt 8 (lit≤ tt) (lit≤ tt);
      alike = record { field = refl; depth = refl; terms = refl; outputs = refl; delta = refl; code_key = refl };
      N = binary_numbers;
      M = second_binary;
      first = worked_dealings.binary;
      second = binary_worked;
    }

prime-both : Both
unfolding setting_of
prime-both =
    record {
      S = prime-setting;
      T = setting_of (second prime_input) prime-memory prime-dealt 4 (lit≤ tt) (lit≤ tt);
      alike = record { field = refl; depth = refl; terms = refl; outputs = refl; delta = refl; code_key = refl };
      N = prime_numbers;
      M = second_prime;
      first = worked_dealings.prime;
      second = prime_worked;
    }

pub layers_example : LayersExample
unfolding setting_of binary-both prime-both orders in_turn add answered by_number first_fault is_met any_above summed sum_at over flat sum prime_sum prime_add
layers_example =
    record {
      binary =
          record {
            layers = L binary-both;
            two = refl;
            first-input = refl;
            second-input = refl;
            second-numbers = binary_worked;
            orders = orders binary-both;
            second-into-first = refl;
            noise = noise-added binary-both;
            v_accumulated = v_added binary-both;
            w_accumulated = w_added binary-both;
            u_outputs = u_both binary-both;
            v_outputs = v_both binary-both;
            w_outputs = w_both binary-both;
          };
      prime =
          record {
            layers = L prime-both;
            two = refl;
            first-input = refl;
            second-input = refl;
            second-numbers = prime_worked;
            orders = orders prime-both;
            second-into-first = refl;
            noise = noise-added prime-both;
            v_accumulated = v_added prime-both;
            w_accumulated = w_added prime-both;
            u_outputs = u_both prime-both;
            v_outputs = v_both prime-both;
            w_outputs = w_both prime-both;
          };
    }
