-- The dealings with trees of two and of three levels: accepted, so admitted, and their numbers and siblings by computation with the cipher
-- that looks up.
use mathlib.Core.Path.{◌≡◌, refl, ap}
use mathlib.Core.List.{List, [], ◌∷◌, map}
use Prim.Native.Nat.{ℕ}
use lib.ListN.{replicate}
use Rattle.algebra.specs.Coding.{flat}
use Rattle.algebra.specs.Expansion.{correction, noise, punctured, rising, whole}
use Rattle.algebra.specs.Sum.{accumulate, sum}
use Rattle.field.specs.Binary.{block_scale}
use Rattle.field.specs.Bytes.{columns_of, high_of, le_bytes, le_number, low_of, word_at}
use Rattle.prime.specs.Prime.{prime_add, prime_mul, prime_reduce, prime_sub}
use Rattle.aes_sbox.specs.Byte.{xtime}
use Rattle.aes128.specs.State.{xor_state, xor_word}
use Rattle.aes128.specs.Cipher.{keys_of, power, shift_rows}
use Rattle.tree.specs.Columns.{columns_at, columns_bytes}
use Rattle.tree.specs.Tree.{beside, leaf_at, listed, others, path, reach, siblings}
use Rattle.code.specs.Row.{place_of}
use Rattle.dealing.specs.Input.{delta_admitted, positions_admitted}
use Rattle.dealing.specs.Vectors.{mu}
use Rattle.algebra.specs.Every.{every}
use Rattle.number.specs.Number.{write_number}
use Rattle.record.specs.Writing as writing
use Rattle.record.specs.Writing.{write_head, write_noise, write_scalar, write_tree, write_tree_start, write_trees}
use Rattle.dealing.proofs.Laws.{deal-number}
use Rattle.answer.specs.Outcome.{answered, by_number}
use Rattle.answer.specs.Tests.{first_fault, is_met}
use Rattle.dealing.specs.Deal.{deal}
use Rattle.dealing.specs.Parts.{noise_tree}
use Rattle.example.proofs.Cipher.{looked, looked_from, mix_by, sub_by, round_by, rounds_by, cipher_by, temp_by, words_by, looked_cipher, looked_words, looked_keys}
use Rattle.example.proofs.Made.{looked_aes, looked_child, leaf_by, siblings_by, siblings_looked, row_by, looked_row}
use Rattle.example.proofs.Worked.{Computed, worked}
use Rattle.example_levels.specs.Levels.{two_levels, three_levels, two_level_numbers, three_level_numbers, two_level_siblings, three_level_siblings, sibling_words, WorkedLevels}

pub two-dealt : (deal two_levels (replicate 256 0) (replicate 256 0)).number ≡ 0
unfolding rising every le_number le_bytes word_at write_number writing.write_each write_head write_tree_start write_tree write_trees write_noise write_scalar columns_bytes path listed others beside siblings deal answered by_number first_fault is_met positions_admitted delta_admitted noise_tree
two-dealt = refl

two-computed : Computed two_levels two_level_numbers
unfolding looked looked_from mix_by sub_by round_by rounds_by cipher_by temp_by words_by looked_cipher looked_words looked_keys looked_aes looked_child leaf_by row_by looked_row flat noise correction punctured whole sum accumulate block_scale le_number le_bytes word_at columns_of low_of high_of prime_add prime_sub prime_mul prime_reduce xtime xor_word xor_state shift_rows power keys_of columns_at path reach leaf_at listed place_of mu
two-computed =
    record {
      leaves = refl;
      corrections = refl;
      noise = refl;
      v_accumulated = refl;
      w_accumulated = refl;
      row-places = refl;
      coefficients = refl;
      u_outputs = refl;
      v_outputs = refl;
      w_outputs = refl;
    }

two-siblings : sibling_words two_levels 0 ≡ two_level_siblings
unfolding looked looked_from mix_by sub_by round_by rounds_by cipher_by temp_by words_by looked_cipher looked_words looked_keys looked_aes looked_child leaf_by row_by looked_row flat noise correction punctured whole sum accumulate block_scale le_number le_bytes word_at columns_of low_of high_of prime_add prime_sub prime_mul prime_reduce xtime xor_word xor_state shift_rows power keys_of columns_at path reach leaf_at listed place_of mu siblings_by others beside siblings columns_bytes
two-siblings = ap (map (λ (b : List ℕ). word_at b 0 ∷ word_at b 8 ∷ [])) (siblings_looked two_levels 0)

pub three-dealt : (deal three_levels (replicate 256 0) (replicate 256 0)).number ≡ 0
unfolding rising every le_number le_bytes word_at write_number writing.write_each write_head write_tree_start write_tree write_trees write_noise write_scalar columns_bytes path listed others beside siblings deal answered by_number first_fault is_met positions_admitted delta_admitted noise_tree
three-dealt = refl

three-computed : Computed three_levels three_level_numbers
unfolding looked looked_from mix_by sub_by round_by rounds_by cipher_by temp_by words_by looked_cipher looked_words looked_keys looked_aes looked_child leaf_by row_by looked_row flat noise correction punctured whole sum accumulate block_scale le_number le_bytes word_at columns_of low_of high_of prime_add prime_sub prime_mul prime_reduce xtime xor_word xor_state shift_rows power keys_of columns_at path reach leaf_at listed place_of mu
three-computed =
    record {
      leaves = refl;
      corrections = refl;
      noise = refl;
      v_accumulated = refl;
      w_accumulated = refl;
      row-places = refl;
      coefficients = refl;
      u_outputs = refl;
      v_outputs = refl;
      w_outputs = refl;
    }

three-siblings : sibling_words three_levels 0 ≡ three_level_siblings
unfolding looked looked_from mix_by sub_by round_by rounds_by cipher_by temp_by words_by looked_cipher looked_words looked_keys looked_aes looked_child leaf_by row_by looked_row flat noise correction punctured whole sum accumulate block_scale le_number le_bytes word_at columns_of low_of high_of prime_add prime_sub prime_mul prime_reduce xtime xor_word xor_state shift_rows power keys_of columns_at path reach leaf_at listed place_of mu siblings_by others beside siblings columns_bytes
three-siblings = ap (map (λ (b : List ℕ). word_at b 0 ∷ word_at b 8 ∷ [])) (siblings_looked three_levels 0)

pub worked_levels : WorkedLevels
worked_levels =
    record {
      two = worked two_levels (deal-number two_levels (replicate 256 0) (replicate 256 0) two-dealt).admitted two_level_numbers two-computed;
      two-siblings = two-siblings;
      three =
          worked three_levels (deal-number three_levels (replicate 256 0) (replicate 256 0) three-dealt).admitted three_level_numbers three-computed;
      three-siblings = three-siblings;
    }
