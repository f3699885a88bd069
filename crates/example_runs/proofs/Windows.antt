-- The pads of both dealings in their windows, by computation with the cipher that looks up; the choice that names one, by `Pads` itself;
-- what is taken for a place of later calls.
use mathlib.Core.Path.{◌≡◌, refl, sym, ap, ◌∙◌}
use mathlib.Core.List.{List}
use Prim.Native.Nat.{ℕ, zero, suc, ◌-◌, ◌*◌, ◌≤◌, ◌<◌}
use native.Mathlib.Omega.{arith}
use lib.Dec.{lit<, lit≤}
use lib.ListN.{get_or, replicate}
use Rattle.algebra.specs.Coding.{flat, over}
use Rattle.answer.specs.Bytes.{any_above}
use Rattle.answer.specs.Outcome.{by_number, answered}
use Rattle.answer.specs.Tests.{is_met, first_fault}
use Rattle.aes_sbox.specs.Byte.{xtime}
use Rattle.aes128.specs.State.{xor_word, xor_state}
use Rattle.aes128.specs.Cipher.{shift_rows, power, keys_of}
use Rattle.field.specs.Bytes.{le_bytes, le_number, word_at, columns_of, low_of, high_of}
use Rattle.record.specs.Writing as writing
use Rattle.pads.specs.Calls.{noise_pads_by, scalar_pads_by}
use Rattle.pads.specs.Choice.{InWindow, pad_at, one_of_two_at}
use Rattle.pads.specs.Pad.{pad_key, pad_pair}
use Rattle.claims.proofs.Entire.{pads}
use Rattle.claims.specs.Source.{source_field}
use Rattle.claims.specs.Correlation.{PadsLent}
use Rattle.claims.specs.Taken.{Dealing, outputs_of, TakenAt}
use Rattle.dealing.specs.Vectors.{u}
use Rattle.example.proofs.Cipher.{looked, looked_from, mix_by, sub_by, round_by, rounds_by, cipher_by, temp_by, words_by, looked_cipher, looked_words, looked_keys}
use Rattle.example.proofs.Made.{looked_aes, looked_under, pad_by, looked_pad, pad_looked}
use Rattle.example.proofs.Worked.{u_is, v_is, w_is}
use Rattle.example.specs.Worked.{Numbers}
use Rattle.example_levels.proofs.Levels.{two-dealt, three-dealt, worked_levels}
use Rattle.example_levels.specs.Levels.{two_levels, three_levels, two_level_numbers, three_level_numbers}
use Rattle.example_runs.specs.Windows.{v_from, u_from, w_from, NoiseRan, ScalarRan, NamedIn, noise₀, noise₁₂, scalar₀₁₂, noise₀₁₂, scalar₀₁, scalar₂, WindowsExample}
use Rattle.example_runs.specs.Runs.{near₀₁, near₂, far₀, far₁₂}

-- both dealings
abbrev pub two_dealing : Dealing
two_dealing = record { input = two_levels; binary = refl; noise_record = replicate 256 0; scalar_record = replicate 256 0; dealt = two-dealt }

abbrev pub three_dealing : Dealing
three_dealing =
    record { input = three_levels; binary = refl; noise_record = replicate 256 0; scalar_record = replicate 256 0; dealt = three-dealt }

-- ---- two accepted pad calls, each in its window, where the bytes lent for an index of both are the dealing's

module _ (D : Dealing) (N : Numbers) (first count : ℕ) (noise : List ℕ) (noise-call : NoiseRan N first count noise)
    (first' count' : ℕ) (scalar : List ℕ) (scalar-call : ScalarRan D.input N first' count' scalar)
    (x : ℕ) (below : x < D.input.outputs) (within : InWindow first count x) (within' : InWindow first' count' x)
    (lent : PadsLent (outputs_of D) x first (v_from N first count) (u_from N first count) first' (w_from N first' count') D.input.delta)
  where
    -- the pad that the choice names, by `Pads`
    pub named_at : pad_at noise first x ≡ one_of_two_at scalar first' x (get_or (u_from N first count) (x - first) 0)
    named_at =
        ap (λ o. pad_at o.lent.pads first x) (sym noise-call)
        ∙ pads D.input D.binary D.noise_record D.scalar_record D.dealt
        first count (v_from N first count) (u_from N first count) (replicate (16 * count) 0) (ap (λ o. o.number) noise-call)
        first' count' (w_from N first' count') D.input.delta (replicate (32 * count') 0) (ap (λ o. o.number) scalar-call)
        x below within within' lent
        ∙ ap (λ o. one_of_two_at o.lent.pads first' x (get_or (u_from N first count) (x - first) 0)) scalar-call

    -- what is taken for place k of one call and place k' of the other, where their bytes are these
    pub taken_at : (choices mine theirs : List ℕ) (k k' : ℕ)
        → (source_field (outputs_of D)).noise_values.read choices k ≡ u D.input x → pad_at mine 0 k ≡ pad_at noise first x
        → one_of_two_at theirs 0 k' 0 ≡ one_of_two_at scalar first' x 0 → one_of_two_at theirs 0 k' 1 ≡ one_of_two_at scalar first' x 1
        → TakenAt (outputs_of D) choices mine theirs k k'
    taken_at choices mine theirs k k' choice pad both₀ both₁ =
        record {
          x = x;
          below = below;
          first = first;
          count = count;
          vs = v_from N first count;
          us = u_from N first count;
          out = replicate (16 * count) 0;
          accepted = ap (λ o. o.number) noise-call;
          within = within;
          first' = first';
          count' = count';
          ws = w_from N first' count';
          Δ = D.input.delta;
          out' = replicate (32 * count') 0;
          accepted' = ap (λ o. o.number) scalar-call;
          within' = within';
          lent = lent;
          choice = choice;
          pad = pad ∙ ap (λ o. pad_at o.lent.pads first x) (sym noise-call);
          both = λ bit b. bits bit b ∙ ap (λ o. one_of_two_at o.lent.pads first' x bit) (sym scalar-call);
        }
      where
        bits : (bit : ℕ) → bit ≤ 1 → one_of_two_at theirs 0 k' bit ≡ one_of_two_at scalar first' x bit
        bits zero h = both₀
        bits (suc zero) h = both₁
        bits (suc (suc n)) h = absurd (omega arith)

-- ---- the calls

two-noise₀ : NoiseRan two_level_numbers 0 1 noise₀
unfolding looked looked_from mix_by sub_by round_by rounds_by cipher_by temp_by words_by looked_cipher looked_words looked_keys looked_aes looked_under pad_by looked_pad xtime xor_word xor_state shift_rows power keys_of le_bytes le_number word_at columns_of low_of high_of pad_key writing.write_each flat over any_above is_met first_fault by_number answered noise_pads_by scalar_pads_by pad_pair
two-noise₀ =
    ap (λ rule. noise_pads_by rule 0 1 (v_from two_level_numbers 0 1) (u_from two_level_numbers 0 1) (replicate (16 * 1) 0)) pad_looked

two-noise₁₂ : NoiseRan two_level_numbers 1 2 noise₁₂
unfolding looked looked_from mix_by sub_by round_by rounds_by cipher_by temp_by words_by looked_cipher looked_words looked_keys looked_aes looked_under pad_by looked_pad xtime xor_word xor_state shift_rows power keys_of le_bytes le_number word_at columns_of low_of high_of pad_key writing.write_each flat over any_above is_met first_fault by_number answered noise_pads_by scalar_pads_by pad_pair
two-noise₁₂ =
    ap (λ rule. noise_pads_by rule 1 2 (v_from two_level_numbers 1 2) (u_from two_level_numbers 1 2) (replicate (16 * 2) 0)) pad_looked

two-scalar : ScalarRan two_levels two_level_numbers 0 3 scalar₀₁₂
unfolding looked looked_from mix_by sub_by round_by rounds_by cipher_by temp_by words_by looked_cipher looked_words looked_keys looked_aes looked_under pad_by looked_pad xtime xor_word xor_state shift_rows power keys_of le_bytes le_number word_at columns_of low_of high_of pad_key writing.write_each flat over any_above is_met first_fault by_number answered noise_pads_by scalar_pads_by pad_pair
two-scalar =
    ap (λ rule. scalar_pads_by rule 0 3 (w_from two_level_numbers 0 3) two_levels.delta (replicate (32 * 3) 0)) pad_looked

three-noise : NoiseRan three_level_numbers 0 3 noise₀₁₂
unfolding looked looked_from mix_by sub_by round_by rounds_by cipher_by temp_by words_by looked_cipher looked_words looked_keys looked_aes looked_under pad_by looked_pad xtime xor_word xor_state shift_rows power keys_of le_bytes le_number word_at columns_of low_of high_of pad_key writing.write_each flat over any_above is_met first_fault by_number answered noise_pads_by scalar_pads_by pad_pair
three-noise =
    ap (λ rule. noise_pads_by rule 0 3 (v_from three_level_numbers 0 3) (u_from three_level_numbers 0 3) (replicate (16 * 3) 0)) pad_looked

three-scalar₀₁ : ScalarRan three_levels three_level_numbers 0 2 scalar₀₁
unfolding looked looked_from mix_by sub_by round_by rounds_by cipher_by temp_by words_by looked_cipher looked_words looked_keys looked_aes looked_under pad_by looked_pad xtime xor_word xor_state shift_rows power keys_of le_bytes le_number word_at columns_of low_of high_of pad_key writing.write_each flat over any_above is_met first_fault by_number answered noise_pads_by scalar_pads_by pad_pair
three-scalar₀₁ =
    ap (λ rule. scalar_pads_by rule 0 2 (w_from three_level_numbers 0 2) three_levels.delta (replicate (32 * 2) 0)) pad_looked

three-scalar₂ : ScalarRan three_levels three_level_numbers 2 1 scalar₂
unfolding looked looked_from mix_by sub_by round_by rounds_by cipher_by temp_by words_by looked_cipher looked_words looked_keys looked_aes looked_under pad_by looked_pad xtime xor_word xor_state shift_rows power keys_of le_bytes le_number word_at columns_of low_of high_of pad_key writing.write_each flat over any_above is_met first_fault by_number answered noise_pads_by scalar_pads_by pad_pair
three-scalar₂ =
    ap (λ rule. scalar_pads_by rule 2 1 (w_from three_level_numbers 2 1) three_levels.delta (replicate (32 * 1) 0)) pad_looked

-- ---- the bytes lent for each index

pub two_lent₀ : PadsLent (outputs_of two_dealing) 0 0 (v_from two_level_numbers 0 1) (u_from two_level_numbers 0 1)
    0 (w_from two_level_numbers 0 3) two_levels.delta
unfolding writing.write_each le_bytes le_number word_at
two_lent₀ =
    record {
      v_lent = sym (ap (λ f. f 0) (v_is two_levels two_level_numbers worked_levels.two));
      u_lent = sym (ap (λ f. f 0) (u_is two_levels two_level_numbers worked_levels.two));
      w_lent = sym (ap (λ f. f 0) (w_is two_levels two_level_numbers worked_levels.two));
      Δ-lent = refl;
    }

pub two-lent₁ : PadsLent (outputs_of two_dealing) 1 1 (v_from two_level_numbers 1 2) (u_from two_level_numbers 1 2)
    0 (w_from two_level_numbers 0 3) two_levels.delta
unfolding writing.write_each le_bytes le_number word_at
two-lent₁ =
    record {
      v_lent = sym (ap (λ f. f 1) (v_is two_levels two_level_numbers worked_levels.two));
      u_lent = sym (ap (λ f. f 1) (u_is two_levels two_level_numbers worked_levels.two));
      w_lent = sym (ap (λ f. f 1) (w_is two_levels two_level_numbers worked_levels.two));
      Δ-lent = refl;
    }

pub two-lent₂ : PadsLent (outputs_of two_dealing) 2 1 (v_from two_level_numbers 1 2) (u_from two_level_numbers 1 2)
    0 (w_from two_level_numbers 0 3) two_levels.delta
unfolding writing.write_each le_bytes le_number word_at
two-lent₂ =
    record {
      v_lent = sym (ap (λ f. f 2) (v_is two_levels two_level_numbers worked_levels.two));
      u_lent = sym (ap (λ f. f 2) (u_is two_levels two_level_numbers worked_levels.two));
      w_lent = sym (ap (λ f. f 2) (w_is two_levels two_level_numbers worked_levels.two));
      Δ-lent = refl;
    }

pub three_lent₀ : PadsLent (outputs_of three_dealing) 0 0 (v_from three_level_numbers 0 3) (u_from three_level_numbers 0 3)
    0 (w_from three_level_numbers 0 2) three_levels.delta
unfolding writing.write_each le_bytes le_number word_at
three_lent₀ =
    record {
      v_lent = sym (ap (λ f. f 0) (v_is three_levels three_level_numbers worked_levels.three));
      u_lent = sym (ap (λ f. f 0) (u_is three_levels three_level_numbers worked_levels.three));
      w_lent = sym (ap (λ f. f 0) (w_is three_levels three_level_numbers worked_levels.three));
      Δ-lent = refl;
    }

pub three-lent₁ : PadsLent (outputs_of three_dealing) 1 0 (v_from three_level_numbers 0 3) (u_from three_level_numbers 0 3)
    0 (w_from three_level_numbers 0 2) three_levels.delta
unfolding writing.write_each le_bytes le_number word_at
three-lent₁ =
    record {
      v_lent = sym (ap (λ f. f 1) (v_is three_levels three_level_numbers worked_levels.three));
      u_lent = sym (ap (λ f. f 1) (u_is three_levels three_level_numbers worked_levels.three));
      w_lent = sym (ap (λ f. f 1) (w_is three_levels three_level_numbers worked_levels.three));
      Δ-lent = refl;
    }

pub three-lent₂ : PadsLent (outputs_of three_dealing) 2 0 (v_from three_level_numbers 0 3) (u_from three_level_numbers 0 3)
    2 (w_from three_level_numbers 2 1) three_levels.delta
unfolding writing.write_each le_bytes le_number word_at
three-lent₂ =
    record {
      v_lent = sym (ap (λ f. f 2) (v_is three_levels three_level_numbers worked_levels.three));
      u_lent = sym (ap (λ f. f 2) (u_is three_levels three_level_numbers worked_levels.three));
      w_lent = sym (ap (λ f. f 2) (w_is three_levels three_level_numbers worked_levels.three));
      Δ-lent = refl;
    }

named₁₂ : NamedIn two_level_numbers noise₁₂ 1 2 scalar₀₁₂ 0 3
named₁₂ zero h g below = absurd (omega arith)
named₁₂ (suc zero) h g below =
    named_at two_dealing two_level_numbers 1 2 noise₁₂ two-noise₁₂ 0 3 scalar₀₁₂ two-scalar 1
    (lit< tt) (lit≤ tt, lit< tt) (lit≤ tt, lit< tt) two-lent₁
named₁₂ (suc (suc zero)) h g below =
    named_at two_dealing two_level_numbers 1 2 noise₁₂ two-noise₁₂ 0 3 scalar₀₁₂ two-scalar 2
    (lit< tt) (lit≤ tt, lit< tt) (lit≤ tt, lit< tt) two-lent₂
named₁₂ (suc (suc (suc x))) h g below = absurd (omega arith)

named₂ : NamedIn three_level_numbers noise₀₁₂ 0 3 scalar₂ 2 1
named₂ zero h g below = absurd (omega arith)
named₂ (suc zero) h g below = absurd (omega arith)
named₂ (suc (suc zero)) h g below =
    named_at three_dealing three_level_numbers 0 3 noise₀₁₂ three-noise 2 1 scalar₂ three-scalar₂ 2
    (lit< tt) (lit≤ tt, lit< tt) (lit≤ tt, lit< tt) three-lent₂
named₂ (suc (suc (suc x))) h g below = absurd (omega arith)

pub windows_example : WindowsExample
windows_example =
    record {
      two-noise₀ = two-noise₀;
      two-noise₁₂ = two-noise₁₂;
      two-scalar = two-scalar;
      three-noise = three-noise;
      three-scalar₀₁ = three-scalar₀₁;
      three-scalar₂ = three-scalar₂;
      named₁₂ = named₁₂;
      named₂ = named₂;
    }

-- ---- what is taken for each index, at its place of each end's call

pub two_taken₀ : TakenAt (outputs_of two_dealing) near₀₁.choices near₀₁.pads far₀.pad_pairs 0 0
two_taken₀ =
    taken_at two_dealing two_level_numbers 0 1 noise₀ two-noise₀ 0 3 scalar₀₁₂ two-scalar 0
    (lit< tt) (lit≤ tt, lit< tt) (lit≤ tt, lit< tt) two_lent₀
    near₀₁.choices near₀₁.pads far₀.pad_pairs 0 0 two_lent₀.u_lent refl refl refl

pub three_taken₀ : TakenAt (outputs_of three_dealing) far₀.choices far₀.pads near₀₁.pad_pairs 0 0
three_taken₀ =
    taken_at three_dealing three_level_numbers 0 3 noise₀₁₂ three-noise 0 2 scalar₀₁ three-scalar₀₁ 0
    (lit< tt) (lit≤ tt, lit< tt) (lit≤ tt, lit< tt) three_lent₀
    far₀.choices far₀.pads near₀₁.pad_pairs 0 0 three_lent₀.u_lent refl refl refl

pub two_taken₁ : TakenAt (outputs_of two_dealing) near₀₁.choices near₀₁.pads far₁₂.pad_pairs 1 0
two_taken₁ =
    taken_at two_dealing two_level_numbers 1 2 noise₁₂ two-noise₁₂ 0 3 scalar₀₁₂ two-scalar 1
    (lit< tt) (lit≤ tt, lit< tt) (lit≤ tt, lit< tt) two-lent₁
    near₀₁.choices near₀₁.pads far₁₂.pad_pairs 1 0 two-lent₁.u_lent refl refl refl

pub three_taken₁ : TakenAt (outputs_of three_dealing) far₁₂.choices far₁₂.pads near₀₁.pad_pairs 0 1
three_taken₁ =
    taken_at three_dealing three_level_numbers 0 3 noise₀₁₂ three-noise 0 2 scalar₀₁ three-scalar₀₁ 1
    (lit< tt) (lit≤ tt, lit< tt) (lit≤ tt, lit< tt) three-lent₁
    far₁₂.choices far₁₂.pads near₀₁.pad_pairs 0 1 three-lent₁.u_lent refl refl refl

pub two_taken₂ : TakenAt (outputs_of two_dealing) near₂.choices near₂.pads far₁₂.pad_pairs 0 1
two_taken₂ =
    taken_at two_dealing two_level_numbers 1 2 noise₁₂ two-noise₁₂ 0 3 scalar₀₁₂ two-scalar 2
    (lit< tt) (lit≤ tt, lit< tt) (lit≤ tt, lit< tt) two-lent₂
    near₂.choices near₂.pads far₁₂.pad_pairs 0 1 two-lent₂.u_lent refl refl refl

pub three_taken₂ : TakenAt (outputs_of three_dealing) far₁₂.choices far₁₂.pads near₂.pad_pairs 1 0
three_taken₂ =
    taken_at three_dealing three_level_numbers 0 3 noise₀₁₂ three-noise 2 1 scalar₂ three-scalar₂ 2
    (lit< tt) (lit≤ tt, lit< tt) (lit≤ tt, lit< tt) three-lent₂
    far₁₂.choices far₁₂.pads near₂.pad_pairs 1 0 three-lent₂.u_lent refl refl refl
