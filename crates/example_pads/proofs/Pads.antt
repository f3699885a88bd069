-- The pads of both dealings, by computation with the cipher that looks up; the choice that names one, by `Pads` itself.
use mathlib.Core.Path.{◌≡◌, refl, sym, ap, ap₂, ◌∙◌}
use mathlib.Core.List.{List}
use Prim.Native.Nat.{ℕ, zero, suc, ◌-◌, ◌<◌}
use native.Mathlib.Nat.{sub-zero}
use native.Mathlib.Omega.{arith}
use borrow.Author.Tests.{eqb-false}
use lib.ListN.{get_or, replicate}
use Rattle.algebra.specs.Coding.{flat, over}
use Rattle.answer.specs.Bytes.{any_above}
use Rattle.answer.specs.Outcome.{by_number, answered, wrote}
use Rattle.answer.specs.Tests.{is_met, first_fault}
use Rattle.aes_sbox.specs.Byte.{xtime}
use Rattle.aes128.specs.State.{xor_word, xor_state}
use Rattle.aes128.specs.Cipher.{shift_rows, power, keys_of}
use Rattle.field.specs.Bytes.{le_bytes, le_number, word_at, columns_of, low_of, high_of}
use Rattle.record.specs.Writing as writing
use Rattle.record.specs.Writing.{write_words}
use Rattle.pads.specs.Calls.{lent_noise, lent_scalar, noise_pads_by, scalar_pads_by, noise_pads, scalar_pads}
use Rattle.pads.specs.Choice.{pad_at, one_of_two_at}
use Rattle.pads.specs.Pad.{pad_key, pad_pair}
use Rattle.claims.proofs.Entire.{pads}
use Rattle.claims.specs.Source.{dealt_by}
use Rattle.claims.specs.Correlation.{PadsLent}
use Rattle.claims.specs.Taken.{Dealing, outputs_of, TakenAt}
use Rattle.example.proofs.Cipher.{looked, looked_from, mix_by, sub_by, round_by, rounds_by, cipher_by, temp_by, words_by, looked_cipher, looked_words, looked_keys}
use Rattle.example.proofs.Made.{looked_aes, looked_under, pad_by, looked_pad, pad_looked}
use Rattle.example.proofs.Dealt.{binary-dealt, second-dealt}
use Rattle.example.proofs.Worked.{u_is, v_is, w_is, worked_dealings}
use Rattle.example.specs.Worked.{Numbers, binary_input, second_input, binary_numbers, second_numbers}
use Rattle.example_pads.specs.Pads.{first_noise, first_scalar, second_noise, second_scalar, PadsExample}

-- both dealings
abbrev pub first_dealing : Dealing
first_dealing = record { input = binary_input; binary = refl; noise_record = replicate 256 0; scalar_record = replicate 256 0; dealt = binary-dealt }

abbrev pub second_dealing : Dealing
second_dealing = record { input = second_input; binary = refl; noise_record = replicate 256 0; scalar_record = replicate 256 0; dealt = second-dealt }

-- what two accepted pad calls leave, where the bytes lent are a dealing's
module _ (D : Dealing) (N : Numbers) (noise scalar : List ℕ)
    (noise-call : noise_pads 0 2 (write_words N.vs) N.us (replicate 32 0) ≡ wrote tt (lent_noise (write_words N.vs) N.us noise))
    (scalar-call : scalar_pads 0 2 (write_words N.ws) D.input.delta (replicate 64 0)
    ≡ wrote tt (lent_scalar (write_words N.ws) D.input.delta scalar))
    (lent : (x : ℕ) → x < 2 → PadsLent (dealt_by D.input) x 0 (write_words N.vs) N.us 0 (write_words N.ws) D.input.delta)
    (outputs : D.input.outputs ≡ 2) where
  -- the pad that the choice names, by `Pads`
  named : (x : ℕ) → x < 2 → pad_at noise 0 x ≡ one_of_two_at scalar 0 x (get_or N.us x 0)
  named x h =
      ap (λ o. pad_at o.lent.pads 0 x) (sym noise-call)
      ∙ pads D.input D.binary D.noise_record D.scalar_record D.dealt
      0 2 (write_words N.vs) N.us (replicate 32 0) (ap (λ o. o.number) noise-call)
      0 2 (write_words N.ws) D.input.delta (replicate 64 0) (ap (λ o. o.number) scalar-call)
      x (rw outputs h) (omega arith, omega arith) (omega arith, omega arith) (lent x h)
      ∙ ap₂ (λ o (i : ℕ). one_of_two_at o.lent.pads 0 x (get_or N.us i 0)) scalar-call (sub-zero x)

  -- what is taken for place x is that of output x
  taken : (x : ℕ) → x < 2 → TakenAt (outputs_of D) N.us noise scalar x x
  taken x h =
      record {
        x = x;
        below = rw outputs h;
        first = 0;
        count = 2;
        vs = write_words N.vs;
        us = N.us;
        out = replicate 32 0;
        accepted = ap (λ o. o.number) noise-call;
        within = (omega arith, omega arith);
        first' = 0;
        count' = 2;
        ws = write_words N.ws;
        Δ = D.input.delta;
        out' = replicate 64 0;
        accepted' = ap (λ o. o.number) scalar-call;
        within' = (omega arith, omega arith);
        lent = lent x h;
        choice = rw (sub-zero x) at (lent x h).u_lent;
        pad = ap (λ o. pad_at o.lent.pads 0 x) (sym noise-call);
        both = λ bit b. ap (λ o. one_of_two_at o.lent.pads 0 x bit) (sym scalar-call);
      }

-- ---- the first dealing

first-noise : noise_pads 0 2 (write_words binary_numbers.vs) binary_numbers.us (replicate 32 0)
    ≡ wrote tt (lent_noise (write_words binary_numbers.vs) binary_numbers.us first_noise)
unfolding looked looked_from mix_by sub_by round_by rounds_by cipher_by temp_by words_by looked_cipher looked_words looked_keys looked_aes looked_under pad_by looked_pad xtime xor_word xor_state shift_rows power keys_of le_bytes le_number word_at columns_of low_of high_of pad_key writing.write_each flat over any_above is_met first_fault by_number answered noise_pads_by scalar_pads_by pad_pair
first-noise = ap (λ rule. noise_pads_by rule 0 2 (write_words binary_numbers.vs) binary_numbers.us (replicate 32 0)) pad_looked

first-scalar : scalar_pads 0 2 (write_words binary_numbers.ws) binary_input.delta (replicate 64 0)
    ≡ wrote tt (lent_scalar (write_words binary_numbers.ws) binary_input.delta first_scalar)
unfolding looked looked_from mix_by sub_by round_by rounds_by cipher_by temp_by words_by looked_cipher looked_words looked_keys looked_aes looked_under pad_by looked_pad xtime xor_word xor_state shift_rows power keys_of le_bytes le_number word_at columns_of low_of high_of pad_key writing.write_each flat over any_above is_met first_fault by_number answered noise_pads_by scalar_pads_by pad_pair
first-scalar = ap (λ rule. scalar_pads_by rule 0 2 (write_words binary_numbers.ws) binary_input.delta (replicate 64 0)) pad_looked

first-lent : (x : ℕ) → x < 2
    → PadsLent (dealt_by binary_input) x 0 (write_words binary_numbers.vs) binary_numbers.us
    0 (write_words binary_numbers.ws) binary_input.delta
unfolding writing.write_each le_bytes le_number word_at
first-lent zero h =
    record {
      v_lent = sym (ap (λ f. f 0) (v_is binary_input binary_numbers worked_dealings.binary));
      u_lent = sym (ap (λ f. f 0) (u_is binary_input binary_numbers worked_dealings.binary));
      w_lent = sym (ap (λ f. f 0) (w_is binary_input binary_numbers worked_dealings.binary));
      Δ-lent = refl;
    }
first-lent (suc zero) h =
    record {
      v_lent = sym (ap (λ f. f 1) (v_is binary_input binary_numbers worked_dealings.binary));
      u_lent = sym (ap (λ f. f 1) (u_is binary_input binary_numbers worked_dealings.binary));
      w_lent = sym (ap (λ f. f 1) (w_is binary_input binary_numbers worked_dealings.binary));
      Δ-lent = refl;
    }
first-lent (suc (suc x)) h = absurd (omega arith)

first-apart : (x : ℕ) → x < 2 → pad_at first_noise 0 x ≡ one_of_two_at first_scalar 0 x (1 - get_or binary_numbers.us x 0) → ⊥
first-apart zero h e = eqb-false _ _ refl (ap (λ (l : List ℕ). get_or l 0 0) e)
first-apart (suc zero) h e = eqb-false _ _ refl (ap (λ (l : List ℕ). get_or l 0 0) e)
first-apart (suc (suc x)) h e = absurd (omega arith)

pub first_taken : (x : ℕ) → x < 2 → TakenAt (outputs_of first_dealing) binary_numbers.us first_noise first_scalar x x
first_taken = taken first_dealing binary_numbers first_noise first_scalar first-noise first-scalar first-lent refl

-- ---- the second dealing

second-noise : noise_pads 0 2 (write_words second_numbers.vs) second_numbers.us (replicate 32 0)
    ≡ wrote tt (lent_noise (write_words second_numbers.vs) second_numbers.us second_noise)
unfolding looked looked_from mix_by sub_by round_by rounds_by cipher_by temp_by words_by looked_cipher looked_words looked_keys looked_aes looked_under pad_by looked_pad xtime xor_word xor_state shift_rows power keys_of le_bytes le_number word_at columns_of low_of high_of pad_key writing.write_each flat over any_above is_met first_fault by_number answered noise_pads_by scalar_pads_by pad_pair
second-noise = ap (λ rule. noise_pads_by rule 0 2 (write_words second_numbers.vs) second_numbers.us (replicate 32 0)) pad_looked

second-scalar : scalar_pads 0 2 (write_words second_numbers.ws) second_input.delta (replicate 64 0)
    ≡ wrote tt (lent_scalar (write_words second_numbers.ws) second_input.delta second_scalar)
unfolding looked looked_from mix_by sub_by round_by rounds_by cipher_by temp_by words_by looked_cipher looked_words looked_keys looked_aes looked_under pad_by looked_pad xtime xor_word xor_state shift_rows power keys_of le_bytes le_number word_at columns_of low_of high_of pad_key writing.write_each flat over any_above is_met first_fault by_number answered noise_pads_by scalar_pads_by pad_pair
second-scalar = ap (λ rule. scalar_pads_by rule 0 2 (write_words second_numbers.ws) second_input.delta (replicate 64 0)) pad_looked

second-lent : (x : ℕ) → x < 2
    → PadsLent (dealt_by second_input) x 0 (write_words second_numbers.vs) second_numbers.us
    0 (write_words second_numbers.ws) second_input.delta
unfolding writing.write_each le_bytes le_number word_at
second-lent zero h =
    record {
      v_lent = sym (ap (λ f. f 0) (v_is second_input second_numbers worked_dealings.second));
      u_lent = sym (ap (λ f. f 0) (u_is second_input second_numbers worked_dealings.second));
      w_lent = sym (ap (λ f. f 0) (w_is second_input second_numbers worked_dealings.second));
      Δ-lent = refl;
    }
second-lent (suc zero) h =
    record {
      v_lent = sym (ap (λ f. f 1) (v_is second_input second_numbers worked_dealings.second));
      u_lent = sym (ap (λ f. f 1) (u_is second_input second_numbers worked_dealings.second));
      w_lent = sym (ap (λ f. f 1) (w_is second_input second_numbers worked_dealings.second));
      Δ-lent = refl;
    }
second-lent (suc (suc x)) h = absurd (omega arith)

second-apart : (x : ℕ) → x < 2 → pad_at second_noise 0 x ≡ one_of_two_at second_scalar 0 x (1 - get_or second_numbers.us x 0) → ⊥
second-apart zero h e = eqb-false _ _ refl (ap (λ (l : List ℕ). get_or l 0 0) e)
second-apart (suc zero) h e = eqb-false _ _ refl (ap (λ (l : List ℕ). get_or l 0 0) e)
second-apart (suc (suc x)) h e = absurd (omega arith)

pub second-taken : (x : ℕ) → x < 2 → TakenAt (outputs_of second_dealing) second_numbers.us second_noise second_scalar x x
second-taken = taken second_dealing second_numbers second_noise second_scalar second-noise second-scalar second-lent refl

pub pads_example : PadsExample
pads_example =
    record {
      first-dealing =
          record {
            dealing = first_dealing;
            input = refl;
            noise-call = first-noise;
            scalar-call = first-scalar;
            lent = first-lent;
            named = named first_dealing binary_numbers first_noise first_scalar first-noise first-scalar first-lent refl;
            apart = first-apart;
          };
      second-dealing =
          record {
            dealing = second_dealing;
            input = refl;
            noise-call = second-noise;
            scalar-call = second-scalar;
            lent = second-lent;
            named = named second_dealing second_numbers second_noise second_scalar second-noise second-scalar second-lent refl;
            apart = second-apart;
          };
    }
