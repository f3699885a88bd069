-- The lists of calls of the small dealings: by `noise-step` and `scalar-step` each call leaves the dealing's outputs, whose words are
-- those of `Worked`.
use mathlib.Core.Path.{◌≡◌, refl, ap, ◌∙◌}
use mathlib.Core.Bool.{Bool, true, ◌&&◌}
use mathlib.Core.List.{List, [], ◌∷◌, map}
use Prim.Native.Nat.{ℕ, zero, suc, ◌*◌, ◌^◌, ◌≤◌, ◌<◌}
use borrow.Author.Tests.{ltb-true}
use lib.Dec.{ltb, lit≤, lit<}
use lib.ListN.{length, get_or, replicate}
use Rattle.algebra.proofs.Tests.{and_left, and_right}
use Rattle.algebra.specs.Coding.{flat, over}
use Rattle.answer.specs.Tests.{is_met, first_fault}
use Rattle.answer.specs.Outcome.{Outcome, TwoWritten, by_number, answered}
use Rattle.dealing.specs.Admitted.{InMemory}
use Rattle.dealing.specs.Deal.{deal}
use Rattle.dealing.specs.Input.{Input}
use Rattle.dealing.specs.Vectors.{field, u, v, w}
use Rattle.claims.proofs.Entire.{acceptance}
use Rattle.claims.proofs.Lists as lists
use Rattle.claims.specs.Correlation.{Setting, Call, run, NoiseOut, noise_end, scalar_end}
use Rattle.ends.specs.Noise.Online as noise_online
use Rattle.ends.specs.Scalar.Online as scalar_online
use Rattle.example.specs.Worked.{Numbers, Worked, binary_input, prime_input, binary_numbers, prime_numbers}
use Rattle.example.specs.Example.{noise_calls, scalar_calls, noise_shown, scalar_shown, Example}
use Rattle.example.proofs.Dealt.{binary-dealt, prime-dealt}
use Rattle.example.proofs.Worked.{in_words, u_is, v_is, w_is, worked_dealings}

-- ---- what lies in memory

-- every number of a list is below a bound
unfoldable pub within : ℕ → List ℕ → Bool
within n [] = true
within n (x ∷ l) = ltb x n && within n l

bounded : (n : ℕ) (l : List ℕ) → 0 < n → within n l ≡ true → (i : ℕ) → get_or l i 0 < n
unfolding within
bounded n [] p e i = p
bounded n (x ∷ l) p e zero = ltb-true x n (and_left (ltb x n) (within n l) e)
bounded n (x ∷ l) p e (suc i) = bounded n l p (and_right (ltb x n) (within n l) e) i

-- the tests of an input's memory
pub record Held (I : Input) : Type 0 where
  pub roots : within 256 I.roots ≡ true
  pub positions : within 4294967296 I.positions ≡ true
  pub values : within 18446744073709551616 I.values ≡ true
  pub delta : within 256 I.delta ≡ true
  pub code_key : within 256 I.code_key ≡ true
  pub label : within 256 I.label ≡ true

pub held : (I : Input) → Held I → InMemory I
held I H =
    record {
      roots = bounded 256 I.roots (lit< tt) H.roots;
      positions = bounded 4294967296 I.positions (lit< tt) H.positions;
      values = bounded 18446744073709551616 I.values (lit< tt) H.values;
      delta = bounded 256 I.delta (lit< tt) H.delta;
      code_key = bounded 256 I.code_key (lit< tt) H.code_key;
      label = bounded 256 I.label (lit< tt) H.label;
    }

pub binary-memory : InMemory binary_input
unfolding within
binary-memory = held binary_input (record { roots = refl; positions = refl; values = refl; delta = refl; code_key = refl; label = refl })

pub prime-memory : InMemory prime_input
unfolding within
prime-memory = held prime_input (record { roots = refl; positions = refl; values = refl; delta = refl; code_key = refl; label = refl })

-- ---- the settings: buffers of 256 bytes for the records, and as many words as the vectors have

unfoldable pub setting_of : (I : Input) → InMemory I → (deal I (replicate 256 0) (replicate 256 0)).number ≡ 0 → (words : ℕ)
    → 2 ^ I.depth ≤ 4 → 2 ^ I.depth * (field I).elements.width ≤ length {A = ℕ} (replicate words 0) → Setting
setting_of I M z words h k =
    record {
      input = I;
      in_memory = M;
      noise_record = replicate 256 0;
      scalar_record = replicate 256 0;
      dealt = z;
      noise_buffer = replicate 4 0;
      v_buffer = replicate words 0;
      noise_accepted = acceptance.noise-offline I M (replicate 256 0) (replicate 256 0) z (replicate 4 0) (replicate words 0) h k;
      w_buffer = replicate words 0;
      delta_buffer = replicate 2 0;
      scalar_accepted = acceptance.scalar-offline I M (replicate 256 0) (replicate 256 0) z (replicate words 0) (replicate 2 0) k (lit≤ tt);
    }

abbrev pub binary-setting : Setting
binary-setting = setting_of binary_input binary-memory binary-dealt 8 (lit≤ tt) (lit≤ tt)

abbrev pub prime-setting : Setting
prime-setting = setting_of prime_input prime-memory prime-dealt 4 (lit≤ tt) (lit≤ tt)

-- ---- what the calls of a list leave, with the outputs by their words

module _ (S : Setting) (N : Numbers) (W : Worked S.input N) where
  -- a call on the first memory
  abbrev noise_one : Call NoiseOut → Outcome TwoWritten noise_online.Lent
  noise_one c =
      lists.noise_listed_by S c
      (in_words (field S.input).noise_values S.input.outputs N.us (u S.input))
      (in_words (field S.input).elements S.input.outputs N.vs (v S.input))

  abbrev scalar_one : Call (List ℕ) → Outcome ℕ scalar_online.Lent
  scalar_one c = lists.scalar_listed_by S c (in_words (field S.input).elements S.input.outputs N.ws (w S.input))

  noise-one : (c : Call NoiseOut) → (noise_end S).online (noise_end S).start c ≡ noise_one c
  noise-one c = lists.noise-step S c ∙ (λ i. lists.noise_listed_by S c (u_is S.input N W i) (v_is S.input N W i))

  scalar-one : (c : Call (List ℕ)) → (scalar_end S).online (scalar_end S).start c ≡ scalar_one c
  scalar-one c = lists.scalar-step S c ∙ (λ i. lists.scalar_listed_by S c (w_is S.input N W i))

  noise-all : (calls : List (Call NoiseOut))
      → map noise_shown (run (noise_end S) (noise_end S).start calls) ≡ map noise_shown (map (λ c. (c, noise_one c)) calls)
  noise-all calls =
      ap (map noise_shown)
      (lists.run-steps (noise_end S) (lists.noise-kept S) (noise_end S).start calls ∙ (λ i. map (λ c. (c, noise-one c i)) calls))

  scalar-all : (calls : List (Call (List ℕ)))
      → map scalar_shown (run (scalar_end S) (scalar_end S).start calls) ≡ map scalar_shown (map (λ c. (c, scalar_one c)) calls)
  scalar-all calls =
      ap (map scalar_shown)
      (lists.run-steps (scalar_end S) (lists.scalar-kept S) (scalar_end S).start calls ∙ (λ i. map (λ c. (c, scalar-one c i)) calls))

pub example : Example
unfolding setting_of flat over answered by_number first_fault is_met
example =
    record {
      binary =
          record {
            setting = binary-setting;
            input = refl;
            noise-shown = noise-all binary-setting binary_numbers worked_dealings.binary (noise_calls 2);
            scalar-shown = scalar-all binary-setting binary_numbers worked_dealings.binary (scalar_calls 2);
          };
      prime =
          record {
            setting = prime-setting;
            input = refl;
            noise-shown = noise-all prime-setting prime_numbers worked_dealings.prime (noise_calls 1);
            scalar-shown = scalar-all prime-setting prime_numbers worked_dealings.prime (scalar_calls 1);
          };
    }
