-- What is accepted (document 01, 'Questions a reader of the promises may put': an expander that refuses every record):
-- admitted input with long enough buffers, the dealt records, and every window within n. So the premises of
-- `Correlation` can be met, and it is not empty. Of workings: the promise is `Acceptance` of `page_claims`, over the page.
use Rattle.std.specs.Prelude.{◌≡◌, List, ◌↔◌, ℕ, ◌+◌, ◌*◌, ◌^◌, ◌≤◌, length}
use Rattle.dealing.specs.Admitted.{Admitted, InMemory}
use Rattle.dealing.specs.Deal.{deal, noise_record_of, scalar_record_of}
use Rattle.dealing.specs.Input.{Input}
use Rattle.dealing.specs.Parts.{noise_part, scalar_part}
use Rattle.dealing.specs.Vectors.{field}
use Rattle.ends.specs.Noise.Offline as noise_offline
use Rattle.record.specs.Writing.{write_noise, write_scalar}
use Rattle.ends.specs.Scalar.Offline as scalar_offline
use Rattle.claims.specs.Correlation.{Setting, Call, NoiseOut, noise_end, scalar_end}

pub record Acceptance : Type 0 where
  -- the dealing returns 0 exactly for admitted input with room for both records
  pub dealing : (I : Input) (a b : List ℕ)
      → (Admitted I × (length (write_noise (noise_part I)) ≤ length a) × (length (write_scalar (scalar_part I)) ≤ length b))
      ↔ (deal I a b).number ≡ 0
  -- each end's offline call on its own record, with room for the vectors
  pub noise-offline : (I : Input) → InMemory I → (a b : List ℕ) → (deal I a b).number ≡ 0 → (noise v : List ℕ)
      → 2 ^ I.depth ≤ length noise → 2 ^ I.depth * (field I).elements.width ≤ length v
      → (noise_offline.offline (noise_record_of (deal I a b)) noise v).number ≡ 0
  pub scalar-offline : (I : Input) → InMemory I → (a b : List ℕ) → (deal I a b).number ≡ 0 → (w delta : List ℕ)
      → 2 ^ I.depth * (field I).elements.width ≤ length w → 2 ≤ length delta
      → (scalar_offline.offline (scalar_record_of (deal I a b)) w delta).number ≡ 0
  -- a window within n, with room for its outputs
  pub noise-window : (S : Setting) (c : Call NoiseOut) → c.first + c.count ≤ S.input.outputs
      → c.count ≤ length c.out.u_out → c.count * (field S.input).elements.width ≤ length c.out.v_out
      → ((noise_end S).online (noise_end S).start c).number ≡ 0
  pub scalar-window : (S : Setting) (c : Call (List ℕ)) → c.first + c.count ≤ S.input.outputs
      → c.count * (field S.input).elements.width ≤ length c.out
      → ((scalar_end S).online (scalar_end S).start c).number ≡ 0
