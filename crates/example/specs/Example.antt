-- Nothing is vacuous: of a small dealing in each field, from its input through both ends' offline calls as an inhabitant of
-- `Setting`, a list of four online calls at each end, two refused and two accepted, run by `run` itself
-- (document 01, 'Lists of calls at both ends').
use Rattle.std.specs.Prelude.{◌≡◌, List, [], ◌∷◌, ◌++◌, map, ℕ, ◌*◌, replicate}
use Rattle.answer.specs.Numbers.{accepted, window_past_end, buffer_short}
use Rattle.answer.specs.Outcome.{Outcome, TwoWritten}
use Rattle.dealing.specs.Input.{Input}
use Rattle.claims.specs.Correlation.{Setting, Call, run, NoiseOut, noise_end, scalar_end}
use Rattle.ends.specs.Noise.Online as noise_online
use Rattle.ends.specs.Scalar.Online as scalar_online
use Rattle.example.specs.Worked.{binary_input, prime_input}

-- a call on the window of a first index and a count, into output buffers of so many elements, which hold sevens
abbrev pub noise_call : ℕ → ℕ → ℕ → ℕ → Call NoiseOut
noise_call width first count room = record { first = first; count = count; out = record { u_out = replicate room 7; v_out = replicate (width * room) 7 } }

abbrev pub scalar_call : ℕ → ℕ → ℕ → ℕ → Call (List ℕ)
scalar_call width first count room = record { first = first; count = count; out = replicate (width * room) 7 }

-- a window past n, buffers too short, outputs 0 and 1 with room for a third, and output 1 again
abbrev pub noise_calls : ℕ → List (Call NoiseOut)
noise_calls width = noise_call width 1 2 2 ∷ noise_call width 0 2 1 ∷ noise_call width 0 2 3 ∷ noise_call width 1 1 1 ∷ []

abbrev pub scalar_calls : ℕ → List (Call (List ℕ))
scalar_calls width = scalar_call width 1 2 2 ∷ scalar_call width 0 2 1 ∷ scalar_call width 0 2 3 ∷ scalar_call width 1 1 1 ∷ []

-- the number, and what stands in the output buffers on return
abbrev pub noise_shown : Call NoiseOut × Outcome TwoWritten noise_online.Lent → List ℕ
noise_shown (c, o) = o.number ∷ (o.lent.u_out ++ o.lent.v_out)

abbrev pub scalar_shown : Call (List ℕ) × Outcome ℕ scalar_online.Lent → List ℕ
scalar_shown (c, o) = o.number ∷ o.lent.w_out

-- a setting of this input, and what its lists of calls leave
pub record Ran (I : Input) (width : ℕ) (noise scalar : List (List ℕ)) : Type 0 where
  pub setting : Setting
  pub input : setting.input ≡ I
  pub noise-shown : map noise_shown (run (noise_end setting) (noise_end setting).start (noise_calls width)) ≡ noise
  pub scalar-shown : map scalar_shown (run (scalar_end setting) (scalar_end setting).start (scalar_calls width)) ≡ scalar

pub record Example : Type 0 where
  pub binary :
      Ran binary_input 2
      ((window_past_end ∷ 7 ∷ 7 ∷ 7 ∷ 7 ∷ 7 ∷ 7 ∷ [])
      ∷ (buffer_short ∷ 7 ∷ 7 ∷ 7 ∷ [])
      ∷ (accepted ∷ 0 ∷ 1 ∷ 7 ∷ 0x56fc245e521e23e1 ∷ 0xbc5ef013275b2a92 ∷ 0x38750a0f46026565 ∷ 0xc116e6641a37710e ∷ 7 ∷ 7 ∷ [])
      ∷ (accepted ∷ 1 ∷ 0x38750a0f46026565 ∷ 0xc116e6641a37710e ∷ [])
      ∷ [])
      ((window_past_end ∷ 7 ∷ 7 ∷ 7 ∷ 7 ∷ [])
      ∷ (buffer_short ∷ 7 ∷ 7 ∷ [])
      ∷ (accepted ∷ 0x56fc245e521e23e1 ∷ 0xbc5ef013275b2a92 ∷ 0x38750a0f46026566 ∷ 0xc416e6641a37710e ∷ 7 ∷ 7 ∷ [])
      ∷ (accepted ∷ 0x38750a0f46026566 ∷ 0xc416e6641a37710e ∷ [])
      ∷ [])
  pub prime :
      Ran prime_input 1
      ((window_past_end ∷ 7 ∷ 7 ∷ 7 ∷ 7 ∷ [])
      ∷ (buffer_short ∷ 7 ∷ 7 ∷ [])
      ∷ (accepted ∷ 1303918440556277007 ∷ 875958813381640159 ∷ 7 ∷ 2953517028875062 ∷ 375362654010699850 ∷ 7 ∷ [])
      ∷ (accepted ∷ 875958813381640159 ∷ 375362654010699850 ∷ [])
      ∷ [])
      ((window_past_end ∷ 7 ∷ 7 ∷ [])
      ∷ (buffer_short ∷ 7 ∷ [])
      ∷ (accepted ∷ 1608865829484012132 ∷ 697396084941926376 ∷ 7 ∷ [])
      ∷ (accepted ∷ 697396084941926376 ∷ [])
      ∷ [])
