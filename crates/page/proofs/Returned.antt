-- What the inner function of each call promises gives what the page says: each law closes the return of one exported call, or of the pair
-- program's line.
use Prim.Native.Nat.{ℕ, ◌+◌, ◌≤◌}
use native.Mathlib.Omega.{arith}
use mathlib.Core.Path.{◌≡◌, sym, ap, ◌∙◌}
use lib.ListN.{length, get_or, take, drop, length-append}
use lib.Seq.{length-take-le}
use mathlib.Core.List.{List, [], ◌∷◌}
use Rattle.answer.specs.Outcome.{outcome_none, outcome_one, outcome_two}
use Rattle.answer.specs.declared.OneLength.{OneLength}
use Rattle.answer.specs.declared.TwoLengths.{TwoLengths}
use Rattle.dealing.specs.Deal.{deal, lent_deal}
use Rattle.dealing.specs.Input.{input_with}
use Rattle.ends.specs.Noise.Offline as noise_off
use Rattle.ends.specs.Noise.Online as noise_on
use Rattle.ends.specs.Scalar.Offline as scalar_off
use Rattle.ends.specs.Scalar.Online as scalar_on
use Rattle.pads.specs.Calls.{lent_noise, lent_scalar, noise_pads, scalar_pads}
use Rattle.page.specs.Document01 as page
use Rattle.page.proofs.Calls.{noise_off_return, noise-offline, scalar_off_return, scalar-offline, noise_on_return, noise-online, scalar_on_return, scalar-online}
use Rattle.page.proofs.Pads.{noise_return, noise-pads, scalar_return, scalar-pads}
use Rattle.pairing.specs.Line.{printed}
use Rattle.pairing.specs.Verdict.{Verdict, verdict}
use Rattle.page.proofs.Dealing.{deal_return, deal_is}
use Rattle.page.proofs.Paired.{line_is}

pub dealt : (r : TwoLengths) (f d g t l n : ℕ) (roots positions values delta key label a b roots' positions' values' delta' key' label' a' b' : List ℕ)
    → outcome_two r (lent_deal (input_with f d g t l n roots' positions' values' delta' key' label') a' b')
    ≡ deal (input_with f d g t l n roots positions values delta key label) a b
    → page.returned r.number (r.first_written ∷ r.second_written ∷ [])
    (roots' ∷ positions' ∷ values' ∷ delta' ∷ key' ∷ label' ∷ []) (a' ∷ b' ∷ [])
    ≡ page.deal
    (record {
      head = record { field = f; d = d; g = g; t = t; ℓ = l; n = n; code_key = key; label = label };
      roots = roots;
      positions = positions;
      values = values;
      Δ = delta;
    })
    a b
dealt r f d g t l n roots positions values delta key label a b roots' positions' values' delta' key' label' a' b' e =
    ap deal_return e ∙ sym (deal_is (input_with f d g t l n roots positions values delta key label) a b)

module _ (r : TwoLengths) where
  pub noise-offline-returned : (s noise v s' noise' v' : List ℕ)
      → outcome_two r (noise_off.offline_with s' noise' v') ≡ noise_off.offline s noise v
      → page.returned r.number (r.first_written ∷ r.second_written ∷ []) (s' ∷ []) (noise' ∷ v' ∷ []) ≡ page.noise_offline s noise v
  noise-offline-returned s noise v s' noise' v' e = ap noise_off_return e ∙ sym (noise-offline s noise v)

  pub scalar-offline-returned : (s w delta s' w' delta' : List ℕ)
      → outcome_two r (scalar_off.offline_with s' w' delta') ≡ scalar_off.offline s w delta
      → page.returned r.number (r.first_written ∷ r.second_written ∷ []) (s' ∷ []) (w' ∷ delta' ∷ []) ≡ page.scalar_offline s w delta
  scalar-offline-returned s w delta s' w' delta' e = ap scalar_off_return e ∙ sym (scalar-offline s w delta)

  pub noise-online-returned : (first count : ℕ) (s noise v u v₁ s' noise' v' u' v₁' : List ℕ)
      → outcome_two r (noise_on.lent_with s' noise' v' u' v₁') ≡ noise_on.online (noise_on.lent_with s noise v u v₁) first count
      → page.returned r.number (r.first_written ∷ r.second_written ∷ []) (s' ∷ noise' ∷ v' ∷ []) (u' ∷ v₁' ∷ [])
      ≡ page.noise_online s noise v first count u v₁
  noise-online-returned first count s noise v u v₁ s' noise' v' u' v₁' e = ap noise_on_return e ∙ sym (noise-online s noise v first count u v₁)

pub scalar-online-returned : (r : OneLength) (first count : ℕ) (s w w₁ s' w' w₁' : List ℕ)
    → outcome_one r (scalar_on.lent_with s' w' w₁') ≡ scalar_on.online (scalar_on.lent_with s w w₁) first count
    → page.returned r.number (r.written ∷ []) (s' ∷ w' ∷ []) (w₁' ∷ []) ≡ page.scalar_online s w first count w₁
scalar-online-returned r first count s w w₁ s' w' w₁' e = ap scalar_on_return e ∙ sym (scalar-online s w first count w₁)

module _ (r first count : ℕ) where
  pub noise-pads-returned : (v choices pads v' choices' pads' : List ℕ)
      → outcome_none r (lent_noise v' choices' pads') ≡ noise_pads first count v choices pads
      → page.returned r [] (v' ∷ choices' ∷ []) (pads' ∷ []) ≡ page.noise_pads first count v choices pads
  noise-pads-returned v choices pads v' choices' pads' e = ap noise_return e ∙ sym (noise-pads first count v choices pads)

  pub scalar-pads-returned : (w delta pads w' delta' pads' : List ℕ)
      → outcome_none r (lent_scalar w' delta' pads') ≡ scalar_pads first count w delta pads
      → page.returned r [] (w' ∷ delta' ∷ []) (pads' ∷ []) ≡ page.scalar_pads first count w delta pads
  scalar-pads-returned w delta pads w' delta' pads' e = ap scalar_return e ∙ sym (scalar-pads first count w delta pads)

pub line-returned : (noise scalar out b : List ℕ) (r : ℕ) (v : Verdict) → v ≡ verdict noise scalar → (b, r) ≡ printed v out
    → page.returned 0 (r ∷ []) (noise ∷ scalar ∷ []) (b ∷ []) ≡ page.line noise scalar out
unfolding page.line page.answer printed
line-returned noise scalar out b r v f e =
    ap (λ (x : List ℕ × ℕ). page.returned 0 (x.1 ∷ []) (noise ∷ scalar ∷ []) (x.0 ∷ [])) (e ∙ ap (λ (v : Verdict). printed v out) f)
    ∙ sym (ap (λ (l : List ℕ). page.returned 0 (length l ∷ []) (noise ∷ scalar ∷ []) (page.front l out ∷ [])) (line_is noise scalar))

-- a line that was written lies in its buffer, and is as long as it says
module _ (noise scalar out : List ℕ) {noise' scalar' b : List ℕ} {r : ℕ}
    (e : page.returned 0 (r ∷ []) (noise' ∷ scalar' ∷ []) (b ∷ []) ≡ page.line noise scalar out) where
  pub line_in : r ≤ length b
  unfolding page.line page.answer
  line_in =
      let l = page.line_text noise scalar in
      let long : r ≡ length l = ap (λ (x : page.Return). get_or x.lengths 0 0) e in
      let whole : length b ≡ length l + length (drop (length l) out) =
      ap (λ (x : page.Return). length (get_or x.outputs 0 [])) e ∙ length-append l (drop (length l) out) in
      omega (arith, long, whole)

  pub line-front : r ≡ length (take r b)
  line-front = let m = line_in in sym (length-take-le r b m)
