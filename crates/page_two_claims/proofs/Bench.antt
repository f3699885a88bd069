-- The bench like online over the page, from the law of `ends`.
use Prim.Native.Nat.{ℕ}
use mathlib.Core.Path.{◌≡◌, sym, ap, ◌∙◌}
use mathlib.Core.List.{List, [], ◌∷◌}
use Rattle.ends.specs.Bench.{noise_online_call, scalar_online_call}
use Rattle.ends.specs.Noise.Offline as noise_off
use Rattle.ends.specs.Scalar.Offline as scalar_off
use Rattle.ends.proofs.Same.{bench as law}
use Rattle.number.specs.Reading.{Whole}
use Rattle.record.specs.Content.{NoisePart, ScalarPart}
use Rattle.record.specs.Reading as rec
use Rattle.page.specs.Document01 as page
use Rattle.page.proofs.Calls.{noise-offline, scalar-offline, noise_on_return, noise-online, scalar_on_return, scalar-online}
use Rattle.page_claims.specs.Statements as first
use Rattle.page_claims.proofs.Records.{noise-given, scalar-given}
use Rattle.page_two.proofs.Bench.{noise_return, noise-direct, scalar_return, scalar-direct}
use Rattle.page_two_claims.specs.Statements as says
use Rattle.page_two_claims.proofs.Faults.{noise-read, scalar_read}

abbrev number_of : page.Return → ℕ
number_of r = r.number

-- the record, its vectors as the page's offline call wrote them, and an accepted call
abbrev pub noise-expanded : (s a b : List ℕ) (P : NoisePart) → rec.read_noise s ≡ Whole P → (page.noise_offline s a b).number ≡ 0
    → noise_off.Expanded P.head
noise-expanded s a b P read e =
    record {
      source = s;
      trees = P.trees;
      read = read;
      noise_buffer = a;
      v_buffer = b;
      number = sym (ap number_of (noise-offline s a b)) ∙ e;
    }

abbrev pub scalar-expanded : (s a b : List ℕ) (P : ScalarPart) → rec.read_scalar s ≡ Whole P → (page.scalar_offline s a b).number ≡ 0
    → scalar_off.Expanded P.head
scalar-expanded s a b P read e =
    record {
      source = s;
      delta = P.delta;
      roots = P.roots;
      read = read;
      w_buffer = a;
      delta_buffer = b;
      number = sym (ap number_of (scalar-offline s a b)) ∙ e;
    }

-- what a call seen from online returns and leaves
abbrev seen : page.Return → page.Return
seen r = page.returned r.number r.lengths (first.slice r.inputs 0 ∷ []) r.outputs

pub bench : says.Bench
bench =
    record {
      noise = λ s a b e start c u_out v_out.
          let R = noise-read s a b e in
          let G = noise-given s R.0 R.1 in
          let E = noise-expanded s a b G.0 G.1 e in
          let online : page.noise_online s (first.wrote (page.noise_offline s a b) 0) (first.wrote (page.noise_offline s a b) 1)
          start c u_out v_out
          ≡ noise_on_return (noise_online_call E start c u_out v_out) =
          ap (λ (r : page.Return). page.noise_online s (first.wrote r 0) (first.wrote r 1) start c u_out v_out) (noise-offline s a b)
          ∙ noise-online s _ _ start c u_out v_out in (
            noise-direct s start c u_out v_out
                ∙ ap noise_return (law.noise-same G.0.head E start c u_out v_out)
                ∙ sym (ap seen online),
            λ n. (law.noise-vectors G.0.head E start c u_out v_out).0 (sym (ap number_of online) ∙ n),
            λ n. (law.noise-vectors G.0.head E start c u_out v_out).1 (sym (ap number_of online) ∙ n),
          );
      scalar = λ s a b e start c w_out.
          let R = scalar_read s a b e in
          let G = scalar-given s R.0 R.1 in
          let E = scalar-expanded s a b G.0 G.1 e in
          let online : page.scalar_online s (first.wrote (page.scalar_offline s a b) 0) start c w_out
          ≡ scalar_on_return (scalar_online_call E start c w_out) =
          ap (λ (r : page.Return). page.scalar_online s (first.wrote r 0) start c w_out) (scalar-offline s a b)
          ∙ scalar-online s _ start c w_out in (
            scalar-direct s start c w_out
                ∙ ap scalar_return (law.scalar-same G.0.head E start c w_out)
                ∙ sym (ap seen online),
            λ n. (law.scalar_vector G.0.head E start c w_out).0 (sym (ap number_of online) ∙ n),
            λ n. (law.scalar_vector G.0.head E start c w_out).1 (sym (ap number_of online) ∙ n),
          );
    }
