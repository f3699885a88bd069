-- What is accepted: dealings, dealt records, windows and pad calls.
use Prim.Native.Nat.{ℕ, ◌*◌, ◌^◌, ◌≤◌, ◌<◌}
use mathlib.Core.Path.{◌≡◌, sym, ap, subst, ◌∙◌}
use mathlib.Core.List.{List, [], ◌∷◌}
use mathlib.Core.Logic.{◌↔◌}
use lib.ListN.{length, get_or}
use Rattle.algebra.specs.Coding.{at}
use Rattle.algebra.specs.Every.{every}
use Rattle.algebra.specs.Expansion.{rising}
use Rattle.claims.proofs.Entire as claims
use Rattle.dealing.specs.Admitted as dealing
use Rattle.dealing.proofs.Faults.{field_says, field_is}
use Rattle.ends.proofs.noise.Laws as noise_laws
use Rattle.ends.proofs.scalar.Laws as scalar_laws
use Rattle.field.specs.Binary.{block_zero}
use Rattle.field.specs.declared.block.Block.{Block}
use Rattle.pads.specs.Bytes.{block_bytes}
use Rattle.pads.specs.Pad.{pad}
use Rattle.pads.proofs.Accepts.{accepts}
use Rattle.page.specs.Document01 as page
use Rattle.page.proofs.Fields.{kind_is}
use Rattle.page.proofs.Calls.{noise-offline, scalar-offline, noise-online, scalar-online}
use Rattle.page.proofs.Pads.{block-at, noise-pads, scalar-pads}
use Rattle.page.proofs.Rows.{head}
use Rattle.page.proofs.Trees.{word-at}
use Rattle.page.proofs.Dealing.{deal_is, noise-record, scalar-record}
use Rattle.page_claims.specs.Statements as says
use Rattle.page_claims.proofs.Outputs.{input_of}
use Rattle.page_claims.proofs.Lists.{setting, noise-start, scalar-start}
use Rattle.page_claims.proofs.Records.{noise-given, scalar-given}

abbrev number_of : page.Return → ℕ
number_of r = r.number

-- what a dealing admits, as the workings say it
admitted-out : (D : page.Input) → says.Admitted D → dealing.Admitted (input_of D)
unfolding page.every every rising
admitted-out D A =
    record {
      field = field_says D.head.field A.0;
      depth = (A.1, A.2);
      branch = (A.3, A.4, A.5);
      trees = (A.6, A.7, A.8);
      terms = (A.9, A.10, A.11);
      outputs = (A.12, A.13);
      roots = A.14;
      positions = A.15;
      values = A.16;
      delta = A.17;
      code_key = A.18;
      label = A.19;
      rising = A.20;
      below = A.21;
      noise = λ i h. record { binary = λ f. (A.22 f).0 i h; prime = λ f. (A.23 f).0 i h };
      scalar = record {
        binary = λ f z. (A.22 f).1 (word-at D.Δ 0 ∙ z.0, word-at D.Δ 8 ∙ z.1);
        prime = λ f.
            let y = A.23 f in
            (subst (λ (x : ℕ). 0 < x) (word-at D.Δ 0) y.1, subst (λ (x : ℕ). x < page.p) (word-at D.Δ 0) y.2, sym (word-at D.Δ 8) ∙ y.3);
      };
    }

admitted_in : (D : page.Input) → dealing.Admitted (input_of D) → says.Admitted D
unfolding page.every every rising
admitted_in D A = (
  field_is D.head.field A.field,
  A.depth.0,
  A.depth.1,
  A.branch.0,
  A.branch.1,
  A.branch.2,
  A.trees.0,
  A.trees.1,
  A.trees.2,
  A.terms.0,
  A.terms.1,
  A.terms.2,
  A.outputs.0,
  A.outputs.1,
  A.roots,
  A.positions,
  A.values,
  A.delta,
  A.code_key,
  A.label,
  A.rising,
  A.below,
  λ f. (λ i h. (A.noise i h).binary f, λ z. A.scalar.binary f (sym (word-at D.Δ 0) ∙ z.0, sym (word-at D.Δ 8) ∙ z.1)),
  λ f.
      let y = A.scalar.prime f in (
        λ i h. (A.noise i h).prime f,
        subst (λ (x : ℕ). 0 < x) (sym (word-at D.Δ 0)) y.0,
        subst (λ (x : ℕ). x < page.p) (sym (word-at D.Δ 0)) y.1,
        word-at D.Δ 8 ∙ y.2,
      ),
)

-- a zero block of Δ
zero-block : (Δ : List ℕ) → page.block_at Δ 0 ≡ 0 ∷ 0 ∷ [] ↔ at block_bytes Δ 0 ≡ block_zero
zero-block Δ = (
  λ e. let low = ap (λ (l : List ℕ). get_or l 0 0) (sym (block-at Δ 0) ∙ e) in
      let high = ap (λ (l : List ℕ). get_or l 1 0) (sym (block-at Δ 0) ∙ e) in
      λ i. record { low = low i; high = high i },
  λ e. block-at Δ 0 ∙ ap (λ (b : Block). b.low ∷ b.high ∷ []) e,
)

pub acceptance : says.Acceptance
unfolding setting
acceptance =
    record {
      dealing = λ D a b.
          let I = input_of D in
          let same = ap number_of (deal_is I a b) in
          let room = ap length (noise-record I) in
          let room' = ap length (scalar-record I) in (
            λ h.
                same
                ∙ ((claims.acceptance).dealing I a b).0
                (admitted-out D h.0, subst (λ (n : ℕ). n ≤ length a) room h.1, subst (λ (n : ℕ). n ≤ length b) room' h.2),
            λ z.
                let A = ((claims.acceptance).dealing I a b).1 (sym same ∙ z) in
                (admitted_in D A.0, subst (λ (n : ℕ). n ≤ length a) (sym room) A.1, subst (λ (n : ℕ). n ≤ length b) (sym room') A.2),
          );
      noise-offline = λ s noise_out v_out h trees g e f.
          let P = noise-given s (h, trees) g in
          let same : head P.0.head ≡ h = ap (λ (x : page.Head × List page.Tree). x.0) P.2 in
          ap number_of (noise-offline s noise_out v_out)
          ∙ (noise_laws.offline-accepts s noise_out v_out P.1
          (subst (λ (k : page.Head). page.N k ≤ length noise_out) (sym same) e)
          (subst (λ (w : ℕ). 2 ^ P.0.head.depth * w ≤ length v_out) (kind_is P.0.head.field).elements.width
          (subst (λ (k : page.Head). page.N k * (page.F k).elements.width ≤ length v_out) (sym same) f))).number;
      scalar-offline = λ s w_out ΔOut h Δ roots g e f.
          let P = scalar-given s (h, Δ, roots) g in
          let same : head P.0.head ≡ h = ap (λ (x : page.Head × List ℕ × List (List ℕ)). x.0) P.2 in
          ap number_of (scalar-offline s w_out ΔOut)
          ∙ (scalar_laws.offline-accepts s w_out ΔOut P.1
          (subst (λ (w : ℕ). 2 ^ P.0.head.depth * w ≤ length w_out) (kind_is P.0.head.field).elements.width
          (subst (λ (k : page.Head). page.N k * (page.F k).elements.width ≤ length w_out) (sym same) e)) f).number;
      noise-window = λ D σ x e f g.
          ap (λ (m : List (List ℕ)). ((says.noise_end σ).online m x).number) (noise-start (input_of D) σ)
          ∙ ap number_of (noise-online _ _ _ x.first x.c (says.slice x.buffers 0) (says.slice x.buffers 1))
          ∙ (claims.acceptance).noise-window (setting (input_of D) σ)
          (record { first = x.first; count = x.c; out = record { u_out = says.slice x.buffers 0; v_out = says.slice x.buffers 1 } }) e f
          (subst (λ (w : ℕ). x.c * w ≤ length (says.slice x.buffers 1)) (kind_is D.head.field).elements.width g);
      scalar-window = λ D σ x e f.
          ap (λ (m : List (List ℕ)). ((says.scalar_end σ).online m x).number) (scalar-start (input_of D) σ)
          ∙ ap number_of (scalar-online _ _ x.first x.c (says.slice x.buffers 0))
          ∙ (claims.acceptance).scalar-window (setting (input_of D) σ) (record { first = x.first; count = x.c; out = says.slice x.buffers 0 }) e
          (subst (λ (w : ℕ). x.c * w ≤ length (says.slice x.buffers 0)) (kind_is D.head.field).elements.width f);
      noise-pads = λ first c vs choices pads.
          let same = ap number_of (noise-pads first c vs choices pads) in
          let A = (accepts pad).noise first c vs choices pads in (
            λ h. same ∙ A.0 (record { all = (h.0, (h.1, (h.2, (h.3, (h.4, tt))))) }),
            λ z. let m = (A.1 (sym same ∙ z)).all in (m.0, m.1.0, m.1.1.0, m.1.1.1.0, m.1.1.1.1.0),
          );
      scalar-pads = λ first c ws Δ pads.
          let same = ap number_of (scalar-pads first c ws Δ pads) in
          let A = (accepts pad).scalar first c ws Δ pads in (
            λ h. same ∙ A.0 (record { all = (h.0, (h.1, (h.2, (((accepts pad).nonzero Δ h.1).1 (λ e. h.3 ((zero-block Δ).1 e)), (h.4, tt))))) }),
            λ z. let m = (A.1 (sym same ∙ z)).all in
                (m.0, m.1.0, m.1.1.0, (λ e. ((accepts pad).nonzero Δ m.1.0).0 m.1.1.1.0 ((zero-block Δ).0 e)), m.1.1.1.1.0),
          );
    }
