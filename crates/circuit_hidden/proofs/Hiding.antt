-- What an end sees, by runs of any kind that are transcripts: far inputs go with one list of far shares, the own shares and the inputs
-- combined, and so with one list of far triples. Assumes nothing.
use Prim.Native.Nat.{ℕ, ◌*◌, ◌≤◌, ◌<◌}
use mathlib.Core.Bool.{Bool, true, false, true≢false}
use mathlib.Core.List.{List}
use mathlib.Core.Path.{◌≡◌, sym, ap, ◌∙◌}
use lib.Bits.{bit_xor}
use lib.ListN.{length, get_or, length-map}
use Rattle.circuit.specs.Admitted.{AdmittedCircuit}
use Rattle.circuit.specs.Content.{Circuit, ands_in}
use Rattle.circuit.specs.Value.{at_wires, value_of}
use Rattle.circuit_claims.proofs.Joins.{combined-length}
use Rattle.circuit_claims.specs.Evaluation.{combined}
use Rattle.circuit_claims.specs.Transcript.{BitsByAnd, wire_shares, Transcript}
use Rattle.circuit_hidden.proofs.Agrees.{Told, by_and_lem, joined_at}
use Rattle.circuit_hidden.proofs.Formed.{theirs, sent-bits, formed, is_formed, formed-bits, there_is}
use Rattle.circuit_hidden.proofs.Lists.{cancel, combined_get, combined_twice, combined-bit}
use Rattle.circuit_hidden.specs.Hidden.{End, View, Together, Bits, SameAt, Fits, OnePair, Hidden}
use Rattle.circuit_hidden.specs.Run.{Run, SameByAnd, IsTranscript}

-- what is asked of a kind of runs: they are transcripts; with the bits that one got there is one on other shares and triples; and what
-- it sent and its outputs may be named otherwise
pub record Kind (run : Run) (c : Circuit) : Type 0 where
  pub told : IsTranscript run c
  pub again : {role : ℕ} {shares triples : List ℕ} {got sent : BitsByAnd} {outputs : List ℕ} → run role shares triples got sent outputs
      → (x T : List ℕ) → Bits c.inputs x → Bits (3 * ands_in c.gates) T
      → ((j : ℕ) → j < ands_in c.gates → ((got j).0 ≤ 1) × ((got j).1 ≤ 1))
      → (sends : BitsByAnd) × (writes : List ℕ) × run role x T got sends writes
  pub renamed : {role : ℕ} {shares triples : List ℕ} {got sent sends : BitsByAnd} {outputs writes : List ℕ} → SameByAnd c sends sent
      → writes ≡ outputs
      → run role shares triples got sends writes → run role shares triples got sent outputs

module _ {run : Run} {c : Circuit} (kind : Kind run c) (ok : AdmittedCircuit c) (e : End) (view : View) where
  told-both : {shares triples outputs : List ℕ} → Together run c e view shares triples outputs
      → Together (Told c) c e view shares triples outputs
  told-both t = record { own = kind.told _ _ _ _ _ _ t.own; far = kind.told _ _ _ _ _ _ t.far; matching = t.matching }

  -- a far run on what fits
  far-again : {shares triples outputs : List ℕ} (x T : List ℕ) {writes : List ℕ} → Together run c e view shares triples outputs
      → Bits c.inputs x
      → Bits (3 * ands_in c.gates) T → Together (Told c) c e view x T writes → Together run c e view x T writes
  far-again x T t xs ts fits =
      let r = kind.again t.far x T xs ts (sent-bits c ok e view (told-both t)) in
      let is = kind.told _ _ _ _ _ _ r.2 in
      record {
        own = t.own;
        far =
            kind.renamed (by_and_lem c r.0 view.got (λ i a. is.sends i a ∙ sym (fits.far.sends i a)))
            (is.written ∙ sym fits.far.written) r.2;
        matching = fits.matching;
      }

  -- the far share of an output, by its value
  output-at : {shares triples outputs : List ℕ} → Together run c e view shares triples outputs
      → (k : ℕ) → bit_xor (get_or view.outputs k 0) (get_or outputs k 0) ≡ get_or (value_of c (combined view.shares shares)) k 0
  output-at {shares} {triples} {outputs} t k =
      let s = told-both t in
      sym (combined_get view.outputs outputs (many s.own ∙ sym (many s.far)) k)
      ∙ ap (λ (l : List ℕ). get_or l k 0) (joined_at e c ok view s)
    where
      many : {role : ℕ} {s t : List ℕ} {got sent : BitsByAnd} {o : List ℕ} → Transcript role c s t got sent o
          → length o ≡ length c.outputs
      many {role} {s} {t} {got} h = ap length h.written ∙ length-map c.outputs (λ (w : ℕ). get_or (wire_shares role c t got s) w 0)

  -- exactly one pair fits
  module _ {shares triples outputs : List ℕ} (t : Together run c e view shares triples outputs) (own opened : ℕ → Bool) (inputs : List ℕ)
      (bits : Bits c.inputs inputs) where
    abbrev was : Together (Told c) c e view shares triples outputs
    was = told-both t

    long : length view.shares ≡ length inputs
    long = was.own.one_each ∙ sym bits.many

    abbrev x : List ℕ
    x = combined view.shares inputs

    on : combined view.shares x ≡ inputs
    on = combined_twice view.shares inputs long

    xs : Bits c.inputs x
    xs =
        record {
          many = combined-length view.shares inputs c.inputs was.own.one_each bits.many;
          bit = combined-bit view.shares inputs long was.own.share-bits bits.bit;
        }

    fits : Together run c e view x (formed c ok e view x) (at_wires (theirs c ok e view x (formed c ok e view x)) c.outputs)
    fits = far-again x (formed c ok e view x) t xs (formed-bits c ok e view x was xs) (there_is c ok e view x was xs)

    pub one_pair : SameAt own inputs (combined view.shares shares)
        → SameAt opened (value_of c inputs) (value_of c (combined view.shares shares))
        → OnePair (Fits run c e view own opened shares outputs inputs)
    one_pair same-own same-value =
        record {
          first = x;
          second = formed c ok e view x;
          there_is =
              record {
                three-each = formed-bits c ok e view x was xs;
                on_inputs = on;
                same-own = λ k h.
                    combined_get view.shares inputs long k ∙ ap (bit_xor (get_or view.shares k 0)) (same-own k h)
                    ∙ sym (cancel (get_or view.shares k 0) (get_or shares k 0)
                    (sym (combined_get view.shares shares (was.own.one_each ∙ sym was.far.one_each) k)));
                far_outputs = at_wires (theirs c ok e view x (formed c ok e view x)) c.outputs;
                together = fits;
                same-opened = λ k h.
                    cancel (get_or view.outputs k 0) _ (output-at fits k ∙ ap (λ (l : List ℕ). get_or (value_of c l) k 0) on ∙ same-value k h)
                    ∙ sym (cancel (get_or view.outputs k 0) (get_or outputs k 0) (output-at t k));
              };
          no_other = λ y T f.
              let s = told-both f.together in
              let same : y ≡ x =
              sym (combined_twice view.shares y (s.own.one_each ∙ sym s.far.one_each))
              ∙ ap (combined view.shares) f.on_inputs in
              (same, is_formed c ok e view y s f.three-each.many ∙ ap (formed c ok e view) same);
        }

-- what a run shows
pub hides : {run : Run} {c : Circuit} → Kind run c → AdmittedCircuit c → Hidden run c
hides kind ok =
    record {
      shown = λ e view shares triples outputs x T far_outputs opened t u same k h.
          sym (output-at kind ok e view u k) ∙ ap (bit_xor (get_or view.outputs k 0)) (same k h) ∙ output-at kind ok e view t k;
      hidden = λ e view shares triples outputs t own opened inputs bits. one_pair kind ok e view t own opened inputs bits;
      none-opened = λ e view shares triples outputs t own inputs bits same.
          one_pair kind ok e view t own (λ k. false) inputs bits same (λ k h. absurd (true≢false (sym h)));
    }
