-- Messages open, and triples match: the laws of `pads`, where the choice names the pad.
use Prim.Native.Nat.{ℕ, ◌+◌, ◌-◌, ◌*◌, ◌<◌}
use native.Mathlib.Nat.{add-zero}
use native.Mathlib.Omega.{arith}
use mathlib.Core.Path.{◌≡◌, sym, ap, ap₂, ◌∙◌}
use mathlib.Core.Bool.{true}
use mathlib.Core.List.{List}
use borrow.Author.Tests.{leb-true}
use lib.Bits.{bit_and, bit_xor}
use lib.Dec.{leb}
use lib.ListN.{length, get_or}
use Rattle.algebra.specs.Coding.{at}
use Rattle.algebra.specs.Every.{every}
use Rattle.algebra.proofs.Every.{every_at}
use Rattle.answer.specs.Bytes.{AreBits}
use Rattle.pads.specs.Messages.Opening.{Batch, BatchFits, corrected_batch, sent_correction_bits, masked_batch, sent_answers, opened_batch}
use Rattle.pads.specs.Triples.Call.{TriplesLent, lent_triples, triples}
use Rattle.pads.specs.Triples.Matching.{MatchingAt}
use Rattle.pads.specs.Triples.Triple.{triple_bytes}
use Rattle.pads.proofs.Messages.Opening.{opening}
use Rattle.pads.proofs.Triples.Accepts.{accepts}
use Rattle.pads.proofs.Triples.Matching.{match, zero_or_one}
use Rattle.page.specs.Document01 as page
use Rattle.page_claims.specs.Statements as first
use Rattle.page_two.specs.Document02 as page2
use Rattle.page_two.proofs.Messages.{correction_return, correction_is, mask_return, mask_is, unmask_return, unmask_is, triples_return, triples_are}
use Rattle.page_two_claims.specs.Statements as says
use Rattle.page_two_claims.proofs.Taken.{named, within}

bits_are : (c : ℕ) (l : List ℕ) → length l ≡ c → page2.are_bits l ≡ true → AreBits c l
unfolding page.every every
bits_are c l long e k h = leb-true _ _ (every_at (λ i. leb (get_or l i 0) 1) k (length l) e (omega arith))

module _ (B : says.Batch) where
  abbrev out : ℕ → List ℕ
  out = first.slice B.buffers

  abbrev batch : Batch
  batch =
      record {
        count = B.c;
        choices = B.choices;
        wanted = B.wanted;
        noise_pads = B.pads;
        scalar_pads = B.pad_pairs;
        messages = B.messages;
        bits_out = out 0;
        answers_out = out 1;
        messages_out = out 2;
      }

  fits : says.Fits B → BatchFits batch
  fits F =
      record {
        batch = F.0;
        choices-length = F.1;
        wanted-length = F.2;
        noise_pads-length = F.3;
        scalar_pads-length = F.4;
        messages-length = F.5;
        wanted-bits = bits_are B.c B.wanted F.2 F.6;
        bits-room = F.7;
        answers-room = F.8;
        messages-room = F.9;
      }

  -- the three calls in turn
  abbrev bits : page.Return
  bits = page2.correction_bits B.c B.choices B.wanted (out 0)

  abbrev answers : page.Return
  answers = page2.mask_messages B.c (first.wrote bits 0) B.pad_pairs B.messages (out 1)

  abbrev opened : page.Return
  opened = page2.unmask_messages B.c B.wanted B.pads (first.wrote answers 0) (out 2)

  bits_is : bits ≡ correction_return (corrected_batch batch)
  bits_is = correction_is B.c B.choices B.wanted (out 0)

  answers_is : answers ≡ mask_return (masked_batch batch)
  answers_is =
      ap (λ (r : page.Return). page2.mask_messages B.c (first.wrote r 0) B.pad_pairs B.messages (out 1)) bits_is
      ∙ mask_is B.c (sent_correction_bits batch) B.pad_pairs B.messages (out 1)

  opened_is : opened ≡ unmask_return (opened_batch batch)
  opened_is =
      ap (λ (r : page.Return). page2.unmask_messages B.c B.wanted B.pads (first.wrote r 0) (out 2)) answers_is
      ∙ unmask_is B.c B.wanted B.pads (sent_answers batch) (out 2)

abbrev number_of : page.Return → ℕ
number_of r = r.number

pub messages : says.Messages
messages S C B F T =
    let O = opening (batch B) (fits B F) (λ k h. named S C B.choices B.pads B.pad_pairs k k (T k h)) in (
      ap number_of (bits_is B) ∙ O.corrected_accepted,
      ap number_of (answers_is B) ∙ O.masked-accepted,
      ap number_of (opened_is B) ∙ O.opened-accepted,
      λ k h.
          let z : k - 0 ≡ k = omega arith in
          ap (λ (r : page.Return). page.block_from (first.slice r.outputs 0) (16 * k)) (opened_is B)
          ∙ ap (λ (x : ℕ). page.block_from (opened_batch (batch B)).lent.messages (16 * x)) (sym z)
          ∙ O.opens k h
          ∙ ap (λ (x : ℕ). page.block_from B.messages (32 * x + 16 * get_or B.wanted k 0)) z,
    )

-- ---- triples

abbrev lent : says.TripleInput → TriplesLent
lent l = lent_triples l.choices l.pads l.pad_pairs l.out

formed_is : (l : says.TripleInput) → says.formed l ≡ triples_return (triples (lent l))
formed_is l = triples_are l.choices l.pads l.pad_pairs l.out

-- triples at places of both lists, each by its first byte's place
matching_at : (m t m' t' : List ℕ) (i j : ℕ) → m ≡ m' → t ≡ t' → MatchingAt (at triple_bytes m' i) (at triple_bytes t' j)
    → says.Matching m i t j
matching_at m t m' t' i j e f h =
    rw (e, f)
    (h
    ∙ ap₂ (λ (a b : ℕ). bit_and (bit_xor (get_or m' a 0) (get_or t' b 0)) (bit_xor (get_or m' (i * 3 + 1) 0) (get_or t' (j * 3 + 1) 0)))
    (sym (add-zero (i * 3))) (sym (add-zero (j * 3))))

abbrev wrote_first : page.Return → List ℕ
wrote_first r = first.wrote r 0

pub triples-match : says.Triples
triples-match =
    record {
      matching = λ l l' i j F.
          let w = within F.source F.correlates l.choices l.pads l'.pad_pairs i j F.taken in
          let a = sym (ap number_of (formed_is l)) ∙ F.accepted in
          let a' = sym (ap number_of (formed_is l')) ∙ F.accepted' in
          let b : i < length l.choices = omega (arith, w.0, ((accepts (lent l)).1 a).all) in
          let b' : j < length l'.choices = omega (arith, w.1, ((accepts (lent l')).1 a').all) in (
            b,
            b',
            matching_at _ _ _ _ i j (ap wrote_first (formed_is l)) (ap wrote_first (formed_is l'))
                (match (lent l) (lent l') a a' i j b b'
                (named F.source F.correlates l.choices l.pads l'.pad_pairs i j F.taken)
                (named F.source' F.correlates' l'.choices l'.pads l.pad_pairs j i F.taken')),
          );
      bits = λ l e i h.
          rw (ap wrote_first (formed_is l)) (zero_or_one (lent l) (sym (ap number_of (formed_is l)) ∙ e) i h);
    }
