-- What finished runs of a circuit show an end: the values of the outputs that are opened to it, and nothing else of the far inputs. It is
-- a count: whatever far inputs give these values, exactly one pair of far shares and far triples gives the end the view that it has. It
-- supposes a far end that keeps to the rounds or steps, and says nothing of how triples are drawn.
use Rattle.std.specs.Prelude.{ℕ, ◌*◌, ◌≤◌, Bool, true, false, List, ◌≡◌, length, get_or}
use Rattle.circuit.specs.Content.{Circuit, ands_in}
use Rattle.circuit.specs.Reading.{read_circuit}
use Rattle.circuit.specs.Value.{value_of}
use Rattle.circuit_claims.specs.Evaluation.{combined}
use Rattle.circuit_claims.specs.Transcript.{BitsByAnd}
use Rattle.circuit_hidden.specs.Run.{Run, InRounds, InSteps}
use Rattle.number.specs.Reading.{Whole}
use Rattle.pads.specs.Triples.Matching.{Matching}

-- an end, in role 1 or in role 2, and the far end
pub data End : Type 0 where
  One : End
  Two : End

abbrev pub role_of : End → ℕ
role_of One = 1
role_of Two = 2

abbrev pub other : End → End
other One = Two
other Two = One

-- what an end has of its own run: its shares of the inputs, its triples, the bits that it got and sent for each AND, and its shares of
-- the outputs
pub record View : Type 0 where
  pub shares : List ℕ
  pub triples : List ℕ
  pub got : BitsByAnd
  pub sent : BitsByAnd
  pub outputs : List ℕ

-- two finished runs on matching triples, each with the bits that the other sent: the view of the end e, and the far end's shares of the
-- inputs, triples and shares of the outputs
pub record Together (run : Run) (c : Circuit) (e : End) (view : View) (shares triples outputs : List ℕ) : Type 0 where
  pub own : run (role_of e) view.shares view.triples view.got view.sent view.outputs
  pub far : run (role_of (other e)) shares triples view.sent view.got outputs
  pub matching : Matching (ands_in c.gates) view.triples triples

-- bits, so many
pub record Bits (count : ℕ) (bits : List ℕ) : Type 0 where
  pub many : length bits ≡ count
  pub bit : (k : ℕ) → get_or bits k 0 ≤ 1

-- two lists are the same at the places of a set
abbrev pub SameAt : (ℕ → Bool) → List ℕ → List ℕ → Type 0
SameAt set xs ys = (k : ℕ) → set k ≡ true → get_or xs k 0 ≡ get_or ys k 0

-- far shares x and far triples T, three bits for each AND and no more, with which the inputs are these and the end sees what it saw: its
-- view, the far shares of its own inputs, which it sent, and the far shares of the outputs that are opened to it
pub record Fits (run : Run) (c : Circuit) (e : End) (view : View) (own opened : ℕ → Bool)
    (shares outputs inputs x T : List ℕ) : Type 0 where
  pub three-each : Bits (3 * ands_in c.gates) T
  pub on_inputs : combined view.shares x ≡ inputs
  pub same-own : SameAt own x shares
  pub far_outputs : List ℕ
  pub together : Together run c e view x T far_outputs
  pub same-opened : SameAt opened far_outputs outputs

-- exactly one pair of lists is such
pub record OnePair (such : List ℕ → List ℕ → Type 0) : Type 0 where
  pub first : List ℕ
  pub second : List ℕ
  pub there_is : such first second
  pub no_other : (x y : List ℕ) → such x y → (x ≡ first) × (y ≡ second)

-- the claim about a kind of runs, at either end: `own` are the end's own inputs, `opened` the outputs that are opened to it, whether or
-- not they are opened to the far end
pub record Hidden (run : Run) (c : Circuit) : Type 0 where
  -- what the end sees fixes the values of the opened outputs
  pub shown : (e : End) (view : View) (shares triples outputs x T far_outputs : List ℕ) (opened : ℕ → Bool)
      → Together run c e view shares triples outputs → Together run c e view x T far_outputs → SameAt opened far_outputs outputs
      → SameAt opened (value_of c (combined view.shares x)) (value_of c (combined view.shares shares))
  -- and nothing else: all inputs that have its own and give the opened outputs these values fit it equally often, once
  pub hidden : (e : End) (view : View) (shares triples outputs : List ℕ) → Together run c e view shares triples outputs
      → (own opened : ℕ → Bool) (inputs : List ℕ) → Bits c.inputs inputs
      → SameAt own inputs (combined view.shares shares)
      → SameAt opened (value_of c inputs) (value_of c (combined view.shares shares))
      → OnePair (Fits run c e view own opened shares outputs inputs)
  -- with no output opened to it these are all far inputs
  pub none-opened : (e : End) (view : View) (shares triples outputs : List ℕ) → Together run c e view shares triples outputs
      → (own : ℕ → Bool) (inputs : List ℕ) → Bits c.inputs inputs → SameAt own inputs (combined view.shares shares)
      → OnePair (Fits run c e view own (λ k. false) shares outputs inputs)

-- of runs in rounds, and of runs in steps
abbrev pub HiddenRounds : Type 0
HiddenRounds = (circuit : List ℕ) (c : Circuit) → read_circuit circuit ≡ Whole c → Hidden (InRounds circuit c) c

abbrev pub HiddenSteps : Type 0
HiddenSteps = (circuit : List ℕ) (c : Circuit) → read_circuit circuit ≡ Whole c → Hidden (InSteps circuit c) c
