-- The numbers that the calls return (document 01, 'Numbers of the calls'; document 02), by the names of the C header.
use Rattle.std.specs.Prelude.{ℕ}

-- the call is accepted
abbrev pub accepted : ℕ
accepted = 0

-- field byte not 1 or 2
abbrev pub bad_field : ℕ
bad_field = 1

-- d, g, t, ℓ or n outside its range (another g than 1, 2 and 3, or a d that is no multiple of g); 0 or more than eight callers of a stock
abbrev pub bad_size : ℕ
bad_size = 2

-- an input slice not exactly the length that the sizes or c call for; a batch above 4,096
abbrev pub bad_length : ℕ
bad_length = 3

-- position not rising, or N or more
abbrev pub bad_position : ℕ
bad_position = 4

-- noise value not admitted
abbrev pub bad_noise : ℕ
bad_noise = 5

-- Δ zero, or not an element; in a dealing of field 2, also any of its last eight bytes not 00
abbrev pub bad_delta : ℕ
bad_delta = 6

-- window past its end
abbrev pub window_past_end : ℕ
window_past_end = 7

-- correction, or a word that the window's rows use, not an element, or in binary noise above 1; choice
-- byte, or any other byte that stands for a bit, above 1; an element of p or more read as an amount
abbrev pub not_element : ℕ
not_element = 8

-- end byte not this end's; a role of a circuit's step that is not 1 or 2
abbrev pub wrong_end : ℕ
wrong_end = 9

-- record or circuit ends inside a field
abbrev pub record_ends : ℕ
record_ends = 10

-- number not shortest, or its third byte's top bit set
abbrev pub bad_number : ℕ
bad_number = 11

-- bytes after the record or circuit
abbrev pub bytes_after : ℕ
bytes_after = 12

-- output buffer too short
abbrev pub buffer_short : ℕ
buffer_short = 13

-- ---- document 02

-- no such caller
abbrev pub no_caller : ℕ
no_caller = 14

-- the caller's remaining share is under c
abbrev pub share_spent : ℕ
share_spent = 15

-- shares, or at a passage unspent shares, sum above n
abbrev pub shares_above : ℕ
shares_above = 16

-- a size, kind or wire of a circuit that is not admitted; a state with a phase above 2, or phase 1 at no AND of the circuit
abbrev pub bad_circuit : ℕ
bad_circuit = 17

-- fewer triples than AND gates
abbrev pub too_few_triples : ℕ
too_few_triples = 18

-- an amount below −(2^60 − 1) or above 2^60 − 1 (document 02, 13)
abbrev pub amount_out_of_range : ℕ
amount_out_of_range = 19

-- the label is not above the one in use
abbrev pub label_not_above : ℕ
label_not_above = 20

-- a draw or preview with a label not in use
abbrev pub label_not_in_use : ℕ
label_not_in_use = 21
