-- What a refusal stands for, and the result of a test or a reading that may be refused: a number of the calls (document 01, 'Numbers of
-- the calls'; document 02).
use Rattle.std.specs.Prelude.{ℕ, Result, Ok, Err}
use Rattle.answer.specs.Numbers.{accepted, bad_field, bad_size, bad_length, bad_position, bad_noise, bad_delta, window_past_end, not_element, wrong_end, record_ends, bad_number, bytes_after, buffer_short, no_caller, share_spent, shares_above, bad_circuit, too_few_triples, amount_out_of_range, label_not_above, label_not_in_use}
use Rattle.answer.specs.declared.Refusal.{Refusal}
use Rattle.answer.specs.declared.Refusal.TheVariants.{BadField, BadSize, BadLength, BadPosition, BadNoise, BadDelta, WindowPastEnd, NotElement, WrongEnd, RecordEnds, BadNumber, BytesAfter, BufferShort, NoCaller, ShareSpent, SharesAbove, BadCircuit, TooFewTriples, AmountOutOfRange, LabelNotAbove, LabelNotInUse}

-- the number of a refusal
abbrev pub number_of : Refusal → ℕ
number_of BadField = bad_field
number_of BadSize = bad_size
number_of BadLength = bad_length
number_of BadPosition = bad_position
number_of BadNoise = bad_noise
number_of BadDelta = bad_delta
number_of WindowPastEnd = window_past_end
number_of NotElement = not_element
number_of WrongEnd = wrong_end
number_of RecordEnds = record_ends
number_of BadNumber = bad_number
number_of BytesAfter = bytes_after
number_of BufferShort = buffer_short
number_of NoCaller = no_caller
number_of ShareSpent = share_spent
number_of SharesAbove = shares_above
number_of BadCircuit = bad_circuit
number_of TooFewTriples = too_few_triples
number_of AmountOutOfRange = amount_out_of_range
number_of LabelNotAbove = label_not_above
number_of LabelNotInUse = label_not_in_use

-- the number of a result: 0 where it is accepted, or that of its refusal
abbrev pub fault : {A : Type 0} → Result A Refusal → ℕ
fault (Ok x) = accepted
fault (Err r) = number_of r
