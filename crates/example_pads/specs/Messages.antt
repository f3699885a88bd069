-- Nothing is vacuous: two messages an output of the callers' own choosing on the pads of the first dealing (document 02, 1), sent by the
-- three calls in turn, through what `Messages` asks.
use Rattle.std.specs.Prelude.{◌≡◌, [], ◌∷◌, ◌++◌, replicate}
use Rattle.pads.specs.Messages.Opening.{Batch, BatchFits, sent_correction_bits, sent_answers, opened_batch, Opens}
use Rattle.claims.specs.Taken.{Dealing, outputs_of, Taken}
use Rattle.example.specs.Worked.{bytes_from, binary_input, binary_numbers}
use Rattle.example_pads.specs.Pads.{first_noise, first_scalar}

-- the messages are the bytes 00 to 3f, 32 an output; the choices are 0 and 1, and message 1 is wanted of each output
abbrev pub batch : Batch
batch =
    record {
      count = 2;
      choices = binary_numbers.us;
      wanted = 1 ∷ 1 ∷ [];
      noise_pads = first_noise;
      scalar_pads = first_scalar;
      messages = bytes_from 64 0;
      bits_out = replicate 2 7;
      answers_out = replicate 64 7;
      messages_out = replicate 32 7;
    }

pub record MessagesExample : Type 0 where
  pub dealing : Dealing
  pub input : dealing.input ≡ binary_input
  pub fits : BatchFits batch
  pub taken : Taken (outputs_of dealing) 2 batch.choices batch.noise_pads batch.scalar_pads
  -- what is sent, and what is opened: message 1 of each output
  pub bits : sent_correction_bits batch ≡ 1 ∷ 0 ∷ []
  pub answers :
      sent_answers batch
      ≡ 0xd5 ∷ 0xb2 ∷ 0x3a ∷ 0x62 ∷ 0x89 ∷ 0x3d ∷ 0xe5 ∷ 0xc4 ∷ 0x40 ∷ 0xb4 ∷ 0xd3 ∷ 0x85 ∷ 0xbf ∷ 0x88 ∷ 0x1a ∷ 0x92
      ∷ 0x0d ∷ 0x7c ∷ 0x31 ∷ 0x62 ∷ 0x10 ∷ 0xc8 ∷ 0xc3 ∷ 0x38 ∷ 0xbb ∷ 0xad ∷ 0xc0 ∷ 0x14 ∷ 0x4e ∷ 0xa5 ∷ 0x8e ∷ 0x32
      ∷ 0xe0 ∷ 0x1a ∷ 0x8e ∷ 0xd7 ∷ 0x46 ∷ 0xf2 ∷ 0xe4 ∷ 0x72 ∷ 0x03 ∷ 0x73 ∷ 0x64 ∷ 0x65 ∷ 0x7a ∷ 0x8a ∷ 0x33 ∷ 0xed
      ∷ 0x7f ∷ 0x34 ∷ 0xbe ∷ 0xca ∷ 0x3e ∷ 0x41 ∷ 0x55 ∷ 0xbc ∷ 0x04 ∷ 0xf1 ∷ 0xfb ∷ 0x9b ∷ 0x2f ∷ 0x0a ∷ 0xe1 ∷ 0x60
      ∷ []
  pub opened : (opened_batch batch).lent.messages ≡ bytes_from 16 16 ++ bytes_from 16 48
  -- so the batch opens
  pub opens : Opens batch
