-- Inner: no promise cites this file. The input that a call is lent.
use Rattle.dealing.specs.Input as dealing
use Rattle.dealing.specs.Inner.Steps.{input_from}
use Rattle.dealing_tests.specs.declared.input.Input.{Input}

-- as document 01 has it
abbrev pub input_of : Input → dealing.Input
input_of i = input_from i.layout i.roots.now i.positions.now i.values.now i.delta.now i.code_key.now i.label.now
