-- What each case of the answer stands for (document 01, 'Cases', the pair program): the refused record's number, or what is found of two
-- accepted ones, which may be the outputs tried and those that hold.
use Rattle.std.specs.Prelude.{Result, Ok, Err}
use Rattle.answer.specs.declared.Refusal.{Refusal}
use Rattle.answer.specs.Refused.{number_of}
use Rattle.pairing.specs.declared.Finding.{Finding}
use Rattle.pairing.specs.declared.Finding.TheVariants.{TooLarge, Different, Checked}
use Rattle.pairing.specs.Verdict as verdict

abbrev pub verdict_of : Result Finding Refusal → verdict.Verdict
verdict_of (Err r) = verdict.Refusal (number_of r)
verdict_of (Ok TooLarge) = verdict.TooLarge
verdict_of (Ok Different) = verdict.Different
verdict_of (Ok (Checked n held)) = verdict.Checked n held
