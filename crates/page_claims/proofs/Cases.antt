-- The starred cases, by computation; and the pair program's line on a dealing's own records.
use mathlib.Core.Path.{refl, ap, ◌∙◌}
use Rattle.pairing.specs.Line.{digits}
use Rattle.claims.proofs.Paired as claims
use Rattle.page.specs.Document01 as page
use Rattle.page.proofs.Dealing.{deal_is}
use Rattle.page.proofs.Paired.{line_is}
use Rattle.page_claims.specs.Statements as says
use Rattle.page_claims.proofs.Outputs.{input_of}
use Rattle.page_claims.proofs.Records.{memory, number}

pub cases : says.Cases
unfolding says.starred page.s_box page.squares page.times page.xtime page.from_bits page.write_number page.read_number page.item page.and_then page.on_record page.when◌then◌else◌ page.write_trees page.each page.to_bytes page.field_of page.word page.from_bytes page.list page.joined page.sum page.μ page.deal page.answer page.every page.write_noise page.write_scalar page.write_head page.dealt_tree page.siblings_of page.words page.child page.xor
cases = refl

pub held : says.Held
unfolding page.decimal digits page.when◌then◌else◌
held D M a b dealt small =
    let I = input_of D in
    ap (λ (r : page.Return). page.line_text (says.wrote r 0) (says.wrote r 1)) (deal_is I a b)
    ∙ line_is _ _
    ∙ (claims.held I (memory D M a b dealt) a b (number D M a b dealt) small).line
