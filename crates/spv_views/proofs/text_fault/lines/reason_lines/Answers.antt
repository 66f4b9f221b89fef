use Rattle.spv_parser.specs.Reason.{plain_reason}
use Rattle.spv_views.proofs.lemmas.text_fault.Told.{told, read_not_told}
use Rattle.spv_views.proofs.text_fault.lines.reason_lines.Goals as goal

pub returns-in_ok-lines-in-Some : goal.returns-in_ok-lines-in-Some
returns-in_ok-lines-in-Some c = λ f.
    let w = c.in-Some.why in
    let g = rw c.in-Some.is at c.in_ok-why.ensures in
    told c.args.table.now c.args.sentence.now c.args.text.now c.args.error.code w.code c.args.error.line w.line
    (plain_reason w) _ c.kind.ensures.whole f g c.in_ok-lines-in-Some.ensures

pub returns-in-None : goal.returns-in-None
returns-in-None c = λ f.
    let r = rw c.in-None.is at c.in_ok-why.ensures in
    absurd (read_not_told c.args.table.now c.args.text.now c.args.error.code c.args.error.line r.0 r.1 r.2
    c.kind.ensures.whole f r.3)
