use Rattle.std.proofs.Common.{◌++◌, ◌∙◌, ap}
use Rattle.spv_lines.specs.Text.{lines_of}
use Rattle.spv_parser.proofs.Gathered.{five_words}
use Rattle.spv_parser.proofs.Halting.{told_in}
use Rattle.spv_parser.proofs.text_reason.reason.Goals as goal

pub returns : goal.returns
returns c =
    let h = c.in-Ok.ensures in
    let o = c.in_ok-put_words.ensures ∙ ap (λ z. z ++ five_words c.in-Ok.found.0) c.new-draft.ensures in
    told_in c.args.table.now c.args.text.now c.in-Ok.found.0
    (lines_of c.in-Ok.found.1.now) c.put_words.new.draft c.reason_in.new.draft c.reason_in.result h.fits h.small
    h.lines o c.reason_in.ensures
