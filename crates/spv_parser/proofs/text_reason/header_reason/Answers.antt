use Rattle.std.proofs.Common.{◌≡◌, ◌-◌, [], arith, ap, ◌∙◌}
use Rattle.std.specs.Prelude.{slice_get, unwrap_or}
use Rattle.spv_lines.specs.Text.{lines_of}
use Rattle.spv_parser.proofs.Halting.{header_fails_for, header_least}
use Rattle.spv_parser.proofs.text_reason.header_reason.Goals as goal

pub returns : goal.returns
returns c = λ G.
    let t = c.args.text.now in
    let n = c.args.error.line in
    let m = header_least (lines_of t) c.args.error.code n c.requires in
    let e : n - 1 ≡ m.0 = let f = m.1 in omega arith in
    header_fails_for G t c.line_after-line.result.now c.args.error.code n m.0 c.requires m.1
    (c.line_after-line.ensures ∙ ap (λ k. unwrap_or (slice_get (lines_of t) k) []) e)
