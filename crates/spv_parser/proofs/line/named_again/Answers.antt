use Rattle.spv_parser.proofs.Namely.{name_again, stripped}
use Rattle.spv_parser.proofs.line.named_again.Goals as goal

pub returns-then-is_break : goal.returns-then-is_break
returns-then-is_break c = λ G known.
    let n = c.in-Some.named in
    let i = rw c.in-Some.is at known in
    let rest = c.in-Some-strip_prefix.rest.now in
    let s = stripped n.entry.name c.args.text.now rest
    (rw c.name.ensures at c.in-Some-strip_prefix.ensures.cases) in
    rw c.again.ensures (name_again G n.entry.name c.args.text.now rest n.opcode n.entry i s
    (c.is_break.ensures.0 c.if-is_break.true))
