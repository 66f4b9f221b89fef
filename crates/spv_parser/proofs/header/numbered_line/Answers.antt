use Rattle.std.proofs.Common.{◌^◌, subst}
use Rattle.std.specs.Prelude.{Err}
use Rattle.spv_lines.specs.inner.Answer.{IsBelow}
use Rattle.spv_lines.specs.Text.{lines_of}
use Rattle.spv_parser.proofs.Headed.{no_front, no_number}
use Rattle.spv_parser.proofs.Namely.{stripped}
use Rattle.spv_parser.proofs.header.numbered_line.Goals as goal

pub returns-in_default-strip_prefix-clause-none : goal.returns-in_default-strip_prefix-clause-none
returns-in_default-strip_prefix-clause-none c =
    no_front c.args.text.now c.in-Some.line.now c.args.front.now
    (lines_of c.in-Some.rest.now) c.in-Some.ensures c.in_default-strip_prefix.ensures.cases

pub returns-in-Err-clause-none : goal.returns-in-Err-clause-none
returns-in-Err-clause-none c =
    let e = subst (λ x. IsBelow (2 ^ 32) x (Err c.in-Err.why)) c.as_bytes.ensures.value c.in-Err.ensures in
    no_number c.args.text.now c.in-Some.line.now c.args.front.now c.in-Some-strip_prefix.digits.now
    (lines_of c.in-Some.rest.now) c.in-Err.why c.in-Some.ensures
    (stripped c.args.front.now c.in-Some.line.now _ c.in-Some-strip_prefix.ensures.cases) e
