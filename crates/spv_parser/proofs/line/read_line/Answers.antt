use Rattle.std.proofs.Common.{sym}
use Rattle.std.proofs.lemmas.Result.{err_from_is_err_and}
use Rattle.spv_module.specs.Operand.{start}
use Rattle.spv_parser.proofs.LineRead.{line_undivided, line_unnamed, line_result_failed, line_operands_failed}
use Rattle.spv_parser.proofs.LineRead.{line_read, result_text, divided_break}
use Rattle.spv_parser.proofs.line.read_line.Goals as goal

pub returns-in_default-clause-failed : goal.returns-in_default-clause-failed
returns-in_default-clause-failed c =
    λ before written k. line_undivided c.args.setting.now.table.now before written c.args.line.now
    (sym c.in_default.ensures)

pub returns-in_default-name_in-clause-failed : goal.returns-in_default-name_in-clause-failed
returns-in_default-name_in-clause-failed c =
    λ before written k. line_unnamed c.args.setting.now.table.now before written c.args.line.now _
    (sym c.in-Some.ensures) c.in_default-name_in.ensures.named

pub returns-in_err-result_id-clause-failed : goal.returns-in_err-result_id-clause-failed
returns-in_err-result_id-clause-failed c =
    let q = err_from_is_err_and c.from_residual-in_err-result_id.result c.from_residual-in_err-result_id.ensures.1 in
    λ before written k.
    let G = c.args.setting.now.table.now in
    let n = c.in-Some-name_in.named in
    let h = c.in_err-result_id.ensures (start before n.opcode) n.entry c.in-Some-name_in.ensures.named.0.known in
    rw (q.1, q.2) (line_result_failed G before written c.args.line.now _ n.opcode n.entry _
    (sym c.in-Some.ensures) c.in-Some-name_in.ensures.named.0 h)

pub fast_operands-requires-clause-broken : goal.fast_operands-requires-clause-broken
fast_operands-requires-clause-broken c =
    rw c.in-Some-name_in.ensures.named.1 (divided_break c.args.line.now _ (sym c.in-Some.ensures))

pub read_operands-requires-clause-broken : goal.read_operands-requires-clause-broken
read_operands-requires-clause-broken c =
    rw c.in-Some-name_in.ensures.named.1 (divided_break c.args.line.now _ (sym c.in-Some.ensures))

pub returns-in-Some-fast-clause-read : goal.returns-in-Some-fast-clause-read
returns-in-Some-fast-clause-read c = λ before k.
    let G = c.args.setting.now.table.now in
    let n = c.in-Some-name_in.named in
    let a = rw c.in-Some-fast.is at (c.in_ok-fast.ensures.read before k) in
    let a' = rw (c.operands-pattern.ensures, c.in-Some-name_in.ensures.named.1) at a in
    let f = rw c.in-Some-fast.is at c.in_ok-fast.ensures.front in
    line_read G before c.args.line.now _ _ n.opcode n.entry c.in-Some-fast.line.result c.in-Some-fast.line
    (sym c.in-Some.ensures) c.in-Some-name_in.ensures.named.0 f a'

pub returns-in_err-line-clause-failed : goal.returns-in_err-line-clause-failed
returns-in_err-line-clause-failed c =
    let q = err_from_is_err_and c.from_residual-in_err-line.result c.from_residual-in_err-line.ensures.1 in
    λ before written k.
    let G = c.args.setting.now.table.now in
    let n = c.in-Some-name_in.named in
    let h = c.in_ok-result_id.ensures (start before n.opcode) n.entry c.in-Some-name_in.ensures.named.0.known in
    let f = rw (c.operands-pattern.ensures, c.in-Some-name_in.ensures.named.1)
    at (c.in_err-line.ensures.failed before k) in
    rw (q.1, q.2) (line_operands_failed G before written c.args.line.now _ n.opcode n.entry
    c.in_ok-result_id.result_id _ (sym c.in-Some.ensures) c.in-Some-name_in.ensures.named.0 h f)

pub returns-clause-read : goal.returns-clause-read
returns-clause-read c = λ before k.
    let G = c.args.setting.now.table.now in
    let n = c.in-Some-name_in.named in
    let h = c.in_ok-result_id.ensures (start before n.opcode) n.entry c.in-Some-name_in.ensures.named.0.known in
    let f = rw (c.operands-pattern.ensures, c.in-Some-name_in.ensures.named.1)
    at (c.in_ok-line.ensures.read before k) in
    line_read G before c.args.line.now _ _ n.opcode n.entry c.in_ok-result_id.result_id c.in_ok-line.line
    (sym c.in-Some.ensures) c.in-Some-name_in.ensures.named.0 (result_text _ _ h.0) f
