use Rattle.std.proofs.Common.{sym, ◌∙◌, ap}
use Rattle.spv_module.specs.Operand.{start}
use Rattle.spv_parser.specs.Reason.{word_behind}
use Rattle.spv_parser.proofs.LineRead.{divided_break}
use Rattle.spv_parser.proofs.Halting.{line_undivided_stops, line_unnamed_stops, line_result_stops, outcome_of}
use Rattle.spv_parser.proofs.stops.read_or_stop.Goals as goal

pub returns-in_default : goal.returns-in_default
returns-in_default c = λ before written k.
    rw c.stopped.ensures (line_undivided_stops c.args.setting.now.table.now before written c.args.line.now
    c.skip_to_word.result.now (sym c.in_default.ensures)
    (c.skip_to_word.ensures ∙ ap word_behind c.split_token.ensures.rest))

pub returns-in_default-look_up : goal.returns-in_default-look_up
returns-in_default-look_up c = λ before written k.
    let n = rw c.split_token-2.ensures.token at c.in_default-look_up.ensures in
    rw c.stopped-in_default-look_up.ensures
    (line_unnamed_stops c.args.setting.now.table.now before written c.args.line.now c.in-Some.text.now _
    (sym c.in-Some.ensures) n)

pub operands_or_stop-requires-clause-broken : goal.operands_or_stop-requires-clause-broken
operands_or_stop-requires-clause-broken c =
    rw c.split_token-2.ensures.rest (divided_break c.args.line.now _ (sym c.in-Some.ensures))

pub returns-in_ok-outcome-in-Ok : goal.returns-in_ok-outcome-in-Ok
returns-in_ok-outcome-in-Ok c = λ before written k.
    let G = c.args.setting.now.table.now in
    let n = c.in-Some-look_up.named in
    let i = rw c.split_token-2.ensures.token at c.in-Some-look_up.ensures in
    let h = c.in-Ok.ensures (start before n.opcode) n.entry i.known in
    let f = rw (c.operands-pattern.ensures, c.split_token-2.ensures.rest)
    at (c.in_ok-outcome-in-Ok.ensures before k) in
    outcome_of G before written c.args.line.now _ _ n.opcode n.entry c.in-Ok.result_id _
    (sym c.in-Some.ensures) i h f

pub returns-in-Err : goal.returns-in-Err
returns-in-Err c = λ before written k.
    let G = c.args.setting.now.table.now in
    let n = c.in-Some-look_up.named in
    let i = rw c.split_token-2.ensures.token at c.in-Some-look_up.ensures in
    let h = c.in-Err.ensures (start before n.opcode) n.entry i.known in
    rw c.stopped-in-Err.ensures (line_result_stops G before written c.args.line.now _ n.opcode n.entry
    c.in-Err.lack.code c.in-Err.lack.wanted (sym c.in-Some.ensures) i h)
