use Rattle.std.proofs.Common.{ap}
use Rattle.std.proofs.lemmas.Bool.{iff_false}
use Rattle.spv_module.specs.Module.{plain_inst, plain_operands}
use Rattle.spv_standard_evidence.proofs.Scoped.{shown_group, shown_own, shown_scope, shown_semantics}
use Rattle.spv_standard_evidence.proofs.operands.scopes.scope_evidence.Goals as goal

pub returns-in-Some : goal.returns-in-Some
returns-in-Some c = λ G.
    shown_scope c.args.definitions.now (plain_inst c.args.inst.now) (plain_operands c.as_slice-operands.result.now)
    c.scopes_of-scopes.result.now c.in-Some.operand (ap plain_operands c.as_slice-operands.ensures.value)
    c.scopes_of-scopes.ensures c.in-Some.ensures G

pub returns-in-Some-bad_seat : goal.returns-in-Some-bad_seat
returns-in-Some-bad_seat c = λ G.
    shown_semantics c.args.definitions.now (plain_inst c.args.inst.now) (plain_operands c.as_slice-operands.result.now)
    c.semantics_of.result.now c.in-Some-bad_seat.operand (ap plain_operands c.as_slice-operands.ensures.value)
    c.semantics_of.ensures c.in-Some-bad_seat.ensures G

pub returns-then-has_bad_group : goal.returns-then-has_bad_group
returns-then-has_bad_group c = λ G.
    let both = c.has_bad_group.ensures.0 c.if-has_bad_group.true in
    shown_group c.args.definitions.now (plain_inst c.args.inst.now) c.scopes_of-scopes.result.now c.group_seat.result
    c.scopes_of-scopes.ensures both.0 both.1 c.group_seat.ensures G

pub returns : goal.returns
returns c = λ G.
    shown_own c.args.definitions.now (plain_inst c.args.inst.now) (plain_operands c.as_slice-operands.result.now)
    c.scopes_of-scopes.result.now c.semantics_of.result.now c.own_seat.result
    (ap plain_operands c.as_slice-operands.ensures.value) c.scopes_of-scopes.ensures c.semantics_of.ensures
    c.own_seat.ensures c.in_default.ensures c.in_default-bad_seat.ensures
    (iff_false c.has_bad_group.ensures c.if-has_bad_group.false) c.requires G
