use Rattle.std.proofs.Common.{sym, ◌∙◌, inl, inr}
use Rattle.spv_module.specs.Module.{plain_inst}
use Rattle.spv_run.proofs.Moving.{branch_tells, branch_named, choose_tells, call_tells, call_named, return_tells}
use Rattle.spv_run.proofs.Moving.{unreachable_tells, other_tells}
use Rattle.spv_run.proofs.moves.move_of.Goals as goal

pub returns-in-Some : goal.returns-in-Some
returns-in-Some c = λ is G bound n sound num have at.
    branch_tells (plain_inst c.args.inst.now) c.in-Some.label c.place_of.result is c.if-opcode-eq-BRANCH.true
    (sym c.named_id.ensures ∙ c.in-Some.is)
    (λ m d. c.place_of.ensures is m num d) G bound n sound at

pub returns-in-None : goal.returns-in-None
returns-in-None c = λ is G bound n sound num have at.
    absurd (branch_named (plain_inst c.args.inst.now) is c.if-opcode-eq-BRANCH.true
    (sym c.named_id.ensures ∙ c.in-None.is) G bound n sound at)

pub returns-then-opcode-eq-BRANCH_CONDITIONAL : goal.returns-then-opcode-eq-BRANCH_CONDITIONAL
returns-then-opcode-eq-BRANCH_CONDITIONAL c =
    λ is G bound n sound num have at. choose_tells (plain_inst c.args.inst.now) is
    (inl c.if-opcode-eq-BRANCH_CONDITIONAL.true) G bound n sound at

pub returns-then-opcode-eq-SWITCH : goal.returns-then-opcode-eq-SWITCH
returns-then-opcode-eq-SWITCH c =
    λ is G bound n sound num have at. choose_tells (plain_inst c.args.inst.now) is
    (inr c.if-opcode-eq-SWITCH.true) G bound n sound at

pub returns-in-Some-named_id : goal.returns-in-Some-named_id
returns-in-Some-named_id c = λ is G bound n sound num have at.
    call_tells (plain_inst c.args.inst.now) c.in-Some-named_id.callee c.place_of-in-Some-named_id.result is
    c.call_by.result c.if-opcode-eq-FUNCTION_CALL.true
    (sym c.named_id-then-opcode-eq-FUNCTION_CALL.ensures ∙ c.in-Some-named_id.is)
    (λ k d. c.place_of-in-Some-named_id.ensures is k num d) G bound n sound at
    (λ xs d f. c.call_by.ensures is G bound c.in-Some-named_id.callee xs sound have d f)

pub returns-in-None-named_id : goal.returns-in-None-named_id
returns-in-None-named_id c = λ is G bound n sound num have at.
    absurd (call_named (plain_inst c.args.inst.now) is c.if-opcode-eq-FUNCTION_CALL.true
    (sym c.named_id-then-opcode-eq-FUNCTION_CALL.ensures ∙ c.in-None-named_id.is) G bound n sound at)

pub returns-then-opcode-eq-RETURN : goal.returns-then-opcode-eq-RETURN
returns-then-opcode-eq-RETURN c =
    λ is G bound n sound num have at. return_tells (plain_inst c.args.inst.now) is
    (inl c.if-opcode-eq-RETURN.true) G bound n sound at

pub returns-then-opcode-eq-RETURN_VALUE : goal.returns-then-opcode-eq-RETURN_VALUE
returns-then-opcode-eq-RETURN_VALUE c =
    λ is G bound n sound num have at. return_tells (plain_inst c.args.inst.now) is
    (inr c.if-opcode-eq-RETURN_VALUE.true) G bound n sound at

pub returns-then-opcode-eq-UNREACHABLE : goal.returns-then-opcode-eq-UNREACHABLE
returns-then-opcode-eq-UNREACHABLE c =
    λ is G bound n sound num have at. unreachable_tells
    (plain_inst c.args.inst.now) is c.if-opcode-eq-UNREACHABLE.true G bound n sound at

pub returns : goal.returns
returns c = λ is G bound n sound num have at.
    other_tells (plain_inst c.args.inst.now) is c.if-opcode-eq-BRANCH.false c.if-opcode-eq-BRANCH_CONDITIONAL.false
    c.if-opcode-eq-SWITCH.false c.if-opcode-eq-FUNCTION_CALL.false
    c.if-opcode-eq-RETURN.false c.if-opcode-eq-RETURN_VALUE.false c.if-opcode-eq-UNREACHABLE.false G bound n sound at
