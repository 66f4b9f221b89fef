use Rattle.std.proofs.Common.{◌≡◌, ◌∙◌, Some, sym}
use Rattle.spv_module.specs.Module.{plain_inst, plain_operands}
use Rattle.spv_module.specs.Operand.{type_in}
use Rattle.spv_type_kinds.specs.Operands.{after_head}
use Rattle.spv_type_rules.specs.Constant.{constant_of}
use Rattle.spv_type_rules.proofs.constant.is_sound_constant.Goals as goal

pub returns-in-Some-type_in-clause-answer : goal.returns-in-Some-type_in-clause-answer
returns-in-Some-type_in-clause-answer c =
    let i = plain_inst c.args.inst.now in
    let kind : constant_of i.opcode ≡ Some c.in-Some.constant = sym c.constant_of.ensures ∙ c.in-Some.is in
    let type : type_in i.operands ≡ Some c.in-Some-type_in.r = cc in
    let rest : after_head i.operands ≡ plain_operands c.after_head.result.now = cc in
    rw (kind, type, rest) c.constitutes.ensures.answer
