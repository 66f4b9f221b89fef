use Rattle.std.proofs.Common.{List, subst}
use Rattle.spv_module.specs.declared.operand.Operand.{Operand}
use Rattle.spv_module.specs.Module.{plain_inst, plain_operands}
use Rattle.spv_extended.specs.Miscalled.{is_miscall}
use Rattle.spv_extended.specs.Sets.{set_in}
use Rattle.spv_std_types.specs.declared.calls.Look.TheVariants as look
use Rattle.spv_std_types.specs.Mistyped.{Mistypes}
use Rattle.spv_std_types.specs.inner.Looking.{Tells}
use Rattle.spv_std_types.proofs.Passing.{is_miscalled, passed_other, passed_std}
use Rattle.spv_std_types.proofs.calls.pass_over.Goals as goal

pub returns-in-Other : goal.returns-in-Other
returns-in-Other c =
    let is = c.args.definitions.now in
    let told = subst
    (λ (os : List Operand). Tells is (is_miscall (set_in is) (plain_operands os)) (Mistypes is (plain_operands os)) look.Other)
    c.as_slice.ensures.value c.in-Other.ensures in
    passed_other is c.args.number c.args.pass (plain_inst c.args.inst.now) c.requires.passed c.requires.there
    c.requires.called told

pub returns-in-Missing : goal.returns-in-Missing
returns-in-Missing c =
    let is = c.args.definitions.now in
    let told = subst
    (λ (os : List Operand). Tells is (is_miscall (set_in is) (plain_operands os)) (Mistypes is (plain_operands os)) look.Missing)
    c.as_slice.ensures.value c.in-Missing.ensures in
    is_miscalled is c.args.number (plain_inst c.args.inst.now) c.requires.there c.requires.called told

pub returns-in-Std : goal.returns-in-Std
returns-in-Std c =
    let is = c.args.definitions.now in
    let told = subst
    (λ (os : List Operand). Tells is (is_miscall (set_in is) (plain_operands os)) (Mistypes is (plain_operands os)) (look.Std c.in-Std.set c.in-Std.condition))
    c.as_slice.ensures.value c.in-Std.ensures in
    passed_std is c.args.number c.args.pass (plain_inst c.args.inst.now) c.in-Std.set c.in-Std.condition
    c.first_of.result c.requires.passed c.requires.there c.requires.called told c.first_of.ensures.first
    c.first_of.ensures.next
