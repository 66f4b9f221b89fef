use Rattle.std.proofs.Common.{◌≡◌, ◌∙◌, List, Ok, Err, ap, map, subst}
use Rattle.spv_module.specs.Operand.{PlainInst}
use Rattle.spv_module.specs.Module.{plain_inst}
use Rattle.spv_names.specs.Chosen.{IsChosen}
use Rattle.spv_names.specs.declared.chosen.NameError.TheVariants.{Absent, Several}
use Rattle.spv_commands.proofs.tracing.id_in.Goals as goal

pub returns-in-Ok-clause-id : goal.returns-in-Ok-clause-id
returns-in-Ok-clause-id c =
    let same : map plain_inst c.as_slice.result.now ≡ c.args.checked.now.insts =
    ap (map plain_inst) c.as_slice.ensures.value ∙ c.parts-parts.ensures.some.2.insts in
    subst (λ (is : List PlainInst). IsChosen is c.args.function (Ok c.in-Ok.id)) same c.in-Ok.ensures

pub returns-in-Err-Absent-clause-why : goal.returns-in-Err-Absent-clause-why
returns-in-Err-Absent-clause-why c =
    let same : map plain_inst c.as_slice.result.now ≡ c.args.checked.now.insts =
    ap (map plain_inst) c.as_slice.ensures.value ∙ c.parts-parts.ensures.some.2.insts in
    subst (λ (is : List PlainInst). IsChosen is c.args.function (Err Absent)) same
    (rw c.in-Err-Absent.field-0-is at c.in-Err-Absent.ensures)

pub returns-in-Err-Several-clause-why : goal.returns-in-Err-Several-clause-why
returns-in-Err-Several-clause-why c =
    let same : map plain_inst c.as_slice.result.now ≡ c.args.checked.now.insts =
    ap (map plain_inst) c.as_slice.ensures.value ∙ c.parts-parts.ensures.some.2.insts in
    subst (λ (is : List PlainInst). IsChosen is c.args.function (Err Several)) same
    (rw c.in-Err-Several.field-0-is at c.in-Err-Several.ensures)
