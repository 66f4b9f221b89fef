use Rattle.std.proofs.Common.{List, subst}
use Rattle.std.specs.List.{AllByRecursion}
use Rattle.std.proofs.lemmas.Bool.{iff_false}
use Rattle.spv_module.specs.Module.{plain_inst, plain_operands}
use Rattle.spv_module.specs.declared.operand.Operand.{Operand}
use Rattle.spv_capabilities.specs.Capable.{IsCoveredOperand}
use Rattle.spv_form_evidence.specs.capabilities.Evidence.{IsUncovered}
use Rattle.spv_form_evidence.proofs.lemmas.capabilities.Needed.{not_needed}
use Rattle.spv_form_evidence.proofs.capabilities.needs.lister.Goals as goal

pub returns-then-not-is_covered_entry : goal.returns-then-not-is_covered_entry
returns-then-not-is_covered_entry c =
    IsUncovered.entry (iff_false c.is_covered_entry.ensures c.if-not-is_covered_entry.true)

pub unmet-requires : goal.unmet-requires
unmet-requires c =
    let G = c.args.survey.now.table in
    let is = c.args.survey.now.insts in
    let same = c.as_slice.ensures.value in
    let P : List Operand → Type 0 = λ os. AllByRecursion (IsCoveredOperand G is) (plain_operands os) in
    let all = subst P same c.in-None.ensures in
    let entry = c.is_covered_entry.ensures.0 c.if-not-is_covered_entry.false in
    not_needed G is (plain_inst c.args.inst.now) c.requires entry all
