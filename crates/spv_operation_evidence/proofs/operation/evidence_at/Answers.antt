use Rattle.std.proofs.Common.{◌≡◌, ◌∙◌, ap}
use Rattle.spv_module.specs.Module.{plain_inst, plain_operands}
use Rattle.spv_type_kinds.specs.Operands.{result_type_in}
use Rattle.spv_readings.specs.Named.{IsDefinedBy}
use Rattle.spv_readings.specs.Values.{types_in}
use Rattle.spv_operation_evidence.specs.Beside.{operand_in}
use Rattle.spv_operation_evidence.specs.Evidence.{AreTyped}
use Rattle.spv_operation_evidence.proofs.lemmas.Valued.{all_break, operation_shows}
use Rattle.spv_operation_evidence.proofs.operation.evidence_at.Goals as goal

pub unreachable-requires : goal.unreachable-requires
unreachable-requires c =
    let is = c.args.definitions.now in
    let i = plain_inst c.args.inst.now in
    let b = c.requires.broken in
    let vs = c.as_slice-values.result.now in
    let r : c.result_type-r.result ≡ result_type_in i.operands = c.result_type-r.ensures
    ∙ ap (λ os. result_type_in (plain_operands os)) c.as_slice.ensures.value in
    let t : AreTyped b.0 is i vs = rw c.as_slice-values.ensures.value (c.in_ok-typed.ensures.typed b.0 b.1) in
    let ts : c.as_slice-types.result.now ≡ types_in vs = c.as_slice-types.ensures.value ∙ c.in_ok-declared.ensures in
    b.2 (all_break b.0 is c.args.number i c.result_type-r.result vs c.as_slice-types.result.now
    c.asks_of-line.result.now r ts c.asks_of-line.ensures t c.in_default.ensures)

pub returns : goal.returns
returns c = λ G fits never.
    let is = c.args.definitions.now in
    let i = plain_inst c.args.inst.now in
    let vs = c.as_slice-values.result.now in
    let a = c.in-Some.asked in
    let r : c.result_type-r.result ≡ result_type_in i.operands = c.result_type-r.ensures
    ∙ ap (λ os. result_type_in (plain_operands os)) c.as_slice.ensures.value in
    let t : AreTyped G is i vs = rw c.as_slice-values.ensures.value (c.in_ok-typed.ensures.typed G fits) in
    let ts : c.as_slice-types.result.now ≡ types_in vs = c.as_slice-types.ensures.value ∙ c.in_ok-declared.ensures in
    let by : IsDefinedBy is i (operand_in is i vs a) c.defined_by.result = rw c.operand_in-operand.ensures at
    c.defined_by.ensures is c.requires.ids in
    rw (
      c.operand_in-operand.ensures,
      c.condition_in.ensures,
      c.wanted_in.ensures,
      c.found_in.ensures,
      c.from_vec.ensures,
      c.in_ok-read.ensures,
    )
    (operation_shows G is c.args.number i c.result_type-r.result vs c.as_slice-types.result.now
    c.asks_of-line.result.now a c.defined_by.result r ts c.asks_of-line.ensures t c.in-Some.ensures by never)
