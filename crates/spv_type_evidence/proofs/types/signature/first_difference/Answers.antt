use Rattle.std.proofs.Common.{arith}
use Rattle.spv_module.specs.Module.{plain_inst, plain_operands}
use Rattle.spv_layout.specs.Place.{AreFew}
use Rattle.spv_type_evidence.proofs.lemmas.types.Differing.{not_typed, other_returned, other_number, few_parameters}
use Rattle.spv_type_evidence.proofs.lemmas.types.Differing.{no_difference}
use Rattle.spv_type_evidence.proofs.types.signature.first_difference.Goals as goal

pub returns-in_default : goal.returns-in_default
returns-in_default c =
    not_typed c.args.definitions.now (plain_inst c.args.function.now) c.args.r c.args.count c.function_type.result
    c.requires c.function_type.ensures c.in_default.ensures

pub returns-then-t-r : goal.returns-then-t-r
returns-then-t-r c =
    other_returned c.args.definitions.now (plain_inst c.args.function.now) c.args.r c.args.count
    c.split_signature-t.result.0 (plain_operands c.in-Some.signature.now)
    (plain_operands c.split_signature-t.result.1.now) c.in-Some.ensures c.split_signature-t.ensures c.if-t-r.true

pub overflow_cast-wanted : goal.overflow_cast-wanted
overflow_cast-wanted c =
    let few : AreFew c.split_signature-t.result.1.now =
    few_parameters c.args.definitions.now (plain_inst c.args.function.now) c.split_signature-t.result.0
    (plain_operands c.in-Some.signature.now) c.split_signature-t.result.1.now
    c.requires c.in-Some.ensures c.split_signature-t.ensures
    in
    omega arith

pub returns-then-wanted-count : goal.returns-then-wanted-count
returns-then-wanted-count c =
    other_number c.args.definitions.now (plain_inst c.args.function.now) c.args.r c.args.count
    c.split_signature-t.result.0 (plain_operands c.in-Some.signature.now) c.split_signature-t.result.1.now
    c.in-Some.ensures c.split_signature-t.ensures c.if-wanted-count.true

pub returns : goal.returns
returns c =
    no_difference c.args.definitions.now (plain_inst c.args.function.now) c.args.r c.args.count
    c.split_signature-t.result.0 (plain_operands c.in-Some.signature.now) c.split_signature-t.result.1.now
    c.in-Some.ensures c.split_signature-t.ensures c.if-t-r.false c.if-wanted-count.false
