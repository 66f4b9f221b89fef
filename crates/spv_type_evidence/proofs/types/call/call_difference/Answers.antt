use Rattle.spv_module.specs.Module.{plain_inst, plain_operands}
use Rattle.spv_type_evidence.proofs.lemmas.types.Calling.{head_differs, argument_differs}
use Rattle.spv_type_evidence.proofs.types.call.call_difference.Goals as goal

pub returns-in-Some : goal.returns-in-Some
returns-in-Some c =
    head_differs c.args.definitions.now (plain_inst c.args.callee.now) c.args.r c.args.arguments.now
    c.in-Some.difference.side c.in-Some.difference.wanted c.in-Some.difference.found c.in-Some.ensures

pub returns : goal.returns
returns c =
    argument_differs c.args.definitions.now (plain_inst c.args.callee.now) c.args.r c.split_signature.result.0
    (plain_operands c.in-Some-signature.signature.now) c.split_signature.result.1.now
    c.args.arguments.now c.in_ok-argument.argument.number c.in_ok-argument.argument.wanted
    c.in_ok-argument.argument.found c.in-Some-signature.ensures c.split_signature.ensures c.in_ok-argument.ensures
