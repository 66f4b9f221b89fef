use Rattle.std.proofs.Common.{arith}
use Rattle.std.proofs.lemmas.Option.{slice_get_within}
use Rattle.spv_module.specs.Module.{plain_inst}
use Rattle.spv_type_evidence.proofs.lemmas.types.Placed.{return_function, value_function}
use Rattle.spv_type_evidence.proofs.lemmas.types.Shaped.{value_shape}
use Rattle.spv_type_evidence.proofs.types.evidence_of_return.Goals as goal

pub return_evidence-requires-clause-function : goal.return_evidence-requires-clause-function
return_evidence-requires-clause-function c =
    return_function c.requires.known.0 c.args.definitions.now c.args.number
    (plain_inst c.args.inst.now) c.requires.known.1 c.requires.there c.in-253.is

pub return_evidence-requires-clause-within : goal.return_evidence-requires-clause-within
return_evidence-requires-clause-within c =
    slice_get_within c.args.definitions.now c.args.number (plain_inst c.args.inst.now) c.requires.there

pub return_evidence-requires-clause-broken : goal.return_evidence-requires-clause-broken
return_evidence-requires-clause-broken c =
    λ h. c.requires.broken (record { nothing = λ o. h; value = λ o. absurd (omega (arith, o, c.in-253.is)) })

pub value_evidence-requires-clause-opcode : goal.value_evidence-requires-clause-opcode
value_evidence-requires-clause-opcode c = c.in-254.is

pub value_evidence-requires-clause-broken : goal.value_evidence-requires-clause-broken
value_evidence-requires-clause-broken c =
    λ h. c.requires.broken (record { nothing = λ o. absurd (omega (arith, o, c.in-254.is)); value = λ o. h })

pub value_evidence-requires-clause-within : goal.value_evidence-requires-clause-within
value_evidence-requires-clause-within c =
    slice_get_within c.args.definitions.now c.args.number (plain_inst c.args.inst.now) c.requires.there

pub value_evidence-requires-clause-function : goal.value_evidence-requires-clause-function
value_evidence-requires-clause-function c =
    value_function c.requires.known.0 c.args.definitions.now c.args.number
    (plain_inst c.args.inst.now) c.requires.known.1 c.requires.there c.in-254.is

pub value_evidence-requires-clause-shape : goal.value_evidence-requires-clause-shape
value_evidence-requires-clause-shape c =
    value_shape c.requires.known.0 c.args.definitions.now c.args.number
    (plain_inst c.args.inst.now) c.requires.known.1 c.requires.there c.in-254.is

pub returns-in-253 : goal.returns-in-253
returns-in-253 c = λ G. c.return_evidence.ensures G (plain_inst c.args.inst.now) c.in-253.is

pub returns-in-254 : goal.returns-in-254
returns-in-254 c = c.value_evidence.ensures
