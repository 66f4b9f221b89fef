use Rattle.std.proofs.Common.{◌≡◌, ◌+◌, ◌∙◌, sym, ap, map, drop}
use Rattle.std.proofs.lemmas.List.{drop-map, take_rest}
use Rattle.spv_module.specs.Module.{plain_inst}
use Rattle.spv_type_rules.specs.inner.Function.{parameters_in}
use Rattle.spv_type_evidence.proofs.lemmas.types.Placed.{parameter_function}
use Rattle.spv_type_evidence.proofs.lemmas.types.Shaped.{function_shape}
use Rattle.spv_type_evidence.proofs.types.evidence_of_function.Goals as goal

pub function_evidence-requires-clause-shape : goal.function_evidence-requires-clause-shape
function_evidence-requires-clause-shape c =
    function_shape c.requires.known.0 c.args.definitions.now c.args.number
    (plain_inst c.args.inst.now) c.requires.known.1 c.requires.there c.in-54.is

pub function_evidence-requires-clause-count : goal.function_evidence-requires-clause-count
function_evidence-requires-clause-count c =
    let s = c.args.insts.now in
    let k = c.args.number + 1 in
    let e : map plain_inst (drop k s) ≡ drop k c.args.definitions.now = sym (drop-map plain_inst k s)
    ∙ ap (drop k) c.requires.insts in
    sym (c.count_parameters-count.ensures ∙ ap (λ xs. parameters_in (map plain_inst xs)) (take_rest s k)
    ∙ ap parameters_in e)

pub parameter_evidence-requires-clause-shape : goal.parameter_evidence-requires-clause-shape
parameter_evidence-requires-clause-shape c =
    parameter_function c.requires.known.0 c.args.definitions.now c.args.number
    (plain_inst c.args.inst.now) c.requires.known.1 c.requires.there c.in-55.is
