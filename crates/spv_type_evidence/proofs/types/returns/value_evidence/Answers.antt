use Rattle.std.proofs.Common.{◌≡◌, ◌∙◌, Some, ap}
use Rattle.spv_module.specs.Module.{plain_inst, plain_operands}
use Rattle.spv_module.specs.Width.{type_of, first_id}
use Rattle.spv_type_evidence.proofs.lemmas.types.Returning.{value_shows}
use Rattle.spv_type_evidence.proofs.types.returns.value_evidence.Goals as goal

pub returns : goal.returns
returns c = λ G.
    let v = c.requires.shape in
    let one : Some c.in-Some.x ≡ Some v.id = c.in-Some.ensures
    ∙ ap (λ os. first_id (plain_operands os)) c.as_slice.ensures.value ∙ ap first_id v.operands in
    let same : c.in-Some.x ≡ v.id = cc in
    let found : c.type_of.result ≡ Some v.found = c.type_of.ensures ∙ ap (type_of c.args.definitions.now) same
    ∙ v.typed in
    rw found (value_shows G c.args.definitions.now c.args.number c.returned_type.result
    (plain_inst c.args.inst.now) v c.returned_type.ensures c.requires.broken c.requires.opcode)
