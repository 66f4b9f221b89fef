use Rattle.std.proofs.Common.{◌≡◌, Some, ap, ◌∙◌}
use Rattle.spv_module.specs.Operand.{type_in}
use Rattle.spv_module.specs.Module.{plain_inst, plain_operands}
use Rattle.spv_type_evidence.proofs.lemmas.types.Differing.{function_shows}
use Rattle.spv_type_evidence.proofs.types.function.function_evidence.Goals as goal

pub returns : goal.returns
returns c = λ G.
    let d = c.in-Some-first_difference.difference in
    let i = plain_inst c.args.inst.now in
    let t : Some c.in-Some.r ≡ type_in i.operands = c.in-Some.ensures
    ∙ ap (λ os. type_in (plain_operands os)) c.as_slice.ensures.value in
    rw (c.evidence.ensures, c.function_type.ensures) (
    function_shows G c.args.definitions.now c.args.number c.in-Some.r i d.side d.wanted d.found c.args.count
    c.requires.function t c.requires.count c.in-Some-first_difference.ensures)
