use Rattle.std.proofs.Common.{◌≡◌, ◌<◌, ◌∙◌, ap, subst}
use Rattle.spv_module.specs.Operand.{type_in}
use Rattle.spv_module.specs.Module.{plain_inst, plain_operands}
use Rattle.spv_type_evidence.proofs.lemmas.types.Parameters.{between, parameter_shows}
use Rattle.spv_type_evidence.proofs.types.function.parameter_evidence.Goals as goal

pub returns : goal.returns
returns c = λ G.
    let is = c.args.definitions.now in
    let i = plain_inst c.args.inst.now in
    let f = c.in-Some.function.number in
    let one = c.in-Some.ensures in
    let t = c.requires.shape in
    let same : t.function.number ≡ f = one.one t.function.number t.function.of.of in
    let later : f < c.args.number = subst (λ g. g < c.args.number) same t.later in
    let place = between is c.args.insts.now f c.args.number c.parameter_count-before.result c.requires.insts later
    c.parameter_count-before.ensures in
    let found : c.type_in.result ≡ type_in i.operands = c.type_in.ensures
    ∙ ap (λ os. type_in (plain_operands os)) c.as_slice.ensures.value in
    rw c.function_type.ensures (parameter_shows G is c.args.number f c.parameter_count-before.result i
    (plain_inst c.in-Some.function.inst.now) c.parameter_type.result c.type_in.result c.requires.parameter t one
    place
    c.parameter_type.ensures found c.requires.broken)
