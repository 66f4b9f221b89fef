use Rattle.std.proofs.Common.{◌≡◌, Some}
use Rattle.spv_module.specs.Module.{plain_operands}
use Rattle.spv_module.specs.Width.{type_of}
use Rattle.spv_type_kinds.specs.Operands.{ids_in}
use Rattle.spv_ops.proofs.TagTests.{element_typed}
use Rattle.spv_ops.proofs.chain.chain_at.Goals as goal

pub returns-in-Some-Some : goal.returns-in-Some-Some
returns-in-Some-Some c =
    let e : type_of c.args.definitions.now c.args.x ≡ Some c.in-Some-Some.o = cc in
    let f : type_of c.args.definitions.now c.args.y ≡ Some c.in-Some-Some.p = cc in
    let d = element_typed c.args.definitions.now c.args.r c.in-Some-Some.o c.in-Some-Some.p c.args.x c.args.y
    (ids_in (plain_operands c.args.indexes.now)) e f in
    (λ y. d.0 (c.element_leads.ensures.0 y), λ r. c.element_leads.ensures.1 (d.1 r))
