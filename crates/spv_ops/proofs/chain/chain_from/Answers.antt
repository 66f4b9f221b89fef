use Rattle.std.proofs.Common.{◌≡◌, Some, sym, ◌∙◌}
use Rattle.spv_module.specs.Module.{plain_operands}
use Rattle.spv_module.specs.Width.{type_of}
use Rattle.spv_type_kinds.specs.Operands.{ids_in}
use Rattle.spv_ops.proofs.TagTests.{chain_typed}
use Rattle.spv_ops.proofs.chain.chain_from.Goals as goal

pub returns-in-Some : goal.returns-in-Some
returns-in-Some c =
    let e : type_of c.args.definitions.now c.args.x ≡ Some c.in-Some.o = sym c.type_of.ensures ∙ c.in-Some.is in
    let d = chain_typed c.args.definitions.now c.args.r c.in-Some.o c.args.x
    (ids_in (plain_operands c.args.indexes.now)) e in
    (λ y. d.0 (c.ints_lead.ensures.0 y), λ r. c.ints_lead.ensures.1 (d.1 r))
