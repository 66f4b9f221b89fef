use Rattle.spv_module.specs.Module.{plain_operands}
use Rattle.spv_type_evidence.proofs.lemmas.types.Firsts.{forward_holds, forward_fails}
use Rattle.spv_type_evidence.proofs.types.declaration.first_of_forward.Goals as goal

pub returns-then-is_pointer_after : goal.returns-then-is_pointer_after
returns-then-is_pointer_after c =
    forward_holds c.args.definitions.now c.args.number
    (plain_operands c.args.operands.now) c.in-Some.pointer c.in-Some.class c.in-Some.ensures
    (c.is_pointer_after.ensures.0 c.if-is_pointer_after.true)

pub returns-else-is_pointer_after : goal.returns-else-is_pointer_after
returns-else-is_pointer_after c =
    forward_fails c.args.definitions.now c.args.number
    (plain_operands c.args.operands.now) c.in-Some.pointer c.in-Some.class c.in-Some.ensures
    (λ h. let on = c.is_pointer_after.ensures.1 h in let off = c.if-is_pointer_after.false in cc)
