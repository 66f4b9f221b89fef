use Rattle.std.proofs.Common.{arith, ◌≡◌, [], true, false}
use Rattle.spv_module.specs.Module.{plain_operands}
use Rattle.spv_type_kinds.specs.Operands.{ids_in}
use Rattle.spv_ops.proofs.Pointing.{none_elements}
use Rattle.std.proofs.lemmas.Grind.{common_steps}
use Rattle.spv_ops.proofs.chain.element_chain.Goals as goal

pub returns-in_default : goal.returns-in_default
returns-in_default c = grind (arith, common_steps)

pub returns-in-Id : goal.returns-in-Id
returns-in-Id c = grind (arith, common_steps)

pub returns-in_default-2 : goal.returns-in_default-2
returns-in_default-2 c =
    let e : ids_in (plain_operands c.args.operands.now) ≡ [] = grind (arith, common_steps) in (
      λ h. absurd (let no : false ≡ true = h in cc),
      λ h. absurd (none_elements c.args.definitions.now c.args.r _ _ e h),
    )
