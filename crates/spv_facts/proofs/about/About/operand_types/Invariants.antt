use Rattle.std.proofs.Common.{◌≡◌, ◌++◌, drop, map}
use Rattle.spv_module.specs.Module.{plain_insts, plain_operands}
use Rattle.spv_facts.specs.Owners.{operand_type}
use Rattle.spv_facts.proofs.about.About.operand_types.Given as goal

abbrev pub invariant-loop-operand : goal.invariant-loop-operand
invariant-loop-operand l =
    l.types.items ++ map (operand_type (plain_insts l.fn.self.«module».now))
    (plain_operands (drop l.operand-index l.fn.operands))
    ≡ map (operand_type (plain_insts l.fn.self.«module».now)) (plain_operands l.fn.operands)
