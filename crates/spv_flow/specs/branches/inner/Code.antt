-- What is known of the instructions that are looked at. (For the code alone.)
use Rattle.std.specs.Prelude.{ℕ, List, map}
use Rattle.spv_table.specs.Table.{Table}
use Rattle.spv_module.specs.Operand.{PlainInst}
use Rattle.spv_module.specs.Module.{plain_inst}
use Rattle.spv_layout.specs.Place.{AreFew}
use Rattle.spv_layout.specs.Plan.{IsPlan}
use Rattle.spv_ids.specs.Outcome.{IsDefinitionOf, definition_in}
use Rattle.spv_flow.specs.declared.branches.code.Code.{Code}

abbrev pub insts_of : Code → List PlainInst
insts_of c = map plain_inst c.insts.now

-- The plan and the ids are those of the instructions.
pub record IsCode (G : Table) (c : Code) : Type 0 where
  pub plan : IsPlan G (insts_of c) c.plan.now
  pub each : (x : ℕ) → IsDefinitionOf (insts_of c) x (definition_in c.ids.now x)
  pub most : AreFew c.insts.now
