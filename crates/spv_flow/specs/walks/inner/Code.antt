-- What is known of the instructions that are looked at. (For the code alone.)
use Rattle.std.specs.Prelude.{◌<◌, ℕ, List, map}
use Rattle.spv_table.specs.Table.{Table}
use Rattle.spv_module.specs.Operand.{PlainInst}
use Rattle.spv_module.specs.Module.{plain_inst}
use Rattle.spv_layout.specs.Stage.{of_branches}
use Rattle.spv_layout.specs.Place.{AreFew}
use Rattle.spv_layout.specs.First.{IsUnbroken}
use Rattle.spv_layout.specs.Plan.{IsPlan}
use Rattle.spv_ids.specs.Outcome.{AreIds}
use Rattle.spv_flow.specs.declared.branches.fork.Fork.TheVariants.{Free}
use Rattle.spv_flow.specs.branches.Broken.{Broken}
use Rattle.spv_flow.specs.branches.Target.{IsOp}
use Rattle.spv_flow.specs.branches.inner.Target.{is_function}
use Rattle.spv_flow.specs.declared.walks.code.Code.{Code}

abbrev pub insts_of : Code → List PlainInst
insts_of c = map plain_inst c.insts.now

-- The plan and the ids are those of the instructions, the branches are sound apart from F4,
-- and the first OpFunction is known.
pub record IsCode (G : Table) (c : Code) : Type 0 where
  pub plan : IsPlan G (insts_of c) c.plan.now
  pub bound : ℕ
  pub ids : AreIds G bound (insts_of c) c.ids.now
  pub branches : IsUnbroken (Broken Free G (insts_of c)) of_branches
  pub most : AreFew c.insts.now
  pub global : (k : ℕ) → k < c.globals → ¬ (IsOp (insts_of c) k is_function)
