-- What shows a fault. (For the code alone.)
use Rattle.std.specs.Prelude.{◌≤◌, ℕ, List}
use Rattle.spv_table.specs.Table.{Table}
use Rattle.spv_module.specs.Operand.{PlainInst}
use Rattle.spv_module.specs.declared.fault.Fault.{Fault}
use Rattle.spv_extended.specs.declared.reach.Reach.{Reach}
use Rattle.spv_layout.specs.First.{stage_of}
use Rattle.spv_layout.specs.Stage.{of_profile}
use Rattle.spv_evidence.specs.declared.evidence.Evidence.{Evidence}
use Rattle.spv_explain.specs.Evidence.{IsEvidence}

-- From stage P on the evidence shows that the rule is broken at the instruction where it is told.
abbrev pub IsShownAt : Table → Reach → ℕ → List PlainInst → Fault → Evidence → Type 0
IsShownAt G reach bound is f e = of_profile ≤ stage_of f.rule → IsEvidence G reach bound is f.rule f.inst e
