-- What evidence shows, by how an instruction takes values.
use Rattle.std.specs.Prelude.{ℕ, List}
use Rattle.spv_table.specs.Table.{Table}
use Rattle.spv_module.specs.Operand.{PlainInst}
use Rattle.spv_module.specs.declared.fault.Rule.TheVariants.{A1, A2}
use Rattle.spv_evidence.specs.declared.evidence.Evidence.{Evidence}
use Rattle.spv_flow_evidence.specs.walks.Evidence.{IsEvidence}
use Rattle.spv_flow_evidence.specs.declared.walks.queries.Taking.{Taking}
use Rattle.spv_flow_evidence.specs.declared.walks.queries.Taking.TheVariants.{Uses, Pairs}

abbrev pub IsShown : Table → List PlainInst → Taking → ℕ → Evidence → Type 0
IsShown G is Uses n e = IsEvidence G is A1 n e
IsShown G is Pairs n e = IsEvidence G is A2 n e
