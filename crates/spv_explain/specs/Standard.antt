-- Evidence for the rules O: what shows that a kernel of OpenCL is not as the standard asks besides. [own]
use Rattle.std.specs.Prelude.{ℕ, List}
use Rattle.spv_table.specs.Table.{Table}
use Rattle.spv_module.specs.Operand.{PlainInst}
use Rattle.spv_module.specs.declared.fault.Rule.{Rule}
use Rattle.spv_extended.specs.declared.reach.Reach.{Reach}
use Rattle.spv_extended.specs.declared.reach.Reach.TheVariants.{Profile, Extended, OpenCl}
use Rattle.spv_evidence.specs.declared.evidence.Evidence.{Evidence}
use Rattle.spv_standard_evidence.specs.Evidence as found

-- It shows that the rule is broken at the instruction of that number, as far as the list is looked at: these rules are
-- asked of kernels of OpenCL alone. [own]
abbrev pub IsEvidence : Table → Reach → List PlainInst → Rule → ℕ → Evidence → Type 0
IsEvidence G Profile is r n e = ⊥
IsEvidence G Extended is r n e = ⊥
IsEvidence G (OpenCl minor) is r n e = found.IsEvidence G minor is r n e
