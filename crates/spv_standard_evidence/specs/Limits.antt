-- What shows that O22 is broken: the number that is passed. [2.17]
use Rattle.std.specs.Prelude.{◌≡◌, ℕ, List, Some, slice_get}
use Rattle.spv_module.specs.Operand.{PlainInst}
use Rattle.spv_module.specs.declared.fault.Rule.{Rule}
use Rattle.spv_module.specs.declared.fault.Rule.TheVariants.{O22}
use Rattle.spv_limits.specs.declared.table.Limit.{Limit}
use Rattle.spv_limits.specs.declared.table.Limit.TheVariants as limit
use Rattle.spv_limits.specs.Past.{Passes}
use Rattle.spv_limits.specs.Table.{most}
use Rattle.spv_evidence.specs.declared.evidence.Evidence.{Evidence}
use Rattle.spv_evidence.specs.declared.evidence.Evidence.TheVariants.{Past}

-- the limit that an instruction passes [2.17]
abbrev pub limit_by : {is : List PlainInst} {n : ℕ} {i : PlainInst} → Passes is n i → Limit
limit_by (Passes.text p t o h) = limit.Characters
limit_by (Passes.members o h) = limit.Members
limit_by (Passes.depth d h m) = limit.Depth
limit_by (Passes.parameters o h) = limit.Parameters
limit_by (Passes.indexes f o h) = limit.Indexes
limit_by (Passes.pairs o h) = limit.Pairs
limit_by (Passes.arguments t x set number os c o s h) = limit.Arguments
limit_by (Passes.modes f o h) = limit.Modes
limit_by (Passes.globals v f h) = limit.Globals
limit_by (Passes.locals v f h) = limit.Locals

-- It shows that the rule is broken at the instruction of that number.
pub data IsEvidence (is : List PlainInst) : Rule → ℕ → Evidence → Type 0 where
  past : (n : ℕ) (i : PlainInst) (p : Passes is n i) → slice_get is n ≡ Some i
      → IsEvidence is O22 n (Past (most (limit_by p)))
