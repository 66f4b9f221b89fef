use Rattle.std.proofs.Common.{◌<◌, ℕ, length}
use Rattle.spv_module.specs.Module.{plain_operands}
use Rattle.spv_type_forms.specs.inner.Null.{MemberLacks}
use Rattle.spv_type_forms.proofs.nulls.one_lacks.Given as goal

abbrev pub invariant-loop-k : goal.invariant-loop-k
invariant-loop-k l =
    (j : ℕ) → j < l.k → ¬ (MemberLacks l.definitions (length l.lacks) (plain_operands l.members) j)
