use Rattle.std.proofs.Common.{ℕ, ◌<◌}
use Rattle.spv_declarations.specs.Declarations.{IsOfNoMember}
use Rattle.spv_declarations.proofs.member.first_of_no_member.Given as goal

abbrev pub invariant-loop-number : goal.invariant-loop-number
invariant-loop-number l = (k : ℕ) → k < l.number → ¬ (IsOfNoMember l.definitions k)
