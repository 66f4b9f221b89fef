use Rattle.std.proofs.Common.{◌≡◌, ◌<◌, ℕ, Some}
use Rattle.std.specs.Prelude.{slice_get}
use Rattle.spv_module.specs.Operand.{PlainInst}
use Rattle.spv_declarations.specs.Given.{Gives}
use Rattle.spv_declarations.specs.Table.{IsNeverOnMembers}
use Rattle.spv_standard_evidence.proofs.placements.never_place.Given as goal

abbrev pub invariant-loop-number : goal.invariant-loop-number
invariant-loop-number l = (m : ℕ) (j : PlainInst) → m < l.number → slice_get l.definitions m ≡ Some j
    → ¬ ((d : ℕ) × Gives d j l.group × IsNeverOnMembers d)
