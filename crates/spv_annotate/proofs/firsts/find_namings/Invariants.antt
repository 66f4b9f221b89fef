use Rattle.std.proofs.Common.{◌≡◌, ◌≤◌, ℕ, drop, length, map}
use Rattle.std.specs.List.{position_from}
use Rattle.spv_table.specs.Lookups.{is_number}
use Rattle.spv_module.specs.Module.{plain_inst}
use Rattle.spv_annotate.specs.Module.{named_by}
use Rattle.spv_annotate.specs.inner.Numbers.{kept}
use Rattle.spv_annotate.proofs.firsts.find_namings.Given as goal

abbrev pub decreases-loop-at : goal.decreases-loop-at
decreases-loop-at l = l.at

abbrev pub invariant-loop-at : goal.invariant-loop-at
invariant-loop-at l = record {
  within : l.at ≤ length l.insts;
  first : (x : ℕ) → kept l.numbers x ≡ position_from (λ i. is_number x (named_by i)) l.at
      (drop l.at (map plain_inst l.insts));
}
