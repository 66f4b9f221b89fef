use Rattle.std.proofs.Common.{◌≡◌, ◌≤◌, ◌+◌, ◌-◌, drop, length}
use Rattle.std.specs.List.{position_or_len}
use Rattle.spv_pictures.specs.Function.{ends_function}
use Rattle.spv_module.specs.declared.module.Inst.{Inst}
use Rattle.spv_pictures.proofs.function.body_of.Given as goal

abbrev pub invariant-loop-count : goal.invariant-loop-count
invariant-loop-count l =
    (l.count ≤ length l.insts) × (position_or_len
    (λ (i : Inst). ends_function i.opcode) l.insts ≡ l.count + position_or_len (λ (i : Inst). ends_function i.opcode)
    (drop l.count l.insts))

abbrev pub decreases-loop-count : goal.decreases-loop-count
decreases-loop-count l = length l.insts - l.count
