use Rattle.std.proofs.Common.{◌≡◌, drop}
use Rattle.std.specs.List.{list_any}
use Rattle.spv_fault_lines.specs.Classes.{sounds_as}
use Rattle.spv_fault_lines.proofs.classes.has_told.Given as goal

abbrev pub invariant-loop-told : goal.invariant-loop-told
invariant-loop-told l =
    list_any (sounds_as l.fn.class) (drop l.told-index l.fn.classes) ≡ list_any (sounds_as l.fn.class) l.fn.classes
