use Rattle.std.proofs.Common.{◌≡◌, ◌++◌, ℕ, drop, map}
use Rattle.spv_module.specs.Module.{plain_inst}
use Rattle.spv_pictures.specs.Calls.{entry_lines, entry_names}
use Rattle.spv_pictures.specs.inner.Names.{kept}
use Rattle.spv_pictures.proofs.calls.entry_lines_of.Given as goal

abbrev pub invariant-loop-inst : goal.invariant-loop-inst
invariant-loop-inst l = (x : ℕ)
    → kept l.entries x ++ entry_lines (entry_names (map plain_inst (drop l.inst-index l.insts)) x)
    ≡ entry_lines (entry_names (map plain_inst l.insts) x)
