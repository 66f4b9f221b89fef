use Rattle.std.proofs.Common.{◌≡◌, ◌++◌, drop}
use Rattle.spv_module.specs.Module.{plain_operands}
use Rattle.spv_extended.specs.Opened.{opened_from}
use Rattle.spv_extended.proofs.opening.add_behind.Given as goal

abbrev pub invariant-loop-place : goal.invariant-loop-place
invariant-loop-place l = plain_operands l.list.items ++ opened_from l.set l.signature l.place (plain_operands (drop l.place l.behind))
    ≡ plain_operands l.fn.list.items ++ opened_from l.set l.signature 0 (plain_operands l.behind)
