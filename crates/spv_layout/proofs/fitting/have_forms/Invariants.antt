use Rattle.std.proofs.Common.{◌≡◌, map, drop}
use Rattle.spv_module.specs.Module.{plain_operand}
use Rattle.spv_layout.specs.inner.Test.{are_of}
use Rattle.spv_layout.proofs.fitting.have_forms.Given as goal

abbrev pub invariant-loop-i : goal.invariant-loop-i
invariant-loop-i l = are_of l.kinds (drop l.i l.forms) (map plain_operand (drop l.i l.operands)) ≡ are_of l.kinds l.forms (map plain_operand l.operands)
