use Rattle.std.proofs.Common.{◌++◌, List, map, take}
use Rattle.spv_inst.specs.inner.Known.{Knows}
use Rattle.spv_module.specs.Module.{plain_inst}
use Rattle.spv_module.specs.Operand.{PlainInst}
use Rattle.spv_printer.proofs.inst.add_all.Given as goal

abbrev pub invariant-loop-inst : goal.invariant-loop-inst
invariant-loop-inst l = (before : List PlainInst) → Knows l.fn.definitions before
    → Knows l.definitions (before ++ map plain_inst (take l.inst-index l.insts))
