use Rattle.std.proofs.Common.{◌≡◌, ◌++◌, take, map}
use Rattle.spv_module.specs.Module.{plain_inst}
use Rattle.spv_inst.specs.inner.Batch.{head_inst}
use Rattle.spv_inst.proofs.batch.Batch.move_into.Given as goal

abbrev pub invariant-loop-head : goal.invariant-loop-head
invariant-loop-head l = record {
  shared : l.shared.value.items ≡ l.fn.self.operands.items;
  heads : l.head-items ≡ l.fn.self.heads.items;
  moved : map plain_inst l.insts.items ≡ map plain_inst l.fn.insts.items
      ++ map (head_inst l.fn.self.operands.items) (take l.head-index l.fn.self.heads.items);
}
