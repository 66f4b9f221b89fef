use Rattle.std.proofs.Common.{◌≡◌, ◌++◌, ◌≤◌, ◌-◌, map, length}
use Rattle.spv_module.specs.Module.{plain_inst}
use Rattle.spv_inst.specs.inner.Batch.{batch_insts, IsTidy}
use Rattle.spv_inst.specs.inner.Known.{Knows}
use Rattle.spv_inst.proofs.Decoding.{SofarListed}
use Rattle.spv_inst.proofs.decoder.read_all.Given as goal

abbrev pub invariant-loop-at : goal.invariant-loop-at
invariant-loop-at l = record {
  tidy : IsTidy l.batch;
  few : length l.batch.operands.items ≤ l.at;
  number : l.number ≡ length (map plain_inst l.insts.items ++ batch_insts l.batch);
  knows : Knows l.definitions (map plain_inst l.insts.items ++ batch_insts l.batch);
  listed : SofarListed l.table l.image (map plain_inst l.insts.items ++ batch_insts l.batch) l.at;
}

abbrev pub decreases-loop-at : goal.decreases-loop-at
decreases-loop-at l = l.len - l.at
