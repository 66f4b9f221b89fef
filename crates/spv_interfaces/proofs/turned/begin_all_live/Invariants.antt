use Rattle.std.proofs.Common.{◌≡◌, length}
use Rattle.spv_interfaces.specs.inner.Turned.{AreBegun}
use Rattle.spv_interfaces.proofs.turned.begin_all_live.Given as goal

abbrev pub invariant-loop-number : goal.invariant-loop-number
invariant-loop-number l = record {
  count : length l.live.items ≡ length l.definitions;
  begun : AreBegun l.definitions l.entries l.number-index l.live.items;
}
