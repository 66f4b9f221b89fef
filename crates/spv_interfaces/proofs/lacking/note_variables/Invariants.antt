use Rattle.std.proofs.Common.{◌≡◌, length}
use Rattle.spv_interfaces.proofs.Missing.{AllNoted, AreNotedOf}
use Rattle.spv_interfaces.proofs.lacking.note_variables.Given as goal

abbrev pub invariant-loop-k : goal.invariant-loop-k
invariant-loop-k l = record {
  count : length l.named.items ≡ length l.fn.named.items;
  sound : AreNotedOf l.few l.named.items;
  complete : AllNoted l.few l.k l.named.items;
}
