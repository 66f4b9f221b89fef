use Rattle.std.proofs.Common.{◌≡◌, length}
use Rattle.spv_interfaces.proofs.Missing.{AllUsers, AreUsers}
use Rattle.spv_interfaces.proofs.lacking.note_users.Given as goal

abbrev pub invariant-loop-found : goal.invariant-loop-found
invariant-loop-found l = record {
  count : length l.reached.items ≡ length l.fn.reached.items;
  sound : AreUsers l.uses l.named l.reached.items;
  complete : AllUsers l.uses l.named l.found-index l.reached.items;
}
