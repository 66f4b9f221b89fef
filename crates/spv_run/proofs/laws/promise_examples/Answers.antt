use Rattle.std.proofs.Common.{[]}
use Rattle.spv_run.proofs.Worked.{starts, starts_before, entry_id, no_entry_id, gets_stuck, not_sound}
use Rattle.spv_run.proofs.Lone.{never_stuck}
use Rattle.spv_run.proofs.laws.promise_examples.Goals as goal

pub returns : goal.returns
returns c = record {
  start = starts [];
  no_start = starts_before;
  entry = entry_id;
  no_entry = no_entry_id c.call_examples.ensures.no_entry;
  free = never_stuck;
  stuck = gets_stuck;
  unsound = λ G bound. not_sound G bound c.call_examples.ensures.broken;
}
