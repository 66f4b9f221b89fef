use Rattle.std.proofs.Common.{[]}
use Rattle.spv_run.specs.State.{Stuck}
use Rattle.spv_run.proofs.Worked.{alone_void, at_label, at_return, at_end, whole, short, at_the_end, not_nothing}
use Rattle.spv_run.proofs.laws.run_examples.Goals as goal

pub returns : goal.returns
returns c = record {
  label = λ G. at_label G [];
  finishes = λ G. at_return G [] alone_void;
  over = at_end;
  whole = λ G. whole G [] alone_void;
  short = short;
  stuck = at_the_end;
  not_stuck = λ G. not_nothing G Stuck;
}
