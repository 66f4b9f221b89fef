use Rattle.std.proofs.Common.{[], refl}
use Rattle.spv_run.proofs.Worked.{defined, undeclared}
use Rattle.spv_run.proofs.laws.row_examples.Goals as goal

pub returns : goal.returns
returns c = record {
  defined = defined [];
  undeclared = undeclared;
  argument = refl;
  other_argument = λ r. cc;
  no_argument = λ r. cc;
  returned = refl;
  other_returned = λ r. cc;
}
