use Rattle.spv_extended.specs.Opened.{opened}
use Rattle.spv_extended.specs.Sets.{set_in}
use Rattle.spv_opening.proofs.Alike.{alike_opened}
use Rattle.spv_opening.proofs.Calls.{calls_broken}
use Rattle.spv_opening.proofs.Flow.{flow_broken}
use Rattle.spv_opening.proofs.Ids.{ids_broken}
use Rattle.spv_opening.proofs.Layouts.{layout_broken}
use Rattle.spv_opening.proofs.Rules.{roles_broken}
use Rattle.spv_opening.proofs.laws.broken_opened.Goals as goal

pub returns : goal.returns
returns c = record {
  layout = λ p G is. layout_broken p G (set_in is) is;
  ids = λ G bound is. ids_broken G bound (set_in is) is;
  roles = λ G is. roles_broken G (set_in is) is;
  flow = λ fork G is. flow_broken fork G (set_in is) is;
  calls = λ is. calls_broken is (opened is) (alike_opened (set_in is) is);
}
