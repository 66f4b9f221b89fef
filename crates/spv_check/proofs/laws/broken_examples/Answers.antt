use Rattle.std.proofs.Common.{refl, lit≤}
use Rattle.spv_module.specs.declared.fault.Rule.TheVariants.{A1, G1, O3, Y7, Y10}
use Rattle.spv_extended.specs.declared.reach.Reach.TheVariants.{Extended}
use Rattle.spv_flow.specs.calls.Example.{functions}
use Rattle.spv_std_types.specs.Broken as std_types
use Rattle.spv_std_types.specs.Example.{unlike}
use Rattle.spv_std_types.proofs.Worked.{unlike_mistyped}
use Rattle.spv_standard.specs.Example.{entries}
use Rattle.spv_check.specs.Broken.{Broken, Precedes}
use Rattle.spv_check.proofs.Firsts.{never_earlier, of_calls_stage, of_last_stage, of_std_types_stage}
use Rattle.spv_check.proofs.Mistypings.{types_not_asked}
use Rattle.spv_check.proofs.laws.broken_examples.Goals as goal

pub returns : goal.returns
returns c = record {
  cycle = λ G reach bound. Broken.of_calls G1 8 c.call_examples.ensures.broken;
  no_cycle = λ G reach bound n b. c.call_examples.ensures.not_reached n
      (of_calls_stage G reach bound functions G1 n refl b);
  earlier = Precedes.stage (lit≤ tt);
  later = never_earlier A1 Y7 3 9 (lit≤ tt);
  types = λ G minor bound. Broken.of_std_types Y10 22 (std_types.mistyped 22 refl (_, unlike_mistyped));
  no_types = λ G bound n b. types_not_asked Extended unlike refl Y10 n
      (of_std_types_stage G Extended bound unlike Y10 n refl b);
  after = Precedes.stage (lit≤ tt);
  standard = λ G minor bound. Broken.of_standard O3 1 (c.broken_examples.ensures.asked G minor);
  no_standard = λ G bound n b. of_last_stage G Extended bound entries O3 n refl b;
  last = Precedes.stage (lit≤ tt);
}
