use Rattle.spv_extended.specs.Opened.{opened}
use Rattle.spv_extended.specs.declared.reach.Reach.TheVariants.{Profile}
use Rattle.spv_std_types.specs.Example.{unlike}
use Rattle.spv_standard.specs.Example.{entries}
use Rattle.spv_verdict.proofs.Further.{entries_broken, not_o3, not_y10, not_y9, short_broken, short_call}
use Rattle.spv_verdict.proofs.Further.{unlike_broken}
use Rattle.spv_verdict.proofs.laws.refused_examples.Goals as goal

pub returns : goal.returns
returns c = record {
  cycle = λ G bound b. c.broken_examples.ensures.cycle G Profile bound;
  miscall = λ G bound too. not_y9 G bound short_call 2 (too (short_broken G bound));
  mistype = λ G minor bound too. not_y10 G bound (opened unlike) 22 (too (unlike_broken G minor bound));
  repeated = λ G minor bound too. not_o3 G bound (opened entries) 1
      (too (entries_broken G minor bound (c.broken_examples-2.ensures.asked G minor)));
}
