use Rattle.std.proofs.Common.{arith}
use Rattle.std.proofs.lemmas.Grind.{common_steps}
use Rattle.spv_facts.proofs.Steps.{words_same}
use Rattle.spv_facts.proofs.words.windowed.Goals as goal

pub returns : goal.returns
returns c = let e = words_same c.args.image.now c.args.at c.args.from c.requires.least in grind (arith, common_steps, e)
