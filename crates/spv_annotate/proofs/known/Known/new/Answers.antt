use Rattle.spv_annotate.proofs.Pages.{few}
use Rattle.spv_annotate.proofs.known.Known.new.Goals as goal

pub find_values-requires-clause-few : goal.find_values-requires-clause-few
find_values-requires-clause-few c = few c.args.insts.now c.requires.words
