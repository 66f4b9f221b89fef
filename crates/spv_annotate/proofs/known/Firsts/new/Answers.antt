use Rattle.spv_annotate.proofs.Pages.{few}
use Rattle.spv_annotate.proofs.known.Firsts.new.Goals as goal

pub find_definitions-requires : goal.find_definitions-requires
find_definitions-requires c = few c.args.insts.now c.requires

pub find_namings-requires : goal.find_namings-requires
find_namings-requires c = few c.args.insts.now c.requires
