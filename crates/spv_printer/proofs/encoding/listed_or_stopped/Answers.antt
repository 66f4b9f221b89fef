use Rattle.spv_printer.proofs.Stops.{not_stopped}
use Rattle.spv_printer.proofs.encoding.listed_or_stopped.Goals as goal

pub returns : goal.returns
returns c = λ G is ws code n l h s. not_stopped G is ws code n l h s
