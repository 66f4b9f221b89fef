use Rattle.spv_printer.proofs.Stops.{stop_once}
use Rattle.spv_printer.proofs.encoding.one_stop.Goals as goal

pub returns : goal.returns
returns c = λ G is a b k l s t. stop_once G is a b k l s t
