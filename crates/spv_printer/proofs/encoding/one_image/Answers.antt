use Rattle.spv_printer.proofs.Stops.{image_once}
use Rattle.spv_printer.proofs.encoding.one_image.Goals as goal

pub returns : goal.returns
returns c = λ G m ws vs i j. image_once G m ws vs i j
