use Rattle.spv_printer.proofs.Stops.{not_refused}
use Rattle.spv_printer.proofs.encoding.image_or_refused.Goals as goal

pub returns : goal.returns
returns c = λ G m ws code n i l r. not_refused G m ws code n i l r
