use Rattle.spv_printer.proofs.Back.{decoded_image}
use Rattle.spv_printer.proofs.Stops.{image_once, not_refused}
use Rattle.spv_printer.proofs.encoding.encodes_back.Goals as goal

pub returns : goal.returns
returns c = record {
  same = λ G m ws vs h l s i. image_once G m vs ws i (decoded_image G m ws h l s);
  taken = λ G m ws code n h size l s r. not_refused G m ws code n (decoded_image G m ws h l s) size r;
}
