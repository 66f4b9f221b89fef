use Rattle.spv_printer.proofs.Back.{module_same, dies_for_memory}
use Rattle.spv_printer.proofs.encoding.decodes_back.Goals as goal

pub returns : goal.returns
returns c = record {
  same = λ G m d ws i l h. module_same G m d ws i l h;
  sound = λ G m ws stop i d. dies_for_memory G m ws stop i d;
}
