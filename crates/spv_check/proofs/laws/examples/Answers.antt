use Rattle.std.proofs.Common.{refl}
use Rattle.spv_check.proofs.Worked.{fault_text, header_alone, never_valid, short_bytes}
use Rattle.spv_check.proofs.laws.examples.Goals as goal

pub returns : goal.returns
returns c = record {
  refused = λ G reach. short_bytes G reach c.examples.ensures.size_first;
  not_valid = λ G reach. never_valid G reach _ _ refl c.examples.ensures.size_first (c.one_verdict.ensures G reach _);
  unsound = λ G reach. header_alone G reach _ c.examples.ensures.module_bytes;
  text = fault_text;
}
