use Rattle.std.proofs.Common.{refl}
use Rattle.spv_check.proofs.Worked.{never_valid, not_begun, short_begun, short_bytes, short_told}
use Rattle.spv_check.proofs.laws.stream_examples.Goals as goal

pub returns : goal.returns
returns c = record {
  tells = λ G reach. short_told G reach c.examples.ensures.size_first;
  tells_valid = λ G reach new t. never_valid G reach _ t.line (t.answered.0 refl) c.examples.ensures.size_first
      (c.one_verdict.ensures G reach _) t.verdict;
  begins = λ G reach. short_begun G reach c.examples.ensures.size_first;
  begins_valid = λ G reach. not_begun G reach _ _
      (λ other v. c.one_verdict.ensures G reach _ other _ v (short_bytes G reach c.examples.ensures.size_first));
}
