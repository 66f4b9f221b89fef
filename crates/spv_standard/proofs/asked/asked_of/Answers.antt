use Rattle.spv_standard.proofs.Singles.{denied}
use Rattle.spv_standard.proofs.asked.asked_of.Goals as goal

pub returns : goal.returns
returns c = λ G minor is late fit. record {
  operands = λ e n i at o r. c.is_quiet-is_kept.ensures (denied c.is_quiet-is_kept.result e) G is n i at o r;
  version = λ e n i at o none.
      c.is_quiet-is_timely.ensures (denied c.is_quiet-is_timely.result e) G minor is late n i at o none;
  limits = λ e n i counts at o short few up_to.
      c.is_quiet-is_uncounted.ensures (denied c.is_quiet-is_uncounted.result e) is n i counts at o short few up_to;
  silent = λ n i at o. c.silent_of.ensures G i (fit n i at) o;
}
