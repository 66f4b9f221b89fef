use Rattle.spv_check.proofs.Verdicts.{one_verdict_line}
use Rattle.spv_check.proofs.laws.one_verdict.Goals as goal

pub returns : goal.returns
returns c = one_verdict_line (record {
  words = c.one_word_list.ensures.order;
  once = c.one_refusal.ensures.once;
  never = c.one_refusal.ensures.never;
  death = c.one_death.ensures;
  alive = c.listed_or_dead.ensures;
  list = c.one_listing.ensures;
})
