use Rattle.spv_check.proofs.Verdicts.{Laws, never_both, one_fault}
use Rattle.spv_check.proofs.laws.one_answer.Goals as goal

pub returns-clause-fault : goal.returns-clause-fault
returns-clause-fault c = λ G reach words f g p q.
    let laws : Laws = record {
      words = c.one_word_list.ensures.order;
      once = c.one_refusal.ensures.once;
      never = c.one_refusal.ensures.never;
      death = c.one_death.ensures;
      alive = c.listed_or_dead.ensures;
      list = c.one_listing.ensures;
    } in
    let s = one_fault laws G reach words f g p q in
    (s.rule, s.inst, s.word)

pub returns-clause-never : goal.returns-clause-never
returns-clause-never c = never_both (record {
  words = c.one_word_list.ensures.order;
  once = c.one_refusal.ensures.once;
  never = c.one_refusal.ensures.never;
  death = c.one_death.ensures;
  alive = c.listed_or_dead.ensures;
  list = c.one_listing.ensures;
})
