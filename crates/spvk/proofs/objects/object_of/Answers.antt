use Rattle.spvk.proofs.objects.object_of.Goals as goal

pub returns-in-Ok : goal.returns-in-Ok
returns-in-Ok c = record {
  tells = record {
    judgment = c.in_ok-answer.answer.judgment;
    line = c.in_ok-answer.ensures.verdict;
    told = c.numbers-verdict.ensures;
  };
  answer = c.in_ok-answer.answer;
  explains = c.in_ok-answer.ensures;
  verdict = c.numbers-verdict.ensures;
  text = c.in-Ok.ensures;
}
