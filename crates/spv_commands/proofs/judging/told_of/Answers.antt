use Rattle.std.proofs.Common.{refl}
use Rattle.spv_commands.proofs.judging.told_of.Goals as goal

pub returns-in_ok-answer-in-Json-clause-done : goal.returns-in_ok-answer-in-Json-clause-done
returns-in_ok-answer-in-Json-clause-done c = rw c.in-Json.is (record {
  object = c.in_ok-answer-in-Json.answer;
  told = rw c.as_slice.ensures.value at c.in_ok-answer-in-Json.ensures.told;
  written = refl;
  answered = c.is_valid-valid.ensures;
})
