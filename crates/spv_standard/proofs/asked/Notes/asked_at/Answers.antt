use Rattle.spv_standard.proofs.asked.Notes.asked_at.Goals as goal

pub returns : goal.returns
returns c = record {
  asked = λ G minor is n late fit noted at.
      c.at.ensures G minor is n late at (c.asked-asked.ensures.asked G minor is late fit noted);
  noted = λ G minor is late fit noted. c.asked-asked.ensures.noted G minor is late fit noted;
}
