use Rattle.spv_lines.proofs.number.read_number.Goals as goal

pub returns-in-Some : goal.returns-in-Some
returns-in-Some c = λ G k. rw c.in-Some.is (c.read_sized.ensures G k)
