use Rattle.std.proofs.Common.{codes}
use Rattle.spv_facts.proofs.Joined.{joined}
use Rattle.spv_facts.proofs.about.About.push_unended.Goals as goal

pub returns-in_ok-push_str-in-Some : goal.returns-in_ok-push_str-in-Some
returns-in_ok-push_str-in-Some c =
    rw c.in-Some.is (joined _ _ _ _ (codes "the end of block") _ c.in_ok-push_str-in-Some.ensures.bytes
    c.push_result.ensures)

pub returns-in_ok-push_str-in-None : goal.returns-in_ok-push_str-in-None
returns-in_ok-push_str-in-None c =
    rw c.in-None.is (joined _ _ _ _ (codes "the end of function") _ c.in_ok-push_str-in-None.ensures.bytes
    c.push_function.ensures)
