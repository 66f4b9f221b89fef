use Rattle.std.proofs.Common.{codes}
use Rattle.spv_facts.proofs.Joined.{pushed}
use Rattle.spv_facts.proofs.shapes.push_file_and_text.Goals as goal

pub returns : goal.returns
returns c = pushed _ _ _ _ _ (codes "file or nothing, string or nothing") c.in_ok-push_comma.ensures
    c.push_str.ensures.bytes
