use Rattle.std.proofs.Common.{codes}
use Rattle.spv_fault_json.specs.Tokens.{text_member}
use Rattle.spv_explain.proofs.Objects.{pushed_next}
use Rattle.spv_explain.proofs.answers.push_rule.Goals as goal

pub returns : goal.returns
returns c =
    pushed_next c.text_member-2.result (text_member (codes "rule") c.args.sentence.now)
    (text_member (codes "section") c.args.section.now)
    c.args.out.now c.text_member.new.self c.text_member-2.new.self c.in_ok-text_member.ensures c.text_member-2.ensures
