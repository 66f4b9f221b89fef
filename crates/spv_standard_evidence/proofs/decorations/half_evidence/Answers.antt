use Rattle.spv_standard_evidence.proofs.Decorating.{part_shown, within_shown}
use Rattle.spv_standard_evidence.proofs.decorations.half_evidence.Goals as goal

pub returns-in-Members : goal.returns-in-Members
returns-in-Members c = λ G.
    part_shown G c.args.definitions.now c.args.number c.in-Members.built_in c.in-Members.other c.in_ok-built_in.field-0
    c.in-Members.is c.in_ok-built_in.ensures

pub returns-in-Within : goal.returns-in-Within
returns-in-Within c = λ G.
    within_shown G c.args.definitions.now c.args.number c.in-Within.operand c.in_ok-built_in.field-0 c.in-Within.is
    c.in_ok-built_in.ensures
