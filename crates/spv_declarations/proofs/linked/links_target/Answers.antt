use Rattle.std.proofs.Common.{◌∙◌, sym}
use Rattle.spv_module.specs.Module.{plain_inst, plain_operands}
use Rattle.spv_declarations.proofs.Both.{target_tells}
use Rattle.spv_declarations.proofs.linked.links_target.Goals as goal

pub returns-then-has : goal.returns-then-has
returns-then-has c =
    target_tells c.args.said.now.pairs c.args.entered.now (plain_inst c.args.inst.now) c.in-Some.group
    (plain_operands c.behind_first.result.now) c.is_one_among.result (sym c.group_of.ensures ∙ c.in-Some.is)
    c.behind_first.ensures (c.has.ensures.0 c.if-has.true) c.is_one_among.ensures
