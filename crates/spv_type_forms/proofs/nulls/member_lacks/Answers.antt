use Rattle.std.proofs.Common.{sym, length, ◌∙◌}
use Rattle.spv_module.specs.Module.{plain_operands}
use Rattle.spv_type_forms.proofs.Lacking.{member_told, no_member}
use Rattle.spv_type_forms.proofs.nulls.member_lacks.Goals as goal

pub returns-in-Some : goal.returns-in-Some
returns-in-Some c =
    member_told c.args.definitions.now (length c.args.lacks.now) c.in-Some.u c.args.k
    (plain_operands c.args.members.now) c.lacks_before.result (sym c.id_at.ensures ∙ c.in-Some.is)
    c.lacks_before.ensures

pub returns-in-None : goal.returns-in-None
returns-in-None c =
    no_member c.args.definitions.now (length c.args.lacks.now) c.args.k (plain_operands c.args.members.now)
    (sym c.id_at.ensures ∙ c.in-None.is)
