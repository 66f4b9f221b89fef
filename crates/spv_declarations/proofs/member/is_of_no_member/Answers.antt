use Rattle.std.proofs.Common.{◌∙◌, sym}
use Rattle.spv_module.specs.Module.{plain_inst}
use Rattle.spv_declarations.proofs.Members.{no_member_tells}
use Rattle.spv_declarations.proofs.member.is_of_no_member.Goals as goal

pub returns-in-Some : goal.returns-in-Some
returns-in-Some c = no_member_tells c.args.definitions.now (plain_inst c.args.inst.now) c.in-Some.t c.in-Some.member
    c.member_count.result (sym c.member_of.ensures ∙ c.in-Some.is) c.member_count.ensures.members
