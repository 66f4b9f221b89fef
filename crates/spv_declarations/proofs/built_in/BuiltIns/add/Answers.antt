use Rattle.std.proofs.Common.{arith}
use Rattle.spv_declarations.proofs.Built.{theirs_more, add_there, add_nothing, always}
use Rattle.spv_declarations.proofs.Stated.{on_ok}
use Rattle.spv_declarations.proofs.built_in.BuiltIns.add.Goals as goal

pub returns-then-member-member_count-clause-members : goal.returns-then-member-member_count-clause-members
returns-then-member-member_count-clause-members c = add_nothing c.args.definitions.now c.args.t c.args.member
    c.member_count.result c.args.self.now.members c.member_count.ensures.members (omega arith)

pub returns-clause-members : goal.returns-clause-members
returns-clause-members c = always c.put.result _ (add_there c.args.definitions.now c.args.t c.args.member
    c.member_count.result c.args.self.now.members _ c.member_count.ensures.members (omega arith)
    c.in_ok-put_member.ensures)

pub returns-clause-structs : goal.returns-clause-structs
returns-clause-structs c = on_ok c.put.result _ _
    (λ a. theirs_more c.args.self.now
    (record { members = c.put_member.new.set; structs = c.put.new.set }) c.args.t c.args.member
    c.in_ok-put_member.ensures a) c.put.ensures
