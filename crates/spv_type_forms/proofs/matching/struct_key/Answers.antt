use Rattle.std.proofs.Common.{length}
use Rattle.spv_type_forms.proofs.Matched.{member_missing, member_added}
use Rattle.spv_type_forms.proofs.matching.struct_key.Goals as goal

pub returns-in_default : goal.returns-in_default
returns-in_default c =
    let cs = c.args.numbers.now in
    member_missing c.args.definitions.now cs (length cs) c.args.members.now c.loop-member.member-index _
    c.loop-member-test.true c.in_default.ensures

pub loop-member-preserved : goal.loop-member-preserved
loop-member-preserved c =
    let cs = c.args.numbers.now in
    member_added c.args.definitions.now cs (length cs) c.args.members.now c.loop-member.member-index _ c.in-Some.number
    c.loop-member.key.items c.push-in-loop-member.new.self.items c.loop-member-test.true c.in-Some.ensures
    c.in_ok-push-2.ensures.items c.loop-member.invariant
