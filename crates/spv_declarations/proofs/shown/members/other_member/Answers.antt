use Rattle.std.proofs.Common.{arith}
use Rattle.spv_declarations.proofs.shown.members.other_member.Goals as goal

pub unreachable-requires : goal.unreachable-requires
unreachable-requires c =
    let t = c.requires.there in
    let l = t.1 in
    t.2 (c.loop-k.invariant t.0 (omega (arith, l)))
