use Rattle.std.proofs.Common.{arith}
use Rattle.spv_declarations.proofs.shown.members.built_in_member.Goals as goal

pub unreachable-requires : goal.unreachable-requires
unreachable-requires c =
    let t = c.requires.there in
    let l = t.1 in
    c.loop-k.invariant t.0 (omega (arith, l)) t.2
