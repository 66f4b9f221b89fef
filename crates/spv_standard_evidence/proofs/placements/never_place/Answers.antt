use Rattle.std.proofs.Common.{arith}
use Rattle.std.proofs.lemmas.Bool.{iff_false}
use Rattle.spv_standard_evidence.proofs.Placed.{never_found, never_more, never_missed}
use Rattle.spv_standard_evidence.proofs.placements.never_place.Goals as goal

pub returns-then-gives_never : goal.returns-then-gives_never
returns-then-gives_never c =
    let h = c.gives_never.ensures.0 c.if-gives_never.true in
    never_found c.args.definitions.now c.args.group c.loop-number.number h.0 _ c.inst.ensures h.1 h.2

pub loop-number-preserved : goal.loop-number-preserved
loop-number-preserved c = never_more c.args.definitions.now c.args.group c.loop-number.number _ c.inst.ensures
    (iff_false c.gives_never.ensures c.if-gives_never.false) c.loop-number.invariant

pub unreachable-requires : goal.unreachable-requires
unreachable-requires c = never_missed c.args.definitions.now c.args.group c.args.total c.loop-number.number
    c.requires.total (omega arith) c.loop-number.invariant c.requires.broken
