use Rattle.std.proofs.Common.{arith}
use Rattle.std.proofs.lemmas.Bool.{iff_false}
use Rattle.spv_standard_evidence.proofs.Declared.{namesakes_more, no_namesake, repeated_by, there_3}
use Rattle.spv_standard_evidence.proofs.declarations.entry_evidence.Goals as goal

pub inst-inst-requires : goal.inst-inst-requires
inst-inst-requires c = there_3 c.args.definitions.now c.args.number c.requires

pub inst-requires : goal.inst-requires
inst-requires c =
    let there = there_3 c.args.definitions.now c.args.number c.requires in
    omega (arith, there)

pub returns-then-are_namesakes : goal.returns-then-are_namesakes
returns-then-are_namesakes c = λ G.
    repeated_by c.args.definitions.now c.args.number c.loop-before.before _ _ c.inst-inst.ensures c.inst.ensures
    c.loop-before-test.true (c.are_namesakes.ensures.0 c.if-are_namesakes.true) G

pub loop-before-preserved : goal.loop-before-preserved
loop-before-preserved c =
    namesakes_more c.args.definitions.now c.loop-before.before _ _ c.inst.ensures
    (iff_false c.are_namesakes.ensures c.if-are_namesakes.false) c.loop-before.invariant

pub unreachable-requires : goal.unreachable-requires
unreachable-requires c =
    no_namesake c.args.definitions.now c.args.number c.loop-before.before _ c.inst-inst.ensures (omega arith)
    c.loop-before.invariant c.requires
