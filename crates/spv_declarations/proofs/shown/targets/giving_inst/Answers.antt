use Rattle.std.proofs.Common.{arith}
use Rattle.spv_declarations.specs.Given.{Gives}
use Rattle.spv_declarations.proofs.Passes.{more_at}
use Rattle.spv_declarations.proofs.Showing.{none_left}
use Rattle.spv_declarations.proofs.shown.targets.giving_inst.Goals as goal

pub returns-then-gives_group : goal.returns-then-gives_group
returns-then-gives_group c = (_, c.inst.ensures, c.gives_group.ensures.0 c.if-gives_group.true)

pub loop-number-preserved : goal.loop-number-preserved
loop-number-preserved c =
    more_at c.args.definitions.now (λ j. Gives c.args.decoration j c.args.group) c.loop-number.number _
    c.gives_group.result c.inst.ensures c.gives_group.ensures c.if-gives_group.false c.loop-number.invariant

pub unreachable-requires : goal.unreachable-requires
unreachable-requires c =
    none_left c.args.definitions.now (λ j. Gives c.args.decoration j c.args.group) c.args.total c.loop-number.number
    c.requires.total (omega arith) c.loop-number.invariant c.requires.given
