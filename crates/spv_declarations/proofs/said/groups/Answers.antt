use Rattle.std.proofs.Common.{arith}
use Rattle.spv_declarations.specs.inner.Said.{NamesGroup}
use Rattle.spv_declarations.proofs.Gathered.{gathers_none, gathers_more, gathers_all}
use Rattle.spv_declarations.proofs.Saying.{group_early}
use Rattle.spv_declarations.proofs.said.groups.Goals as goal

pub loop-number-init : goal.loop-number-init
loop-number-init c =
    gathers_none c.args.definitions.now NamesGroup c.new-groups.result c.new-groups.ensures.empty

pub loop-number-preserved : goal.loop-number-preserved
loop-number-preserved c =
    gathers_more c.args.definitions.now NamesGroup c.loop-number.number _ c.loop-number.groups c.add_group.new.groups
    c.inst.ensures c.in_ok-add_group.ensures c.loop-number.invariant

pub returns : goal.returns
returns c =
    gathers_all c.args.definitions.now NamesGroup c.args.count c.loop-number.number c.loop-number.groups
    c.requires.early group_early (omega arith) c.loop-number.invariant
