use Rattle.std.proofs.Common.{sym, arith}
use Rattle.spv_grammar.specs.Tree.{kind_tree}
use Rattle.spv_builtin.proofs.Trees.{one_more, never_past}
use Rattle.spv_builtin.proofs.tree.kinds.Goals as goal

pub unreachable-requires : goal.unreachable-requires
unreachable-requires c = never_past c.args.sorts.now c.loop-place.place c.in_default.ensures (omega arith)

pub loop-place-preserved : goal.loop-place-preserved
loop-place-preserved c =
    one_more (kind_tree c.args.table.now) c.args.sorts.now c.loop-place.place c.in-Some.sort c.loop-place.found.items c.push.new.self.items
    c.in_ok-kind.field-0 (sym c.in-Some.ensures) c.loop-place.invariant c.in_ok-kind.ensures c.in_ok-push.ensures.items
