use Rattle.std.proofs.Common.{sym, arith}
use Rattle.spv_grammar.specs.Tree.{enumerant_tree}
use Rattle.spv_builtin.proofs.Trees.{one_more, never_past}
use Rattle.spv_builtin.proofs.tree.put_enumerants.Goals as goal

pub unreachable-requires : goal.unreachable-requires
unreachable-requires c = never_past c.args.enumerants.now c.loop-place.place c.in_default.ensures (omega arith)

pub loop-place-preserved : goal.loop-place-preserved
loop-place-preserved c =
    one_more (enumerant_tree c.args.table.now c.args.category) c.args.enumerants.now c.loop-place.place c.in-Some.element c.loop-place.found.items c.push.new.self.items
    c.in_ok-enumerant.field-0 (sym c.in-Some.ensures) c.loop-place.invariant c.in_ok-enumerant.ensures c.in_ok-push.ensures.items
