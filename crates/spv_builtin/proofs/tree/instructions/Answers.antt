use Rattle.std.proofs.Common.{sym, arith}
use Rattle.spv_grammar.specs.Tree.{instruction_tree}
use Rattle.spv_builtin.proofs.Trees.{one_more, never_past}
use Rattle.spv_builtin.proofs.tree.instructions.Goals as goal

pub unreachable-requires : goal.unreachable-requires
unreachable-requires c = never_past c.args.entries.now c.loop-place.place c.in_default.ensures (omega arith)

pub loop-place-preserved : goal.loop-place-preserved
loop-place-preserved c =
    one_more (instruction_tree c.args.table.now) c.args.entries.now c.loop-place.place (c.in-Some.opcode, c.in-Some.entry) c.loop-place.found.items c.push.new.self.items
    c.in_ok-instruction.field-0 (sym c.in-Some.ensures) c.loop-place.invariant c.in_ok-instruction.ensures c.in_ok-push.ensures.items
