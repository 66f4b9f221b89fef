use Rattle.std.proofs.Common.{◌<◌, ◌≤◌, length, get_or, take, refl, arith}
use Rattle.std.proofs.lemmas.List.{take_all}
use Rattle.spv_module.specs.declared.operand.Operand.TheVariants as code
use Rattle.spv_module.specs.Module.{plain_operands}
use Rattle.spv_printer.proofs.Drafts.{drafted_first}
use Rattle.spv_printer.proofs.Steps.{so_far}
use Rattle.spv_printer.proofs.listed_line.add_all_listed.Goals as goal

pub loop-operand-init : goal.loop-operand-init
loop-operand-init c = drafted_first c.args.table.now _ _ c.args.buffer.now refl refl refl c.requires.size

pub loop-operand-preserved : goal.loop-operand-preserved
loop-operand-preserved c =
    let items = c.args.operands.now in
    let i = c.loop-operand.operand-index in
    let o = get_or items i (code.OfType 0) in
    let h : i < length items = omega arith in
    rw (so_far items i o (code.OfType 0) h refl)
    (c.in_ok-draft.ensures.added (plain_operands (take i items)) c.loop-operand.invariant)

pub returns : goal.returns
returns c =
    let items = c.args.operands.now in
    let i = c.loop-operand.operand-index in
    let h : length items ≤ i = omega arith in
    rw (← take_all i items h) c.loop-operand.invariant
