use Rattle.std.proofs.Common.{◌≤◌, arith, length}
use Rattle.std.proofs.lemmas.List.{length-map}
use Rattle.spv_module.specs.Module.{plain_operand, plain_operands}
use Rattle.spv_declarations.proofs.Badly.{bad_more, bad_missed}
use Rattle.spv_declarations.proofs.shown.targets.first_misplaced_at.Goals as goal

pub loop-k-preserved : goal.loop-k-preserved
loop-k-preserved c =
    bad_more c.args.definitions.now (plain_operands c.args.inst.now.operands) c.args.decorations.now c.loop-k.k
    c.in_default.ensures c.loop-k.invariant

pub unreachable-requires : goal.unreachable-requires
unreachable-requires c =
    let os = plain_operands c.args.inst.now.operands in
    let m = length-map c.args.inst.now.operands plain_operand in
    let t : length c.args.inst.now.operands ≤ c.loop-k.k = rw (← c.as_slice-k-end.ensures.value) c.loop-k-test.false in
    let l : length os ≤ c.loop-k.k = rw m t in
    bad_missed c.args.definitions.now os c.args.decorations.now c.loop-k.k l c.loop-k.invariant c.requires
