use Rattle.std.proofs.Common.{◌≤◌, length, ap, below_more, arith}
use Rattle.std.proofs.lemmas.Bool.{iff_false}
use Rattle.std.proofs.lemmas.List.{length-map}
use Rattle.std.proofs.lemmas.Option.{slice_get_within}
use Rattle.spv_module.specs.Module.{plain_inst, plain_operand}
use Rattle.spv_module.specs.Operand.{Id}
use Rattle.spv_declarations.proofs.shown.members.struct_place.Goals as goal

pub loop-k-preserved : goal.loop-k-preserved
loop-k-preserved c = below_more _ _ c.loop-k.invariant (iff_false c.is_struct_at.ensures c.if-is_struct_at.false)

pub unreachable-requires : goal.unreachable-requires
unreachable-requires c =
    let os = (plain_inst c.args.inst.now).operands in
    let l = ap length c.as_slice-k-end.ensures.value in
    let m = length-map c.args.inst.now.operands plain_operand in
    let r = c.requires in
    let w = slice_get_within os r.0 (Id r.1.0) r.1.1 in
    c.loop-k.invariant r.0 (omega (arith, w, l, m)) r.1
