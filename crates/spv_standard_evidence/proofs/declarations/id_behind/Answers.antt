use Rattle.std.proofs.Common.{length, ap, below_more, arith}
use Rattle.std.proofs.lemmas.Bool.{iff_false}
use Rattle.std.proofs.lemmas.List.{length-map}
use Rattle.std.proofs.lemmas.Option.{slice_get_within}
use Rattle.spv_module.specs.Module.{plain_inst, plain_operand}
use Rattle.spv_module.specs.Operand.{Id}
use Rattle.spv_standard_evidence.proofs.Declared.{behind_two}
use Rattle.spv_standard_evidence.proofs.declarations.id_behind.Goals as goal

pub loop-k-preserved : goal.loop-k-preserved
loop-k-preserved c = below_more _ _ c.loop-k.invariant (λ h. iff_false c.is_id.ensures c.if-is_id.false h.1)

pub unreachable-requires : goal.unreachable-requires
unreachable-requires c =
    let os = (plain_inst c.args.inst.now).operands in
    let l = ap length c.as_slice-k-end.ensures.value in
    let m = length-map c.args.inst.now.operands plain_operand in
    let r = behind_two os c.requires in
    let w = slice_get_within os r.0 (Id r.1.1.0) r.1.1.1 in
    c.loop-k.invariant r.0 (omega (arith, w, l, m)) r.1
