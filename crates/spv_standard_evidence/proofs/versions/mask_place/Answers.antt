use Rattle.std.proofs.Common.{◌≤◌, ◌∙◌, length, sym, ap, below_more, arith}
use Rattle.std.proofs.lemmas.Bool.{false≢true}
use Rattle.std.proofs.lemmas.List.{length-map}
use Rattle.spv_module.specs.Module.{plain_inst, plain_operand}
use Rattle.spv_standard_evidence.proofs.Versioned.{mask_from, mask_tells, mask_there}
use Rattle.spv_standard_evidence.proofs.versions.mask_place.Goals as goal

pub returns-then-is_mask_at : goal.returns-then-is_mask_at
returns-then-is_mask_at c =
    mask_from (plain_inst c.args.inst.now).operands c.loop-k.k (sym c.is_mask_at.ensures ∙ c.if-is_mask_at.true)

pub loop-k-preserved : goal.loop-k-preserved
loop-k-preserved c = below_more _ _ c.loop-k.invariant (λ h.
    false≢true (sym c.if-is_mask_at.false ∙ c.is_mask_at.ensures
    ∙ mask_tells (plain_inst c.args.inst.now).operands c.loop-k.k h))

pub unreachable-requires : goal.unreachable-requires
unreachable-requires c =
    let os = (plain_inst c.args.inst.now).operands in
    let l = ap length c.as_slice-k-end.ensures.value in
    let m = length-map c.args.inst.now.operands plain_operand in
    let all : length os ≤ c.loop-k.k = omega (arith, l, m) in
    mask_there os c.loop-k.k all c.requires c.loop-k.invariant
