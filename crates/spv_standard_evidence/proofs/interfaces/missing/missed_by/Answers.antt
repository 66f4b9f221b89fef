use Rattle.std.proofs.Common.{◌≤◌, ap, length, arith}
use Rattle.std.proofs.lemmas.Bool.{iff_false}
use Rattle.std.proofs.lemmas.List.{length-map}
use Rattle.spv_module.specs.Module.{plain_inst, plain_operand}
use Rattle.spv_declarations.specs.inner.Sets.{IsIn}
use Rattle.spv_standard_evidence.proofs.Missed.{missed_here, missed_more, missed_none, missed_past}
use Rattle.spv_standard_evidence.proofs.interfaces.missing.missed_by.Goals.{in-Some+else-is_missed, in_default}
use Rattle.spv_standard_evidence.proofs.interfaces.missing.missed_by.Goals as goal

pub loop-at-init : goal.loop-at-init
loop-at-init c = λ G f x m l. absurd (omega (arith, l))

pub returns-then-is_missed : goal.returns-then-is_missed
returns-then-is_missed c = λ G f.
    missed_here G c.args.minor c.args.definitions.now (IsIn c.args.named.now) (plain_inst c.args.inst.now) c.loop-at.at
    c.in-Some.x (c.in-Some.ensures G f) (c.is_missed.ensures.0 c.if-is_missed.true)

pub loop-at-preserved : goal.loop-at-preserved
loop-at-preserved c = λ G f.
    let i = plain_inst c.args.inst.now in
    let Named = IsIn c.args.named.now in
    elim c.match-used_id.branch [
      | in-Some+else-is_missed w ↦
          missed_more G c.args.minor c.args.definitions.now Named i c.loop-at.at w.in-Some.x (w.in-Some.ensures G f)
          (iff_false w.is_missed.ensures w.if-is_missed.false) (c.loop-at.invariant G f)
      | in_default w ↦
          missed_past G c.args.minor c.args.definitions.now Named i c.loop-at.at (w.in_default.ensures G f)
          (c.loop-at.invariant G f)
    ]

pub returns : goal.returns
returns c = λ G f.
    let i = plain_inst c.args.inst.now in
    let l = ap length c.as_slice-at-end.ensures.value in
    let m = length-map c.args.inst.now.operands plain_operand in
    let t = c.loop-at-test.false in
    let all : length i.operands ≤ c.loop-at.at = omega (arith, l, m, t) in
    missed_none G c.args.minor c.args.definitions.now (IsIn c.args.named.now) i c.loop-at.at all
    (c.loop-at.invariant G f)
