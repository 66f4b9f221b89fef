use Rattle.std.proofs.Common.{◌≡◌, length, arith, Some, None}
use Rattle.std.proofs.lemmas.Option.{slice_get-get_or}
use Rattle.spv_module.specs.declared.operand.Operand.TheVariants as code
use Rattle.spv_ids.specs.inner.Faulty.{HasBadOperand}
use Rattle.spv_ids.specs.inner.Survey.{insts_of}
use Rattle.spv_ids.proofs.Leasts.{operand_stage, has_operand_stage}
use Rattle.spv_ids.proofs.Behind.{least_is, stages_by, no_operand_yet, least_sound_operand, least_bad_operand}
use Rattle.spv_ids.proofs.Behind.{least_operand_moved}
use Rattle.spv_ids.proofs.survey.Survey.operands_fault.Goals.{in-Some, in_default}
use Rattle.spv_ids.proofs.survey.Survey.operands_fault.Goals as goal

pub loop-operand-init : goal.loop-operand-init
loop-operand-init c = λ q. no_operand_yet c.args.self.now.bound (insts_of c.args.self.now) c.args.inst q

pub loop-operand-preserved : goal.loop-operand-preserved
loop-operand-preserved c =
    let b = c.args.self.now.bound in
    let is = insts_of c.args.self.now in
    let n = c.args.inst in
    let os = c.args.operands.now in
    let k = c.loop-operand.operand-index in
    let a = c.requires.operands in
    let t = slice_get-get_or os k (code.OfType 0) c.loop-operand-test.true in
    elim c.match-operand_fault.branch [
      | in-Some w ↦
          let f = least_is _ _ (Some w.in-Some.rule) w.in-Some.is c.operand_fault.ensures in
          let e = w.earlier.ensures (operand_stage b is n _ w.in-Some.rule f.0)
          (stages_by (HasBadOperand b is n k) c.loop-operand.least
          (λ q h. has_operand_stage b is n k q h) c.loop-operand.invariant) in
          rw w.least-is (least_bad_operand b is n k os _ c.loop-operand.least w.in-Some.rule w.earlier.result a t f e
          c.loop-operand.invariant)
      | in_default w ↦
          let f = least_is _ _ None w.in_default.is c.operand_fault.ensures in
          rw w.least-is (least_sound_operand b is n k os _ c.loop-operand.least a t f c.loop-operand.invariant)
    ]

pub returns : goal.returns
returns c =
    let e : c.loop-operand.operand-index ≡ length c.args.operands.now = omega arith in
    least_operand_moved c.args.self.now.bound (insts_of c.args.self.now) c.args.inst c.loop-operand.operand-index
    (length c.args.operands.now) c.loop-operand.least e c.loop-operand.invariant
