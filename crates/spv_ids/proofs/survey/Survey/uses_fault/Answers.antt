use Rattle.std.proofs.Common.{◌≡◌, ◌∙◌, sym, length, arith}
use Rattle.std.proofs.lemmas.Option.{slice_get-get_or}
use Rattle.spv_module.specs.declared.operand.Operand.TheVariants as code
use Rattle.spv_ids.specs.inner.Survey.{insts_of}
use Rattle.spv_ids.proofs.Leasts.{none_yet, least_no_use, least_sound, least_earlier, least_moved, one_stages}
use Rattle.spv_ids.proofs.Leasts.{least_stage}
use Rattle.spv_ids.proofs.survey.Survey.uses_fault.Goals.{in-Some+in-Some-use_fault, in-Some+in_default-use_fault}
use Rattle.spv_ids.proofs.survey.Survey.uses_fault.Goals.{in_default}
use Rattle.spv_ids.proofs.survey.Survey.uses_fault.Goals as goal

pub loop-operand-init : goal.loop-operand-init
loop-operand-init c = λ q. none_yet c.args.self.now.bound (insts_of c.args.self.now) c.args.inst q

pub loop-operand-preserved : goal.loop-operand-preserved
loop-operand-preserved c =
    let b = c.args.self.now.bound in
    let is = insts_of c.args.self.now in
    let n = c.args.inst in
    let os = c.args.operands.now in
    let k = c.loop-operand.operand-index in
    let a = c.requires.operands in
    let t = slice_get-get_or os k (code.OfType 0) c.loop-operand-test.true in
    elim c.match-seen_id.branch [
      | in-Some+in-Some-use_fault w ↦
          let u = sym c.seen_id.ensures ∙ w.in-Some.is in
          let f = w.in-Some-use_fault.ensures in
          let e = w.earlier.ensures (least_stage b is n w.in-Some.id w.in-Some-use_fault.rule f)
          (one_stages b is n k c.loop-operand.least c.loop-operand.invariant) in
          rw w.least-is (least_earlier b is n k w.in-Some.id os _ c.loop-operand.least w.in-Some-use_fault.rule
          w.earlier.result a t u f e c.loop-operand.invariant)
      | in-Some+in_default-use_fault w ↦
          let u = sym c.seen_id.ensures ∙ w.in-Some.is in
          rw w.least-is (least_sound b is n k w.in-Some.id os _ c.loop-operand.least a t u
          w.in_default-use_fault.ensures c.loop-operand.invariant)
      | in_default w ↦ rw w.least-is (least_no_use b is n k os _ c.loop-operand.least a t
          (sym c.seen_id.ensures ∙ w.in_default.is) c.loop-operand.invariant)
    ]

pub returns : goal.returns
returns c =
    let e : c.loop-operand.operand-index ≡ length c.args.operands.now = omega arith in
    least_moved c.args.self.now.bound (insts_of c.args.self.now) c.args.inst c.loop-operand.operand-index
    (length c.args.operands.now) c.loop-operand.least e c.loop-operand.invariant
