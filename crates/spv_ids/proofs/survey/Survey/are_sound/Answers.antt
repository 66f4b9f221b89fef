use Rattle.std.proofs.Common.{◌≡◌, ◌∙◌, sym, length, arith, None}
use Rattle.std.proofs.lemmas.Option.{slice_get-get_or}
use Rattle.spv_module.specs.declared.operand.Operand.TheVariants as code
use Rattle.spv_ids.specs.inner.Survey.{insts_of}
use Rattle.spv_ids.proofs.Leasts.{none_yet, least_no_use, least_sound, least_moved}
use Rattle.spv_ids.proofs.survey.Survey.are_sound.Goals.{in-Some+else-not-is_use_sound, in_default}
use Rattle.spv_ids.proofs.survey.Survey.are_sound.Goals as goal

pub loop-operand-init : goal.loop-operand-init
loop-operand-init c = λ q. none_yet c.args.self.now.bound (insts_of c.args.self.now) c.args.inst q

pub loop-operand-preserved : goal.loop-operand-preserved
loop-operand-preserved c =
    let b = c.args.self.now.bound in
    let is = insts_of c.args.self.now in
    let n = c.args.inst in
    let os = c.args.operands.now in
    let k = c.loop-operand.operand-index in
    let a = c.requires.operands in
    let t = slice_get-get_or os k (code.OfType 0) c.loop-operand-test.true in
    elim c.match-seen_id.branch [
      | in-Some+else-not-is_use_sound w ↦
          let u = sym c.seen_id.ensures ∙ w.in-Some.is in
          least_sound b is n k w.in-Some.id os _ None a t u
          (w.is_use_sound.ensures w.if-not-is_use_sound.false) c.loop-operand.invariant
      | in_default w ↦ least_no_use b is n k os _ None a t
          (sym c.seen_id.ensures ∙ w.in_default.is) c.loop-operand.invariant
    ]

pub returns : goal.returns
returns c = λ t.
    let e : c.loop-operand.operand-index ≡ length c.args.operands.now = omega arith in
    least_moved c.args.self.now.bound (insts_of c.args.self.now) c.args.inst c.loop-operand.operand-index
    (length c.args.operands.now) None e c.loop-operand.invariant
