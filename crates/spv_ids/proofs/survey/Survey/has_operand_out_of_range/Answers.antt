use Rattle.std.proofs.Common.{◌≡◌, ◌∙◌, sym, length, arith}
use Rattle.std.proofs.lemmas.Option.{slice_get-get_or}
use Rattle.spv_module.specs.declared.operand.Operand.TheVariants as code
use Rattle.spv_module.specs.declared.fault.Rule.TheVariants.{D1}
use Rattle.spv_ids.proofs.Bools.{false_true}
use Rattle.spv_ids.proofs.Behind.{no_operand_yet, operand_at, no_operand, bad_range, in_range, none_in_range}
use Rattle.spv_ids.proofs.Behind.{operand_moved}
use Rattle.spv_ids.proofs.survey.Survey.has_operand_out_of_range.Goals.{in-Some+else-is_out_of_range, in_default}
use Rattle.spv_ids.proofs.survey.Survey.has_operand_out_of_range.Goals as goal

pub loop-operand-init : goal.loop-operand-init
loop-operand-init c = λ is n a. no_operand_yet c.args.self.now.bound is n D1

pub returns-then-is_out_of_range : goal.returns-then-is_out_of_range
returns-then-is_out_of_range c = λ is n a.
    let b = c.args.self.now.bound in
    let os = c.args.operands.now in
    let k = c.loop-operand.operand-index in
    let t = slice_get-get_or os k (code.OfType 0) c.loop-operand-test.true in
    let u = sym c.id_behind.ensures ∙ c.in-Some.is in
    operand_at b is n k (length os) os _ D1 a t c.loop-operand-test.true
    (bad_range b is n _ c.in-Some.id u (c.is_out_of_range.ensures.0 c.if-is_out_of_range.true))

pub loop-operand-preserved : goal.loop-operand-preserved
loop-operand-preserved c = λ is n a.
    let b = c.args.self.now.bound in
    let os = c.args.operands.now in
    let k = c.loop-operand.operand-index in
    let t = slice_get-get_or os k (code.OfType 0) c.loop-operand-test.true in
    elim c.match-id_behind.branch [
      | in-Some+else-is_out_of_range w ↦
          no_operand b is n k os _ D1 a t (in_range b is n _ w.in-Some.id (sym c.id_behind.ensures ∙ w.in-Some.is)
          (λ o. false_true (sym w.if-is_out_of_range.false ∙ w.is_out_of_range.ensures.1 o)))
          (c.loop-operand.invariant is n a)
      | in_default w ↦ no_operand b is n k os _ D1 a t
          (none_in_range b is n _ D1 (sym c.id_behind.ensures ∙ w.in_default.is)) (c.loop-operand.invariant is n a)
    ]

pub returns : goal.returns
returns c = λ is n a.
    let e : length c.args.operands.now ≡ c.loop-operand.operand-index = omega arith in
    λ h. c.loop-operand.invariant is n a (operand_moved c.args.self.now.bound is n
    (length c.args.operands.now) c.loop-operand.operand-index D1 e h)
