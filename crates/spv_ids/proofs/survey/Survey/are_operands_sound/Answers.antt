use Rattle.std.proofs.Common.{◌≡◌, length, arith, None}
use Rattle.std.proofs.lemmas.Option.{slice_get-get_or}
use Rattle.spv_module.specs.declared.operand.Operand.TheVariants as code
use Rattle.spv_ids.specs.inner.Survey.{insts_of}
use Rattle.spv_ids.proofs.Behind.{no_operand_yet, least_sound_operand, least_operand_moved}
use Rattle.spv_ids.proofs.survey.Survey.are_operands_sound.Goals as goal

pub loop-operand-init : goal.loop-operand-init
loop-operand-init c = λ q. no_operand_yet c.args.self.now.bound (insts_of c.args.self.now) c.args.inst q

pub loop-operand-preserved : goal.loop-operand-preserved
loop-operand-preserved c =
    let os = c.args.operands.now in
    let k = c.loop-operand.operand-index in
    let t = slice_get-get_or os k (code.OfType 0) c.loop-operand-test.true in
    least_sound_operand c.args.self.now.bound (insts_of c.args.self.now) c.args.inst k os _ None c.requires.operands t
    (c.is_operand_sound.ensures c.if-not-is_operand_sound.false) c.loop-operand.invariant

pub returns : goal.returns
returns c = λ t.
    let e : c.loop-operand.operand-index ≡ length c.args.operands.now = omega arith in
    least_operand_moved c.args.self.now.bound (insts_of c.args.self.now) c.args.inst c.loop-operand.operand-index
    (length c.args.operands.now) None e c.loop-operand.invariant
