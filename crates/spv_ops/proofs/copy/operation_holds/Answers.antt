use Rattle.std.proofs.lemmas.Result.{IfOk-weaker}
use Rattle.spv_module.specs.Module.{plain_inst}
use Rattle.spv_ops.specs.Table.{places_of}
use Rattle.spv_ops.specs.inner.Typed.{IsTypedIn}
use Rattle.spv_ops.proofs.Copying.{either_told}
use Rattle.spv_ops.proofs.copy.operation_holds.Goals as goal

pub returns-clause-answer : goal.returns-clause-answer
returns-clause-answer c =
    let i = plain_inst c.args.inst.now in
    IfOk-weaker c.copy_holds.result _ _ (λ b d. either_told (places_of i.opcode)
    (IsTypedIn c.args.definitions.now c.args.number i) c.inst_holds.result b c.if-inst_holds.false
    c.inst_holds.ensures.complete d) (c.copy_holds.ensures.answer c.args.number)
