use Rattle.std.proofs.Common.{◌∙◌, sym, ap}
use Rattle.std.proofs.lemmas.Result.{IfOk-weaker}
use Rattle.spv_module.specs.Module.{plain_inst, plain_operands}
use Rattle.spv_ops.specs.Table.{places_of}
use Rattle.spv_ops.specs.inner.Typed.{IsTypedIn}
use Rattle.spv_ops.proofs.Copying.{copied_told, not_copied}
use Rattle.spv_ops.proofs.copy.copy_holds.Goals as goal

pub returns-in-Copied-clause-answer : goal.returns-in-Copied-clause-answer
returns-in-Copied-clause-answer c = λ n.
    let i = plain_inst c.args.inst.now in
    IfOk-weaker c.is_copy.result _ _ (λ b d. copied_told c.args.definitions.now n i
    (plain_operands c.as_slice.result.now) b (ap plain_operands c.as_slice.ensures.value)
    (sym c.look_up.ensures.places ∙ c.in-Copied.is) d) c.is_copy.ensures.answer

pub returns-in_default-clause-answer : goal.returns-in_default-clause-answer
returns-in_default-clause-answer c = λ n.
    let i = plain_inst c.args.inst.now in
    not_copied (places_of i.opcode) (IsTypedIn c.args.definitions.now n i)
    (λ e. c.in_default.not-Copied (c.look_up.ensures.places ∙ e))
