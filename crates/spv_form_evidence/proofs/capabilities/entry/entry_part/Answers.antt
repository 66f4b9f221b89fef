use Rattle.std.proofs.Common.{◌≡◌, ◌≢◌, ◌∙◌, ℕ, List, Some, ap, sym, subst}
use Rattle.std.specs.Prelude.{slice_get}
use Rattle.std.proofs.lemmas.Bool.{iff_false}
use Rattle.spv_module.specs.Operand.{Plain, Value}
use Rattle.spv_module.specs.Module.{plain_operands}
use Rattle.spv_capabilities.specs.Entry.{second_id}
use Rattle.spv_form_evidence.specs.capabilities.Evidence.{IsUnsound}
use Rattle.spv_form_evidence.proofs.lemmas.capabilities.Models.{not_kernel}
use Rattle.spv_form_evidence.proofs.lemmas.capabilities.Calling.{unnamed_function}
use Rattle.spv_form_evidence.proofs.capabilities.entry.entry_part.Goals as goal

pub returns-then-not-has_kernel_model : goal.returns-then-not-has_kernel_model
returns-then-not-has_kernel_model c = λ n i o e.
    let not = iff_false c.has_kernel_model.ensures c.if-not-has_kernel_model.true in
    let other = not_kernel (plain_operands c.args.operands.now) not in
    IsUnsound.model o (subst (λ (os : List Plain). (k m : ℕ) → slice_get os 0 ≡ Some (Value k m) → m ≢ 6) (sym e) other)

pub returns-in-None : goal.returns-in-None
returns-in-None c = λ n i o e.
    let none = ap second_id e ∙ sym c.entered.ensures ∙ c.in-None.is in
    unnamed_function c.args.survey.now.table c.args.survey.now.insts n i o none
