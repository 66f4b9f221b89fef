use Rattle.std.proofs.Common.{sym, ◌∙◌}
use Rattle.spv_module.specs.Module.{plain_inst, plain_operands}
use Rattle.spv_type_kinds.specs.Operands.{ids_in}
use Rattle.spv_type_rules.proofs.Pointers.{never_true}
use Rattle.spv_type_rules.proofs.Signatures.{calls_told, never_called}
use Rattle.spv_type_rules.proofs.function.takes.Goals as goal

pub returns-in-Some : goal.returns-in-Some
returns-in-Some c =
    let d = calls_told c.args.definitions.now (plain_inst c.args.callee.now) c.args.r
    (plain_operands c.in-Some.signature.now) (ids_in (plain_operands c.args.arguments.now)) c.in-Some.ensures in
    (λ y. d.0 (sym c.fits_signature.ensures ∙ y), λ h. c.fits_signature.ensures ∙ d.1 h)

pub returns-in-None : goal.returns-in-None
returns-in-None c = (
  λ y. absurd (never_true y),
  λ h. absurd
      (never_called c.args.definitions.now (plain_inst c.args.callee.now) c.args.r
      (ids_in (plain_operands c.args.arguments.now)) c.in-None.ensures h),
)
