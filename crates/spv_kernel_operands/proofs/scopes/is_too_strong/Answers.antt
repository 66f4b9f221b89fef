use Rattle.std.proofs.Common.{◌∙◌, sym}
use Rattle.std.proofs.lemmas.Bool.{false≢true}
use Rattle.spv_kernel_operands.proofs.Misscopes.{strong_from_acquiring, strong_from_sequential, strong_within}
use Rattle.spv_kernel_operands.proofs.scopes.is_too_strong.Goals as goal

pub returns-then-is_newly_sequential : goal.returns-then-is_newly_sequential
returns-then-is_newly_sequential c = (
  λ _. strong_from_sequential c.args.equal c.in-Some.equal c.args.unequal c.in-Some.is
      (c.is_newly_sequential.ensures.0 c.if-is_newly_sequential.true),
  λ _. c.if-is_newly_sequential.true,
)

pub returns-else-is_newly_sequential : goal.returns-else-is_newly_sequential
returns-else-is_newly_sequential c = (
  λ t. strong_from_acquiring c.args.equal c.in-Some.equal c.args.unequal c.in-Some.is
      (c.is_newly_acquiring.ensures.0 t),
  λ h. c.is_newly_acquiring.ensures.1 (strong_within c.args.equal c.in-Some.equal c.args.unequal c.in-Some.is
      (λ t. false≢true (sym c.if-has_bit.false ∙ c.has_bit.ensures ∙ t))
      (λ s. false≢true (sym c.if-is_newly_sequential.false ∙ c.is_newly_sequential.ensures.1 s)) h),
)
