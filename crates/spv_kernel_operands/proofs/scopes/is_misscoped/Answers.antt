use Rattle.std.proofs.Common.{◌∙◌, ap, refl, sym}
use Rattle.std.proofs.lemmas.Bool.{false≢true}
use Rattle.spv_module.specs.Module.{plain_inst, plain_operands}
use Rattle.spv_kernel_operands.proofs.Misscopes.{misscoped_group, misscoped_high, misscoped_own, misscoped_semantics}
use Rattle.spv_kernel_operands.proofs.Misscopes.{misscoped_within}
use Rattle.spv_kernel_operands.proofs.scopes.is_misscoped.Goals as goal

pub returns-then-has_high_scope : goal.returns-then-has_high_scope
returns-then-has_high_scope c = (
  λ _. misscoped_high c.args.definitions.now (plain_inst c.args.inst.now)
      (plain_operands c.as_slice-operands.result.now) c.scopes_of-scopes.result.now
      (ap plain_operands c.as_slice-operands.ensures.value) c.scopes_of-scopes.ensures
      (c.has_high_scope.ensures.0 c.if-has_high_scope.true),
  λ _. refl,
)

pub returns-then-has_bad_group : goal.returns-then-has_bad_group
returns-then-has_bad_group c =
    let both = c.has_bad_group.ensures.0 c.if-has_bad_group.true in (
      λ _. misscoped_group c.args.definitions.now (plain_inst c.args.inst.now) c.scopes_of-scopes.result.now
          c.scopes_of-scopes.ensures both.0 both.1,
      λ _. refl,
    )

pub returns-then-has_bad_semantics : goal.returns-then-has_bad_semantics
returns-then-has_bad_semantics c = (
  λ _. misscoped_semantics c.args.definitions.now (plain_inst c.args.inst.now)
      (plain_operands c.as_slice-operands.result.now) c.semantics_of.result.now
      (ap plain_operands c.as_slice-operands.ensures.value) c.semantics_of.ensures
      (c.has_bad_semantics.ensures.0 c.if-has_bad_semantics.true),
  λ _. refl,
)

pub returns : goal.returns
returns c = (
  λ t. misscoped_own c.args.definitions.now (plain_inst c.args.inst.now) (c.has_own_bad_semantics.ensures.0 t),
  λ h. c.has_own_bad_semantics.ensures.1 (misscoped_within c.args.definitions.now (plain_inst c.args.inst.now)
      (plain_operands c.as_slice-operands.result.now) c.scopes_of-scopes.result.now c.semantics_of.result.now
      (ap plain_operands c.as_slice-operands.ensures.value) c.scopes_of-scopes.ensures c.semantics_of.ensures
      (λ s. false≢true (sym c.if-has_high_scope.false ∙ c.has_high_scope.ensures.1 s))
      (λ s. false≢true (sym c.if-has_bad_group.false ∙ c.has_bad_group.ensures.1 s))
      (λ s. false≢true (sym c.if-has_bad_semantics.false ∙ c.has_bad_semantics.ensures.1 s)) h),
)
