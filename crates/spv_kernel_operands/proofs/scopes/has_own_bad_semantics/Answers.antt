use Rattle.std.proofs.Common.{◌∙◌, ap, sym}
use Rattle.spv_module.specs.Module.{plain_inst, plain_operands}
use Rattle.spv_kernel_operands.proofs.Misscopes.{own_from, own_within}
use Rattle.spv_kernel_operands.proofs.scopes.has_own_bad_semantics.Goals as goal

pub returns-in-Some : goal.returns-in-Some
returns-in-Some c =
    let is = c.args.definitions.now in
    let i = plain_inst c.args.inst.now in
    let os = plain_operands c.as_slice-operands.result.now in
    let same = ap plain_operands c.as_slice-operands.ensures.value in
    let value = sym c.value_at.ensures ∙ c.in-Some.is in (
      λ t. own_from is i os c.value_at-in-Some.result c.in-Some.unequal same c.in-230.is value
          c.value_at-in-Some.ensures (c.is_too_strong.ensures.0 t),
      λ h. c.is_too_strong.ensures.1 (own_within is i os c.value_at-in-Some.result c.in-Some.unequal same c.in-230.is
          value c.value_at-in-Some.ensures h),
    )
