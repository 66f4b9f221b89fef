use Rattle.std.proofs.Common.{◌∙◌, ◌↔◌, sym, subst, ℕ, List, IsTrue}
use Rattle.spv_module.specs.Module.{plain_inst, plain_operands}
use Rattle.spv_declarations.specs.inner.Misplaced.{IsAnyNever}
use Rattle.spv_declarations.proofs.Misplacing.{pair_misplaced}
use Rattle.spv_declarations.proofs.misplaced.misplaces_pair.Goals as goal

pub returns : goal.returns
returns c = pair_misplaced c.args.said.now (plain_inst c.args.inst.now) c.in-Some.group
    (plain_operands c.behind_first.result.now) c.in_ok-decorations.decorations.items c.is_one_never.result
    (sym c.group_of.ensures ∙ c.in-Some.is) c.behind_first.ensures (c.has_pair.ensures.0 c.if-not-has_pair.false)
    c.in_ok-decorations.ensures
    (subst (λ (z : List ℕ). IsTrue c.is_one_never.result ↔ IsAnyNever z) c.as_slice.ensures.value
    c.is_one_never.ensures)
