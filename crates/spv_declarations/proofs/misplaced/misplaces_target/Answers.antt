use Rattle.std.proofs.Common.{◌∙◌, ◌↔◌, sym, subst, ℕ, List, IsTrue}
use Rattle.spv_module.specs.Module.{plain_inst, plain_operands}
use Rattle.spv_declarations.specs.inner.Misplaced.{IsAnyMisplaced}
use Rattle.spv_declarations.specs.inner.Sets.{AnyId}
use Rattle.spv_declarations.proofs.Misplacing.{target_misplaced}
use Rattle.spv_declarations.proofs.misplaced.misplaces_target.Goals as goal

pub returns : goal.returns
returns c =
    let is = c.args.definitions.now in
    let os = plain_operands c.behind_first.result.now in
    target_misplaced is c.args.said.now (plain_inst c.args.inst.now) c.in-Some.group os
    c.in_ok-decorations.decorations.items c.is_misplaced_among.result (sym c.group_of.ensures ∙ c.in-Some.is)
    c.behind_first.ensures c.in_ok-decorations.ensures
    (subst (λ (z : List ℕ). IsTrue c.is_misplaced_among.result ↔ AnyId (IsAnyMisplaced is z) os)
    c.as_slice.ensures.value
    c.is_misplaced_among.ensures)
