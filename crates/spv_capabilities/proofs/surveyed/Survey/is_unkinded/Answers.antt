use Rattle.std.proofs.Common.{◌≡◌, ℕ, Some, subst}
use Rattle.std.specs.Prelude.{slice_get}
use Rattle.spv_table.specs.Table.{Table}
use Rattle.spv_module.specs.Operand.{PlainInst}
use Rattle.spv_layout.specs.Shape.{FitsShape}
use Rattle.spv_capabilities.specs.inner.Subject.{Subject}
use Rattle.spv_capabilities.proofs.surveyed.Survey.is_unkinded.Goals as goal

pub returns-clause-operands : goal.returns-clause-operands
returns-clause-operands c = λ t n i at same.
    let f = subst (λ (s : Subject). (m : ℕ) (j : PlainInst) → slice_get s.insts m ≡ Some j
    → (G : Table) × FitsShape G j) c.self.view_is c.self.invariant.fits in
    let g = f n i at in
    c.is_unkinded.ensures.operands t g.0 i g.1 same
