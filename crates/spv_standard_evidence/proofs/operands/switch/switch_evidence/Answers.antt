use Rattle.std.proofs.Common.{ℕ, List, ap, subst}
use Rattle.spv_module.specs.Module.{plain_inst, plain_operands}
use Rattle.spv_module.specs.Operand.{Plain}
use Rattle.spv_kernel_operands.specs.Switch.{HasWide}
use Rattle.spv_kernel_operands.specs.inner.Switch.{IsSelector}
use Rattle.spv_standard_evidence.proofs.Switched.{must_be_twice, none_wide, not_selected, shown_twice, shown_wide}
use Rattle.spv_standard_evidence.proofs.operands.switch.switch_evidence.Goals as goal
use Rattle.spv_standard_evidence.proofs.operands.switch.switch_evidence.Goals.{in-Some+in_default-wide_literal, in_default}

pub returns-in-Some-wide_literal : goal.returns-in-Some-wide_literal
returns-in-Some-wide_literal c = λ G.
    let is = c.args.definitions.now in
    let i = plain_inst c.args.inst.now in
    let w = c.in-Some.width in
    let s = subst (λ (os : List Plain). IsSelector is os w) (ap plain_operands c.as_slice.ensures.value)
    c.in-Some.ensures in
    shown_wide is i w c.in-Some-wide_literal.operand c.requires s c.in-Some-wide_literal.ensures G

pub equal_literals-requires : goal.equal_literals-requires
equal_literals-requires c =
    let is = c.args.definitions.now in
    let i = plain_inst c.args.inst.now in
    let same = ap plain_operands c.as_slice.ensures.value in
    let none : ¬ (HasWide is i.operands) = elim c.match-selector_width.branch [
      | in-Some+in_default-wide_literal w ↦
          none_wide is i.operands w.in-Some.width
          (subst (λ (os : List Plain). IsSelector is os w.in-Some.width) same w.in-Some.ensures)
          w.in_default-wide_literal.ensures
      | in_default w ↦ not_selected is i.operands
          (subst (λ (os : List Plain). (v : ℕ) → ¬ (IsSelector is os v)) same w.in_default.ensures)
    ] in
    must_be_twice is i c.requires none

pub returns : goal.returns
returns c = λ G.
    shown_twice c.args.definitions.now (plain_inst c.args.inst.now) c.in_ok-first.first c.in_ok-first.second c.requires
    c.in_ok-first.ensures G
