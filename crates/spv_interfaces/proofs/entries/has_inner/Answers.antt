use Rattle.std.proofs.Common.{◌≡◌, ◌≤◌, ◌∙◌, false, true, sym, refl, length, arith}
use Rattle.std.proofs.lemmas.List.{length-map}
use Rattle.std.proofs.lemmas.Bool.{false≢true}
use Rattle.spv_module.specs.declared.operand.Operand.TheVariants as code
use Rattle.spv_module.specs.Module.{plain_operand, plain_operands}
use Rattle.spv_interfaces.proofs.Interfaces.{id_there, inner_here, no_id_there, operand_there, outside_all}
use Rattle.spv_interfaces.proofs.Interfaces.{outside_more, outside_past}
use Rattle.spv_interfaces.proofs.entries.has_inner.Goals.{in-Some+else-is_inner, in_default}
use Rattle.spv_interfaces.proofs.entries.has_inner.Goals as goal

pub loop-operand-init : goal.loop-operand-init
loop-operand-init c = λ k x l h i. absurd (omega (arith, l))

pub returns-then-is_inner : goal.returns-then-is_inner
returns-then-is_inner c =
    let os = plain_operands c.args.interface.now in
    let i = c.loop-operand.operand-index in
    let t = operand_there c.args.interface.now i (code.OfType 0) c.loop-operand-test.true in
    let at = id_there os i c.in-Some.x _ t (sym c.id_of.ensures ∙ c.in-Some.is) in
    (λ _. inner_here c.args.definitions.now os i c.in-Some.x at (c.is_inner.ensures.0 c.if-is_inner.true), λ _. refl)

pub loop-operand-preserved : goal.loop-operand-preserved
loop-operand-preserved c =
    let is = c.args.definitions.now in
    let os = plain_operands c.args.interface.now in
    let i = c.loop-operand.operand-index in
    let t = operand_there c.args.interface.now i (code.OfType 0) c.loop-operand-test.true in
    elim c.match-id_of.branch [
      | in-Some+else-is_inner w ↦
          let at = id_there os i w.in-Some.x _ t (sym c.id_of.ensures ∙ w.in-Some.is) in
          outside_more is os i w.in-Some.x at
          (λ h. false≢true (sym w.if-is_inner.false ∙ w.is_inner.ensures.1 h)) c.loop-operand.invariant
      | in_default w ↦
          outside_past is os i (no_id_there os i _ t (sym c.id_of.ensures ∙ w.in_default.is)) c.loop-operand.invariant
    ]

pub returns : goal.returns
returns c =
    let os = plain_operands c.args.interface.now in
    let i = c.loop-operand.operand-index in
    let m = length-map c.args.interface.now plain_operand in
    let t = c.loop-operand-test.false in
    let l : length os ≤ i = omega (arith, m, t) in (
      λ f. let no : false ≡ true = f in absurd (cc),
      λ h. absurd (outside_all c.args.definitions.now os i l c.loop-operand.invariant h),
    )
