use Rattle.std.proofs.Common.{◌≡◌, ◌≤◌, ◌∙◌, false, true, sym, refl, length, arith}
use Rattle.std.proofs.lemmas.List.{length-map}
use Rattle.std.proofs.lemmas.Bool.{false≢true}
use Rattle.spv_module.specs.declared.operand.Operand.TheVariants as code
use Rattle.spv_module.specs.Module.{plain_operand, plain_operands}
use Rattle.spv_interfaces.proofs.Interfaces.{id_there, no_id_there, once_all, once_more, once_past, operand_there}
use Rattle.spv_interfaces.proofs.Interfaces.{twice_here}
use Rattle.spv_interfaces.proofs.entries.has_twice_of_few.Goals.{in-Some+else-is_before, in_default}
use Rattle.spv_interfaces.proofs.entries.has_twice_of_few.Goals as goal

pub loop-at-init : goal.loop-at-init
loop-at-init c = λ y t l. absurd (omega (arith, l))

pub returns-then-is_before : goal.returns-then-is_before
returns-then-is_before c =
    let os = plain_operands c.args.interface.now in
    let i = c.loop-at.at in
    let t = operand_there c.args.interface.now i (code.OfType 0) c.loop-at-test.true in
    let at = id_there os i c.in-Some.x _ t (sym c.id_of.ensures ∙ c.in-Some.is) in
    (λ _. twice_here os i c.in-Some.x (c.is_before.ensures.0 c.if-is_before.true) at, λ _. refl)

pub loop-at-preserved : goal.loop-at-preserved
loop-at-preserved c =
    let os = plain_operands c.args.interface.now in
    let i = c.loop-at.at in
    let t = operand_there c.args.interface.now i (code.OfType 0) c.loop-at-test.true in
    elim c.match-id_of.branch [
      | in-Some+else-is_before w ↦
          let at = id_there os i w.in-Some.x _ t (sym c.id_of.ensures ∙ w.in-Some.is) in
          once_more os i w.in-Some.x at (λ b. false≢true (sym w.if-is_before.false ∙ w.is_before.ensures.1 b))
          c.loop-at.invariant
      | in_default w ↦
          once_past os i (no_id_there os i _ t (sym c.id_of.ensures ∙ w.in_default.is)) c.loop-at.invariant
    ]

pub returns : goal.returns
returns c =
    let os = plain_operands c.args.interface.now in
    let m = length-map c.args.interface.now plain_operand in
    let t = c.loop-at-test.false in
    let l : length os ≤ c.loop-at.at = omega (arith, m, t) in (
      λ f. let no : false ≡ true = f in absurd (cc),
      λ h. absurd (once_all os c.loop-at.at l c.loop-at.invariant h),
    )
