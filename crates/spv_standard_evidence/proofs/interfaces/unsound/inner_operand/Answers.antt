use Rattle.std.proofs.Common.{◌≤◌, ◌∙◌, sym, refl, length, arith}
use Rattle.std.proofs.lemmas.List.{length-map}
use Rattle.std.proofs.lemmas.Bool.{false≢true}
use Rattle.spv_module.specs.declared.operand.Operand.TheVariants as code
use Rattle.spv_module.specs.Module.{plain_operand, plain_operands}
use Rattle.spv_interfaces.proofs.Interfaces.{id_there, no_id_there, operand_there, outside_all}
use Rattle.spv_interfaces.proofs.Interfaces.{outside_more, outside_past}
use Rattle.spv_standard_evidence.proofs.interfaces.unsound.inner_operand.Goals.{in-Some+else-is_inner, in_default}
use Rattle.spv_standard_evidence.proofs.interfaces.unsound.inner_operand.Goals as goal

pub loop-at-init : goal.loop-at-init
loop-at-init c = λ k x l h i. absurd (omega (arith, l))

pub returns-then-is_inner : goal.returns-then-is_inner
returns-then-is_inner c =
    let os = plain_operands c.args.interface.now in
    let i = c.loop-at.at in
    let t = operand_there c.args.interface.now i (code.OfType 0) c.loop-at-test.true in
    let at = id_there os i c.in-Some.x _ t (sym c.id_of.ensures ∙ c.in-Some.is) in
    let h = c.is_inner.ensures.0 c.if-is_inner.true in (
      record { id = c.in-Some.x; class = h.0; named = (i, at); of = h.1; not_input = h.2; not_output = h.3 },
      refl,
    )

pub loop-at-preserved : goal.loop-at-preserved
loop-at-preserved c =
    let is = c.args.definitions.now in
    let os = plain_operands c.args.interface.now in
    let i = c.loop-at.at in
    let t = operand_there c.args.interface.now i (code.OfType 0) c.loop-at-test.true in
    elim c.match-id_of.branch [
      | in-Some+else-is_inner w ↦
          let at = id_there os i w.in-Some.x _ t (sym c.id_of.ensures ∙ w.in-Some.is) in
          outside_more is os i w.in-Some.x at
          (λ h. false≢true (sym w.if-is_inner.false ∙ w.is_inner.ensures.1 h)) c.loop-at.invariant
      | in_default w ↦
          outside_past is os i (no_id_there os i _ t (sym c.id_of.ensures ∙ w.in_default.is)) c.loop-at.invariant
    ]

pub returns : goal.returns
returns c =
    let os = plain_operands c.args.interface.now in
    let i = c.loop-at.at in
    let m = length-map c.args.interface.now plain_operand in
    let t = c.loop-at-test.false in
    let l : length os ≤ i = omega (arith, m, t) in
    outside_all c.args.definitions.now os i l c.loop-at.invariant
