use Rattle.std.proofs.Common.{◌≡◌, ◌<◌, ◌∙◌, ℕ, Some, sym, subst, length, arith}
use Rattle.std.specs.Prelude.{slice_get}
use Rattle.spv_module.specs.declared.operand.Operand.TheVariants as code
use Rattle.spv_module.specs.Module.{plain_operands}
use Rattle.spv_module.specs.Operand.{Id}
use Rattle.spv_interfaces.proofs.Interfaces.{id_there, no_id_there, not_before_more, one_there, operand_there}
use Rattle.spv_standard_evidence.proofs.interfaces.unsound.first_place.Goals.{in-Some+else-y-x, in_default}
use Rattle.spv_standard_evidence.proofs.interfaces.unsound.first_place.Goals as goal

pub loop-at-init : goal.loop-at-init
loop-at-init c = λ b. let l = b.1 in absurd (omega (arith, l))

pub returns-then-y-x-clause-there : goal.returns-then-y-x-clause-there
returns-then-y-x-clause-there c =
    let os = plain_operands c.args.interface.now in
    let i = c.loop-at.at in
    let l = c.loop-at-test.true in
    let r = c.requires.to in
    let within : i < length c.args.interface.now = omega (arith, l, r) in
    let t = operand_there c.args.interface.now i (code.OfType 0) within in
    let at = id_there os i c.in-Some.y _ t (sym c.id_of.ensures ∙ c.in-Some.is) in
    subst (λ (z : ℕ). slice_get os i ≡ Some (Id z)) c.if-y-x.true at

pub loop-at-preserved : goal.loop-at-preserved
loop-at-preserved c =
    let os = plain_operands c.args.interface.now in
    let i = c.loop-at.at in
    let x = c.args.x in
    let l = c.loop-at-test.true in
    let r = c.requires.to in
    let within : i < length c.args.interface.now = omega (arith, l, r) in
    let t = operand_there c.args.interface.now i (code.OfType 0) within in
    elim c.match-id_of.branch [
      | in-Some+else-y-x w ↦
          let at = id_there os i w.in-Some.y _ t (sym c.id_of.ensures ∙ w.in-Some.is) in
          not_before_more os i x (λ h. w.if-y-x.false (one_there os i w.in-Some.y x at h)) c.loop-at.invariant
      | in_default w ↦
          not_before_more os i x (no_id_there os i _ t (sym c.id_of.ensures ∙ w.in_default.is) x) c.loop-at.invariant
    ]

pub unreachable-requires : goal.unreachable-requires
unreachable-requires c =
    let t = c.loop-at-test.false in
    let b = c.requires.before in
    let l = b.1 in
    c.loop-at.invariant (b.0, omega (arith, l, t), b.2)
