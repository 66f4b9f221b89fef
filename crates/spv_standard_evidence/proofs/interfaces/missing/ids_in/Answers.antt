use Rattle.std.proofs.Common.{◌≤◌, ◌∙◌, sym, length, arith}
use Rattle.std.proofs.lemmas.List.{length-map}
use Rattle.std.proofs.lemmas.Option.{slice_get_within}
use Rattle.spv_module.specs.declared.operand.Operand.TheVariants as code
use Rattle.spv_module.specs.Module.{plain_operand, plain_operands}
use Rattle.spv_module.specs.Operand.{Id}
use Rattle.spv_interfaces.proofs.Interfaces.{id_there, no_id_there, operand_there, seen_more, seen_past}
use Rattle.spv_standard_evidence.proofs.interfaces.missing.ids_in.Goals.{in-Some+in_ok-put, in_default}
use Rattle.spv_standard_evidence.proofs.interfaces.missing.ids_in.Goals as goal

pub loop-at-preserved : goal.loop-at-preserved
loop-at-preserved c =
    let os = plain_operands c.args.interface.now in
    let i = c.loop-at.at in
    let old = c.loop-at.named in
    let t = operand_there c.args.interface.now i (code.OfType 0) c.loop-at-test.true in
    elim c.match-id_of.branch [
      | in-Some+in_ok-put w ↦
          let x = w.in-Some.x in
          let at = id_there os i x _ t (sym c.id_of.ensures ∙ w.in-Some.is) in
          rw w.named-is (seen_more os i x old w.put.new.seen at w.in_ok-put.ensures.kept c.loop-at.invariant)
      | in_default w ↦
          let none = no_id_there os i _ t (sym c.id_of.ensures ∙ w.in_default.is) in
          rw w.named-is (seen_past os i old none c.loop-at.invariant)
    ]

pub returns : goal.returns
returns c = λ x.
    let os = plain_operands c.args.interface.now in
    let i = c.loop-at.at in
    let m = length-map c.args.interface.now plain_operand in
    let t = c.loop-at-test.false in
    let l : length os ≤ i = omega (arith, m, t) in (
      λ h. let b = (c.loop-at.invariant x).0 h in (b.0, b.2),
      λ n. let w = slice_get_within os n.0 (Id x) n.1 in (c.loop-at.invariant x).1 (n.0, omega (arith, w, l), n.1),
    )
