use Rattle.std.proofs.Common.{◌≤◌, ◌∙◌, sym, length, arith}
use Rattle.std.proofs.lemmas.List.{length-map}
use Rattle.spv_module.specs.declared.operand.Operand.TheVariants as code
use Rattle.spv_module.specs.Module.{plain_operand, plain_operands}
use Rattle.spv_interfaces.proofs.Interfaces.{id_there, no_id_there, not_seen, once_all, once_more, once_past}
use Rattle.spv_interfaces.proofs.Interfaces.{operand_there, seen_before, seen_more, seen_past}
use Rattle.spv_standard_evidence.proofs.interfaces.unsound.repeated.Goals.{in-Some+in_ok-fresh+else-not-fresh}
use Rattle.spv_standard_evidence.proofs.interfaces.unsound.repeated.Goals.{in_default}
use Rattle.spv_standard_evidence.proofs.interfaces.unsound.repeated.Goals as goal

pub returns-then-not-fresh : goal.returns-then-not-fresh
returns-then-not-fresh c =
    let os = plain_operands c.args.interface.now in
    let i = c.loop-at.at in
    let t = operand_there c.args.interface.now i (code.OfType 0) c.loop-at-test.true in
    let at = id_there os i c.in-Some.x _ t (sym c.id_of.ensures ∙ c.in-Some.is) in
    let b = seen_before os i c.in-Some.x c.loop-at.seen c.in_ok-fresh.fresh c.in_ok-fresh.ensures.fresh
    c.if-not-fresh.true c.loop-at.invariant.seen in
    (c.loop-at-test.true, (at, b))

pub loop-at-preserved : goal.loop-at-preserved
loop-at-preserved c =
    let os = plain_operands c.args.interface.now in
    let i = c.loop-at.at in
    let old = c.loop-at.seen in
    let inv = c.loop-at.invariant in
    let t = operand_there c.args.interface.now i (code.OfType 0) c.loop-at-test.true in
    elim c.match-id_of.branch [
      | in-Some+in_ok-fresh+else-not-fresh w ↦
          let x = w.in-Some.x in
          let at = id_there os i x _ t (sym c.id_of.ensures ∙ w.in-Some.is) in
          rw w.seen-is (record {
            seen = seen_more os i x old w.put.new.seen at w.in_ok-fresh.ensures.kept inv.seen;
            once = once_more os i x at
                (not_seen os i x old w.in_ok-fresh.fresh w.in_ok-fresh.ensures.fresh w.if-not-fresh.false inv.seen)
                inv.once;
          })
      | in_default w ↦
          let none = no_id_there os i _ t (sym c.id_of.ensures ∙ w.in_default.is) in
          rw w.seen-is (record { seen = seen_past os i old none inv.seen; once = once_past os i none inv.once })
    ]

pub returns : goal.returns
returns c =
    let os = plain_operands c.args.interface.now in
    let i = c.loop-at.at in
    let m = length-map c.args.interface.now plain_operand in
    let t = c.loop-at-test.false in
    let l : length os ≤ i = omega (arith, m, t) in
    once_all os i l c.loop-at.invariant.once
