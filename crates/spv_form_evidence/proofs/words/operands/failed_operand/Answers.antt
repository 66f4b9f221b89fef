use Rattle.std.proofs.Common.{◌≡◌, ◌<◌, ◌≤◌, ◌∷◌, [], length, refl, arith, length-append}
use Rattle.spv_table.specs.Table.{pattern_of}
use Rattle.spv_module.specs.Module.{plain_operands}
use Rattle.spv_inst.specs.inner.Pending.{plain_slot}
use Rattle.spv_inst.proofs.Turns.{plain-push}
use Rattle.spv_form_evidence.proofs.lemmas.words.Walking.{way_first, way_settled, way_opened, way_taken, way_refused}
use Rattle.spv_form_evidence.proofs.lemmas.words.Walking.{way_left}
use Rattle.spv_form_evidence.proofs.lemmas.words.Walking.{way_end}
use Rattle.spv_form_evidence.proofs.words.operands.failed_operand.Goals as goal

pub turns-init : goal.turns-init
turns-init c =
    let scene = c.args.scene.now in
    let G = scene.table.now in
    let e = c.new-operands.ensures.items in
    let due = rw c.operands.ensures at (c.start.ensures G) in
    record {
      from = omega arith;
      upto = c.requires.order;
      few = rw e (omega arith);
      way = λ b know.
          rw e
          (way_first G scene.definitions.now c.new-known.result b c.args.place.opcode (pattern_of c.args.entry.now)
          scene.image.now c.args.place.first c.args.place.end _ c.new-known.ensures know due);
    }

pub returns-then-at-place : goal.returns-then-at-place
returns-then-at-place c = λ b know.
    let e = rw c.in_default.is at c.in_ok-asked.ensures.due in
    let same = c.if-at-place.true in
    let h : c.args.place.end ≤ c.turns.at = omega (arith, same) in
    let w = way_settled _ _ _ _ _ _ _ _ _ _ _ _ _ (c.turns.invariant.way b know) c.requires.fits e in
    (plain_operands c.turns.operands.items, way_end _ _ _ _ _ _ _ _ _ _ _ w h)

pub returns-in_default : goal.returns-in_default
returns-in_default c = λ b know.
    let e = rw c.in_default.is at c.in_ok-asked.ensures.due in
    let u = c.turns.invariant.upto in
    let n = c.if-at-place.false in
    let h : c.turns.at < c.args.place.end = omega (arith, u, n) in
    let k : c.len-operand.result ≡ length c.turns.operands.items = omega arith in
    let w = way_settled _ _ _ _ _ _ _ _ _ _ _ _ _ (c.turns.invariant.way b know) c.requires.fits e in
    way_left _ _ _ _ _ _ _ _ _ _ c.turns.operands.items _ w h c.requires.fits k

pub returns-in_default-take_operand : goal.returns-in_default-take_operand
returns-in_default-take_operand c = λ b know.
    let l = rw c.in-Some.is at c.in_ok-asked.ensures.due in
    let k : c.len-operand.result ≡ length c.turns.operands.items = omega arith in
    let w1 = way_settled _ _ _ _ _ _ _ _ _ _ _ _ _ (c.turns.invariant.way b know) c.requires.fits l.first in
    let w2 = way_opened _ _ _ _ _ _ _ _ _ _ _ l.slot _ _ w1 l.opened in
    let f = rw c.in-Some.is at c.in_ok-asked.ensures.leaf in
    let t = c.in_default-take_operand.ensures.refused _ w2.near f in
    way_refused _ _ _ _ _ _ _ _ _ _ c.turns.operands.items (plain_slot c.in-Some.asked.slot) _
    c.in_default-take_operand.field-0.rule c.in_default-take_operand.field-0.word _ w2 t k

pub turns-preserved : goal.turns-preserved
turns-preserved c =
    let os = c.turns.operands.items in
    let o = c.in-Ok.taken.operand in
    let i = c.in_ok-push.ensures.items in
    let w = c.in-Ok.ensures.within in
    let wa = w.0 in
    let wb = w.1 in
    let r = c.turns.invariant.from in
    let u = c.turns.invariant.upto in
    let f = c.turns.invariant.few in
    let n = length-append os (o ∷ []) in
    record {
      from = omega arith;
      upto = omega arith;
      few = rw i (omega arith);
      way = λ b know.
          let l = rw c.in-Some.is at c.in_ok-asked.ensures.due in
          let w1 = way_settled _ _ _ _ _ _ _ _ _ _ _ _ _ (c.turns.invariant.way b know) c.requires.fits l.first in
          let w2 = way_opened _ _ _ _ _ _ _ _ _ _ _ l.slot _ _ w1 l.opened in
          let g = rw c.in-Some.is at c.in_ok-asked.ensures.leaf in
          let t = c.in-Ok.ensures.taken _ w2.near g in
          let ty = rw c.deref.ensures.value at c.known_after-known.ensures.type_id in
          let fi = rw c.deref.ensures.value at c.known_after-known.ensures.first in
          way_taken _ _ _ _ _ _ _ _ _ _ _ _ _ (plain_slot c.in-Some.asked.slot) _ _ o c.in-Ok.taken.words w2 wb t
          c.in_ok-open.ensures (rw i (plain-push os _ o refl)) c.known_after-known.ensures.opcode ty fi;
    }
