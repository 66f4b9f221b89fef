use Rattle.std.proofs.Common.{◌≡◌, ◌-◌, ◌++◌, ◌∷◌, [], ◌∙◌, length, take, drop, refl, ap, arith, length-append}
use Rattle.std.proofs.lemmas.List.{take-append-le, drop-append-le, take_all, length-drop}
use Rattle.spv_inst.specs.inner.Pending.{plain_slot}
use Rattle.spv_module.specs.Module.{plain_operands}
use Rattle.spv_inst.proofs.Turns.{turn_from, turn_settled, turn_left, turn_opened, turn_refused, turn_taken, turn_end}
use Rattle.spv_inst.proofs.Turns.{turn_missing, plain-push}
use Rattle.spv_inst.proofs.instruction.read_rest.Goals as goal

pub loop-at-init : goal.loop-at-init
loop-at-init c =
    let G = c.args.scene.now.table.now in
    let scene = c.args.scene.now in
    let p = c.args.place.opcode in
    let os = c.args.operands.now.items in
    let n = c.args.begin in
    let w = c.requires.within in
    let wa = w.0 in
    let wb = w.1 in
    let room = c.requires.room in
    let d = length-drop n os in
    let v : take (length os - n) (drop n os) ≡ drop n os = take_all (length os - n) (drop n os) (omega arith) in
    record {
      after = omega arith;
      upto = wb;
      room = room;
      kept = refl;
      few = omega arith;
      turn = λ b pattern know front.
          let ty = rw (c.deref.ensures.value, v) at c.known_of-known.ensures.type_id in
          let fi = rw (c.deref.ensures.value, v) at c.known_of-known.ensures.first in
          turn_from G scene.definitions.now c.known_of-known.result b p pattern scene.image.now c.args.place.first _
          c.args.place.end _ _ _ wa wb front (c.in_ok-resume.ensures G) know c.known_of-known.ensures.opcode ty fi;
    }

pub returns-in_default-clause-misfit : goal.returns-in_default-clause-misfit
returns-in_default-clause-misfit c = λ b pattern know sofar.
    let e = rw c.in_default.is at c.in_ok-asked.ensures.due in
    let t1 = turn_settled _ _ _ _ _ _ _ _ _ _ _ _ _
    (c.loop-at.invariant.turn b pattern know sofar) c.loop-at-test.true c.requires.fits e in
    let m = turn_left _ _ _ _ _ _ _ _ _ _ _ t1 c.loop-at-test.true c.requires.fits in
    rw c.fault_at.ensures (refl, m.from, m.misfit)

pub loop-at-preserved : goal.loop-at-preserved
loop-at-preserved c =
    let s = c.args.begin in
    let os = c.loop-at.operands.items in
    let o = c.in-Ok.taken.operand in
    let i = c.in_ok-push-in-Ok.ensures.items in
    let r = c.loop-at.invariant.room in
    let w = c.in-Ok.ensures.within in
    let wa = w.0 in
    let wb = w.1 in
    let u = c.loop-at.invariant.upto in
    let f = c.loop-at.invariant.few in
    let l = length-append os (o ∷ []) in
    let pl : plain_operands (drop s (os ++ (o ∷ []))) ≡ plain_operands (drop s os ++ (o ∷ [])) = ap plain_operands
    (drop-append-le s os (o ∷ []) r) in
    let lt = c.loop-at-test.true in
    let d = length-drop s os in
    let v : take (length os - s) (drop s os) ≡ drop s os = take_all (length os - s) (drop s os) (omega arith) in
    record {
      after = omega arith;
      upto = omega arith;
      room = rw i (omega arith);
      kept = rw (i, take-append-le s os (o ∷ []) r) c.loop-at.invariant.kept;
      few = rw i (omega arith);
      turn = λ b pattern know sofar.
          let e = rw c.in-Some.is at c.in_ok-asked.ensures.due in
          let t1 = turn_settled _ _ _ _ _ _ _ _ _ _ _ _ _
          (c.loop-at.invariant.turn b pattern know sofar) c.loop-at-test.true c.requires.fits e.first in
          let t2 = turn_opened _ _ _ _ _ _ _ _ _ _ _ e.slot _ _ t1 e.opened in
          let g = rw c.in-Some.is at c.in_ok-asked.ensures.leaf in
          let t = c.in-Ok.ensures.taken _ t2.near g in
          let ty = rw (c.deref-in-Ok.ensures.value, v) at c.known_after-known.ensures.type_id in
          let fi = rw (c.deref-in-Ok.ensures.value, v) at c.known_after-known.ensures.first in
          turn_taken _ _ _ _ _ _ _ _ _ _ _ _ _
          (plain_slot c.in-Some.asked.slot) _ _ o c.in-Ok.taken.words t2 c.requires.fits c.in-Ok.ensures.within.1 t
          c.in_ok-open-in-Ok.ensures (rw i (pl ∙ plain-push (drop s os) _ o refl)) c.known_after-known.ensures.opcode ty
          fi;
    }

pub overflow_add-at-in-Err : goal.overflow_add-at-in-Err
overflow_add-at-in-Err c =
    let u = c.loop-at.invariant.upto in
    let w = c.in-Err.ensures.reached in
    omega (arith, w, u)

pub returns-in-Err-clause-misfit : goal.returns-in-Err-clause-misfit
returns-in-Err-clause-misfit c = λ b pattern know sofar.
    let l = rw c.in-Some.is at c.in_ok-asked.ensures.due in
    let t1 = turn_settled _ _ _ _ _ _ _ _ _ _ _ _ _
    (c.loop-at.invariant.turn b pattern know sofar) c.loop-at-test.true c.requires.fits l.first in
    let t2 = turn_opened _ _ _ _ _ _ _ _ _ _ _ l.slot _ _ t1 l.opened in
    let f = rw c.in-Some.is at c.in_ok-asked.ensures.leaf in
    let t = c.in-Err.ensures.refused _ t2.near f in
    let m = turn_refused _ _ _ _ _ _ _ _ _ _ _
    (plain_slot c.in-Some.asked.slot) _ c.in-Err.refusal.rule c.in-Err.refusal.word t2 t in
    rw c.fault_at-in-Err.ensures (refl, m.from, m.misfit)

pub returns-in-Some-2-clause-misfit : goal.returns-in-Some-2-clause-misfit
returns-in-Some-2-clause-misfit c = λ b pattern know sofar.
    let l = rw c.in-Some-2.is at c.in_ok-next_leaf.ensures.due in
    let m = turn_missing _ _ _ _ _ _ _ _ _ _ _ _ _ _ c.requires.whole
    (c.loop-at.invariant.turn b pattern know sofar) c.loop-at-test.false l.first in
    rw c.fault_at-in-Some-2.ensures (refl, m.from, m.misfit)

pub returns-in-None-clause-read : goal.returns-in-None-clause-read
returns-in-None-clause-read c = λ b pattern know sofar.
    let e = rw c.in-None.is at c.in_ok-next_leaf.ensures.due in
    turn_end _ _ _ _ _ _ _ _ _ _ _ _ (c.loop-at.invariant.turn b pattern know sofar) c.loop-at-test.false e
