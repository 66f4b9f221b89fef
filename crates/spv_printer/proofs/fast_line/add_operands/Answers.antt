use Rattle.std.proofs.Common.{◌≡◌, ◌≤◌, ◌-◌, ◌++◌, ◌∷◌, [], map, refl, arith}
use Rattle.spv_inst.specs.inner.Pending.{items_of}
use Rattle.spv_inst.specs.Flat.{due}
use Rattle.spv_inst.proofs.Opened.{due_joined}
use Rattle.spv_module.specs.Operand.{start}
use Rattle.spv_inst.proofs.Steps.{after_is, at_start}
use Rattle.spv_inst.proofs.Turns.{words_next, words_end, length-between}
use Rattle.spv_printer.proofs.Drafts.{drafted_first, drafted_characters, drafted_line}
use Rattle.spv_printer.proofs.fast_line.add_operands.Goals as goal

pub loop-at-init : goal.loop-at-init
loop-at-init c =
    let G = c.args.table.now in
    let z : c.args.first - c.args.first ≡ 0 = omega arith in
    record {
      from = omega arith;
      upto = c.requires.order;
      added = record {
        operands = [];
        drafted = drafted_first G _ _ c.args.buffer.now refl refl refl c.requires.size;
        front = λ b p k. rw (z, c.of-items.ensures)
            (at_start G (start b p) (map due (items_of c.args.pattern.now)) _);
      };
    }

pub loop-at-preserved : goal.loop-at-preserved
loop-at-preserved c =
    let G = c.args.table.now in
    let a = c.loop-at.invariant.added in
    let p = c.in_ok-added.added in
    let e = c.in_ok-added.ensures in
    let w0 = e.some in
    let w1 = e.within in
    let l = length-between c.args.image.now c.loop-at.at c.args.end c.requires.fits in
    let f = c.loop-at.invariant.from in
    let t = c.loop-at-test.true in
    record {
      from = omega arith;
      upto = omega arith;
      added = record {
        operands = a.operands ++ (e.added.operand ∷ []);
        drafted = e.added.added a.operands a.drafted;
        front = λ b q h.
            words_next G (start b q) _ _ _ _ _ _ _ c.in_ok-next.next.kind p.kinds.now c.args.image.now c.args.first
            c.loop-at.at c.args.end p.words _ (a.front b q h) f t c.requires.fits (omega arith) c.in_ok-next.ensures
            (rw (after_is (start b q) a.operands)
            (e.added.takes (record { before = b; opcode = q; operands = a.operands }) h a.drafted.type_id)) refl
            (due_joined p.kinds.now c.in_ok-next.next.kinds.now c.in_ok-kinds.kinds.now
            (map due (items_of c.in_ok-next.next.items.left.now)) c.in_ok-kinds.ensures);
      };
    }

pub returns-in-None : goal.returns-in-None
returns-in-None c =
    let G = c.args.table.now in
    let a = c.loop-at.invariant.added in
    let l : c.args.end ≤ c.loop-at.at = omega (arith, c.loop-at-test.false) in
    record {
      operands = a.operands;
      characters = drafted_characters G _ a.operands _ _ a.drafted;
      line = λ o m. drafted_line G _ (record { opcode = o; operands = a.operands }) _ _ m a.drafted;
      matches = λ b q h. words_end G (start b q) (items_of c.args.pattern.now) _ _ _ _ _ _ _
          (a.front b q h) l c.in-None.ensures;
    }
