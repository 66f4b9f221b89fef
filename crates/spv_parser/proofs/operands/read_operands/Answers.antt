use Rattle.std.proofs.Common.{rules, map}
use Rattle.std.proofs.lemmas.Result.{err_from_is_err_and}
use Rattle.spv_inst.specs.Flat.{due}
use Rattle.spv_inst.specs.inner.Pending.{items_of, pending_due, plain_slot}
use Rattle.spv_inst.proofs.Shapes.{shape_is_leaf}
use Rattle.spv_parser.specs.inner.Reading.{IsAt, context_of}
use Rattle.spv_parser.proofs.Walks.{IsMore, so_far_first, so_far_more, so_far_nearer, so_far_left, so_far_done}
use Rattle.spv_parser.proofs.Walks.{so_far_stopped, more_then, more_else}
use Rattle.spv_parser.proofs.operands.read_operands.Goals as goal
use Rattle.spv_parser.proofs.operands.read_operands.Goals.{then-not-is_empty, else-not-is_empty}

pub loop-more-init : goal.loop-more-init
loop-more-init c = (
  search rules,
  λ before k.
      let pattern = map due (items_of c.args.pattern.now) in
      so_far_first c.args.setting.now.table.now c.args.result_id before c.args.opcode pattern _ c.args.operands.now _
      c.new-known.result (c.start.ensures c.args.setting.now.table.now) c.clear.ensures.items c.requires.broken
      c.new-known.ensures,
)

pub loop-more-preserved : goal.loop-more-preserved
loop-more-preserved c = (
  search rules,
  λ before k.
      let G = c.args.setting.now.table.now in
      let r = c.args.result_id in
      let l = c.loop-more in
      let a = l.invariant.1 before k in
      let d = context_of before c.args.opcode a.operands in
      let more = c.if-not-is_empty.more in
      let n : IsMore more r d l.rest.now = elim c.if-not-is_empty.branch [
        | then-not-is_empty w ↦ rw w.more-is
            (more_then c.is_empty.result r d l.rest.now c.is_empty.ensures w.if-not-is_empty.true)
        | else-not-is_empty w ↦ rw w.more-is
            (more_else c.is_empty.result w.differ-more.result r l.known.result d l.rest.now c.is_empty.ensures
            w.if-not-is_empty.false a.known.result w.differ-more.ensures)
      ] in
      let pattern = map due (items_of c.args.pattern.now) in
      let ds = pending_due G l.buffers.pending in
      let s = plain_slot c.in-Some.asked.slot in
      let e = rw c.in-Some.is at c.in_ok-asked.ensures.leaf in
      let u = rw c.in-Some.is at c.in_ok-asked.ensures.due in
      let i : IsAt c.args.setting.now.definitions.now l.known d = record { definitions = k; operands = a.known } in
      let es = pending_due G c.next_leaf.new.self in
      let t = c.in_ok-front.ensures.taken d i e a.broken in
      so_far_more G r before c.args.opcode pattern ds es _ c.args.operands.now l.rest.now _ l.buffers.words.items _
      l.known _ s more a n u t,
)

pub loop-more-smaller : goal.loop-more-smaller
loop-more-smaller c =
    let before = c.requires.known.0 in
    let k = c.requires.known.1 in
    let G = c.args.setting.now.table.now in
    let r = c.args.result_id in
    let l = c.loop-more in
    let a = l.invariant.1 before k in
    let d = context_of before c.args.opcode a.operands in
    let s = plain_slot c.in-Some.asked.slot in
    let e = rw c.in-Some.is at c.in_ok-asked.ensures.leaf in
    let i : IsAt c.args.setting.now.definitions.now l.known d = record { definitions = k; operands = a.known } in
    let t = c.in_ok-front.ensures.taken d i e a.broken in
    so_far_nearer G r d s l.rest.now _ _ _ l.known _ _ _ a.known t

pub returns-then-more-clause-failed : goal.returns-then-more-clause-failed
returns-then-more-clause-failed c = λ before k.
    let G = c.args.setting.now.table.now in
    let r = c.args.result_id in
    let l = c.loop-more in
    let a = l.invariant.1 before k in
    let d = context_of before c.args.opcode a.operands in
    let more = c.if-not-is_empty.more in
    let n : IsMore more r d l.rest.now = elim c.if-not-is_empty.branch [
      | then-not-is_empty w ↦ rw w.more-is
          (more_then c.is_empty.result r d l.rest.now c.is_empty.ensures w.if-not-is_empty.true)
      | else-not-is_empty w ↦ rw w.more-is
          (more_else c.is_empty.result w.differ-more.result r l.known.result d l.rest.now c.is_empty.ensures
          w.if-not-is_empty.false a.known.result w.differ-more.ensures)
    ] in
    let pattern = map due (items_of c.args.pattern.now) in
    let ds = pending_due G l.buffers.pending in
    let u = rw c.in_default.is at c.in_ok-asked.ensures.due in
    so_far_left G r before c.args.opcode pattern ds c.args.operands.now l.rest.now l.buffers.words.items l.known more a
    n u c.if-more.true

pub returns-in_default-clause-read : goal.returns-in_default-clause-read
returns-in_default-clause-read c = λ before k.
    let G = c.args.setting.now.table.now in
    let r = c.args.result_id in
    let l = c.loop-more in
    let a = l.invariant.1 before k in
    let d = context_of before c.args.opcode a.operands in
    let more = c.if-not-is_empty.more in
    let n : IsMore more r d l.rest.now = elim c.if-not-is_empty.branch [
      | then-not-is_empty w ↦ rw w.more-is
          (more_then c.is_empty.result r d l.rest.now c.is_empty.ensures w.if-not-is_empty.true)
      | else-not-is_empty w ↦ rw w.more-is
          (more_else c.is_empty.result w.differ-more.result r l.known.result d l.rest.now c.is_empty.ensures
          w.if-not-is_empty.false a.known.result w.differ-more.ensures)
    ] in
    let pattern = map due (items_of c.args.pattern.now) in
    let ds = pending_due G l.buffers.pending in
    let u = rw c.in_default.is at c.in_ok-asked.ensures.due in
    so_far_done G r before c.args.opcode pattern ds c.args.operands.now l.rest.now l.buffers.words.items l.known more
    c.line.result a n u c.if-more.false (c.line.ensures c.args.opcode)

pub returns-in_err-front-clause-failed : goal.returns-in_err-front-clause-failed
returns-in_err-front-clause-failed c =
    let q = err_from_is_err_and c.from_residual-in_err-front.result c.from_residual-in_err-front.ensures.1 in
    λ before k.
    let G = c.args.setting.now.table.now in
    let r = c.args.result_id in
    let l = c.loop-more in
    let a = l.invariant.1 before k in
    let d = context_of before c.args.opcode a.operands in
    let more = c.if-not-is_empty.more in
    let n : IsMore more r d l.rest.now = elim c.if-not-is_empty.branch [
      | then-not-is_empty w ↦ rw w.more-is
          (more_then c.is_empty.result r d l.rest.now c.is_empty.ensures w.if-not-is_empty.true)
      | else-not-is_empty w ↦ rw w.more-is
          (more_else c.is_empty.result w.differ-more.result r l.known.result d l.rest.now c.is_empty.ensures
          w.if-not-is_empty.false a.known.result w.differ-more.ensures)
    ] in
    let pattern = map due (items_of c.args.pattern.now) in
    let ds = pending_due G l.buffers.pending in
    let s = plain_slot c.in-Some.asked.slot in
    let e = rw c.in-Some.is at c.in_ok-asked.ensures.leaf in
    let u = rw c.in-Some.is at c.in_ok-asked.ensures.due in
    let i : IsAt c.args.setting.now.definitions.now l.known d = record { definitions = k; operands = a.known } in
    let es = pending_due G c.next_leaf.new.self in
    let t = c.in_err-front.ensures.refused d i e a.broken in
    rw (q.1, q.2) (so_far_stopped G r before c.args.opcode pattern ds es c.args.operands.now l.rest.now
    l.buffers.words.items l.known s more _ a n u (shape_is_leaf G d s c.in-Some.asked.leaf e) t)
