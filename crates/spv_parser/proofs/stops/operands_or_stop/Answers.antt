use Rattle.std.proofs.Common.{rules, map}
use Rattle.spv_inst.specs.Flat.{due}
use Rattle.spv_inst.specs.inner.Pending.{items_of, pending_due, plain_slot}
use Rattle.spv_parser.specs.inner.Reading.{IsAt, context_of}
use Rattle.spv_parser.proofs.Halting.{stop_first, stop_more, stop_left, stop_refused}
use Rattle.spv_parser.proofs.Walks.{IsMore, so_far_first, so_far_more, so_far_nearer, so_far_done, more_then, more_else}
use Rattle.spv_parser.proofs.stops.operands_or_stop.Goals as goal
use Rattle.spv_parser.proofs.stops.operands_or_stop.Goals.{then-not-is_empty, else-not-is_empty}

pub loop-more-init : goal.loop-more-init
loop-more-init c = (
  search rules,
  λ before k.
      let G = c.args.setting.now.table.now in
      let r = c.args.result_id in
      let pattern = map due (items_of c.args.pattern.now) in (
        so_far_first G r before c.args.opcode pattern _ c.args.operands.now _ c.new-known.result
            (c.start.ensures G) c.clear.ensures.items c.requires.broken c.new-known.ensures,
        stop_first G r before c.args.opcode pattern _ c.args.operands.now c.new-known.result
            (c.start.ensures G) c.requires.broken c.new-known.ensures,
      ),
)

pub loop-more-preserved : goal.loop-more-preserved
loop-more-preserved c = (
  search rules,
  λ before k.
      let G = c.args.setting.now.table.now in
      let r = c.args.result_id in
      let l = c.loop-more in
      let a = (l.invariant.1 before k).0 in
      let b = (l.invariant.1 before k).1 in
      let more = c.if-not-is_empty.more in
      let pattern = map due (items_of c.args.pattern.now) in
      let ds = pending_due G l.buffers.pending in
      let s = plain_slot c.in-Some.asked.slot in
      let e = rw c.in-Some.is at c.in_ok-asked.ensures.leaf in
      let u = rw c.in-Some.is at c.in_ok-asked.ensures.due in
      let es = pending_due G c.next_leaf.new.self in
      let d = context_of before c.args.opcode a.operands in
      let n : IsMore more r d l.rest.now = elim c.if-not-is_empty.branch [
        | then-not-is_empty w ↦ rw w.more-is
            (more_then c.is_empty.result r d l.rest.now c.is_empty.ensures w.if-not-is_empty.true)
        | else-not-is_empty w ↦ rw w.more-is
            (more_else c.is_empty.result w.differ-more.result r l.known.result d l.rest.now c.is_empty.ensures
            w.if-not-is_empty.false a.known.result w.differ-more.ensures)
      ] in
      let i : IsAt c.args.setting.now.definitions.now l.known d = record { definitions = k; operands = a.known } in
      let t = c.in-Ok.ensures.taken d i e a.broken in
      let d' = context_of before c.args.opcode b.operands in
      let n' : IsMore more r d' l.rest.now = elim c.if-not-is_empty.branch [
        | then-not-is_empty w ↦ rw w.more-is
            (more_then c.is_empty.result r d' l.rest.now c.is_empty.ensures w.if-not-is_empty.true)
        | else-not-is_empty w ↦ rw w.more-is
            (more_else c.is_empty.result w.differ-more.result r l.known.result d' l.rest.now c.is_empty.ensures
            w.if-not-is_empty.false b.known.result w.differ-more.ensures)
      ] in
      let i' : IsAt c.args.setting.now.definitions.now l.known d' = record { definitions = k; operands = b.known } in
      let t' = c.in-Ok.ensures.taken d' i' e b.broken in (
        so_far_more G r before c.args.opcode pattern ds es _ c.args.operands.now l.rest.now _ l.buffers.words.items _
            l.known _ s more a n u t,
        stop_more G r before c.args.opcode pattern ds es _ c.args.operands.now l.rest.now _ l.buffers.words.items _
            l.known _ s more b n' u t',
      ),
)

pub loop-more-smaller : goal.loop-more-smaller
loop-more-smaller c =
    let before = c.requires.known.0 in
    let k = c.requires.known.1 in
    let G = c.args.setting.now.table.now in
    let r = c.args.result_id in
    let l = c.loop-more in
    let a = (l.invariant.1 before k).0 in
    let d = context_of before c.args.opcode a.operands in
    let s = plain_slot c.in-Some.asked.slot in
    let e = rw c.in-Some.is at c.in_ok-asked.ensures.leaf in
    let i : IsAt c.args.setting.now.definitions.now l.known d = record { definitions = k; operands = a.known } in
    let t = c.in-Ok.ensures.taken d i e a.broken in
    so_far_nearer G r d s l.rest.now _ _ _ l.known _ _ _ a.known t

pub returns-then-more : goal.returns-then-more
returns-then-more c = λ before k.
    let G = c.args.setting.now.table.now in
    let r = c.args.result_id in
    let l = c.loop-more in
    let b = (l.invariant.1 before k).1 in
    let d = context_of before c.args.opcode b.operands in
    let more = c.if-not-is_empty.more in
    let n : IsMore more r d l.rest.now = elim c.if-not-is_empty.branch [
      | then-not-is_empty w ↦ rw w.more-is
          (more_then c.is_empty.result r d l.rest.now c.is_empty.ensures w.if-not-is_empty.true)
      | else-not-is_empty w ↦ rw w.more-is
          (more_else c.is_empty.result w.differ-more.result r l.known.result d l.rest.now c.is_empty.ensures
          w.if-not-is_empty.false b.known.result w.differ-more.ensures)
    ] in
    let pattern = map due (items_of c.args.pattern.now) in
    let ds = pending_due G l.buffers.pending in
    let u = rw c.in_default.is at c.in_ok-asked.ensures.due in
    stop_left G r before c.args.opcode pattern ds c.args.operands.now l.rest.now l.known more _ _ b n u c.if-more.true
    (c.left_over.ensures G r)

pub returns-in_default : goal.returns-in_default
returns-in_default c = λ before k.
    let G = c.args.setting.now.table.now in
    let r = c.args.result_id in
    let l = c.loop-more in
    let a = (l.invariant.1 before k).0 in
    let d = context_of before c.args.opcode a.operands in
    let more = c.if-not-is_empty.more in
    let n : IsMore more r d l.rest.now = elim c.if-not-is_empty.branch [
      | then-not-is_empty w ↦ rw w.more-is
          (more_then c.is_empty.result r d l.rest.now c.is_empty.ensures w.if-not-is_empty.true)
      | else-not-is_empty w ↦ rw w.more-is
          (more_else c.is_empty.result w.differ-more.result r l.known.result d l.rest.now c.is_empty.ensures
          w.if-not-is_empty.false a.known.result w.differ-more.ensures)
    ] in
    let pattern = map due (items_of c.args.pattern.now) in
    let ds = pending_due G l.buffers.pending in
    let u = rw c.in_default.is at c.in_ok-asked.ensures.due in
    so_far_done G r before c.args.opcode pattern ds c.args.operands.now l.rest.now l.buffers.words.items l.known more
    c.line.result a n u c.if-more.false (c.line.ensures c.args.opcode)

pub returns-in-Err : goal.returns-in-Err
returns-in-Err c = λ before k.
    let G = c.args.setting.now.table.now in
    let r = c.args.result_id in
    let l = c.loop-more in
    let b = (l.invariant.1 before k).1 in
    let d = context_of before c.args.opcode b.operands in
    let more = c.if-not-is_empty.more in
    let n : IsMore more r d l.rest.now = elim c.if-not-is_empty.branch [
      | then-not-is_empty w ↦ rw w.more-is
          (more_then c.is_empty.result r d l.rest.now c.is_empty.ensures w.if-not-is_empty.true)
      | else-not-is_empty w ↦ rw w.more-is
          (more_else c.is_empty.result w.differ-more.result r l.known.result d l.rest.now c.is_empty.ensures
          w.if-not-is_empty.false b.known.result w.differ-more.ensures)
    ] in
    let pattern = map due (items_of c.args.pattern.now) in
    let ds = pending_due G l.buffers.pending in
    let s = plain_slot c.in-Some.asked.slot in
    let e = rw c.in-Some.is at c.in_ok-asked.ensures.leaf in
    let u = rw c.in-Some.is at c.in_ok-asked.ensures.due in
    let i : IsAt c.args.setting.now.definitions.now l.known d = record { definitions = k; operands = b.known } in
    let es = pending_due G c.next_leaf.new.self in
    let t = c.in-Err.ensures.refused d i e b.broken in
    stop_refused G r before c.args.opcode pattern ds es c.args.operands.now l.rest.now l.known s more _ _ b n u
    (c.in_ok-stop-in-Err.ensures r d es i e t)
