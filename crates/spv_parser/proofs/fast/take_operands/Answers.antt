use Rattle.std.proofs.Common.{refl, rules, map}
use Rattle.spv_inst.specs.Flat.{due}
use Rattle.spv_inst.specs.inner.Pending.{items_of}
use Rattle.spv_module.specs.Shape.{alone}
use Rattle.spv_parser.specs.inner.Reading.{context_of}
use Rattle.spv_parser.proofs.Quick.{fast_more, fast_nearer, fast_has, fast_done}
use Rattle.spv_parser.proofs.fast.take_operands.Goals as goal

pub loop-next-init : goal.loop-next-init
loop-next-init c = (search rules, λ before k. c.requires.start before, c.requires.seen)

pub loop-next-preserved : goal.loop-next-preserved
loop-next-preserved c = (
  search rules,
  λ before k.
      let G = c.args.setting.now.table.now in
      let line = c.args.start.line in
      let opcode = c.args.opcode in
      let pattern = map due (items_of c.args.pattern.now) in
      let l = c.loop-next in
      let a = l.invariant.1 before k in
      let n = c.in-Some.next in
      let t = c.in-Some-cell.taken in
      let z = fast_has G line before opcode pattern c.args.operands.now _ l.rest.now l.words.items a in
      let h = rw c.in-Some-cell.is at (c.in_ok-cell.ensures.taken line
      (context_of before opcode a.so_far.operands) z refl k) in
      fast_more G line before opcode pattern _ t.kinds.now n.kinds.now c.in-Some-joined.due.now n.items.left.now
      c.args.operands.now l.rest.now t.rest.now l.words.items _
      (alone n.kind) c.is_empty-more.result a c.is_empty-more.ensures c.in-Some.ensures h
      c.in-Some-joined.ensures,
  c.take_operand.ensures.seen,
)

pub loop-next-smaller : goal.loop-next-smaller
loop-next-smaller c =
    let G = c.args.setting.now.table.now in
    let line = c.args.start.line in
    let opcode = c.args.opcode in
    let pattern = map due (items_of c.args.pattern.now) in
    let l = c.loop-next in
    let before = c.requires.known.0 in
    let k = c.requires.known.1 in
    let a = l.invariant.1 before k in
    let n = c.in-Some.next in
    let t = c.in-Some-cell.taken in
    let z = fast_has G line before opcode pattern c.args.operands.now _ l.rest.now l.words.items a in
    let h = rw c.in-Some-cell.is at (c.in_ok-cell.ensures.taken line
    (context_of before opcode a.so_far.operands) z refl k) in
    fast_nearer G line before opcode pattern _ c.args.operands.now l.rest.now t.rest.now l.words.items l.words.items _
    t.kinds.now (alone n.kind) a h

pub returns-in_default-clause-read : goal.returns-in_default-clause-read
returns-in_default-clause-read c = λ before m k.
    let l = c.loop-next in
    fast_done c.args.setting.now.table.now c.args.start.line before c.args.opcode
    (map due (items_of c.args.pattern.now)) _ c.args.operands.now l.rest.now l.words.items _ c.is_empty-more.result
    (l.invariant.1 before m) c.requires.no_width c.is_empty-more.ensures c.in_default.ensures refl k
