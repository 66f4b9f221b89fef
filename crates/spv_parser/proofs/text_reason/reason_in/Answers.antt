use Rattle.std.proofs.Common.{rules}
use Rattle.spv_lines.specs.Text.{lines_of}
use Rattle.spv_parser.proofs.Gathered.{lines_more, lines_done, lines_empty}
use Rattle.spv_parser.proofs.Halting.{stops_more, stops_here}
use Rattle.spv_parser.proofs.text_reason.reason_in.Goals as goal

pub returns-in-Stopped : goal.returns-in-Stopped
returns-in-Stopped c =
    let l = c.loop-rest in
    let a = l.invariant.2 in
    let h = rw c.in-Stopped.is at (c.in_ok-kept.ensures a.insts a.definitions) in
    rw c.line_reason.ensures (stops_here c.args.table.now
    (lines_of c.args.text.now) l.draft l.definitions c.split_line.result.0.now (lines_of l.rest.now)
    (lines_of c.split_line.result.1.now) l.number c.in-Stopped.stop.code _ a c.split_line.ensures.lines h)

pub loop-rest-preserved : goal.loop-rest-preserved
loop-rest-preserved c =
    let l = c.loop-rest in
    let a = l.invariant.1 in
    let b = l.invariant.2 in
    let h = rw c.in-Read.is at (c.in_ok-kept.ensures a.insts a.definitions) in
    let g = rw c.in-Read.is at (c.in_ok-kept.ensures b.insts b.definitions) in (
      search rules,
      lines_more c.args.table.now (lines_of c.args.text.now) c.args.draft.now l.draft c.take_line.new.draft
          l.definitions c.add_line.new.definitions c.split_line.result.0.now (lines_of l.rest.now)
          (lines_of c.split_line.result.1.now) l.number c.in-Read.kept
          a c.split_line.ensures.lines h (c.in_ok-add_line-in-Read.ensures a.insts h.line.inst h.line.kept
          a.definitions),
      stops_more c.args.table.now (lines_of c.args.text.now) l.draft c.take_line.new.draft l.definitions
          c.add_line.new.definitions c.split_line.result.0.now (lines_of l.rest.now)
          (lines_of c.split_line.result.1.now) l.number c.in-Read.kept
          b c.split_line.ensures.lines g (c.in_ok-add_line-in-Read.ensures b.insts g.line.inst g.line.kept
          b.definitions),
    )

pub returns : goal.returns
returns c =
    let l = c.loop-rest in
    lines_done c.args.table.now (lines_of c.args.text.now) c.args.draft.now l.draft l.definitions
    (lines_of l.rest.now) l.number l.invariant.1
    (lines_empty c.is_empty.result l.rest.now c.is_empty.ensures c.loop-rest-test.false)
