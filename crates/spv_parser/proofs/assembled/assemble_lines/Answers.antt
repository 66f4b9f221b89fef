use Rattle.std.proofs.Common.{rules}
use Rattle.spv_lines.specs.Text.{lines_of}
use Rattle.spv_parser.proofs.Gathered.{lines_more, lines_failed, lines_done, lines_empty}
use Rattle.spv_parser.proofs.assembled.assemble_lines.Goals as goal

pub returns-in-Err-clause-failed : goal.returns-in-Err-clause-failed
returns-in-Err-clause-failed c =
    let l = c.loop-last in
    let a = l.invariant.1 in
    rw c.line_error.ensures
    (lines_failed c.args.table.now (lines_of c.args.text.now) c.args.draft.now l.draft l.definitions
    c.split_line.result.0.now (lines_of l.rest.now)
    (lines_of c.split_line.result.1.now) l.number c.in-Err.code a c.split_line.ensures.lines
    (c.in-Err.ensures.failed a.insts a.definitions))

pub loop-last-preserved : goal.loop-last-preserved
loop-last-preserved c =
    let l = c.loop-last in
    let a = l.invariant.1 in
    let h = c.in-Ok.ensures.read a.insts a.definitions in (
      search rules,
      lines_more c.args.table.now (lines_of c.args.text.now) c.args.draft.now l.draft c.assemble_line.new.draft
          l.definitions c.add_line.new.definitions c.split_line.result.0.now (lines_of l.rest.now)
          (lines_of c.split_line.result.1.now) l.number c.in-Ok.line
          a c.split_line.ensures.lines h (c.in_ok-add_line-in-Ok.ensures a.insts h.line.inst h.line.kept a.definitions),
      c.assemble_line.ensures.last,
      c.assemble_line.ensures.seen,
    )

pub returns-clause-read : goal.returns-clause-read
returns-clause-read c =
    let l = c.loop-last in
    lines_done c.args.table.now (lines_of c.args.text.now) c.args.draft.now l.draft l.definitions
    (lines_of l.rest.now) l.number l.invariant.1
    (lines_empty c.is_empty.result l.rest.now c.is_empty.ensures c.loop-last-test.false)
