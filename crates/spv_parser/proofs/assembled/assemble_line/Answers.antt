use Rattle.std.proofs.Common.{length}
use Rattle.std.proofs.lemmas.Result.{err_from_is_err_and}
use Rattle.spv_parser.proofs.Gathered.{long_failed}
use Rattle.spv_parser.proofs.assembled.assemble_line.Goals as goal

pub returns-in_err-line-clause-failed : goal.returns-in_err-line-clause-failed
returns-in_err-line-clause-failed c =
    let q = err_from_is_err_and c.from_residual.result c.from_residual.ensures.1 in
    λ before k. rw (q.1, q.2) (c.in_err-line.ensures.failed before (length c.args.draft.now) k)

pub returns-in_err-put_instruction-clause-failed : goal.returns-in_err-put_instruction-clause-failed
returns-in_err-put_instruction-clause-failed c =
    let q = err_from_is_err_and c.from_residual-in_err-put_instruction.result
    c.from_residual-in_err-put_instruction.ensures.1 in
    λ before k.
    let f = rw c.as_slice.ensures.value at c.in_err-put_instruction.ensures.long in
    rw (q.1, q.2) (long_failed c.args.setting.now.table.now before c.args.line.now c.read_line.new.buffers.words.items
    (length c.args.draft.now) c.in_ok-line.line _ (c.in_ok-line.ensures.read before k) f)
