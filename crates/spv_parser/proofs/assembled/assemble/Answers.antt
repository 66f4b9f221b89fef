use Rattle.std.proofs.Common.{◌++◌, ◌∙◌, ap, rules}
use Rattle.std.specs.Prelude.{Ok}
use Rattle.spv_words.specs.Header.{IsHeader}
use Rattle.std.proofs.lemmas.Result.{err_from_is_err_and}
use Rattle.spv_lines.specs.Text.{lines_of}
use Rattle.spv_parser.proofs.Imaged.{again_by, memory_by}
use Rattle.spv_parser.proofs.Gathered.{header_failed, text_failed, text_read, five_words}
use Rattle.spv_parser.proofs.assembled.assemble.Goals as goal

pub returns-in_err-header-clause-failed : goal.returns-in_err-header-clause-failed
returns-in_err-header-clause-failed c =
    let q = err_from_is_err_and c.from_residual.result c.from_residual.ensures.1 in
    rw (q.1, q.2) (header_failed c.args.table.now c.args.text.now _ _ c.in_err-header.ensures.failed)

pub returns-in_err-assemble_lines-clause-failed : goal.returns-in_err-assemble_lines-clause-failed
returns-in_err-assemble_lines-clause-failed c =
    let q = err_from_is_err_and c.from_residual-in_err-assemble_lines.result
    c.from_residual-in_err-assemble_lines.ensures.1 in
    let h = c.in_ok-header.ensures in
    rw (q.1, q.2) (text_failed c.args.table.now c.args.text.now c.in_ok-header.header
    (lines_of c.in_ok-header.rest.now) _ _ h.fits h.small h.lines c.in_err-assemble_lines.ensures.failed)

pub returns-clause-read : goal.returns-clause-read
returns-clause-read c =
    let h = c.in_ok-header.ensures in
    let o = c.in_ok-put_words.ensures ∙ ap (λ z. z ++ five_words c.in_ok-header.header) c.in_ok-draft.ensures in
    text_read c.args.table.now c.args.text.now c.in_ok-header.header
    (lines_of c.in_ok-header.rest.now) c.put_words.new.draft c.assemble_lines.new.draft c.finish.result h.fits
    h.small h.lines o c.in_ok-assemble_lines.ensures.read c.finish.ensures

pub returns-in_err-header-clause-memory : goal.returns-in_err-header-clause-memory
returns-in_err-header-clause-memory c =
    λ ws f w n s. memory_by c.args.table.now ws c.args.text.now c.from_residual.result
    (returns-in_err-header-clause-failed c) c.kind.ensures.whole f w n s

pub returns-in_err-assemble_lines-clause-memory : goal.returns-in_err-assemble_lines-clause-memory
returns-in_err-assemble_lines-clause-memory c =
    λ ws f w n s. memory_by c.args.table.now ws c.args.text.now c.from_residual-in_err-assemble_lines.result
    (returns-in_err-assemble_lines-clause-failed c) c.kind.ensures.whole f w n s

pub returns-clause-again : goal.returns-clause-again
returns-clause-again c = λ ws f w n s.
    let begins : IsHeader c.finish.result = search rules in
    again_by c.args.table.now ws c.args.text.now (Ok c.finish.result) (returns-clause-read c) begins f w n s
