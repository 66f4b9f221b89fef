use Rattle.std.proofs.Common.{sym}
use Rattle.spvk.proofs.Assemblings.{all_made_by, first_fault}
use Rattle.spvk.proofs.assembling.assembled_text.Goals as goal

pub returns-in-Ok : goal.returns-in-Ok
returns-in-Ok c =
    all_made_by c.args.table.now c.args.order c.args.text.now _ c.of.result c.utf8.text c.in-Ok.ensures.read
    c.in-Ok.ensures.begins c.of.ensures.bytes c.of.ensures.code c.of.ensures.line

pub returns-in_ok-faulty-in-Err : goal.returns-in_ok-faulty-in-Err
returns-in_ok-faulty-in-Err c =
    first_fault c.args.table.now c.args.order c.args.text.now c.in-Err.error c.in_ok-faulty-in-Err.field-0 c.none.result
    c.utf8.text
    (sym c.in_ok-faulty-in-Err.ensures) c.in-Err.ensures.failed c.none.ensures.code c.none.ensures.line
    c.none.ensures.buffer
