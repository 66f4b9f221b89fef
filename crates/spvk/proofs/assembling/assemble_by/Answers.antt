use Rattle.spvk.specs.Assemble.{done, memory, not_text}
use Rattle.spvk.proofs.assembling.assemble_by.Goals as goal

pub returns-in-Ok-assembled_text : goal.returns-in-Ok-assembled_text
returns-in-Ok-assembled_text c =
    let comes = rw c.in-Ok.ensures.0 at c.in-Ok-assembled_text.ensures in
    done c.replace.new.dest (rw c.replace.ensures.after comes)

pub returns-in-Err : goal.returns-in-Err
returns-in-Err c = not_text c.in-Err.ensures

pub returns-in-Err-assembled_text : goal.returns-in-Err-assembled_text
returns-in-Err-assembled_text c = memory
