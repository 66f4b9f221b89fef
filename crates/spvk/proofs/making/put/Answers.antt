use Rattle.spvk.specs.Make.{done, memory}
use Rattle.spvk.proofs.making.put.Goals as goal

pub returns-in-Ok : goal.returns-in-Ok
returns-in-Ok c = done c.replace.new.dest (rw c.replace.ensures.after c.in-Ok.ensures)

pub returns-in-Err : goal.returns-in-Err
returns-in-Err c = memory
