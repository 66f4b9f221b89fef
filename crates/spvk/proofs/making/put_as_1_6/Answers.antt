use Rattle.spvk.specs.Make.{memory}
use Rattle.spvk.proofs.making.put_as_1_6.Goals as goal

pub returns-in-Err : goal.returns-in-Err
returns-in-Err c = memory
