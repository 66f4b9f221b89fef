-- The endings of a run, as the code and as the machine name them. [own]
use Rattle.spv_run.specs.declared.parts.Ending.{Ending}
use Rattle.spv_run.specs.declared.parts.Ending.TheVariants.{Finished, Unreachable, Limit, NoChoice, BadChoice}
use Rattle.spv_run.specs.State as machine

-- the same endings [own]
abbrev pub ending_of : Ending → machine.Ending
ending_of Finished = machine.Finished
ending_of Unreachable = machine.Unreachable
ending_of Limit = machine.Limit
ending_of NoChoice = machine.NoChoice
ending_of BadChoice = machine.BadChoice
