use Rattle.std.proofs.Common.{rules}
use Rattle.spv_check.proofs.flow.counting.is_definition.Goals as goal

pub definition_of-requires : goal.definition_of-requires
definition_of-requires c = search rules

pub returns-in-Some : goal.returns-in-Some
returns-in-Some c = search rules

pub returns-in-None : goal.returns-in-None
returns-in-None c = search rules
