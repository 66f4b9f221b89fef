use Rattle.std.proofs.Common.{◌↔◌, drop}
use Rattle.spv_capabilities.specs.Capable.{HasNamed}
use Rattle.spv_capabilities.proofs.capable.has_named.Given as goal

abbrev pub invariant-loop-place : goal.invariant-loop-place
invariant-loop-place l =
    HasNamed l.survey.table l.survey.insts (drop l.place l.names) ↔ HasNamed l.survey.table l.survey.insts l.names
