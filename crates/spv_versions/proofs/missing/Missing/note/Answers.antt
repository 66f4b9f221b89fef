use Rattle.std.proofs.Common.{sym}
use Rattle.spv_module.specs.Module.{plain_inst}
use Rattle.spv_versions.proofs.Telling.{told_other}
use Rattle.spv_versions.proofs.missing.Missing.note.Goals as goal

pub returns-in-Some : goal.returns-in-Some
returns-in-Some c = λ minor is told.
    c.declare.ensures minor is (plain_inst c.args.inst.now) (sym c.in-Some.ensures) told

pub returns-in-None : goal.returns-in-None
returns-in-None c = λ minor is told. told_other minor is _ _ _ c.in-None.ensures told
