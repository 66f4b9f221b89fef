use Rattle.spv_versions.proofs.Telling.{told_more}
use Rattle.spv_versions.proofs.missing.Missing.declare.Goals as goal

pub returns : goal.returns
returns c = told_more c.table.result.now _ _ _ _ c.args.name.now c.table.ensures c.declare.ensures
    c.is_still_without-self.ensures
