use Rattle.std.proofs.lemmas.Bool.{ltb-true, lt-ltb}
use Rattle.spv_versions.proofs.Telling.{told_first}
use Rattle.spv_versions.proofs.missing.Missing.in_version.Goals as goal

pub returns : goal.returns
returns c = told_first c.table.result.now c.lacking.result c.args.minor _ c.table.ensures c.lacking.ensures.each
    (λ t. ltb-true c.args.minor 6 t, λ l. lt-ltb c.args.minor 6 l)
