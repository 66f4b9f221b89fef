use Rattle.spv_facts.proofs.Lent.{extensions_same}
use Rattle.spv_facts.proofs.versions.extensions.Goals as goal

pub returns : goal.returns
returns c = extensions_same c.args.line c.in-Some.line.now c.in-Some.ensures
