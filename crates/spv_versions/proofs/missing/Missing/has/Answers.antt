use Rattle.std.proofs.Common.{◌↔◌, List, IsTrue, subst}
use Rattle.spv_versions.specs.Table.{Line}
use Rattle.spv_versions.specs.inner.Lines.{IsListed}
use Rattle.spv_versions.proofs.missing.Missing.has.Goals as goal

pub returns : goal.returns
returns c = subst (λ (ls : List Line). IsTrue c.is_listed.result
    ↔ IsListed ls c.args.self.now.lines c.args.kind c.args.number) c.table.ensures c.is_listed.ensures
