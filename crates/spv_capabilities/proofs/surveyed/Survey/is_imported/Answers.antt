use Rattle.std.proofs.Common.{◌↔◌, sym, subst, map, length, List, Bool, IsTrue, codes}
use Rattle.spv_table.specs.Lookups.{number_named}
use Rattle.spv_module.specs.Module.{plain_inst}
use Rattle.spv_capabilities.specs.inner.Subject.{Subject}
use Rattle.spv_capabilities.specs.Entry.{imported_by}
use Rattle.spv_capabilities.specs.Asked.{IsImported}
use Rattle.spv_capabilities.specs.inner.Survey.{AreMarked}
use Rattle.spv_capabilities.proofs.surveyed.Survey.is_imported.Goals as goal

pub returns : goal.returns
returns c =
    let is = map plain_inst c.self.inside.insts.now in
    let a = subst (λ (l : List Bool). AreMarked
    (imported_by (number_named c.self.inside.table.now (codes "LinkageType"))) is (length is) l)
    (sym c.as_slice.ensures.value) c.self.invariant.gathered.imported in
    subst (λ (s : Subject). IsTrue c.is_marked.result ↔ IsImported s.table s.insts c.args.function) c.self.view_is
    (c.is_marked.ensures (imported_by (number_named c.self.inside.table.now (codes "LinkageType"))) is a)
