use Rattle.std.proofs.Common.{◌↔◌, sym, subst, map, length, List, Bool, IsTrue}
use Rattle.spv_module.specs.Module.{plain_inst}
use Rattle.spv_capabilities.specs.inner.Subject.{Subject}
use Rattle.spv_capabilities.specs.Entry.{called_by}
use Rattle.spv_capabilities.specs.inner.Entry.{IsCalled}
use Rattle.spv_capabilities.specs.inner.Survey.{AreMarked}
use Rattle.spv_capabilities.proofs.surveyed.Survey.is_called.Goals as goal

pub returns : goal.returns
returns c =
    let is = map plain_inst c.self.inside.insts.now in
    let a = subst (λ (l : List Bool). AreMarked called_by is (length is) l)
    (sym c.as_slice.ensures.value) c.self.invariant.gathered.called in
    subst (λ (s : Subject). IsTrue c.is_marked.result ↔ IsCalled s.insts c.args.function) c.self.view_is
    (c.is_marked.ensures called_by is a)
