use Rattle.std.proofs.Common.{◌↔◌, sym, subst, map, length, List, Bool, IsTrue}
use Rattle.spv_module.specs.Module.{plain_inst}
use Rattle.spv_capabilities.specs.inner.Subject.{Subject}
use Rattle.spv_capabilities.specs.Entry.{entered_by}
use Rattle.spv_capabilities.specs.inner.Entry.{IsEntered}
use Rattle.spv_capabilities.specs.inner.Survey.{AreMarked}
use Rattle.spv_capabilities.proofs.surveyed.Survey.is_entered.Goals as goal

pub returns : goal.returns
returns c =
    let is = map plain_inst c.self.inside.insts.now in
    let a = subst (λ (l : List Bool). AreMarked entered_by is (length is) l)
    (sym c.as_slice.ensures.value) c.self.invariant.gathered.entered in
    subst (λ (s : Subject). IsTrue c.is_marked.result ↔ IsEntered s.insts c.args.function) c.self.view_is
    (c.is_marked.ensures entered_by is a)
