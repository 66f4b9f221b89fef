use Rattle.spv_ids.specs.inner.Survey.{insts_of}
use Rattle.spv_ids.proofs.Scopes.{least_use_at}
use Rattle.spv_ids.proofs.survey.Survey.use_fault.Goals as goal

pub site_fault-requires-clause-announced : goal.site_fault-requires-clause-announced
site_fault-requires-clause-announced c = rw c.site-site.ensures.inst c.requires.announced

pub returns : goal.returns
returns c = least_use_at c.args.self.now.bound
    (insts_of c.args.self.now) c.site-site.result.inst c.args.inst c.args.id c.site_fault.result
    c.site-site.ensures.inst c.site_fault.ensures
