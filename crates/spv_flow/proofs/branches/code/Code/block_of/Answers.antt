use Rattle.std.proofs.Common.{◌∙◌, sym}
use Rattle.std.specs.Prelude.{length}
use Rattle.spv_flow.specs.branches.inner.Code.{insts_of}
use Rattle.spv_flow.proofs.lemmas.branches.Labelled.{block_within}
use Rattle.spv_flow.proofs.branches.code.Code.block_of.Goals as goal

pub returns-clause-within : goal.returns-clause-within
returns-clause-within c = λ G is lt.
    block_within (insts_of c.args.self.now) c.args.inst (length c.args.self.now.insts.now) c.in-Some.place.block lt
    (is.plan.place c.args.inst c.in-Some.place (sym c.at.ensures ∙ c.in-Some.is)).block
