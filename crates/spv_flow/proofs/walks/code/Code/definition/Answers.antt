use Rattle.std.proofs.Common.{◌∙◌, sym, arith}
use Rattle.spv_flow.proofs.lemmas.walks.Coded.{none_defined, past_defined}
use Rattle.spv_flow.proofs.walks.code.Code.definition.Goals as goal

pub returns-in_default-clause-there : goal.returns-in_default-clause-there
returns-in_default-clause-there c =
    λ G is d at. none_defined G c.args.self.now c.args.id d is (sym c.definition.ensures ∙ c.in_default.is) at

pub returns-else-place-self-clause-there : goal.returns-else-place-self-clause-there
returns-else-place-self-clause-there c =
    λ G is d at. past_defined G c.args.self.now c.args.id c.in-Some.place d is (sym c.definition.ensures ∙ c.in-Some.is)
    (omega arith) at
