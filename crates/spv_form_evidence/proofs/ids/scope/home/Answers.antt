use Rattle.spv_form_evidence.proofs.lemmas.ids.Scoping.{home_here, no_home}
use Rattle.spv_form_evidence.proofs.ids.scope.home.Goals as goal

pub returns-in_default : goal.returns-in_default
returns-in_default c = λ G is x p d f h. c.in_default.ensures G is p f h.of

pub returns-then-function-at : goal.returns-then-function-at
returns-then-function-at c =
    λ G is x p d f. no_home is c.args.at c.in-Some.function f c.if-function-at.true (c.in-Some.ensures G is p)

pub returns-else-function-at : goal.returns-else-function-at
returns-else-function-at c =
    λ G is x p d. home_here G is c.args.plan.now x c.args.at c.in-Some.function p d
    (c.in-Some.ensures G is p) c.if-function-at.false
