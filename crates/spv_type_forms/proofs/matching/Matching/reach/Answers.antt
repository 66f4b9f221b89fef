use Rattle.std.proofs.lemmas.Result.{on_ok_weaker}
use Rattle.spv_type_forms.proofs.Matched.{undefined_type}
use Rattle.spv_type_forms.proofs.matching.Matching.reach.Goals as goal

pub returns-in-Some-clause-reached : goal.returns-in-Some-clause-reached
returns-in-Some-clause-reached c =
    on_ok_weaker c.find.result (λ l h. (c.in-Some.number, c.in-Some.ensures, l)) c.find.ensures.found

pub returns-in-None-clause-reached : goal.returns-in-None-clause-reached
returns-in-None-clause-reached c =
    λ h. undefined_type c.args.definitions.now c.args.t c.in-None.ensures h
