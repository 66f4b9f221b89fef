use Rattle.std.proofs.Common.{arith, rules}
use Rattle.std.proofs.lemmas.Result.{err_from_is_err_and}
use Rattle.spv_module.specs.Module.{plain_insts}
use Rattle.spv_layout.proofs.Misfits.{short_list}
use Rattle.spv_check.proofs.Flowing.Refusals.{by_branches, by_calls}
use Rattle.spv_check.proofs.flow.flow_check.Goals as goal

pub returns-in_err-check_branches-clause-refused : goal.returns-in_err-check_branches-clause-refused
returns-in_err-check_branches-clause-refused c = λ G p a.
    let q = err_from_is_err_and c.from_residual.result c.from_residual.ensures.1 in
    rw (q.1, q.2) (by_branches c.args.fork G (plain_insts c.args.module.now) _
    (c.in_err-check_branches.ensures.refused G p a))

pub returns-in-Some-clause-refused : goal.returns-in-Some-clause-refused
returns-in-Some-clause-refused c = λ G p a.
    let u = c.in_ok-check_branches.ensures.unbroken G p a in
    let v = c.in_ok-check_values.ensures.unbroken c.args.fork G p a u in
    let f = rw c.in-Some.is at c.in_ok-call.ensures.first in
    by_calls c.args.fork G (plain_insts c.args.module.now) c.stop_at.result c.in-Some.call u v f
    (c.stop_at.ensures (plain_insts c.args.module.now) p.place)

pub count_definitions-requires-clause-few : goal.count_definitions-requires-clause-few
count_definitions-requires-clause-few c = let s = short_list (plain_insts c.args.module.now) in
    let q = c.requires.words in omega (arith, s, q)

pub check_branches-requires-clause-words : goal.check_branches-requires-clause-words
check_branches-requires-clause-words c = search rules

pub check_branches-requires-clause-known : goal.check_branches-requires-clause-known
check_branches-requires-clause-known c = search rules

pub returns-in_err-check_branches-clause-flow : goal.returns-in_err-check_branches-clause-flow
returns-in_err-check_branches-clause-flow c = search rules

pub check_values-requires-clause-words : goal.check_values-requires-clause-words
check_values-requires-clause-words c = search rules

pub check_values-requires-clause-known : goal.check_values-requires-clause-known
check_values-requires-clause-known c = search rules

pub returns-in_err-check_values-clause-flow : goal.returns-in_err-check_values-clause-flow
returns-in_err-check_values-clause-flow c = search rules

pub returns-in_err-check_values-clause-refused : goal.returns-in_err-check_values-clause-refused
returns-in_err-check_values-clause-refused c = search rules

pub first_cycle-requires-clause-words : goal.first_cycle-requires-clause-words
first_cycle-requires-clause-words c = search rules

pub first_cycle-requires-clause-plan : goal.first_cycle-requires-clause-plan
first_cycle-requires-clause-plan c = search rules

pub first_cycle-requires-clause-ids : goal.first_cycle-requires-clause-ids
first_cycle-requires-clause-ids c = search rules

pub returns-in_err-call-clause-flow : goal.returns-in_err-call-clause-flow
returns-in_err-call-clause-flow c = search rules

pub returns-in_err-call-clause-refused : goal.returns-in_err-call-clause-refused
returns-in_err-call-clause-refused c = search rules

pub stop_at-requires : goal.stop_at-requires
stop_at-requires c = search rules

pub returns-in-Some-clause-flow : goal.returns-in-Some-clause-flow
returns-in-Some-clause-flow c = search rules

pub count_definitions-requires-clause-places : goal.count_definitions-requires-clause-places
count_definitions-requires-clause-places c = search rules

pub returns-clause-flow : goal.returns-clause-flow
returns-clause-flow c = search rules

pub returns-clause-refused : goal.returns-clause-refused
returns-clause-refused c = search rules
