use Rattle.std.proofs.Common.{◌∙◌, sym}
use Rattle.spv_ids.proofs.Homes.{function_at, no_function_at, no_home, no_home_at, home_of_function}
use Rattle.spv_ids.proofs.definitions.home.Goals as goal

pub returns-then-function-inst : goal.returns-then-function-inst
returns-then-function-inst c = λ is x p d f.
    let o = function_at is c.args.plan.now c.args.inst c.in-Some-function.function c.in-Some.place p
    (sym c.at.ensures ∙ c.in-Some.is) c.in-Some-function.is in
    no_home_at is c.args.inst c.in-Some-function.function f c.if-function-inst.true o

pub returns-else-function-inst : goal.returns-else-function-inst
returns-else-function-inst c = λ is x p d.
    let o = function_at is c.args.plan.now c.args.inst c.in-Some-function.function c.in-Some.place p
    (sym c.at.ensures ∙ c.in-Some.is) c.in-Some-function.is in
    home_of_function is c.args.plan.now x c.args.inst c.in-Some-function.function p d o c.if-function-inst.false

pub returns-in-None : goal.returns-in-None
returns-in-None c = λ is x p d f.
    no_home is c.args.inst f (λ g. no_function_at is c.args.plan.now c.args.inst g c.in-Some.place p
    (sym c.at.ensures ∙ c.in-Some.is) c.in-None.is)
