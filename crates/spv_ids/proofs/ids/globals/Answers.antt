use Rattle.std.proofs.Common.{◌<◌, ◌∙◌, ◌-◌, sym, length, arith}
use Rattle.spv_ids.proofs.Homes.{global_before}
use Rattle.spv_ids.proofs.Globals.{none_up_to}
use Rattle.spv_ids.proofs.ids.globals.Goals as goal

pub returns-then-last-eq-DECLARATIONS : goal.returns-then-last-eq-DECLARATIONS
returns-then-last-eq-DECLARATIONS c = λ is bound firsts p n a.
    let e = c.if-end-count.false in
    let b = c.count_before_functions-before.ensures in
    let k = c.if-before-eq0.false in
    let h : c.count_before_functions-before.result - 1 < length is = omega (arith, n) in
    let o = p.place (c.count_before_functions-before.result - 1) c.in-Some.last (sym c.at.ensures ∙ c.in-Some.is) in
    global_before bound is c.args.end c.count_before_functions-before.result firsts a (omega (arith, n))
    (omega (arith, n))
    (λ j f l. none_up_to is (c.count_before_functions-before.result - 1) c.in-Some.last.section j f h o.section
    c.if-last-eq-DECLARATIONS.true (omega (arith, l)))
