use Rattle.std.proofs.Common.{Vec, Global}
use Rattle.std.proofs.lemmas.Result.{err_from_is_err_and}
use Rattle.spv_table.specs.Table.{Sort}
use Rattle.spv_grammar.specs.Made.{sort_from}
use Rattle.spv_grammar.proofs.Turns.{made_step, none_step, refused}
use Rattle.spv_grammar.proofs.make.sorts.Goals as goal

pub returns-in_err-sort : goal.returns-in_err-sort
returns-in_err-sort c =
    let stop = none_step (sort_from c.args.numbers.now) c.args.numbers.now c.loop-number.number c.nth.result.now _ c.loop-number.found.items c.loop-number.found.items c.nth.ensures c.loop-number.invariant in
    let p = err_from_is_err_and c.from_residual-in_err-sort.result c.from_residual-in_err-sort.ensures.1 in
    rw (p.1, p.2) (refused (λ s. s) (λ (v : Vec Sort Global). v.items) c.in_err-sort.field-0.0 _ _ c.in_err-sort.ensures stop)

pub loop-number-preserved : goal.loop-number-preserved
loop-number-preserved c =
    made_step (sort_from c.args.numbers.now) c.args.numbers.now c.loop-number.number c.nth.result.now _ c.loop-number.found.items c.push.new.self.items _ c.nth.ensures c.loop-number.invariant c.in_ok-sort.ensures c.in_ok-push.ensures.items
