use Rattle.std.proofs.Common.{◌-◌}
use Rattle.spv_views.proofs.Beginnings.{dead_least, dead_within}
use Rattle.spv_views.proofs.beginning.beginning_of.Goals as goal

pub words_before-requires-clause-header : goal.words_before-requires-clause-header
words_before-requires-clause-header c =
    let f = c.in-Err-Fault.fault in
    let d = c.place_of-end.ensures c.args.table.now f.rule (f.word - 5)
    (rw c.in-Err-Fault.field-0-is at c.in-Err-Fault.ensures.dead).1 in
    dead_least c.args.table.now c.args.image.now f.rule c.place_of-end.result d

pub words_before-requires-clause-within : goal.words_before-requires-clause-within
words_before-requires-clause-within c =
    let f = c.in-Err-Fault.fault in
    let d = c.place_of-end.ensures c.args.table.now f.rule (f.word - 5)
    (rw c.in-Err-Fault.field-0-is at c.in-Err-Fault.ensures.dead).1 in
    dead_within c.args.table.now c.args.image.now f.rule c.place_of-end.result c.len-count.ensures.least d

pub returns-in-Ok-words_before : goal.returns-in-Ok-words_before
returns-in-Ok-words_before c =
    let f = c.in-Err-Fault.fault in
    record {
      rule = f.rule;
      place = c.place_of-end.result;
      dead = c.place_of-end.ensures c.args.table.now f.rule (f.word - 5)
          (rw c.in-Err-Fault.field-0-is at c.in-Err-Fault.ensures.dead).1;
      all = c.in-Ok-words_before.ensures;
    }
