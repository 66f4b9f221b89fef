use Rattle.std.proofs.Common.{◌-◌, drop}
use Rattle.spv_module.specs.Module.{plain_insts}
use Rattle.spv_views.proofs.Viewings.{calls_drawn, calls_line, short, spelled}
use Rattle.spv_views.proofs.viewing.calls_viewed.Goals as goal

pub text_with-requires-clause-spelled : goal.text_with-requires-clause-spelled
text_with-requires-clause-spelled c =
    spelled c.args.table.now c.args.image.now c.in-Ok.module c.len-words.ensures.fit
    (record { listing = c.in-Ok.ensures.found; header = c.in-Ok.ensures.header })

pub text_with-requires-clause-words : goal.text_with-requires-clause-words
text_with-requires-clause-words c =
    let words = c.args.image.now in
    short words (plain_insts c.in-Ok.module) c.len-words.ensures.most
    (c.word_counts.ensures c.args.table.now (plain_insts c.in-Ok.module) (drop 5 words) c.in-Ok.ensures.found)

pub returns-clause-viewed : goal.returns-clause-viewed
returns-clause-viewed c = λ bytes order h.
    let words = c.args.image.now in
    let m = c.in-Ok.module in
    let found = c.in-Ok.ensures.found in
    let s = (c.shown_reads_back.ensures.shown c.args.table.now m.header (plain_insts m) (drop 5 words) found).1 in
    calls_drawn c.args.table.now c.args.reach bytes words order m _ h
    (record { listing = found; header = c.in-Ok.ensures.header }) (c.in_ok-text.ensures s.lines s.shown)

pub returns-in-Err-Fault-clause-viewed : goal.returns-in-Err-Fault-clause-viewed
returns-in-Err-Fault-clause-viewed c = λ bytes order h.
    let words = c.args.image.now in
    let f = c.in-Err-Fault.fault in
    let d = rw c.in-Err-Fault.field-0-is at c.in-Err-Fault.ensures.dead in
    let b = rw c.in-Err-Fault.field-0-is at c.broken.ensures in
    rw b (calls_line c.one_word_list.ensures.order c.args.table.now c.args.reach bytes words order f h
    (λ is l. c.listed_or_dead.ensures c.args.table.now is (drop 5 words) f.rule f.inst (f.word - 5) l d.1) d)
