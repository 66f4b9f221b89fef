use Rattle.std.proofs.Common.{◌∙◌, sym}
use Rattle.spv_ids.proofs.Bools.{match_true, match_false}
use Rattle.spv_ids.proofs.Steps.{later_put_first, later_put_better, later_keep}
use Rattle.spv_ids.proofs.definitions.keep_later.Goals.{in-Some, in-None}
use Rattle.spv_ids.proofs.definitions.keep_later.Goals as goal

pub returns-in_ok-put : goal.returns-in_ok-put
returns-in_ok-put c = λ is from p o l d a.
    elim c.match-get.branch [
      | in-Some w ↦
          later_put_better is from c.args.at c.args.id w.in-Some.other c.args.later.now c.put.new.self
          (sym c.get.ensures ∙ w.in-Some.is) l d
          (λ e. match_true _ _ w.is_more_local-keep.result (sym w.keep-is ∙ c.if-keep.true)
          (w.is_more_local-keep.ensures is c.args.id from p o d e)) c.in_ok-put.ensures a
      | in-None w ↦ later_put_first is from c.args.at c.args.id c.args.later.now c.put.new.self
          (sym c.get.ensures ∙ w.in-None.is) l d c.in_ok-put.ensures a
    ]

pub returns-else-keep : goal.returns-else-keep
returns-else-keep c = λ is from p o l d a.
    elim c.match-get.branch [
      | in-Some w ↦
          later_keep is from c.args.at c.args.id w.in-Some.other c.args.later.now (sym c.get.ensures ∙ w.in-Some.is) d
          (λ e. match_false _ _ w.is_more_local-keep.result (sym w.keep-is ∙ c.if-keep.false)
          (w.is_more_local-keep.ensures is c.args.id from p o d e)) a
      | in-None w ↦ let f = c.if-keep.false in let g = w.keep-is in cc
    ]
