use Rattle.std.proofs.Common.{◌∙◌, sym, None}
use Rattle.spv_ids.specs.inner.Survey.{insts_of}
use Rattle.spv_ids.proofs.Behind.{least_argument, least_mention, no_bad_operand}
use Rattle.spv_ids.proofs.survey.Survey.is_behind_sound.Goals as goal

pub returns-in-Some : goal.returns-in-Some
returns-in-Some c = λ t.
    let s = c.args.self.now in
    least_argument s.bound (insts_of s) c.args.inst _ c.in-Some.id None (sym c.argument_id.ensures ∙ c.in-Some.is)
    (c.is_use_sound.ensures t)

pub returns-in-Some-mention_id : goal.returns-in-Some-mention_id
returns-in-Some-mention_id c = λ t.
    let s = c.args.self.now in
    least_mention s.bound (insts_of s) c.args.inst _ c.in-Some-mention_id.id None
    (sym c.mention_id.ensures ∙ c.in-Some-mention_id.is) (c.is_mention_sound.ensures t)

pub returns : goal.returns
returns c = λ t q b.
    let s = c.args.self.now in
    no_bad_operand s.bound (insts_of s) c.args.inst _ q (sym c.argument_id.ensures ∙ c.in_default.is)
    (sym c.mention_id.ensures ∙ c.in_default-mention_id.is) b
