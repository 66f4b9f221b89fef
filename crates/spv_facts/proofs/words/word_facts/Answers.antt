use Rattle.std.proofs.Common.{◌-◌, drop}
use Rattle.spv_facts.proofs.Malformed.{words_told}
use Rattle.spv_facts.proofs.words.word_facts.Goals as goal

pub returns : goal.returns
returns c =
    words_told (drop 5 c.args.image.now) c.args.inst
    (c.args.place - 5) _ _ _ _ _ _ _ _ c.first_word-first.ensures.place c.offset_of-offset.ensures
    c.in_ok-told.ensures c.word_at-word.ensures c.behind_header.ensures.same c.new-facts.ensures.items
    c.in_ok-push_one.ensures
    c.in_ok-push_one-2.ensures
