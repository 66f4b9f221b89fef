use Rattle.std.proofs.Common.{◌-◌, drop}
use Rattle.spv_facts.proofs.Malformed.{malformed_told}
use Rattle.spv_facts.proofs.words.facts_of_words.Goals as goal

pub returns : goal.returns
returns c =
    malformed_told (drop 5 c.args.image.now) c.args.inst
    (c.args.place - 5) c.args.evidence _ _ _ c.requires.none c.in_ok-facts.ensures
    c.in_ok-push_evidence.ensures
