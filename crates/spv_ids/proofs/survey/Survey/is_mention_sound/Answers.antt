use Rattle.spv_ids.proofs.Bools.{lt_tells}
use Rattle.spv_ids.proofs.Scopes.{mention_kept}
use Rattle.spv_ids.proofs.survey.Survey.is_mention_sound.Goals as goal

pub returns : goal.returns
returns c = λ t q b.
    let l = lt_tells c.mark.result 4294967295 t in
    mention_kept c.args.self.now c.args.id c.mark.result c.requires.survey (c.mark.ensures l) q b
