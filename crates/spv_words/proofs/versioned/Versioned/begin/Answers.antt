use Rattle.spv_words.proofs.Replacing.{begun_by}
use Rattle.spv_words.proofs.versioned.Versioned.begin.Goals as goal

pub returns-in_ok-fill-clause-kept : goal.returns-in_ok-fill-clause-kept
returns-in_ok-fill-clause-kept g c =
    begun_by c.args.self.now.is_due _ _ _ c.fill.new.self c.replace_version.new.self c.if-self.true c.replace_version.ensures c.in_ok-fill.ensures.kept c.in_ok-fill.ensures.whole
