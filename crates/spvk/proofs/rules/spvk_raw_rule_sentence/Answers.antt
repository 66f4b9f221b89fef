use Rattle.std.proofs.Common.{rules, refl}
use Rattle.spvk.specs.Rules.{put, missing}
use Rattle.spvk.proofs.rules.spvk_raw_rule_sentence.Goals as goal

pub returns-in-Some : goal.returns-in-Some
returns-in-Some c = put c.in-Some.code c.in-Some.ensures (search rules)

pub returns-in-None : goal.returns-in-None
returns-in-None c = missing c.in-None.ensures refl
