use Rattle.spv_ids.specs.Definition.{IsDefinedAt}
use Rattle.spv_interfaces.proofs.Missing.{none_marked, one_marked}
use Rattle.spv_interfaces.proofs.lacking.bits_of.Goals as goal

pub returns-in-Some : goal.returns-in-Some
returns-in-Some c = one_marked c.args.definitions.now c.args.x c.in-Some.number c.word_at.result c.args.words.now
    c.in-Some.ensures c.word_at.ensures

pub returns-in-None : goal.returns-in-None
returns-in-None c = none_marked (IsDefinedAt c.args.definitions.now c.args.x) c.args.words.now c.in-None.ensures
