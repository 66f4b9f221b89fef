use Rattle.std.proofs.Common.{◌∙◌, sym}
use Rattle.spv_ids.proofs.definitions.section_of.Goals as goal

pub returns : goal.returns
returns c = λ is p. (p.place c.args.inst c.in-Some.place (sym c.at.ensures ∙ c.in-Some.is)).section
