use Rattle.std.proofs.lemmas.Bool.{leb-true, le-leb}
use Rattle.spv_ids.proofs.Sections.{scoped_from, scoped_to}
use Rattle.spv_ids.proofs.survey.is_scoped.Goals as goal

pub returns : goal.returns
returns c = λ is n o. (
  λ t. scoped_from is n c.args.section o (leb-true 11 c.args.section t),
  λ r. le-leb 11 c.args.section (scoped_to is n c.args.section o r),
)
