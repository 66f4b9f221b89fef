use Rattle.spv_ids.proofs.Sections.{ordered_from, ordered_to}
use Rattle.spv_ids.proofs.Bools.{eq_tells, eq_yes}
use Rattle.spv_ids.proofs.survey.is_ordered.Goals as goal

pub returns-else-section-eq-SOURCES : goal.returns-else-section-eq-SOURCES
returns-else-section-eq-SOURCES c = λ is n o. (
  λ t. ordered_from is n c.args.section o (eq_tells c.args.section 11 t),
  λ r. eq_yes c.args.section 11 (ordered_to is n c.args.section o c.if-section-eq-SOURCES.false r),
)
