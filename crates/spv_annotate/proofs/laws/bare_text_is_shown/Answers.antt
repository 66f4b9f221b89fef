use Rattle.spv_annotate.proofs.Bares.{bare_document, bare_whole}
use Rattle.spv_annotate.proofs.laws.bare_text_is_shown.Goals as goal

pub returns-clause-asked : goal.returns-clause-asked
returns-clause-asked c = bare_document

pub returns-clause-whole : goal.returns-clause-whole
returns-clause-whole c = bare_whole
