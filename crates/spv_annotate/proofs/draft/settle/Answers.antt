use Rattle.std.proofs.Common.{◌∙◌, append-nil, string_bytes}
use Rattle.spv_annotate.proofs.draft.settle.Goals as goal

pub returns-clause-text : goal.returns-clause-text
returns-clause-text c = append-nil (string_bytes c.push_draft.new.out) ∙ c.in_ok-push_draft.ensures
