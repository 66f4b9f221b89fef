use Rattle.spv_explain.proofs.WorkedJson.{code_told, escaped_told, found_told, late_told, not_full_told, not_named_told}
use Rattle.spv_explain.proofs.WorkedJson.{unnamed_told, unread_told, valid_told}
use Rattle.spv_explain.proofs.laws.json_examples.Goals as goal

pub returns-clause-valid : goal.returns-clause-valid
returns-clause-valid c = valid_told

pub returns-clause-unnamed : goal.returns-clause-unnamed
returns-clause-unnamed c = unnamed_told

pub returns-clause-not_named : goal.returns-clause-not_named
returns-clause-not_named c = not_named_told

pub returns-clause-escaped : goal.returns-clause-escaped
returns-clause-escaped c = escaped_told

pub returns-clause-late : goal.returns-clause-late
returns-clause-late c = late_told

pub returns-clause-unread : goal.returns-clause-unread
returns-clause-unread c = unread_told

pub returns-clause-found : goal.returns-clause-found
returns-clause-found c = found_told

pub returns-clause-code : goal.returns-clause-code
returns-clause-code c = code_told

pub returns-clause-not_full : goal.returns-clause-not_full
returns-clause-not_full c = not_full_told
