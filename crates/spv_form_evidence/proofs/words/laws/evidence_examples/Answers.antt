use Rattle.spv_form_evidence.proofs.lemmas.words.Worked as worked
use Rattle.spv_form_evidence.proofs.words.laws.evidence_examples.Goals as goal

pub returns : goal.returns
returns c = record {
  mask = worked.mask_shown;
  not_beside = worked.not_beside;
  not_kind = worked.not_kind;
  not_alone = worked.not_alone;
  missing = worked.text_missing;
  unknown = worked.unknown_shown;
  sound = worked.string_sound;
}
