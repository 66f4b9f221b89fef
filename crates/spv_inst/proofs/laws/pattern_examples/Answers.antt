use Rattle.spv_inst.proofs.Worked.{load_matched, unknown_spells_nothing}
use Rattle.spv_inst.proofs.laws.pattern_examples.Goals as goal

pub returns : goal.returns
returns c = record { spelled = load_matched; unknown = unknown_spells_nothing }
