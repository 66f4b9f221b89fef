use Rattle.spv_inst.proofs.Worked.{load_spelled, string_spelled, switch_spelled, short_count}
use Rattle.spv_inst.proofs.laws.instruction_examples.Goals as goal

pub returns : goal.returns
returns c = record { mask = load_spelled; text = string_spelled; wide = switch_spelled; count = short_count }
