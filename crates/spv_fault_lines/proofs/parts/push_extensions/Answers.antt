use Rattle.spv_fault_lines.proofs.Spaced.{names_spaced}
use Rattle.spv_fault_lines.proofs.parts.push_extensions.Goals as goal

pub returns : goal.returns
returns c = rw (← names_spaced c.extensions.result.now _ c.extensions.ensures) c.push_texts.ensures
