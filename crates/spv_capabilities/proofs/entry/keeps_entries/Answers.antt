use Rattle.std.proofs.Common.{arith}
use Rattle.std.proofs.lemmas.Grind.{common_steps}
use Rattle.spv_capabilities.proofs.entry.keeps_entries.Goals as goal

pub is_sound_entry-requires : goal.is_sound_entry-requires
is_sound_entry-requires c = grind (arith, common_steps)

pub is_sound_mode-requires : goal.is_sound_mode-requires
is_sound_mode-requires c = grind (arith, common_steps)

pub is_sound_linkage-requires : goal.is_sound_linkage-requires
is_sound_linkage-requires c = grind (arith, common_steps)

pub returns-in-15 : goal.returns-in-15
returns-in-15 c = grind (arith, common_steps)

pub returns-in-16 : goal.returns-in-16
returns-in-16 c = grind (arith, common_steps)

pub returns-in-54 : goal.returns-in-54
returns-in-54 c = grind (arith, common_steps)

pub returns-in_default : goal.returns-in_default
returns-in_default c = grind (arith, common_steps)
