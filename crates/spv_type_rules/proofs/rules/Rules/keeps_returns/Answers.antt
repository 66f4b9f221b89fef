use Rattle.std.proofs.Common.{arith}
use Rattle.std.proofs.lemmas.Grind.{elements}
use Rattle.spv_type_rules.proofs.rules.Rules.keeps_returns.Goals as goal

pub is_sound_return-requires : goal.is_sound_return-requires
is_sound_return-requires c = grind (arith, elements)

pub is_sound_return_value-requires : goal.is_sound_return_value-requires
is_sound_return_value-requires c = grind (arith, elements)
