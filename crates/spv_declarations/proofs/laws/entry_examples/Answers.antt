use Rattle.std.proofs.Common.{inl, refl}
use Rattle.spv_declarations.proofs.Worked.{repeated}
use Rattle.spv_declarations.proofs.laws.entry_examples.Goals as goal

pub returns-clause-repeated : goal.returns-clause-repeated
returns-clause-repeated c = repeated

pub returns-clause-with_id : goal.returns-clause-with_id
returns-clause-with_id c = (_, refl, (refl, (8, inl refl)))
