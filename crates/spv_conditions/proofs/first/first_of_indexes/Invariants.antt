use Rattle.std.proofs.Common.{◌-◌}
use Rattle.spv_module.specs.Module.{plain_inst}
use Rattle.spv_conditions.specs.Asks.{indexes_from}
use Rattle.spv_conditions.specs.inner.Direct.{HoldsDirectly}
use Rattle.spv_conditions.proofs.lemmas.Listing.{Held}
use Rattle.spv_conditions.proofs.first.first_of_indexes.Given as goal

abbrev pub invariant-loop-k : goal.invariant-loop-k
invariant-loop-k l = Held (HoldsDirectly l.definitions l.number (plain_inst l.inst) l.r l.types)
    (indexes_from l.element l.k (l.count - l.k)) (indexes_from l.element l.first (l.count - l.first))
