use Rattle.spv_module.specs.Module.{plain_inst}
use Rattle.spv_conditions.proofs.lemmas.Stopping.{are_stops}
use Rattle.spv_conditions.proofs.chain.stops_of.Goals as goal

pub returns : goal.returns
returns c =
    are_stops c.args.definitions.now (plain_inst c.args.inst.now) c.args.types.now
    (record { with_element = c.stop_of.result; without = c.stop_of-2.result }) c.base_in-base.result _ _
    c.stop_of.ensures c.stop_of-2.ensures
    c.base_in-base.ensures c.indexes_of.ensures c.indexes_of-2.ensures
