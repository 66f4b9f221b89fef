use Rattle.spv_extended.specs.inner.Found.{set_found}
use Rattle.spv_extended.proofs.Calling.{called, not_called}
use Rattle.spv_extended.proofs.call.call_at.Goals as goal

pub returns-in_default : goal.returns-in_default
returns-in_default c = not_called c.as_slice-insts.result.now c.args.«module».now.insts.items c.args.inst c.as_slice-insts.ensures.value c.in_default.ensures.lookup.3

pub returns : goal.returns
returns c = called (set_found c.in_ok-sets.sets) c.as_slice-insts.result.now c.args.«module».now.insts.items c.args.inst c.in-Some.caller.now c.call_of.result c.as_slice-insts.ensures.value
    c.in-Some.ensures.lookup.3.0 c.in-Some.ensures.lookup.1 c.in_ok-sets.ensures c.call_of.ensures
