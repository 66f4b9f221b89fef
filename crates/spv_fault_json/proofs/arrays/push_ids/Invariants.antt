use Rattle.std.proofs.Common.{◌≡◌, ◌++◌, flat_map, drop}
use Rattle.spv_module.specs.Module.{plain_insts}
use Rattle.spv_fault_json.specs.Members.{result_token}
use Rattle.spv_fault_json.proofs.arrays.push_ids.Given as goal

abbrev pub invariant-loop-inst : goal.invariant-loop-inst
invariant-loop-inst l =
    l.out ++ flat_map (result_token (plain_insts l.fn.about.«module».now))
    (drop l.inst-index l.fn.insts) ≡ l.initial.out
    ++ flat_map (result_token (plain_insts l.fn.about.«module».now)) l.fn.insts
