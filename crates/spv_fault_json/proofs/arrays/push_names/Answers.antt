use Rattle.std.proofs.Common.{◌++◌, flat_map}
use Rattle.spv_fault_json.specs.Members.{name_token}
use Rattle.spv_facts.proofs.Steps.{piece_step}
use Rattle.spv_fault_json.proofs.arrays.push_names.Goals as goal

pub loop-place-preserved : goal.loop-place-preserved
loop-place-preserved c =
    piece_step name_token c.args.names.now c.loop-place.place c.name.result.now c.loop-place.out c.text.new.self
    (c.args.out.now ++ flat_map name_token c.args.names.now) c.name.ensures c.in_ok-text.ensures c.loop-place.invariant
