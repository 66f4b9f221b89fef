use Rattle.std.proofs.Common.{◌≡◌, ◌++◌, append_assoc, arith, string_bytes, flat_map}
use Rattle.spv_fault_lines.specs.Lines.{name_part}
use Rattle.spv_facts.proofs.Steps.{piece_step}
use Rattle.spv_fault_lines.proofs.parts.push_names.Goals as goal

pub loop-place-preserved : goal.loop-place-preserved
loop-place-preserved c =
    let m : string_bytes c.push_str-in-loop-place.new.self ≡ string_bytes c.loop-place.out
    ++ name_part c.name.result.now = grind (arith, append_assoc) in
    piece_step name_part c.args.names.now c.loop-place.place c.name.result.now (string_bytes c.loop-place.out)
    (string_bytes c.push_str-in-loop-place.new.self)
    (string_bytes c.args.out.now ++ flat_map name_part c.args.names.now) c.name.ensures m c.loop-place.invariant
