use Rattle.std.proofs.Common.{◌≡◌, ◌++◌, string_bytes, flat_map, drop}
use Rattle.spv_module.specs.Module.{plain_insts}
use Rattle.spv_facts.specs.Texts.{result_part}
use Rattle.spv_fault_lines.proofs.parts.push_results.Given as goal

abbrev pub invariant-loop-inst : goal.invariant-loop-inst
invariant-loop-inst l =
    string_bytes l.out ++ flat_map (result_part (plain_insts l.fn.about.«module».now)) (drop l.inst-index l.fn.insts)
    ≡ string_bytes l.initial.out ++ flat_map (result_part (plain_insts l.fn.about.«module».now)) l.fn.insts
