use Rattle.std.proofs.Common.{◌≡◌, ◌++◌, flat_map, drop}
use Rattle.std.specs.Option.{option_to_list}
use Rattle.spv_module.specs.Module.{plain_insts}
use Rattle.spv_facts.specs.Texts.{result_of}
use Rattle.spv_explain.proofs.stream.results_of.Given as goal

abbrev pub invariant-loop-inst : goal.invariant-loop-inst
invariant-loop-inst l =
    l.walk.items ++ flat_map (λ n. option_to_list (result_of (plain_insts l.«module») n)) (drop l.inst-index l.insts)
    ≡ flat_map (λ n. option_to_list (result_of (plain_insts l.«module») n)) l.insts
