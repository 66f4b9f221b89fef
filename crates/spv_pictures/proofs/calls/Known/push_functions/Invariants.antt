use Rattle.std.proofs.Common.{◌≡◌, ◌++◌, drop, flat_map, map, string_bytes}
use Rattle.spv_module.specs.Module.{plain_inst}
use Rattle.spv_pictures.specs.Calls.{function_text, functions}
use Rattle.spv_pictures.proofs.calls.Known.push_functions.Given as goal

abbrev pub invariant-loop-at : goal.invariant-loop-at
invariant-loop-at l =
    string_bytes l.out ++ flat_map (function_text (map plain_inst l.insts))
    (functions (map plain_inst (drop l.at l.insts)))
    ≡ string_bytes l.fn.out ++ flat_map (function_text (map plain_inst l.insts)) (functions (map plain_inst l.insts))
