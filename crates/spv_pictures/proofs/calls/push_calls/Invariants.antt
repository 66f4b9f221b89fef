use Rattle.std.proofs.Common.{◌≡◌, ◌++◌, drop, flat_map, map, string_bytes}
use Rattle.spv_module.specs.Module.{plain_inst}
use Rattle.spv_module.specs.Operand.{PlainInst}
use Rattle.spv_pictures.specs.Calls.{call_edge, callee_of}
use Rattle.spv_pictures.proofs.calls.push_calls.Given as goal

abbrev pub invariant-loop-inst : goal.invariant-loop-inst
invariant-loop-inst l =
    string_bytes l.out ++ flat_map (λ (j : PlainInst). call_edge l.from (callee_of j))
    (map plain_inst (drop l.inst-index l.body)) ≡ string_bytes l.fn.out
    ++ flat_map (λ (j : PlainInst). call_edge l.from (callee_of j)) (map plain_inst l.body)
