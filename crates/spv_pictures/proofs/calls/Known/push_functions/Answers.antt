use Rattle.std.proofs.Common.{◌++◌, ◌∙◌, ap, sym, flat_map, map, string_bytes}
use Rattle.std.proofs.lemmas.List.{take_rest}
use Rattle.spv_module.specs.Module.{plain_inst}
use Rattle.spv_pictures.specs.Calls.{function_text, functions}
use Rattle.spv_pictures.proofs.Grouped.{left_one}
use Rattle.spv_pictures.proofs.calls.Known.push_functions.Goals as goal

pub loop-at-preserved : goal.loop-at-preserved
loop-at-preserved c =
    let insts = c.args.self.now.insts.now in
    let r = rw take_rest at c.in_ok-push_first.ensures in
    ap (λ z. string_bytes c.push_first.new.out ++ flat_map (function_text (map plain_inst insts)) (functions z))
    (sym (left_one plain_inst insts c.loop-at.at)) ∙ (r ∙ c.loop-at.invariant)
