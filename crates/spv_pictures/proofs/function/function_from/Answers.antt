use Rattle.std.proofs.Common.{◌≡◌, ◌+◌, ◌-◌, length, arith}
use Rattle.std.proofs.lemmas.List.{take_rest}
use Rattle.spv_pictures.proofs.Drawn.{function_taken}
use Rattle.spv_pictures.proofs.function.function_from.Goals as goal

pub returns-clause-insts : goal.returns-clause-insts
returns-clause-insts c =
    let n = c.args.place in
    let body = c.body_of.result.now in
    let e : n + (1 + length body) - n ≡ 1 + length body = omega arith in
    rw e (function_taken c.args.insts.now body n c.requires (rw take_rest at c.body_of.ensures.body))
