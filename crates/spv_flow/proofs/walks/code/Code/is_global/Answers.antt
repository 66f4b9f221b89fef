use Rattle.std.proofs.Common.{◌<◌, arith}
use Rattle.std.proofs.lemmas.Bool.{ltb-true}
use Rattle.spv_flow.specs.walks.inner.Code.{insts_of}
use Rattle.spv_flow.proofs.lemmas.walks.Alone.{function_op}
use Rattle.spv_flow.proofs.lemmas.walks.Coded.{value_inside}
use Rattle.spv_flow.proofs.walks.code.Code.is_global.Goals as goal

pub returns : goal.returns
returns c = λ G x is at yes v.
    let below : c.args.place < c.args.self.now.globals = ltb-true c.args.place c.args.self.now.globals yes in
    let r = value_inside G c.args.self.now x c.args.place is at v in
    let after = r.1 in
    is.global r.0 (omega (arith, below, after)) (function_op (insts_of c.args.self.now) r.0 r.2.begun.there)
