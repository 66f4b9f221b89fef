use Rattle.std.proofs.Common.{◌<◌, ◌-◌, ℕ, inl, inr, length, get_or, arith}
use Rattle.std.specs.Prelude.{slice_index}
use Rattle.spv_module.specs.Module.{plain_inst}
use Rattle.spv_flow.specs.branches.inner.Target.{is_function}
use Rattle.spv_flow.proofs.lemmas.branches.Labelled.{inst_get, op_holds}
use Rattle.spv_flow.specs.walks.inner.Code.{insts_of}
use Rattle.spv_flow.proofs.lemmas.walks.Coded.{listed, value_not}
use Rattle.spv_flow.proofs.lemmas.walks.Places.{of_itself}
use Rattle.spv_flow.proofs.walks.queries.is_settled.Goals as goal

pub returns-then-start-definition : goal.returns-then-start-definition
returns-then-start-definition c = λ G is t.
    let near = c.args.near.now in
    let within = c.if-place-near.false in
    let none = c.if-more-eq0.false in
    let below = c.if-at-more.false in
    let some : 0 < slice_index near c.args.id = omega (arith, none) in
    inr (
      slice_index near c.args.id - 1,
      c.if-start-definition.true,
      omega (arith, some, below),
      listed G c.args.code.now near c.args.id is c.requires.near (omega (arith, within)) some,
    )

pub returns-then-is_global : goal.returns-then-is_global
returns-then-is_global c = λ G is t.
    let near = c.args.near.now in
    let within = c.if-place-near.false in
    let none = c.if-more-eq0.false in
    let some : 0 < slice_index near c.args.id = omega (arith, none) in
    inl (c.is_global.ensures G c.args.id is
    (listed G c.args.code.now near c.args.id is c.requires.near (omega (arith, within)) some) c.if-is_global.true)

pub returns : goal.returns
returns c = λ G is t.
    let code = c.args.code.now in
    let near = c.args.near.now in
    let within = c.if-place-near.false in
    let none = c.if-more-eq0.false in
    let below = c.if-at-more.false in
    let some : 0 < slice_index near c.args.id = omega (arith, none) in
    let d : ℕ = slice_index near c.args.id - 1 in
    let last = c.requires.at in
    let inside : d < length code.insts.now = omega (arith, some, below, last) in
    let j = plain_inst (get_or code.insts.now d c.index-code-definition.result) in
    let here = inst_get code.insts.now d c.index-code-definition.result inside in
    let function = op_holds (insts_of code) d j is_function here t in
    inl (value_not G code c.args.id d d is
    (listed G code near c.args.id is c.requires.near (omega (arith, within)) some)
    (of_itself (insts_of code) d function) (omega arith))
