use Rattle.std.proofs.Common.{◌≡◌, map, length, arith}
use Rattle.std.proofs.lemmas.List.{length-map}
use Rattle.std.proofs.lemmas.Result.{IfOk-weaker}
use Rattle.spv_module.specs.Module.{plain_inst, plain_insts}
use Rattle.spv_evidence.specs.declared.evidence.Evidence.{Evidence}
use Rattle.spv_table.specs.Table.{Table}
use Rattle.spv_flow.specs.declared.walks.code.Code.{Code}
use Rattle.spv_flow.specs.walks.inner.Code.{IsCode}
use Rattle.spv_flow_evidence.specs.walks.Evidence.{IsEvidence}
use Rattle.spv_flow_evidence.specs.walks.inner.Shown.{IsShown}
use Rattle.spv_flow.proofs.lemmas.branches.Firsts.{few_insts}
use Rattle.spv_flow.proofs.lemmas.walks.Places.{no_function}
use Rattle.spv_flow.proofs.lemmas.walks.Staged.{unasked}
use Rattle.spv_layout.specs.Stage.{of_branches}
use Rattle.spv_flow_evidence.proofs.lemmas.walks.Showing.{misses, as_rule}
use Rattle.spv_flow_evidence.proofs.walks.walk_evidence.Goals as goal

pub before_functions-globals-requires : goal.before_functions-globals-requires
before_functions-globals-requires c =
    let v = c.as_slice-insts.ensures.value in
    let xs = c.as_slice-insts.result.now in
    let few = few_insts xs (rw v c.requires.words) in
    let n : length c.args.plan.now ≡ length (map plain_inst xs) = rw v c.requires.broken.2.count in
    let l = length-map xs plain_inst in
    omega (arith, few, n, l)

pub evidence_at-requires-clause-code : goal.evidence_at-requires-clause-code
evidence_at-requires-clause-code c =
    let v = c.as_slice-insts.ensures.value in
    let xs = c.as_slice-insts.result.now in
    let few = few_insts xs (rw v c.requires.words) in
    let k = c.requires.broken in
    let m = misses k.0 k.1 (plain_insts c.args.module.now) c.args.rule c.args.inst c.taking_of.result k.4 k.5
    c.taking_of.ensures.uses c.taking_of.ensures.pairs in (
      k.1,
      record {
        plan = rw v k.2;
        bound = c.args.module.now.header.bound;
        ids = rw v k.3;
        branches = unasked k.0 k.1 (map plain_inst xs) of_branches (rw v k.4);
        most = few;
        global = no_function (map plain_inst xs) c.args.plan.now c.before_functions-globals.result (rw v k.2.place)
            c.before_functions-globals.ensures.before;
      },
      rw v m,
    )

pub evidence_at-requires-clause-most : goal.evidence_at-requires-clause-most
evidence_at-requires-clause-most c =
    let v = c.as_slice-insts.ensures.value in
    let xs = c.as_slice-insts.result.now in
    few_insts xs (rw v c.requires.words)

pub returns : goal.returns
returns c = λ fork G p a b.
    let v = c.as_slice-insts.ensures.value in
    let xs = c.as_slice-insts.result.now in
    let few = few_insts xs (rw v c.requires.words) in
    let k = c.requires.broken in
    let code : Code = record {
      insts = c.as_slice-insts.result;
      plan = c.args.plan;
      ids = c.args.ids;
      globals =
          c.before_functions-globals.result;
    } in
    let is : IsCode G code = record {
      plan = rw v p;
      bound = c.args.module.now.header.bound;
      ids = rw v a;
      branches = unasked fork G (map plain_inst xs) of_branches (rw v b);
      most = few;
      global = no_function (map plain_inst xs) c.args.plan.now c.before_functions-globals.result (rw v p.place)
          c.before_functions-globals.ensures.before;
    } in
    IfOk-weaker c.evidence_at.result
    (λ (e : Evidence). (H : Table) → IsCode H code → IsShown H (map plain_inst xs) c.taking_of.result c.args.inst e)
    (λ (e : Evidence). IsEvidence G (plain_insts c.args.module.now) c.args.rule c.args.inst e)
    (λ e h. as_rule k.0 G k.1 (plain_insts c.args.module.now) c.args.rule c.args.inst c.taking_of.result e k.4 k.5
    c.taking_of.ensures.uses c.taking_of.ensures.pairs
    (rw v at (h G is)))
    c.evidence_at.ensures
