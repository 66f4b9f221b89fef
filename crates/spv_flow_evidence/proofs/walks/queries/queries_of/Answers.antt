use Rattle.std.proofs.Common.{◌≡◌, ◌≤◌, ◌+◌, ◌<◌, List, Vec, Global, length, get_or, Some, sym, ap, subst, arith}
use Rattle.std.proofs.lemmas.List.{length-map}
use Rattle.std.specs.Prelude.{All, slice_get}
use Rattle.std.proofs.lemmas.List.Elements.{All-nil, All-same, All-push}
use Rattle.spv_table.specs.Table.{Table}
use Rattle.spv_module.specs.Operand.{PlainInst}
use Rattle.spv_module.specs.declared.module.Inst.{Inst}
use Rattle.spv_module.specs.Module.{plain_inst, plain_operand}
use Rattle.spv_graphs.specs.declared.queries.Query.{Query}
use Rattle.spv_flow.proofs.lemmas.branches.Labelled.{inst_get}
use Rattle.spv_flow.specs.walks.inner.Code.{insts_of}
use Rattle.spv_flow_evidence.specs.walks.inner.Asked.{numbered, AreAsked}
use Rattle.spv_flow_evidence.proofs.lemmas.walks.Asked.{asked_none, asked_more, asked_same, asked_all}
use Rattle.spv_flow_evidence.proofs.walks.queries.queries_of.Goals as goal
use Rattle.spv_flow_evidence.proofs.walks.queries.queries_of.Goals.{in-Some+in_ok-push, in_default}

pub loop-n-init : goal.loop-n-init
loop-n-init c = record {
  steps = All-same (λ (a : Query). a.step < 4294967295) _ _ c.new-queries.ensures.items
      (All-nil (λ (a : Query). a.step < 4294967295));
  asked = λ G is. subst (λ (xs : List Query). AreAsked G
      (insts_of c.args.code.now) c.args.blocks.now.starts.now c.args.taking c.args.block c.args.at 0 xs)
      (sym c.new-queries.ensures.items)
      (asked_none G (insts_of c.args.code.now) c.args.blocks.now.starts.now c.args.taking c.args.block c.args.at);
}

pub loop-n-preserved : goal.loop-n-preserved
loop-n-preserved c =
    let code = c.args.code.now in
    let b = c.args.blocks.now in
    let n = c.loop-n.n in
    let lt = c.loop-n-test.true in
    let few = c.as_slice-n-end.ensures.few in
    let all = ap length c.as_slice-n-end.ensures.value in
    let S : Query → Type 0 = λ a. a.step < 4294967295 in
    let P : Table → List Query → Type 0 =
    λ G xs. AreAsked G (insts_of code) b.starts.now c.args.taking c.args.block c.args.at (n + 1) xs in
    elim c.match-query_at.branch [
      | in-Some+in_ok-push w ↦ (
          let here : Query = numbered w.in-Some.query n in
          let steps = All-push S c.loop-n.queries.items here c.loop-n.invariant.steps (omega (arith, lt, few, all)) in
          record {
            steps = subst (λ (v : Vec Query Global). All S v.items) (sym w.queries-is)
                (subst (λ (xs : List Query). All S xs) (sym w.in_ok-push.ensures.items) steps);
            asked = λ G is. (
                let more = asked_more G code b c.args.taking c.args.block c.args.at n c.loop-n.queries.items
                w.in-Some.query
                is c.requires.blocks (w.in-Some.ensures G is) (c.loop-n.invariant.asked G is) in
                let pushed = subst (λ (xs : List Query). P G xs) (sym w.in_ok-push.ensures.items) more in
                subst (λ (v : Vec Query Global). P G v.items) (sym w.queries-is) pushed);
          })
      | in_default w ↦ record {
        steps = subst (λ (v : Vec Query Global). All S v.items) (sym w.queries-is) c.loop-n.invariant.steps;
        asked = λ G is. (
            let same = asked_same G (insts_of code) b.starts.now c.args.taking c.args.block c.args.at n
            c.loop-n.queries.items (w.in_default.ensures G is) (c.loop-n.invariant.asked G is) in
            subst (λ (v : Vec Query Global). P G v.items) (sym w.queries-is) same);
      }
    ]

pub returns-clause-steps : goal.returns-clause-steps
returns-clause-steps c = c.loop-n.invariant.steps

pub returns-clause-asked : goal.returns-clause-asked
returns-clause-asked c = λ G end is.
    let code = c.args.code.now in
    let inst : Inst = get_or code.insts.now c.args.at c.index-code-at.result in
    let i : PlainInst = plain_inst inst in
    let there : slice_get (insts_of code) c.args.at ≡ Some i =
    inst_get code.insts.now c.args.at c.index-code-at.result c.requires.at in
    let all : length i.operands ≤ c.loop-n.n =
    omega (arith, length-map inst.operands plain_operand, ap length c.as_slice-n-end.ensures.value) in
    asked_all G (insts_of code) c.args.blocks.now.starts.now c.args.taking c.args.block c.args.at c.loop-n.n
    c.loop-n.queries.items i there all (c.loop-n.invariant.asked G is) end
