use Rattle.std.proofs.Common.{ℕ, length, get_or, eq-eqb, arith}
use Rattle.std.proofs.lemmas.List.{length-map}
use Rattle.spv_module.specs.declared.opcode.TheConstants as opcode
use Rattle.spv_module.specs.Module.{plain_inst}
use Rattle.spv_flow.specs.branches.inner.Target.{is_function}
use Rattle.spv_flow.proofs.lemmas.branches.Labelled.{inst_get, op_holds}
use Rattle.spv_flow.specs.walks.inner.Code.{insts_of}
use Rattle.spv_flow.proofs.lemmas.walks.Starting.{open_start, open_more, extent_ended, extent_before, extent_last}
use Rattle.spv_flow.proofs.lemmas.walks.Starting.{unmarked_start, unmarked_more}
use Rattle.spv_flow.proofs.walks.divide.function_extent.Goals as goal
use Rattle.spv_flow.proofs.walks.divide.function_extent.Goals.{then-opcode-eq-PHI, else-opcode-eq-PHI}

pub loop-at-init : goal.loop-at-init
loop-at-init c =
    let is = insts_of c.args.code.now in
    let f = c.args.function in
    record {
      inside = open_start is f c.requires.function;
      phis = λ none n from to. unmarked_start is f c.requires.function n from to;
    }

pub returns-then-opcode-eq-FUNCTION_END-clause-extent : goal.returns-then-opcode-eq-FUNCTION_END-clause-extent
returns-then-opcode-eq-FUNCTION_END-clause-extent c =
    let code = c.args.code.now in
    let at = c.loop-at.at in
    let i = plain_inst (get_or code.insts.now at c.index-code-at.result) in
    let there = inst_get code.insts.now at c.index-code-at.result c.loop-at-test.true in
    let from = c.loop-at.auto.at in
    extent_ended (insts_of code) c.args.function at i c.requires.function
    (omega (arith, from)) there c.if-opcode-eq-FUNCTION_END.true c.loop-at.invariant.inside

pub returns-then-opcode-eq-FUNCTION_END-clause-phis : goal.returns-then-opcode-eq-FUNCTION_END-clause-phis
returns-then-opcode-eq-FUNCTION_END-clause-phis c = λ none n from to.
    let code = c.args.code.now in
    let at = c.loop-at.at in
    let i = plain_inst (get_or code.insts.now at c.index-code-at.result) in
    let there = inst_get code.insts.now at c.index-code-at.result c.loop-at-test.true in
    let e = c.if-opcode-eq-FUNCTION_END.true in
    unmarked_more (insts_of code) c.args.function at i there (λ x. omega (arith, e, x))
    (c.loop-at.invariant.phis none) n from to

pub returns-then-opcode-eq-FUNCTION-clause-extent : goal.returns-then-opcode-eq-FUNCTION-clause-extent
returns-then-opcode-eq-FUNCTION-clause-extent c =
    let code = c.args.code.now in
    let at = c.loop-at.at in
    let i = plain_inst (get_or code.insts.now at c.index-code-at.result) in
    let there = inst_get code.insts.now at c.index-code-at.result c.loop-at-test.true in
    let from = c.loop-at.auto.at in
    let next = op_holds (insts_of code) at i is_function there
    (eq-eqb i.opcode opcode.FUNCTION c.if-opcode-eq-FUNCTION.true) in
    extent_before (insts_of code) c.args.function at c.requires.function
    (omega (arith, from)) next c.loop-at.invariant.inside

pub returns-then-opcode-eq-FUNCTION-clause-phis : goal.returns-then-opcode-eq-FUNCTION-clause-phis
returns-then-opcode-eq-FUNCTION-clause-phis c = λ none n from to. c.loop-at.invariant.phis none n from to

pub loop-at-preserved : goal.loop-at-preserved
loop-at-preserved c =
    let code = c.args.code.now in
    let at = c.loop-at.at in
    let i = plain_inst (get_or code.insts.now at c.index-code-at.result) in
    let there = inst_get code.insts.now at c.index-code-at.result c.loop-at-test.true in
    let inside = open_more (insts_of code) c.args.function at i there c.if-opcode-eq-FUNCTION.false
    c.if-opcode-eq-FUNCTION_END.false c.loop-at.invariant.inside in
    elim c.if-opcode-eq-PHI.branch [
      | then-opcode-eq-PHI w ↦ rw w.has_phis-is (record { inside = inside; phis = λ none. cc })
      | else-opcode-eq-PHI w ↦ rw w.has_phis-is
          (record {
            inside = inside;
            phis = λ none n from to. unmarked_more
                (insts_of code) c.args.function at i there w.if-opcode-eq-PHI.false
                (c.loop-at.invariant.phis none) n from to;
          })
    ]

pub returns-clause-extent : goal.returns-clause-extent
returns-clause-extent c =
    let code = c.args.code.now in
    let n : ℕ = length code.insts.now in
    let l = length-map code.insts.now plain_inst in
    let end = c.loop-at-test.false in
    extent_last (insts_of code) c.args.function n c.loop-at.at c.requires.function
    (omega (arith, l)) end c.loop-at.invariant.inside

pub returns-clause-phis : goal.returns-clause-phis
returns-clause-phis c =
    λ none n from to. (let e = c.loop-at-test.false in c.loop-at.invariant.phis none n from (omega (arith, e, to)))
