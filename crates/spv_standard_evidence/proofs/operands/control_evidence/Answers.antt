use Rattle.spv_module.specs.Module.{plain_inst}
use Rattle.spv_standard_evidence.proofs.Operated.{by_18, shown_loop, shown_weights}
use Rattle.spv_standard_evidence.proofs.operands.control_evidence.Goals as goal

pub returns-then-inst-eq-LOOP_MERGE : goal.returns-then-inst-eq-LOOP_MERGE
returns-then-inst-eq-LOOP_MERGE c = λ G is.
    let r = c.requires in
    shown_loop G is (plain_inst c.args.inst.now) c.if-inst-eq-LOOP_MERGE.true
    (by_18 r.0 r.1 (plain_inst c.args.inst.now) r.2)

pub returns-else-inst-eq-LOOP_MERGE : goal.returns-else-inst-eq-LOOP_MERGE
returns-else-inst-eq-LOOP_MERGE c = λ G is.
    let r = c.requires in
    shown_weights G is (plain_inst c.args.inst.now) c.if-inst-eq-LOOP_MERGE.false
    (by_18 r.0 r.1 (plain_inst c.args.inst.now) r.2)
