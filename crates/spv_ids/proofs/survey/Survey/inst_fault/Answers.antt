use Rattle.std.proofs.Common.{Some, None, length, inl, inr}
use Rattle.spv_module.specs.Module.{plain_inst}
use Rattle.spv_ids.specs.inner.Faulty.{HasBadUse, HasBadOperand, IsFaulty}
use Rattle.spv_ids.specs.inner.Survey.{insts_of}
use Rattle.spv_ids.proofs.Leasts.{has_stage, has_operand_stage}
use Rattle.spv_ids.proofs.Behind.{least_is, least_same, least_two, stages_by}
use Rattle.spv_ids.proofs.Broke.{faulty_either}
use Rattle.spv_ids.proofs.survey.Survey.inst_fault.Goals as goal

pub uses_fault-by_use-requires-clause-operands : goal.uses_fault-by_use-requires-clause-operands
uses_fault-by_use-requires-clause-operands c =
    record { inst = plain_inst c.args.inst.now; there = c.requires.there; same = c.seen.ensures }

pub operands_fault-requires-clause-operands : goal.operands_fault-requires-clause-operands
operands_fault-requires-clause-operands c =
    record { inst = plain_inst c.args.inst.now; there = c.requires.there; same = c.behind.ensures }

pub returns-in-Some : goal.returns-in-Some
returns-in-Some c =
    let s = c.args.self.now in
    let b = s.bound in
    let is = insts_of s in
    let n = c.args.at in
    let j = length c.seen.result.now in
    let k = length c.behind.result.now in
    let f = least_is (HasBadOperand b is n k) c.operands_fault.result
    (Some c.in-Some.rule) c.in-Some.is c.operands_fault.ensures in
    let u = c.uses_fault-by_use.ensures in
    let e = c.earlier.ensures (has_operand_stage b is n k c.in-Some.rule f.0)
    (stages_by (HasBadUse b is n j) c.uses_fault-by_use.result (λ q h. has_stage b is n j q h) u) in
    least_two (HasBadUse b is n j) (HasBadOperand b is n k)
    (IsFaulty b is n) c.uses_fault-by_use.result c.in-Some.rule c.earlier.result u f e
    (λ q h. IsFaulty.by_use j q h) (λ q h. IsFaulty.by_operand k q h)
    (λ q h. faulty_either b is n s.end s.firsts.now c.seen.result.now c.behind.result.now q c.requires.survey.firsts
    c.requires.below
    (record { inst = plain_inst c.args.inst.now; there = c.requires.there; same = c.seen.ensures })
    (record { inst = plain_inst c.args.inst.now; there = c.requires.there; same = c.behind.ensures }) h)

pub returns : goal.returns
returns c =
    let s = c.args.self.now in
    let b = s.bound in
    let is = insts_of s in
    let n = c.args.at in
    let j = length c.seen.result.now in
    let k = length c.behind.result.now in
    let f = least_is (HasBadOperand b is n k) c.operands_fault.result None c.in_default.is c.operands_fault.ensures in
    least_same (HasBadUse b is n j) (IsFaulty b is n) c.uses_fault-by_use.result (λ q h. IsFaulty.by_use j q h)
    (λ q h. elim (faulty_either b is n s.end s.firsts.now c.seen.result.now c.behind.result.now q
    c.requires.survey.firsts c.requires.below
    (record { inst = plain_inst c.args.inst.now; there = c.requires.there; same = c.seen.ensures })
    (record { inst = plain_inst c.args.inst.now; there = c.requires.there; same = c.behind.ensures }) h) [
      | inl g ↦ g
      | inr g ↦ absurd (f q g)
    ]) c.uses_fault-by_use.ensures
