use Rattle.std.proofs.Common.{◌≤◌, List, length, ap, subst, arith}
use Rattle.std.proofs.lemmas.List.{length-map}
use Rattle.spv_module.specs.Module.{plain_inst, plain_operand, plain_operands}
use Rattle.spv_module.specs.Operand.{Plain}
use Rattle.spv_versions.specs.inner.Told.{AreHit}
use Rattle.spv_standard_evidence.proofs.Versioned.{lack_in, none_hit, none_more, operand_there}
use Rattle.spv_standard_evidence.proofs.versions.operands_lack.Goals as goal

pub returns-in-Some : goal.returns-in-Some
returns-in-Some c =
    let os = c.as_slice-operands.result.now in
    let i = plain_inst c.args.inst.now in
    let there = operand_there os c.loop-k.k _ c.loop-k-test.true in
    let same = ap plain_operands c.as_slice-operands.ensures.value in
    c.in-Some.ensures i (lack_in (plain_operands os) i.operands c.loop-k.k _ same there)

pub loop-k-preserved : goal.loop-k-preserved
loop-k-preserved c =
    let os = c.as_slice-operands.result.now in
    let i = plain_inst c.args.inst.now in
    let there = operand_there os c.loop-k.k _ c.loop-k-test.true in
    let same = ap plain_operands c.as_slice-operands.ensures.value in
    none_more c.args.missing.now.lines c.args.kinds.now.numbers (plain_operands os) c.loop-k.k _ there
    (c.in_default.ensures i (lack_in (plain_operands os) i.operands c.loop-k.k _ same there)) c.loop-k.invariant

pub returns : goal.returns
returns c =
    let os = c.as_slice-operands.result.now in
    let same = ap plain_operands c.as_slice-operands.ensures.value in
    let m = length-map os plain_operand in
    let all : length (plain_operands os) ≤ c.loop-k.k = omega (arith, m) in
    subst (λ (xs : List Plain). ¬ (AreHit c.args.missing.now.lines c.args.kinds.now.numbers xs)) same
    (none_hit c.args.missing.now.lines c.args.kinds.now.numbers (plain_operands os) c.loop-k.k all c.loop-k.invariant)
