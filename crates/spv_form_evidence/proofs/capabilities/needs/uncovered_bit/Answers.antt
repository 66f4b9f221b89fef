use Rattle.std.proofs.Common.{◌≡◌, ℕ, arith}
use Rattle.spv_capabilities.specs.Capable.{IsCoveredValue}
use Rattle.spv_capabilities.proofs.Bits.{all_bits, no_bits, bit_covered}
use Rattle.spv_form_evidence.proofs.lemmas.capabilities.Needed.{bit_found}
use Rattle.spv_form_evidence.proofs.capabilities.needs.uncovered_bit.Goals as goal

pub loop-position-init : goal.loop-position-init
loop-position-init c = all_bits c.args.survey.now.table c.args.survey.now.insts c.args.kind c.args.mask

pub returns-in-Some : goal.returns-in-Some
returns-in-Some c =
    let s = c.args.survey.now in
    let p = c.loop-position.position in
    bit_found s.table s.insts c.args.kind c.args.mask p c.in-Some.bit c.loop-position-test.true c.in-Some.ensures

pub loop-position-preserved : goal.loop-position-preserved
loop-position-preserved c =
    let P : ℕ → Type 0 = IsCoveredValue c.args.survey.now.table c.args.survey.now.insts c.args.kind in
    let more = bit_covered P c.args.mask c.loop-position.position c.loop-position-test.true c.in_default.ensures in
    let left = c.loop-position.invariant in
    (λ a. more.0 (left.0 a), λ b. left.1 (more.1 b))

pub returns : goal.returns
returns c =
    let P : ℕ → Type 0 = IsCoveredValue c.args.survey.now.table c.args.survey.now.insts c.args.kind in
    let e : c.loop-position.position ≡ 32 = omega arith in
    c.loop-position.invariant.1 (rw e (no_bits P c.args.mask))
