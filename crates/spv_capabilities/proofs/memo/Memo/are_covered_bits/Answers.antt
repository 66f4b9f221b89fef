use Rattle.std.proofs.Common.{◌≡◌, ◌^◌, ◌/◌, ◌%◌, ◌∙◌, ℕ, sym, refl, subst, true, false, nat_eq, arith}
use Rattle.spv_capabilities.specs.Capable.{IsCoveredValue}
use Rattle.spv_capabilities.proofs.Bits.{all_bits, no_bits, no_more, bit_covered, bit_not_covered}
use Rattle.spv_capabilities.proofs.memo.Memo.are_covered_bits.Goals as goal

pub loop-position-init : goal.loop-position-init
loop-position-init c =
    record {
      known = c.requires;
      left = all_bits c.args.survey.now.table c.args.survey.now.insts c.args.kind
          c.args.mask;
    }

pub returns-then-bits-eq0-clause-answer : goal.returns-then-bits-eq0-clause-answer
returns-then-bits-eq0-clause-answer c =
    let P : ℕ → Type 0 = IsCoveredValue c.args.survey.now.table c.args.survey.now.insts c.args.kind in
    let e : c.args.mask / 2 ^ c.loop-position.position ≡ 0 = sym c.bits_above-bits.ensures ∙ c.if-bits-eq0.true in
    (λ t. c.loop-position.invariant.left.1 (no_more P c.args.mask c.loop-position.position e), λ a. refl)

pub returns-then-not-branch-clause-answer : goal.returns-then-not-branch-clause-answer
returns-then-not-branch-clause-answer c =
    let P : ℕ → Type 0 = IsCoveredValue c.args.survey.now.table c.args.survey.now.insts c.args.kind in
    let p = c.loop-position.position in
    let answer = c.in_ok-is_covered_bit.ensures.answer in
    let n = bit_not_covered P c.args.mask p c.loop-position-test.true (λ f.
    let t : c.in_ok-is_covered_bit.field-0 ≡ true = answer.1
    (λ e. f (subst (λ (b : ℕ). nat_eq (b % 2) 1 ≡ true) c.bits_above-bits.ensures e)) in
    let no : false ≡ true = sym c.if-not-branch.true ∙ t in
    absurd (cc)) in
    (λ t. absurd (let no : false ≡ true = t in cc), λ a. absurd (n (c.loop-position.invariant.left.0 a)))

pub loop-position-preserved : goal.loop-position-preserved
loop-position-preserved c =
    let P : ℕ → Type 0 = IsCoveredValue c.args.survey.now.table c.args.survey.now.insts c.args.kind in
    let p = c.loop-position.position in
    let answer = c.in_ok-is_covered_bit.ensures.answer in
    let more = bit_covered P c.args.mask p c.loop-position-test.true
    (λ e. answer.0 c.if-not-branch.false
    (subst (λ (b : ℕ). nat_eq (b % 2) 1 ≡ true) (sym c.bits_above-bits.ensures) e)) in
    let left = c.loop-position.invariant.left in
    record { known = c.is_covered_bit.ensures.known; left = (λ a. more.0 (left.0 a), λ b. left.1 (more.1 b)) }

pub returns-clause-answer : goal.returns-clause-answer
returns-clause-answer c =
    let P : ℕ → Type 0 = IsCoveredValue c.args.survey.now.table c.args.survey.now.insts c.args.kind in
    let e : c.loop-position.position ≡ 32 = omega arith in
    (λ t. c.loop-position.invariant.left.1 (rw e (no_bits P c.args.mask)), λ a. refl)
