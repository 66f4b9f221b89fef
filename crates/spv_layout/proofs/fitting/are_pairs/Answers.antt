use Rattle.std.proofs.Common.{◌≡◌, ◌+◌, ◌∙◌, true, length, get_or, refl, sym, inl, inr, arith}
use Rattle.std.proofs.lemmas.Bool.Decides.{eqb_tells}
use Rattle.spv_module.specs.declared.operand.Operand.TheVariants as code
use Rattle.spv_module.specs.Module.{plain_operand}
use Rattle.spv_layout.specs.Shape.{is_of}
use Rattle.spv_layout.proofs.Tested.{pair_front, pair_none, pair_odd}
use Rattle.spv_layout.proofs.fitting.are_pairs.Goals as goal

pub loop-at-preserved : goal.loop-at-preserved
loop-at-preserved c =
    let kinds = c.args.kinds.now in
    let operands = c.args.operands.now in
    let n = c.loop-at.at in
    let lt = c.loop-at-test.true in
    let a : is_of kinds c.args.one (plain_operand (get_or operands n (code.OfType 0))) ≡ true = sym c.has_form.ensures ∙ c.if-not-has_form.false in
    let b : is_of kinds c.args.two (plain_operand (get_or operands (n + 1) (code.OfType 0))) ≡ true = sym c.has_form-in-loop-at.ensures ∙ c.if-not-has_form-2.false in
    let f = pair_front kinds c.args.one c.args.two operands n (n + 1) (n + 2) (code.OfType 0) (code.OfType 0) refl refl lt in
    record { within = omega (arith, lt); left = sym (rw (a, b) at f) ∙ c.loop-at.invariant.left }

pub returns : goal.returns
returns c =
    let kinds = c.args.kinds.now in
    let operands = c.args.operands.now in
    let n = c.loop-at.at in
    let within = c.loop-at.invariant.within in
    let last = c.loop-at-test.false in
    let left = c.loop-at.invariant.left in
    elim (eqb_tells n (length operands)) [
      | inl p ↦ rw p.0 (pair_none kinds c.args.one c.args.two operands n p.1 ∙ left)
      | inr p ↦ (
          let apart = p.1 in
          rw p.0 (pair_odd kinds c.args.one c.args.two operands n (omega (arith, within, last, apart)) ∙ left))
    ]
