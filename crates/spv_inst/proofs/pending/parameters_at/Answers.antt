use Rattle.std.proofs.Common.{◌∙◌}
use Rattle.spv_inst.proofs.Frames.{by_empty, by_nonempty}
use Rattle.spv_inst.proofs.Masks.{past_bits, no_bits, clear_bit, bit_parameters, bit_opened, bit_without}
use Rattle.spv_inst.proofs.pending.parameters_at.Goals as goal
use Rattle.spv_inst.proofs.pending.parameters_at.Goals.{then-left-eq1+else-not-is_empty, else-left-eq1}

pub returns-then-left-eq0 : goal.returns-then-left-eq0
returns-then-left-eq0 c =
    c.loop-position.invariant ∙ no_bits c.args.table.now c.args.kind c.args.mask c.loop-position.position
    c.if-left-eq0.true

pub returns-then-not-is_empty : goal.returns-then-not-is_empty
returns-then-not-is_empty c =
    let G = c.args.table.now in
    let p = c.loop-position.position in
    let f = bit_parameters G c.args.kind p _ c.loop-position-test.true c.parameters_in-kinds.ensures in (
      by_nonempty c.parameters_in-kinds.result.now c.if-not-is_empty.ensures,
      c.loop-position.invariant ∙ bit_opened G c.args.kind c.args.mask p _ c.loop-position-test.true c.if-left-eq1.true
          f,
    )

pub loop-position-preserved : goal.loop-position-preserved
loop-position-preserved c =
    let G = c.args.table.now in
    let p = c.loop-position.position in
    elim c.if-left-eq1.branch [
      | then-left-eq1+else-not-is_empty w ↦
          let f = bit_parameters G c.args.kind p _ c.loop-position-test.true w.parameters_in-kinds.ensures in
          let z = by_empty w.parameters_in-kinds.result.now w.if-not-is_empty.ensures in
          c.loop-position.invariant ∙ bit_without G c.args.kind c.args.mask p _ c.loop-position-test.true
          w.if-left-eq1.true f z
      | else-left-eq1 w ↦ c.loop-position.invariant
          ∙ clear_bit G c.args.kind c.args.mask p c.loop-position-test.true w.if-left-eq1.false
    ]

pub returns : goal.returns
returns c = c.loop-position.invariant ∙ past_bits c.args.table.now c.args.kind c.args.mask c.loop-position.position
    c.loop-position-test.false
