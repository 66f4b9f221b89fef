use Rattle.std.proofs.lemmas.Grind.{common_steps}
use Rattle.std.proofs.Common.{◌+◌, ◌-◌, ◌∙◌, ap, arith}
use Rattle.std.specs.Prelude.{flat_map}
use Rattle.spv_commands.specs.Trace.{step_line}
use Rattle.spv_commands.proofs.TraceLines.{begun_all, part_lent, rest_by, steps_all, steps_begun, steps_more}
use Rattle.spv_commands.proofs.trace_lines.write_steps.Goals as goal

pub returns-in_err-write_all-clause-begun : goal.returns-in_err-write_all-clause-begun
returns-in_err-write_all-clause-begun g c =
    let n = c.min-size.result in
    let at = c.loop-at.at in
    let steps = c.args.steps.now in
    let lent = rest_by c.put_lines-begin.new.block c.put_lines-begin.result _
    (omega (arith, c.put_lines-begin.auto.block)) in
    let part = lent ∙ c.put_lines-begin.ensures.lines
    ∙ ap (flat_map step_line) (part_lent steps at n (at + n - at) (omega arith)) in
    steps_begun _ _ _ _ _ steps _ at n c.loop-at.invariant
    (omega (arith, c.min-size.ensures, c.loop-at.invariant.fits)) part c.in_err-write_all.ensures.begun

pub loop-at-preserved : goal.loop-at-preserved
loop-at-preserved g c =
    let n = c.min-size.result in
    let at = c.loop-at.at in
    let steps = c.args.steps.now in
    let lent = rest_by c.put_lines-begin.new.block c.put_lines-begin.result _
    (omega (arith, c.put_lines-begin.auto.block)) in
    let part = lent ∙ c.put_lines-begin.ensures.lines
    ∙ ap (flat_map step_line) (part_lent steps at n (at + n - at) (omega arith)) in
    steps_more _ _ _ _ _ _ steps _ at n c.loop-at.invariant
    (omega (arith, c.min-size.ensures, c.loop-at.invariant.fits)) part c.in_ok-write_all.ensures.all
    c.in_ok-write_all.ensures.steady

pub returns-clause-begun : goal.returns-clause-begun
returns-clause-begun g c =
    begun_all _ _ (flat_map step_line c.args.steps.now)
    (steps_all _ _ _ _ c.args.steps.now c.loop-at.at c.loop-at.invariant c.loop-at-test.false)

pub returns-clause-all : goal.returns-clause-all
returns-clause-all g c = grind (arith, common_steps)
