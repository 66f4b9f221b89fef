use Rattle.std.proofs.Common.{◌∙◌, sym, arith}
use Rattle.spv_module.specs.Module.{plain_inst, plain_insts}
use Rattle.spv_facts.proofs.Steps.{definition_end, definition_step, none_beyond, some_within}
use Rattle.spv_facts.proofs.about.About.definition_of.Goals as goal

pub returns-then-has_result : goal.returns-then-has_result
returns-then-has_result c =
    let is = plain_insts c.args.self.now.«module».now in
    let s = definition_step c.args.id c.loop-inst.at is (plain_inst c.in-Some.inst.now) (sym c.in-Some.ensures) in
    let i = c.loop-inst.invariant.same in
    grind (arith, s, i)

pub loop-inst-smaller : goal.loop-inst-smaller
loop-inst-smaller c =
    let l = some_within (plain_insts c.args.self.now.«module».now) c.loop-inst.at (plain_inst c.in-Some.inst.now)
    (sym c.in-Some.ensures) in
    omega (arith, l)

pub loop-inst-preserved : goal.loop-inst-preserved
loop-inst-preserved c =
    let is = plain_insts c.args.self.now.«module».now in
    let s = definition_step c.args.id c.loop-inst.at is (plain_inst c.in-Some.inst.now) (sym c.in-Some.ensures) in
    let l = some_within is c.loop-inst.at (plain_inst c.in-Some.inst.now) (sym c.in-Some.ensures) in
    let i = c.loop-inst.invariant.same in
    record { within = omega (arith, l); same = grind (arith, s, i) }

pub returns : goal.returns
returns c =
    let is = plain_insts c.args.self.now.«module».now in
    sym (definition_end c.args.id c.loop-inst.at is (none_beyond is c.loop-inst.at (sym c.in_default.ensures)))
    ∙ c.loop-inst.invariant.same
