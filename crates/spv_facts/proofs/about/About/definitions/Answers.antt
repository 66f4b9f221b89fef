use Rattle.std.proofs.Common.{◌≡◌, ◌+◌, ◌-◌, ◌∙◌, arith}
use Rattle.spv_module.specs.Module.{plain_insts}
use Rattle.spv_facts.proofs.Steps.{kept_length, kept_step}
use Rattle.spv_facts.proofs.about.About.definitions.Goals as goal

pub loop-at-preserved : goal.loop-at-preserved
loop-at-preserved c =
    let is = plain_insts c.args.self.now.«module».now in
    let i = c.loop-at.invariant in
    let at = c.loop-at.at - 1 in
    let e : at + 1 ≡ c.loop-at.at = omega arith in
    record {
      room = rw c.keep.ensures (kept_length c.loop-at.found.items c.result_of.result at ∙ i.room);
      within = omega (arith, i.within);
      found = λ x l.
          rw (c.keep.ensures, c.result_of.ensures)
          (kept_step is c.loop-at.found.items c.args.room at x (omega (arith, i.within)) i.room l (rw e (i.found x l)));
    }
