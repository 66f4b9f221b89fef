use Rattle.std.proofs.lemmas.Grind.{common_steps}
use Rattle.std.proofs.Common.{◌≡◌, ◌<◌, ◌∷◌, [], arith, get_or, length, length-set}
use Rattle.spv_module.specs.Module.{plain_insts}
use Rattle.spv_facts.specs.Facts.{type_things}
use Rattle.spv_lines.proofs.Steps.{got}
use Rattle.spv_facts.proofs.Steps.{left_step, type_step}
use Rattle.spv_facts.proofs.about.About.types_told.Goals as goal

pub loop-id-preserved : goal.loop-id-preserved
loop-id-preserved c =
    let is = plain_insts c.args.self.now.«module».now in
    let ids = c.args.ids.now in
    let k = c.loop-id.id-index in
    let x = get_or ids k 0 in
    let i = c.loop-id.invariant in
    let left = c.loop-id.left.items in
    let s = c.push_type.ensures.left in
    let r : x < length left = i.room k c.loop-id-test.true in
    let same : length c.push_type.new.left.items ≡ length left = rw s (length-set left x _) in
    record {
      told = x ∷ i.told;
      room = λ j m. let h = i.room j m in omega (arith, h, same);
      left = λ y m. rw s (left_step is i.told left x r i.left y (omega (arith, m, same)));
      things =
          type_step is i.told ids k x left c.loop-id.told.items c.push_type.new.told.items
          (type_things is [] ids) (got ids k c.loop-id-test.true) r i.left c.in_ok-push_type.ensures.told i.things;
    }

pub returns : goal.returns
returns c = grind (arith, common_steps)
