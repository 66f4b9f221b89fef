use Rattle.spv_extended.specs.declared.reach.Reach.TheVariants.{Profile}
use Rattle.spv_explain.specs.Stream.{IsExplanation, IsWalk}
use Rattle.spv_explain.proofs.Tellings.{ok_told}
use Rattle.spv_explain.proofs.stream.explained.Goals as goal
use Rattle.spv_explain.proofs.stream.explained.Goals.{in-Profile, in-Extended}

pub returns-in-Ok-clause-explanation : goal.returns-in-Ok-clause-explanation
returns-in-Ok-clause-explanation c = λ bytes order h. elim c.match-reach.branch [
  | in-Profile w ↦
      rw w.in-Profile.is (ok_told w.told_of-told.result c.match-reach.told c.in-Ok.told
      (λ t. IsExplanation c.args.detail c.args.table.now Profile bytes t.explanation) w.told-is c.in-Ok.is
      (w.told_of-told.ensures.explanation bytes order h))
  | in-Extended w ↦
      ok_told w.told_whole-told.result c.match-reach.told c.in-Ok.told
      (λ t. IsExplanation c.args.detail c.args.table.now c.args.reach bytes t.explanation) w.told-is c.in-Ok.is
      (w.told_whole-told.ensures.explanation bytes order h)
]

pub returns-in-Ok-clause-walk : goal.returns-in-Ok-clause-walk
returns-in-Ok-clause-walk c = λ bytes order h. elim c.match-reach.branch [
  | in-Profile w ↦
      rw w.in-Profile.is (ok_told w.told_of-told.result c.match-reach.told c.in-Ok.told
      (λ t. IsWalk c.args.detail c.args.table.now Profile bytes t.explanation t.walk.items) w.told-is c.in-Ok.is
      (w.told_of-told.ensures.walk bytes order h))
  | in-Extended w ↦
      ok_told w.told_whole-told.result c.match-reach.told c.in-Ok.told
      (λ t. IsWalk c.args.detail c.args.table.now c.args.reach bytes t.explanation t.walk.items) w.told-is c.in-Ok.is
      (w.told_whole-told.ensures.walk bytes order h)
]
