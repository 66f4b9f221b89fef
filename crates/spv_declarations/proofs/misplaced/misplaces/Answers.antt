use Rattle.std.proofs.Common.{refl}
use Rattle.spv_module.specs.Module.{plain_inst}
use Rattle.spv_declarations.proofs.Misplacing.{HasAnId, MisplacesOwn, MisplacesMember, MisplacesTarget, by_id, by_own}
use Rattle.spv_declarations.proofs.Misplacing.{by_member, by_target, if_ok, not_so, last_tells}
use Rattle.spv_declarations.proofs.Without.{says_nothing}
use Rattle.spv_declarations.proofs.misplaced.misplaces.Goals as goal

pub returns-then-decorates_with_id : goal.returns-then-decorates_with_id
returns-then-decorates_with_id c = λ n at. (
  λ y. by_id c.args.definitions.now n (plain_inst c.args.inst.now) at
      (c.decorates_with_id.ensures.0 c.if-decorates_with_id.true),
  λ m. refl,
)

pub returns-then-misplaces_own : goal.returns-then-misplaces_own
returns-then-misplaces_own c = λ n at. (
  λ y. by_own c.args.definitions.now n (plain_inst c.args.inst.now) at
      (c.misplaces_own.ensures.0 c.if-misplaces_own.true),
  λ m. refl,
)

pub returns-then-misplaces_member : goal.returns-then-misplaces_member
returns-then-misplaces_member c = λ n at. (
  λ y. by_member c.args.definitions.now n (plain_inst c.args.inst.now) at
      (c.misplaces_member.ensures.0 c.if-misplaces_member.true),
  λ m. refl,
)

pub returns-then-branch : goal.returns-then-branch
returns-then-branch c = λ n at. (
  λ y. by_target c.requires.said.0 c.args.definitions.now c.args.said.now n (plain_inst c.args.inst.now)
      c.requires.said.1 at
      (c.in_ok-misplaces_target.ensures.0 c.if-branch.true),
  λ m. refl,
)

pub returns : goal.returns
returns c =
    let is = c.args.definitions.now in
    let s = c.args.said.now in
    let i = plain_inst c.args.inst.now in
    if_ok c.misplaces_pair.result _ _ (λ b t n at. last_tells c.requires.said.0 is s n i b c.requires.said.1 at
    (not_so (HasAnId i) c.decorates_with_id.result c.decorates_with_id.ensures c.if-decorates_with_id.false)
    (not_so (MisplacesOwn is i) c.misplaces_own.result c.misplaces_own.ensures c.if-misplaces_own.false)
    (not_so (MisplacesMember i) c.misplaces_member.result c.misplaces_member.ensures c.if-misplaces_member.false)
    (not_so (MisplacesTarget is s i) _ c.in_ok-misplaces_target.ensures c.if-branch.false) t)
    c.misplaces_pair.ensures

pub returns-then-not-is_saying : goal.returns-then-not-is_saying
returns-then-not-is_saying c = λ n at. says_nothing c.args.definitions.now n (plain_inst c.args.inst.now)
    c.is_saying.result at
    c.is_saying.ensures c.if-not-is_saying.true
