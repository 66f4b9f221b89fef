use Rattle.spv_rules.specs.declared.rules.Code.TheVariants.{Rule}
use Rattle.spv_explain.specs.Json.{fault_members, place_members, said_members}
use Rattle.spv_explain.proofs.Objects.{pushed_third}
use Rattle.spv_explain.proofs.answers.push_broken.Goals as goal

pub returns : goal.returns
returns c =
    pushed_third c.push_said.result (fault_members (Rule c.args.fault.rule)) (place_members c.args.fault)
    (said_members (Rule c.args.fault.rule))
    c.args.out.now c.push_fault.new.out c.push_place.new.out c.push_said.new.out c.in_ok-push_fault.ensures
    c.in_ok-push_place.ensures
    c.push_said.ensures
