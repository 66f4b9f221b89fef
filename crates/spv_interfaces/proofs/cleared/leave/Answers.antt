use Rattle.spv_ids.specs.Definition.{IsDefinedAt}
use Rattle.spv_interfaces.proofs.Clearing.{clears_defined, clears_not}
use Rattle.spv_interfaces.proofs.cleared.leave.Goals as goal

pub returns-in-Some : goal.returns-in-Some
returns-in-Some c = clears_defined c.args.definitions.now c.args.x c.in-Some.number c.args.words.now.items
    c.clear.new.words.items c.in-Some.ensures c.clear.ensures

pub returns-in_default : goal.returns-in_default
returns-in_default c =
    clears_not (IsDefinedAt c.args.definitions.now c.args.x) c.args.words.now.items c.in_default.ensures
