use Rattle.std.proofs.Common.{◌∙◌, sym}
use Rattle.spv_module.specs.Module.{plain_inst}
use Rattle.spv_standard_evidence.proofs.Placed.{never_given, never_shown, none_named}
use Rattle.spv_standard_evidence.proofs.placements.member_evidence.Goals as goal

pub unreachable-requires : goal.unreachable-requires
unreachable-requires c = none_named c.args.definitions.now (plain_inst c.args.inst.now)
    (sym c.group_of.ensures ∙ c.in_default.is) c.requires.broken

pub never_place-requires-clause-broken : goal.never_place-requires-clause-broken
never_place-requires-clause-broken c = never_given c.args.definitions.now (plain_inst c.args.inst.now) c.in-Some.group
    (sym c.group_of.ensures ∙ c.in-Some.is) c.requires.broken

pub returns : goal.returns
returns c = never_shown c.args.definitions.now (plain_inst c.args.inst.now) c.in-Some.group c.never_place.result
    (sym c.group_of.ensures ∙ c.in-Some.is) c.requires.broken c.never_place.ensures
