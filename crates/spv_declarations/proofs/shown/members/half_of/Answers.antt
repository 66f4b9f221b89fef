use Rattle.std.proofs.Common.{◌∙◌, sym}
use Rattle.std.proofs.lemmas.Bool.{iff_false}
use Rattle.spv_module.specs.Module.{plain_inst}
use Rattle.spv_declarations.proofs.Mixed.{half_is_struct, one_built_in, one_other, part_shown, some_struct}
use Rattle.spv_declarations.proofs.Mixed.{within_shown}
use Rattle.spv_declarations.proofs.shown.members.half_of.Goals as goal

pub unreachable-requires : goal.unreachable-requires
unreachable-requires c = half_is_struct c.args.definitions.now c.requires.broken.0 (plain_inst c.args.inst.now)
    c.requires.broken.1 c.requires.broken.2 (sym c.struct_of.ensures ∙ c.in_default.is)

pub built_in_member-requires-clause-there : goal.built_in_member-requires-clause-there
built_in_member-requires-clause-there c = one_built_in c.args.definitions.now c.args.found.now c.in-Some.t
    c.member_count-count.result c.requires.found c.member_count-count.ensures.members
    (c.is_in_part.ensures.0 c.if-is_in_part.true)

pub other_member-requires-clause-there : goal.other_member-requires-clause-there
other_member-requires-clause-there c = one_other c.args.definitions.now c.args.found.now c.in-Some.t
    c.member_count-count.result c.member_count-count.ensures.members (c.is_in_part.ensures.0 c.if-is_in_part.true)

pub returns-then-is_in_part : goal.returns-then-is_in_part
returns-then-is_in_part c = λ n at.
    part_shown c.args.definitions.now c.args.found.now n c.in-Some.t c.member_count-count.result
    c.built_in_member.result c.other_member.result (plain_inst c.args.inst.now) c.requires.found at
    (sym c.struct_of.ensures ∙ c.in-Some.is)
    c.member_count-count.ensures.members c.built_in_member.ensures c.other_member.ensures

pub struct_place-requires : goal.struct_place-requires
struct_place-requires c = some_struct c.args.definitions.now c.args.found.now c.requires.broken.0 c.in-Some.t
    (plain_inst c.args.inst.now) c.requires.found c.requires.broken.1 (sym c.struct_of.ensures ∙ c.in-Some.is)
    (iff_false c.is_in_part.ensures c.if-is_in_part.false) c.requires.broken.2

pub returns : goal.returns
returns c = λ n at.
    within_shown c.args.definitions.now c.args.found.now n c.in-Some.t c.struct_place.result
    (plain_inst c.args.inst.now) c.requires.found at (sym c.struct_of.ensures ∙ c.in-Some.is) c.struct_place.ensures
