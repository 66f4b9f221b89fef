use Rattle.std.proofs.Common.{◌∙◌, sym}
use Rattle.std.proofs.lemmas.Bool.{iff_false}
use Rattle.spv_module.specs.Module.{plain_inst}
use Rattle.spv_evidence.specs.declared.evidence.Evidence.TheVariants.{Operand}
use Rattle.spv_declarations.proofs.Misplacing.{if_ok}
use Rattle.spv_standard_evidence.proofs.Placed.{misplaced_within, way_of, placed, id_shown, given_shown, member_shown}
use Rattle.spv_standard_evidence.proofs.Placed.{target_bad, never_pair}
use Rattle.spv_standard_evidence.proofs.placements.placement_evidence.Goals as goal

pub inst-own-requires : goal.inst-own-requires
inst-own-requires c = misplaced_within c.args.definitions.now c.args.inst c.requires.broken

pub id_behind-requires : goal.id_behind-requires
id_behind-requires c = (c.decorates_with_id.ensures.0 c.if-decorates_with_id.true).1

pub returns-then-decorates_with_id : goal.returns-then-decorates_with_id
returns-then-decorates_with_id c = λ G.
    let is = c.args.definitions.now in
    let i = plain_inst c.inst-own.result.now in
    placed G is c.args.inst i (Operand c.id_behind.result) c.inst-own.ensures
    (id_shown is i c.id_behind.result (c.decorates_with_id.ensures.0 c.if-decorates_with_id.true).0
    c.id_behind.ensures)

pub returns-in-Some : goal.returns-in-Some
returns-in-Some c = λ G.
    let is = c.args.definitions.now in
    let i = plain_inst c.inst-own.result.now in
    placed G is c.args.inst i (Operand 0) c.inst-own.ensures
    (given_shown is i _ (iff_false c.decorates_with_id.ensures c.if-decorates_with_id.false)
    (sym c.given.ensures ∙ c.in-Some.is) (way_of is c.args.inst i c.inst-own.ensures c.requires.broken))

pub returns-in-Some-member_given : goal.returns-in-Some-member_given
returns-in-Some-member_given c = λ G.
    let is = c.args.definitions.now in
    let i = plain_inst c.inst-own.result.now in
    placed G is c.args.inst i (Operand 2) c.inst-own.ensures
    (member_shown is i _ (iff_false c.decorates_with_id.ensures c.if-decorates_with_id.false)
    (sym c.given.ensures ∙ c.in_default.is) (sym c.member_given.ensures ∙ c.in-Some-member_given.is)
    (way_of is c.args.inst i c.inst-own.ensures c.requires.broken))

pub target_evidence-requires-clause-inst : goal.target_evidence-requires-clause-inst
target_evidence-requires-clause-inst c = (c.args.inst, c.inst-own.ensures)

pub target_evidence-requires-clause-broken : goal.target_evidence-requires-clause-broken
target_evidence-requires-clause-broken c =
    let is = c.args.definitions.now in
    let i = plain_inst c.inst-own.result.now in
    target_bad is i _ (iff_false c.decorates_with_id.ensures c.if-decorates_with_id.false)
    (sym c.given.ensures ∙ c.in_default.is) (sym c.member_given.ensures ∙ c.in_default-member_given.is)
    (sym c.group_of.ensures ∙ c.in-Some-group_of.is)
    (way_of is c.args.inst i c.inst-own.ensures c.requires.broken)

pub returns-in-Some-group_of : goal.returns-in-Some-group_of
returns-in-Some-group_of c =
    if_ok c.target_evidence.result _ _
    (λ e h G. placed G c.args.definitions.now c.args.inst (plain_inst c.inst-own.result.now) e c.inst-own.ensures h)
    c.target_evidence.ensures

pub member_evidence-requires-clause-broken : goal.member_evidence-requires-clause-broken
member_evidence-requires-clause-broken c =
    let is = c.args.definitions.now in
    let i = plain_inst c.inst-own.result.now in
    never_pair is i (iff_false c.decorates_with_id.ensures c.if-decorates_with_id.false)
    (sym c.given.ensures ∙ c.in_default.is) (sym c.member_given.ensures ∙ c.in_default-member_given.is)
    (sym c.group_of.ensures ∙ c.in_default-group_of.is)
    (way_of is c.args.inst i c.inst-own.ensures c.requires.broken)

pub returns : goal.returns
returns c = λ G.
    placed G c.args.definitions.now c.args.inst (plain_inst c.inst-own.result.now) c.member_evidence.result
    c.inst-own.ensures c.member_evidence.ensures
