use Rattle.std.proofs.Common.{get_or}
use Rattle.std.proofs.lemmas.Option.{slice_get-get_or}
use Rattle.spv_type_forms.proofs.Matched.{numbered_there, never_numbered, late_numbered}
use Rattle.spv_type_forms.proofs.matching.number_before.Goals as goal

pub returns-then-place-numbers : goal.returns-then-place-numbers
returns-then-place-numbers c =
    let cs = c.args.numbers.now in
    let m = c.in-Some.number in
    let l = c.if-place-numbers.true in
    numbered_there c.args.definitions.now cs c.args.u m (get_or cs m 0) c.requires c.in-Some.ensures l
    (slice_get-get_or cs m 0 l)

pub returns-else-place-numbers : goal.returns-else-place-numbers
returns-else-place-numbers c =
    late_numbered c.args.definitions.now c.args.numbers.now c.args.u c.in-Some.number c.in-Some.ensures
    c.if-place-numbers.false

pub returns-in-None : goal.returns-in-None
returns-in-None c = never_numbered c.args.definitions.now c.args.numbers.now c.args.u c.in-None.ensures
