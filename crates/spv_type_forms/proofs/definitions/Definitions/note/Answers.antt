use Rattle.std.proofs.Common.{◌≡◌, ◌<◌, Some, length, map, get_or, ap, subst, arith}
use Rattle.std.specs.Prelude.{slice_get}
use Rattle.std.proofs.lemmas.List.{length-map}
use Rattle.spv_module.specs.Module.{plain_inst}
use Rattle.spv_layout.proofs.Misfits.{inst_there}
use Rattle.spv_ids.specs.Outcome.{definition_in}
use Rattle.spv_type_forms.specs.inner.Meaning.{IsMeant}
use Rattle.spv_type_forms.proofs.Meanings.{meant_set, said_means, defined_by}
use Rattle.spv_type_forms.proofs.definitions.Definitions.note.Goals as goal

pub returns-then-place-meanings : goal.returns-then-place-meanings
returns-then-place-meanings c =
    let xs = c.self.inside.insts.now in
    let is = map plain_inst xs in
    let n = c.args.number in
    let x = c.in-Some.note.id in
    let m = c.in-Some.note.meaning in
    let r = c.index-self-number.result in
    let i = get_or xs n r in
    let v = ap length c.self.view_is in
    let k = length-map xs plain_inst in
    let w = c.requires.number in
    let l : n < length xs = omega (arith, v, k, w) in
    let at = subst (λ j. slice_get is n ≡ Some (plain_inst j)) c.index-self-number.is
    (inst_there xs n r l c.index-self-number.is) in
    let d = defined_by is x n (plain_inst i) (definition_in c.self.inside.ids.now x)
    (c.self.invariant.each x) at c.in-Some.ensures.0 in
    meant_set c.args.self.now c.args.meanings.now x m c.if-place-meanings.true c.requires.meanings
    (subst (λ js. IsMeant js x m) c.self.view_is (said_means is x (plain_inst i) m d c.in-Some.ensures.1))
