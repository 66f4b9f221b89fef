use Rattle.std.proofs.Common.{◌≡◌, ◌∙◌, List, IfOk, arith, ap, length, map, subst}
use Rattle.std.proofs.lemmas.List.{length-map}
use Rattle.spv_module.specs.Operand.{PlainInst}
use Rattle.spv_module.specs.Module.{plain_inst}
use Rattle.spv_layout.proofs.Misfits.{short_list}
use Rattle.spv_run.specs.Entry.{IsTraced}
use Rattle.spv_run.proofs.Sound.{checked}
use Rattle.spv_run.proofs.Theorem.{never_gets_stuck}
use Rattle.spv_run.proofs.Runs.{each_run, numbered, some_run, sound_run}
use Rattle.spv_run.proofs.tracing.trace.Goals as goal

pub trace_function-requires : goal.trace_function-requires
trace_function-requires c =
    let p = c.args.checked.now in
    let a = c.parts-parts.ensures.some.2 in
    let same : map plain_inst c.as_slice.result.now ≡ p.insts = ap (map plain_inst) c.as_slice.ensures.value
    ∙ a.insts in
    let count = length-map c.as_slice.result.now plain_inst in
    let counted = ap length same in
    let few = a.kept.few in
    let short = short_list p.insts in
    omega (arith, count, counted, few, short)

pub returns-clause-trace : goal.returns-clause-trace
returns-clause-trace c =
    let p = c.args.checked.now in
    let G = c.parts-parts.ensures.some.0 in
    let reach = c.parts-parts.ensures.some.1 in
    let a = c.parts-parts.ensures.some.2 in
    let ids = c.parts-parts.result.ids.now in
    let same : map plain_inst c.as_slice.result.now ≡ p.insts = ap (map plain_inst) c.as_slice.ensures.value
    ∙ a.insts in
    let told = subst (λ (is : List PlainInst). IfOk c.trace_function.result
    (λ t. IsTraced is ids c.args.function c.args.choices.now c.args.limit t)) same c.trace_function.ensures.trace in
    some_run G reach p c.args.function c.args.choices.now c.args.limit c.trace_function.result a.kept
    (each_run G reach p ids c.args.function c.args.choices.now c.args.limit c.trace_function.result a.kept
    (numbered G p.bound p.insts ids a.numbered) told)

pub returns-clause-each : goal.returns-clause-each
returns-clause-each c = λ G reach sound.
    let p = c.args.checked.now in
    let few = c.parts-parts.ensures.some.2.kept.few in
    let kept = (c.kept_exactly.ensures G reach p few).0 sound in
    let a = c.parts-parts.ensures.each G reach kept in
    let ids = c.parts-parts.result.ids.now in
    let same : map plain_inst c.as_slice.result.now ≡ p.insts = ap (map plain_inst) c.as_slice.ensures.value
    ∙ a.insts in
    let told = subst (λ (is : List PlainInst). IfOk c.trace_function.result
    (λ t. IsTraced is ids c.args.function c.args.choices.now c.args.limit t)) same c.trace_function.ensures.trace in
    each_run G reach p ids c.args.function c.args.choices.now c.args.limit c.trace_function.result kept
    (numbered G p.bound p.insts ids a.numbered) told

pub returns-clause-sound : goal.returns-clause-sound
returns-clause-sound c =
    let some = c.parts-parts.ensures.some in
    let kept = some.2.kept in
    (some.0, some.1, (c.kept_exactly.ensures some.0 some.1 c.args.checked.now kept.few).1 kept)

pub returns-clause-free : goal.returns-clause-free
returns-clause-free c = λ G reach sound g entry xs.
    let p = c.args.checked.now in
    let few = c.parts-parts.ensures.some.2.kept.few in
    let kept = (c.kept_exactly.ensures G reach p few).0 sound in
    never_gets_stuck G p.insts (checked G p.bound p.insts (sound_run G reach p kept)) g entry xs
