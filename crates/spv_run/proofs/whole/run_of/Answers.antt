use Rattle.std.proofs.Common.{◌≡◌, [], Some, ℕ, map, sym, subst}
use Rattle.spv_table.specs.Table.{Table}
use Rattle.spv_module.specs.Module.{plain_inst}
use Rattle.spv_ids.specs.Definition.{IsDefinedAt}
use Rattle.spv_flow.specs.calls.Calls.{IsEntryFunction}
use Rattle.spv_ids.specs.Outcome.{AreNumbered}
use Rattle.spv_run.specs.Act.{Function, Call}
use Rattle.spv_run.specs.At.{act_at}
use Rattle.spv_run.specs.inner.Bodies.{HaveEntries}
use Rattle.spv_run.specs.Sound.{KeepsRules}
use Rattle.spv_run.specs.State.{State}
use Rattle.spv_run.specs.Run.{IsStart, Run}
use Rattle.spv_run.specs.Trace.{ending_of}
use Rattle.spv_run.specs.inner.Trace.{Tells, IsRun}
use Rattle.spv_run.specs.declared.parts.Trace.{Trace}
use Rattle.spv_run.proofs.Moving.{start_at, no_start, if_ok}
use Rattle.spv_run.proofs.whole.run_of.Goals as goal

pub returns-in-Call : goal.returns-in-Call
returns-in-Call c =
    let is = map plain_inst c.args.code.insts.now in
    let have : HaveEntries is c.as_slice-entries.result.now = subst (λ es. HaveEntries is es)
    (sym c.as_slice-entries.ensures.value) c.in_ok-entries.ensures in
    if_ok c.steps_of.result (λ (t : Trace). IsRun is c.args.code.ids.now c.as_slice-entries.result.now c.in-Call.entry
    c.args.choices.now c.args.limit t.steps.items t.ending)
    (λ (t : Trace). (G : Table) (bound g : ℕ) (s : State) → KeepsRules G bound is → AreNumbered is c.args.code.ids.now
    → IsEntryFunction is g
    → IsDefinedAt is c.args.function g → IsStart is g c.args.choices.now s
    → Run G is c.args.limit s t.steps.items (ending_of t.ending))
    c.steps_of.ensures (λ t run G bound g s sound num point d start.
    let place : c.place_of.result ≡ g = c.place_of.ensures is g num d in
    let here : IsDefinedAt is c.args.function c.place_of.result = subst (λ k. IsDefinedAt is c.args.function k)
    (sym place) d in
    let there : act_at is c.place_of.result ≡ Some Function = subst (λ k. act_at is k ≡ Some Function)
    (sym place) start.defined.function in
    let tells = c.call_by.ensures is G bound c.args.function [] sound have here there in
    let entry = subst (λ m. Tells is (Call c.args.function []) m) c.in-Call.is tells in
    run G bound g s sound num have point start
    (start_at G bound is g c.args.function c.in-Call.entry [] c.args.choices.now s sound d start entry))

pub returns : goal.returns
returns c = λ G bound g s sound num point d start.
    let is = map plain_inst c.args.code.insts.now in
    let have : HaveEntries is c.as_slice-entries.result.now = subst (λ es. HaveEntries is es)
    (sym c.as_slice-entries.ensures.value) c.in_ok-entries.ensures in
    let place : c.place_of.result ≡ g = c.place_of.ensures is g num d in
    let here : IsDefinedAt is c.args.function c.place_of.result = subst (λ k. IsDefinedAt is c.args.function k)
    (sym place) d in
    let there : act_at is c.place_of.result ≡ Some Function = subst (λ k. act_at is k ≡ Some Function)
    (sym place) start.defined.function in
    let tells = c.call_by.ensures is G bound c.args.function [] sound have here there in
    absurd (no_start G bound is g c.args.function [] c.args.choices.now s c.call_by.result sound d start tells
    c.in_default.not-Call)
