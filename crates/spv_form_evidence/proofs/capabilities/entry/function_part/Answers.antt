use Rattle.std.proofs.Common.{ℕ, List, Option, sym, subst}
use Rattle.std.proofs.lemmas.Bool.{iff_false}
use Rattle.spv_module.specs.Operand.{PlainInst}
use Rattle.spv_ids.specs.Outcome.{IsDefinitionOf}
use Rattle.spv_capabilities.proofs.Sound.{one_within}
use Rattle.spv_form_evidence.specs.capabilities.Evidence.{IsUnsound}
use Rattle.spv_form_evidence.specs.capabilities.inner.Calls.{AreNoCalls, IsCallOf}
use Rattle.spv_form_evidence.proofs.lemmas.capabilities.Calling.{undefined, undeclared, not_void, kernel_function}
use Rattle.spv_form_evidence.proofs.capabilities.entry.function_part.Goals as goal

pub returns-in_default : goal.returns-in_default
returns-in_default c = λ n i o e.
    let is = c.args.survey.now.insts in
    let never = subst (λ (d : Option ℕ). IsDefinitionOf is c.args.id d) c.in_default.is c.definition.ensures in
    undefined c.args.survey.now.table is n i c.args.id o e never

pub is_definition-requires : goal.is_definition-requires
is_definition-requires c =
    let is = c.args.survey.now.insts in
    let one = subst (λ (d : Option ℕ). IsDefinitionOf is c.args.id d) c.in-Some.is c.definition.ensures in
    one_within is c.args.id c.in-Some.function one

pub returns-then-not-is_definition : goal.returns-then-not-is_definition
returns-then-not-is_definition c = λ n i o e.
    let is = c.args.survey.now.insts in
    let one = subst (λ (d : Option ℕ). IsDefinitionOf is c.args.id d) c.in-Some.is c.definition.ensures in
    let not = iff_false c.is_definition.ensures c.if-not-is_definition.true in
    undeclared c.args.survey.now.table is n i c.args.id c.in-Some.function o e one not

pub returns-then-not-returns_void : goal.returns-then-not-returns_void
returns-then-not-returns_void c = λ n i o e.
    let is = c.args.survey.now.insts in
    let one = subst (λ (d : Option ℕ). IsDefinitionOf is c.args.id d) c.in-Some.is c.definition.ensures in
    let not = iff_false c.returns_void.ensures c.if-not-returns_void.true in
    not_void c.args.survey.now.table is n i c.args.id c.in-Some.function o e one not

pub unreachable-requires : goal.unreachable-requires
unreachable-requires c =
    let is = c.args.survey.now.insts in
    let f = c.in-Some.function in
    let one = subst (λ (d : Option ℕ). IsDefinitionOf is c.args.id d) c.in-Some.is c.definition.ensures in
    let same = sym c.requires.surveyed in
    let none = subst (λ (l : List PlainInst). AreNoCalls l c.args.id) same c.in_default-first_call.ensures in
    let definition = c.is_definition.ensures.0 c.if-not-is_definition.false in
    let void = c.returns_void.ensures.0 c.if-not-returns_void.false in
    c.requires.broken (kernel_function is c.args.id f one.there definition void none)

pub returns : goal.returns
returns c = λ n i o e.
    let x = c.args.id in
    let m = c.in-Some-first_call.inst in
    let same = sym c.requires.surveyed in
    let k = subst (λ (l : List PlainInst). IsCallOf l x m) same c.in-Some-first_call.ensures in
    IsUnsound.called x m k.call e k.there k.called
