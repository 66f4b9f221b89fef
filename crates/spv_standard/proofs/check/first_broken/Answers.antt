use Rattle.std.proofs.Common.{◌∙◌, ◌≡◌, List, ap, length, map, sym, subst, arith}
use Rattle.std.proofs.lemmas.List.{length-map}
use Rattle.spv_module.specs.Module.{plain_inst, plain_insts}
use Rattle.spv_module.specs.Operand.{PlainInst}
use Rattle.spv_layout.specs.Place.{IsShort}
use Rattle.spv_layout.specs.Plan.{IsPlan}
use Rattle.spv_layout.proofs.Misfits.{short_list}
use Rattle.spv_ids.specs.Outcome.{IsDefinitionOf, definition_in}
use Rattle.spv_limits.specs.Depth.{AreLower}
use Rattle.spv_declarations.specs.Broken as by_declarations
use Rattle.spv_declarations.proofs.Early.{extension_front}
use Rattle.spv_interfaces.specs.Broken as by_interfaces
use Rattle.spv_standard.specs.inner.Alone.{Alone}
use Rattle.spv_standard.specs.inner.Asked.{AreFit}
use Rattle.spv_standard.specs.inner.First.{IsFirstIn}
use Rattle.spv_standard.proofs.Joined.{joined}
use Rattle.spv_standard.proofs.check.first_broken.Goals as goal

pub overflow_cast-count : goal.overflow_cast-count
overflow_cast-count c =
    let xs = c.as_slice-insts.result.now in
    let s = short_list (map plain_inst xs) in
    let l = length-map xs plain_inst in
    let q : IsShort (map plain_inst xs) = rw c.as_slice-insts.ensures.value c.requires.words in
    omega arith

pub in_declarations-requires-clause-few : goal.in_declarations-requires-clause-few
in_declarations-requires-clause-few c =
    let is = plain_insts c.args.module.now in
    let s = short_list is in
    let l = ap length c.requires.definitions in
    let q : IsShort is = c.requires.words in
    omega arith

pub in_declarations-requires-clause-plan : goal.in_declarations-requires-clause-plan
in_declarations-requires-clause-plan c =
    subst (λ (js : List PlainInst). IsPlan c.args.capabilities.now.table js c.args.plan.now)
    (sym c.requires.definitions) c.requires.plan

pub in_declarations-requires-clause-capabilities : goal.in_declarations-requires-clause-capabilities
in_declarations-requires-clause-capabilities c = c.requires.capabilities ∙ sym c.requires.definitions

pub in_interfaces-requires-clause-few : goal.in_interfaces-requires-clause-few
in_interfaces-requires-clause-few c =
    let xs = c.as_slice-insts.result.now in
    let s = short_list (map plain_inst xs) in
    let l = length-map xs plain_inst in
    let q : IsShort (map plain_inst xs) = rw c.as_slice-insts.ensures.value c.requires.words in
    omega arith

pub in_interfaces-requires-clause-plan : goal.in_interfaces-requires-clause-plan
in_interfaces-requires-clause-plan c = (
  c.args.capabilities.now.table,
  subst (λ is. IsPlan c.args.capabilities.now.table is c.args.plan.now)
      (ap (λ items. map plain_inst items) (sym c.as_slice-insts.ensures.value)) c.requires.plan,
)

pub in_interfaces-requires-clause-ids : goal.in_interfaces-requires-clause-ids
in_interfaces-requires-clause-ids c = λ x.
    subst (λ is. IsDefinitionOf is x (definition_in c.args.ids.now x))
    (ap (λ items. map plain_inst items) (sym c.as_slice-insts.ensures.value)) (c.requires.ids.each x)

pub before_functions-front-requires : goal.before_functions-front-requires
before_functions-front-requires c =
    let is = plain_insts c.args.module.now in
    let s = short_list is in
    let w : IsShort is = c.requires.words in
    let m = c.requires.plan.count in
    record { few = omega (arith, s, w, m) }

pub of-late-requires-clause-front : goal.of-late-requires-clause-front
of-late-requires-clause-front c = λ n i at e.
    let G = c.args.capabilities.now.table in
    extension_front G _ c.args.plan.now c.before_functions-front.result
    (subst (λ (js : List PlainInst). IsPlan G js c.args.plan.now) (sym c.requires.definitions) c.requires.plan)
    c.before_functions-front.ensures.next n i at e

pub first_alone-requires-clause-lower : goal.first_alone-requires-clause-lower
first_alone-requires-clause-lower c = subst (λ is. AreLower is) (sym c.requires.definitions) c.requires.structs

pub first_alone-requires-clause-fit : goal.first_alone-requires-clause-fit
first_alone-requires-clause-fit c =
    subst (λ js. AreFit c.args.capabilities.now.table js) (sym c.requires.definitions) c.requires.plan.fits

pub first_alone-requires-clause-late : goal.first_alone-requires-clause-late
first_alone-requires-clause-late c = (c.args.minor, rw c.table.ensures at c.of-late.ensures)

pub returns : goal.returns
returns c =
    let G = c.args.capabilities.now.table in
    let is = plain_insts c.args.module.now in
    let own : map plain_inst c.as_slice-insts.result.now ≡ is =
    ap (λ items. map plain_inst items) c.as_slice-insts.ensures.value in
    let same : c.args.definitions.now ≡ is = c.requires.definitions in
    joined G c.args.minor is c.earlier.result (record {
      order = c.in_ok-order.order;
      declarations = c.in_ok-declarations.declarations;
      interfaces = c.in_ok-interfaces.interfaces;
      alone = c.in_ok-alone.alone;
      two = c.earlier-found.result;
      three = c.earlier-found-2.result;
      in_order = c.in_ok-order.ensures c.requires.flow.0 G c.requires.plan c.requires.ids c.requires.flow.1
          c.requires.flow.2;
      in_declarations = subst (λ js. IsFirstIn (by_declarations.Broken G js) c.in_ok-declarations.declarations)
          c.requires.capabilities c.in_ok-declarations.ensures;
      in_interfaces = subst (λ js. IsFirstIn (by_interfaces.Broken G c.args.minor js) c.in_ok-interfaces.interfaces)
          same (c.in_ok-interfaces.ensures G (subst (λ js. IsPlan G js c.args.plan.now) (sym own) c.requires.plan));
      in_insts = subst (λ js. IsFirstIn (Alone G c.args.minor js) c.in_ok-alone.alone) same
          (c.in_ok-alone.ensures c.args.minor (rw c.table.ensures at c.of-late.ensures));
      of_two = c.earlier-found.ensures;
      of_three = c.earlier-found-2.ensures;
      of_all = c.earlier.ensures;
    })
