use Rattle.std.proofs.Common.{◌∙◌, ◌≡◌, None, Some, ap, length, map, sym, subst, arith}
use Rattle.std.proofs.lemmas.List.{length-map}
use Rattle.spv_module.specs.Module.{plain_inst, plain_insts}
use Rattle.spv_layout.specs.Place.{IsShort}
use Rattle.spv_layout.proofs.Misfits.{short_list}
use Rattle.spv_extended.specs.Miscalled.{IsFirstMiscalled}
use Rattle.spv_std_types.specs.Mistyped.{IsFirstMistyped}
use Rattle.spv_check.proofs.Miscalls.{call_within, refused_at}
use Rattle.spv_check.proofs.extended.calls_check.Goals as goal

pub overflow_cast-insts : goal.overflow_cast-insts
overflow_cast-insts c =
    let xs = c.as_slice-insts.result.now in
    let s = short_list (map plain_inst xs) in
    let l = length-map xs plain_inst in
    let q : IsShort (map plain_inst xs) = rw c.as_slice-insts.ensures.value c.requires.words in
    omega arith

pub first_miscalls-calls-requires : goal.first_miscalls-calls-requires
first_miscalls-calls-requires c =
    let xs = c.as_slice-insts.result.now in
    let own : map plain_inst xs ≡ plain_insts c.args.module.now =
    ap (λ items. map plain_inst items) c.as_slice-insts.ensures.value in
    let v = ap length (c.definitions-definitions.ensures ∙ (c.requires.types ∙ sym own)) in
    let l = length-map xs plain_inst in
    omega (arith, v, l)

pub stop_at-requires : goal.stop_at-requires
stop_at-requires c =
    let found : IsFirstMiscalled c.definitions-definitions.result (Some c.in-Some.inst) =
    subst (IsFirstMiscalled c.definitions-definitions.result) c.in-Some.is c.first_miscalls-calls.ensures.miscalled in
    let within = call_within c.definitions-definitions.result c.in-Some.inst found in
    let v = ap length (c.definitions-definitions.ensures ∙ c.requires.types) in
    omega (arith, within, v, c.requires.plan.1.count)

pub returns-in-None : goal.returns-in-None
returns-in-None c =
    let is = plain_insts c.args.module.now in
    let same : c.definitions-definitions.result ≡ is = c.definitions-definitions.ensures ∙ c.requires.types in
    let none : IsFirstMiscalled c.definitions-definitions.result None =
    subst (IsFirstMiscalled c.definitions-definitions.result) c.in-None.is c.first_miscalls-calls.ensures.miscalled in
    record {
      none = subst (λ js. IsFirstMiscalled js None) same none;
      refused = tt;
      mistyped = subst (λ js. IsFirstMistyped js c.first_miscalls-calls.result.mistyped) same
          (c.first_miscalls-calls.ensures.mistyped c.in-None.is);
    }

pub returns-in-Some-clause-refused : goal.returns-in-Some-clause-refused
returns-in-Some-clause-refused c =
    let is = plain_insts c.args.module.now in
    let same : c.definitions-definitions.result ≡ is = c.definitions-definitions.ensures ∙ c.requires.types in
    let found : IsFirstMiscalled c.definitions-definitions.result (Some c.in-Some.inst) =
    subst (IsFirstMiscalled c.definitions-definitions.result) c.in-Some.is c.first_miscalls-calls.ensures.miscalled in
    let own = subst (λ js. IsFirstMiscalled js (Some c.in-Some.inst)) same found in
    λ r e. refused_at r is c.in-Some.inst c.stop_at.result e own (c.stop_at.ensures is c.requires.plan.1.place)
