use Rattle.std.proofs.lemmas.Grind.{elements}
use Rattle.std.proofs.Common.{◌≡◌, ◌+◌, sym, ap, map, drop, ◌∙◌, arith}
use Rattle.std.proofs.lemmas.List.{drop-map, take_rest}
use Rattle.std.proofs.lemmas.Option.{slice_get_within}
use Rattle.spv_module.specs.Module.{plain_inst}
use Rattle.spv_type_rules.specs.inner.Function.{parameters_in}
use Rattle.spv_type_rules.proofs.rules.Rules.keeps_functions.Goals as goal

pub is_sound_function-requires : goal.is_sound_function-requires
is_sound_function-requires c =
    let s = c.as_slice.result.now in
    let k = c.args.number + 1 in
    let e : map plain_inst (drop k s) ≡ drop k c.args.self.now.definitions =
    sym (drop-map plain_inst k s) ∙ ap (drop k)
    (ap (λ xs. map plain_inst xs) c.as_slice.ensures.value ∙ c.requires.rules.same)
    in
    sym (c.count_parameters.ensures ∙ ap (λ xs. parameters_in (map plain_inst xs)) (take_rest s k) ∙ ap parameters_in e)

pub is_sound_parameter-requires-clause-number : goal.is_sound_parameter-requires-clause-number
is_sound_parameter-requires-clause-number c =
    slice_get_within c.args.self.now.definitions c.args.number (plain_inst c.args.inst.now) c.requires.inst

pub slice_bounds-rest-count : goal.slice_bounds-rest-count
slice_bounds-rest-count c = grind (arith, elements)

pub slice_bounds-rest-start : goal.slice_bounds-rest-start
slice_bounds-rest-start c = grind (arith, elements)
