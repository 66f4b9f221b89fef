use Rattle.std.proofs.Common.{◌≡◌, ◌∙◌, Some, None, sym, ap}
use Rattle.spv_module.specs.Width.{type_of}
use Rattle.spv_type_evidence.proofs.lemmas.types.Calling.{no_id, same_id, id_found}
use Rattle.spv_type_evidence.proofs.types.call.other_argument.Goals as goal

pub returns-in_default : goal.returns-in_default
returns-in_default c = λ t x u taken there typed. absurd (no_id _ t c.in_default.ensures taken)

pub returns-in_default-id_at : goal.returns-in_default-id_at
returns-in_default-id_at c = λ t x u taken there typed. absurd (no_id _ x c.in_default-id_at.ensures there)

pub returns-in_default-type_of : goal.returns-in_default-type_of
returns-in_default-type_of c = λ t x u taken there typed.
    let same = same_id _ _ x c.in-Some-id_at.ensures there in
    let none : None ≡ Some u = c.in_default-type_of.ensures ∙ ap (type_of c.args.definitions.now) same ∙ typed in
    absurd cc

pub returns-then-found-wanted : goal.returns-then-found-wanted
returns-then-found-wanted c = λ t x u taken there typed.
    let wanted = same_id _ _ t c.in-Some.ensures taken in
    let same = same_id _ _ x c.in-Some-id_at.ensures there in
    let found : Some c.in-Some-type_of.found ≡ Some u = c.in-Some-type_of.ensures
    ∙ ap (type_of c.args.definitions.now) same ∙ typed in
    let equal = c.if-found-wanted.true in
    cc

pub returns : goal.returns
returns c = record {
  argument = c.in-Some-id_at.argument;
  taken = id_found _ _ c.in-Some.ensures;
  there = id_found _ _ c.in-Some-id_at.ensures;
  typed = sym c.in-Some-type_of.ensures;
  other = λ equal. c.if-found-wanted.false (sym equal);
}
