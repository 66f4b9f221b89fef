use Rattle.std.proofs.Common.{◌∙◌, refl, get_or, arith}
use Rattle.std.proofs.lemmas.Option.{slice_get-get_or}
use Rattle.spv_interfaces.specs.declared.used.Use.{Use}
use Rattle.spv_interfaces.proofs.Missing.{users_all, users_one, users_too}
use Rattle.spv_interfaces.proofs.lacking.note_users.Goals as goal

pub loop-found-init : goal.loop-found-init
loop-found-init c = record {
  count = refl;
  sound = λ f k h. absurd (c.requires f k h);
  complete = λ j u k l at w h. absurd (omega (arith, l));
}

pub loop-found-preserved : goal.loop-found-preserved
loop-found-preserved c =
    let uses = c.args.uses.now in
    let named = c.args.named.now in
    let i = c.loop-found.found-index in
    let d : Use = record { function = 0; variable = 0 } in
    let u = get_or uses i d in
    let at = slice_get-get_or uses i d c.loop-found-test.true in
    let old = c.loop-found.reached.items in
    let new = c.set.new.words.items in
    let w = c.word_at-bits.result in
    let e = c.word_at-bits.ensures in
    let a = c.set.ensures.adds in
    let v = c.loop-found.invariant in
    record {
      count = a.count ∙ v.count;
      sound = users_one uses named i u w old new at e a v.sound;
      complete = users_too uses named i u w old new at e a v.complete;
    }

pub returns-clause-complete : goal.returns-clause-complete
returns-clause-complete c = λ f v k l h m.
    let e = c.loop-found.invariant.count in
    users_all c.args.uses.now c.args.named.now c.loop-found.reached.items c.loop-found.found-index f v k
    c.loop-found-test.false c.loop-found.invariant.complete (omega (arith, l, e)) h m
