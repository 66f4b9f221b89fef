use Rattle.std.proofs.Common.{◌∙◌, ℕ, ap, sym, string_bytes, ◌++◌, flat_map}
use Rattle.std.proofs.lemmas.List.{flat_map_more, map-id}
use Rattle.std.proofs.lemmas.Iterator.{YieldsList-from_chars}
use Rattle.std.proofs.lemmas.Iterator.Consumers.{YieldsList-end}
use Rattle.std.specs.Str.{chars}
use Rattle.spv_pictures.specs.Label.{drawn, marked}
use Rattle.spv_pictures.proofs.Labels.{by_character}
use Rattle.spv_pictures.proofs.label.push_characters.Goals as goal

pub loop-character-preserved : goal.loop-character-preserved
loop-character-preserved c =
    let f = λ (x : ℕ). flat_map marked (drawn x) in
    c.in_ok-push_marked.ensures ∙ (ap (λ z. z ++ f c.in-Some.character) c.loop-character.invariant
    ∙ flat_map_more f (string_bytes c.args.out.now) c.loop-character.yielded c.in-Some.character)

pub returns : goal.returns
returns c =
    let t = YieldsList-end (YieldsList-from_chars c.args.text.now c.utf8.text cc) c.loop-character.yielded _
    c.loop-character.yielded_by _ _ c.in-None.is c.next.ensures.steps in
    let f = λ (x : ℕ). flat_map marked (drawn x) in
    c.loop-character.invariant ∙ (ap (λ z. string_bytes c.args.out.now ++ flat_map f z)
    (sym (map-id c.loop-character.yielded) ∙ t.0)
    ∙ ap (λ z. string_bytes c.args.out.now ++ z) (sym (by_character (chars c.args.text.now))))
