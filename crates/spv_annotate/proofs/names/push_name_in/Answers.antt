use Rattle.std.proofs.Common.{◌++◌, ◌∙◌, ℕ, Option, ap, append_assoc, flat_map, map, string_bytes, sym}
use Rattle.std.specs.List.{cons_option, filter_map}
use Rattle.spv_module.specs.Module.{plain_inst}
use Rattle.spv_annotate.specs.Module.{id_in}
use Rattle.spv_annotate.specs.Notes.{each_once, name_note}
use Rattle.spv_annotate.specs.inner.Seen.{if_unseen}
use Rattle.spv_annotate.proofs.Onces.{on_ok_both, once_more}
use Rattle.spv_annotate.proofs.names.push_name_in.Goals as goal

pub returns-in-Some : goal.returns-in-Some
returns-in-Some c =
    let is = map plain_inst c.args.insts.now in
    let told = if_unseen (name_note is) c.args.seen.now in
    let left = if_unseen (name_note is) c.push_name_once.new.seen in
    let old = string_bytes c.args.out.now in
    let id = c.in-Some.id in
    let known = sym c.in-Some.is ∙ c.id_of.ensures in
    on_ok_both c.push_name_once.result
    (λ text once further.
    let xs = filter_map id_in further in
    ap (λ z. z ++ flat_map left (each_once xs)) text
    ∙ (append_assoc old (told id) (flat_map left (each_once xs))
    ∙ (ap (λ z. old ++ z) (once_more told left id xs once)
    ∙ ap (λ (o : Option ℕ). old ++ flat_map told (each_once (cons_option o xs))) known)))
    c.push_name_once.ensures.text c.push_name_once.ensures.once
