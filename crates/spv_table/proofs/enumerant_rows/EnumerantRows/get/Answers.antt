use Rattle.std.proofs.Common.{List, Some, slice_get, ap, ◌∙◌}
use Rattle.spv_table.specs.declared.table.Enumerant.{Enumerant}
use Rattle.spv_table.specs.Rows.{enumerant_in}
use Rattle.spv_table.proofs.Told.{got_made, none_made}
use Rattle.spv_table.proofs.enumerant_rows.EnumerantRows.get.Goals as goal

pub returns-in-Some : goal.returns-in-Some
returns-in-Some c =
    let i = c.self.inside in
    let l = c.in-Some.ensures.lookup in
    ap Some c.told.ensures ∙ got_made (enumerant_in i.text.now i.numbers.now i.names.now) i.rows.now c.args.place c.in-Some.row.now l.3.0 l.1
    ∙ ap (λ (es : List Enumerant). slice_get es c.args.place) c.self.view_is

pub returns-in-None : goal.returns-in-None
returns-in-None c =
    let i = c.self.inside in
    none_made (enumerant_in i.text.now i.numbers.now i.names.now) i.rows.now c.args.place c.in-None.ensures.lookup.3
    ∙ ap (λ (es : List Enumerant). slice_get es c.args.place) c.self.view_is
