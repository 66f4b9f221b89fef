use Rattle.std.proofs.Common.{List, Some, option_map, sym, ap, ◌∙◌}
use Rattle.spv_table.specs.declared.table.Enumerant.{Enumerant}
use Rattle.spv_table.specs.Rows.{enumerant_in}
use Rattle.spv_table.specs.Table.{enumerant_of}
use Rattle.spv_table.proofs.Told.{first_made}
use Rattle.spv_table.proofs.enumerant_rows.EnumerantRows.enumerant.Goals as goal

pub row_of-requires-clause-ordered : goal.row_of-requires-clause-ordered
row_of-requires-clause-ordered c = c.self.invariant.1.ordered

pub row_of-requires-clause-near : goal.row_of-requires-clause-near
row_of-requires-clause-near c = c.self.invariant.1.places

pub returns-in-Some : goal.returns-in-Some
returns-in-Some c =
    let i = c.self.inside in
    let make = enumerant_in i.text.now i.numbers.now i.names.now in
    ap Some c.told.ensures ∙ ap (option_map make) c.in-Some.ensures ∙ sym (first_made make (λ (e : Enumerant). e.value) c.args.value i.rows.now)
    ∙ ap (λ (es : List Enumerant). enumerant_of es c.args.value) c.self.view_is

pub returns-in-None : goal.returns-in-None
returns-in-None c =
    let i = c.self.inside in
    let make = enumerant_in i.text.now i.numbers.now i.names.now in
    ap (option_map make) c.in-None.ensures ∙ sym (first_made make (λ (e : Enumerant). e.value) c.args.value i.rows.now)
    ∙ ap (λ (es : List Enumerant). enumerant_of es c.args.value) c.self.view_is
