use Rattle.std.proofs.Common.{ℕ, List, Some, option_map, slice_get, sym, ap, ◌∙◌}
use Rattle.spv_table.specs.declared.table.Entry.{Entry}
use Rattle.spv_table.specs.Rows.{entry_in}
use Rattle.spv_table.proofs.Told.{got_made, none_made}
use Rattle.spv_table.proofs.entries.Told.pattern.Goals as goal

pub returns-in-Some : goal.returns-in-Some
returns-in-Some c =
    let i = c.self.inside.lies in
    let l = c.in-Some.ensures.lookup in
    ap Some (c.of.ensures ∙ c.among.ensures)
    ∙ ap (option_map (λ (e : ℕ × Entry). e.1.operands))
    (got_made (entry_in i.text.now i.items.now i.names.now) i.entries.now c.args.place c.in-Some.row.now l.3.0 l.1
    ∙ ap (λ (es : List (ℕ × Entry)). slice_get es c.args.place) c.self.view_is)

pub returns-in-None : goal.returns-in-None
returns-in-None c =
    let i = c.self.inside.lies in
    ap (option_map (λ (e : ℕ × Entry). e.1.operands))
    (none_made (entry_in i.text.now i.items.now i.names.now) i.entries.now c.args.place c.in-None.ensures.lookup.3
    ∙ ap (λ (es : List (ℕ × Entry)). slice_get es c.args.place) c.self.view_is)
