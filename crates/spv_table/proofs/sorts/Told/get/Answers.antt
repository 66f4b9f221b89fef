use Rattle.std.proofs.Common.{List, Some, slice_get, sym, ap, ◌∙◌}
use Rattle.spv_table.specs.Rows.{sort_in}
use Rattle.spv_table.specs.Table.{Sort}
use Rattle.spv_table.proofs.Told.{got_made, none_made}
use Rattle.spv_table.proofs.sorts.Told.get.Goals as goal

pub told-requires-clause-are : goal.told-requires-clause-are
told-requires-clause-are c =
    let l = c.in-Some.ensures.lookup in
    c.self.invariant.1 c.in-Some.row.now (c.args.place, l.3.0, sym l.1)

pub returns-in-Some : goal.returns-in-Some
returns-in-Some c =
    let i = c.self.inside.lies in
    let l = c.in-Some.ensures.lookup in
    ap Some c.told.ensures ∙ got_made (sort_in i.text.now i.numbers.now i.names.now i.enumerants.now) i.kinds.now c.args.place c.in-Some.row.now l.3.0 l.1
    ∙ ap (λ (ss : List Sort). slice_get ss c.args.place) c.self.view_is

pub returns-in-None : goal.returns-in-None
returns-in-None c =
    let i = c.self.inside.lies in
    none_made (sort_in i.text.now i.numbers.now i.names.now i.enumerants.now) i.kinds.now c.args.place c.in-None.ensures.lookup.3
    ∙ ap (λ (ss : List Sort). slice_get ss c.args.place) c.self.view_is
