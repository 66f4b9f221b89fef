use Rattle.std.proofs.Common.{ℕ, List, position, ap, ◌∙◌}
use Rattle.std.specs.Str.{bytes_eq}
use Rattle.spv_table.specs.declared.table.Entry.{Entry}
use Rattle.spv_table.specs.Rows.{entry_in}
use Rattle.spv_table.proofs.Told.{place_made}
use Rattle.spv_table.proofs.entries.Told.place.Goals as goal

pub place_among-requires-clause-ascii : goal.place_among-requires-clause-ascii
place_among-requires-clause-ascii c = c.self.invariant.0

pub place_among-requires-clause-finds : goal.place_among-requires-clause-finds
place_among-requires-clause-finds c = c.self.invariant.2

pub returns : goal.returns
returns c =
    let i = c.self.inside.lies in
    let q = c.args.name.now in
    c.place_among.ensures ∙ place_made (entry_in i.text.now i.items.now i.names.now) (λ (e : ℕ × Entry). bytes_eq q e.1.name) i.entries.now
    ∙ ap (position (λ (e : ℕ × Entry). bytes_eq q e.1.name)) c.self.view_is
