use Rattle.std.proofs.Common.{position, ap, ◌∙◌}
use Rattle.std.specs.Str.{bytes_eq}
use Rattle.spv_table.specs.Rows.{sort_in}
use Rattle.spv_table.specs.Table.{Sort}
use Rattle.spv_table.proofs.Told.{place_made}
use Rattle.spv_table.proofs.sorts.Told.place.Goals as goal

pub place_among-requires-clause-ascii : goal.place_among-requires-clause-ascii
place_among-requires-clause-ascii c = c.self.invariant.0

pub place_among-requires-clause-finds : goal.place_among-requires-clause-finds
place_among-requires-clause-finds c = c.self.invariant.2

pub returns : goal.returns
returns c =
    let i = c.self.inside.lies in
    let q = c.args.name.now in
    c.place_among.ensures ∙ place_made (sort_in i.text.now i.numbers.now i.names.now i.enumerants.now) (λ (s : Sort). bytes_eq q s.kind.name) i.kinds.now
    ∙ ap (position (λ (s : Sort). bytes_eq q s.kind.name)) c.self.view_is
