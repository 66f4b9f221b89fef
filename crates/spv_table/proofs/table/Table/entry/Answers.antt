use Rattle.std.proofs.Common.{◌≡◌, ◌∙◌, ℕ, List, Some, None, get_or, slice_get, sym, ap}
use Rattle.spv_table.specs.Table.{Table, entry_of}
use Rattle.spv_table.proofs.Found.{entry_found}
use Rattle.spv_table.proofs.table.Table.entry.Goals as goal

pub returns-in-Some : goal.returns-in-Some
returns-in-Some c =
    let G : Table = record { kinds = c.self.inside.sorts; entries = c.self.inside.entries } in
    let at = c.place_in-place.ensures ∙ ap (λ (ps : List ℕ). get_or ps c.args.opcode 4294967295) c.as_slice.ensures in
    entry_found G c.args.opcode c.place_in-place.result _ (sym c.in-Some.ensures) (ap (slice_get G.entries) at ∙ c.self.invariant.1 c.args.opcode)
    ∙ ap (λ (t : Table). entry_of t c.args.opcode) c.self.view_is

pub returns-in-None : goal.returns-in-None
returns-in-None c =
    let G : Table = record { kinds = c.self.inside.sorts; entries = c.self.inside.entries } in
    let at = c.place_in-place.ensures ∙ ap (λ (ps : List ℕ). get_or ps c.args.opcode 4294967295) c.as_slice.ensures in
    entry_found G c.args.opcode c.place_in-place.result None (sym c.in-None.ensures) (ap (slice_get G.entries) at ∙ c.self.invariant.1 c.args.opcode)
    ∙ ap (λ (t : Table). entry_of t c.args.opcode) c.self.view_is
