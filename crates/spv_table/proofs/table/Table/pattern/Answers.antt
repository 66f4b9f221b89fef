use Rattle.std.proofs.Common.{◌≡◌, ◌∙◌, ℕ, List, Option, option_map, get_or, slice_get, refl, sym, ap}
use Rattle.spv_table.specs.declared.table.Entry.{Entry}
use Rattle.spv_table.specs.declared.table.Item.{Item}
use Rattle.spv_table.specs.Table.{Table, entry_of}
use Rattle.spv_table.proofs.Found.{entry_found, pattern_found}
use Rattle.spv_table.proofs.table.Table.pattern.Goals as goal

pub returns : goal.returns
returns c =
    let G : Table = record { kinds = c.self.inside.sorts; entries = c.self.inside.entries } in
    let place = c.place_in-place.result in
    let at = c.place_in-place.ensures ∙ ap (λ (ps : List ℕ). get_or ps c.args.opcode 4294967295) c.as_slice.ensures in
    c.pattern.ensures ∙ pattern_found (slice_get G.entries place)
    ∙ ap (option_map (λ (e : Entry). e.operands))
    (entry_found G c.args.opcode place _ refl (ap (slice_get G.entries) at ∙ c.self.invariant.1 c.args.opcode)
    ∙ ap (λ (t : Table). entry_of t c.args.opcode) c.self.view_is)
