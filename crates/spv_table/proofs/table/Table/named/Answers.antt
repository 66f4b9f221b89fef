use Rattle.std.proofs.Common.{◌≡◌, ℕ, option_map, sym, ap, ◌∙◌}
use Rattle.std.specs.Str.{bytes_eq}
use Rattle.spv_table.specs.declared.table.Entry.{Entry}
use Rattle.spv_table.specs.Table.{Table}
use Rattle.spv_table.specs.Lookups.{opcode_named}
use Rattle.spv_table.proofs.Found.{found_at}
use Rattle.spv_table.proofs.table.Table.named.Goals as goal

pub returns-in_err-place : goal.returns-in_err-place
returns-in_err-place c =
    let q = c.args.name.now in
    let found = found_at (λ (e : ℕ × Entry). bytes_eq q e.1.name) c.self.inside.entries _ c.in_err-place.ensures in
    rw c.from_residual.ensures (sym (ap (option_map (λ (e : ℕ × Entry). e.0)) found) ∙ ap (λ (t : Table). opcode_named t.entries q) c.self.view_is)

pub returns-in-Some : goal.returns-in-Some
returns-in-Some c =
    let q = c.args.name.now in
    let found = found_at (λ (e : ℕ × Entry). bytes_eq q e.1.name) c.self.inside.entries _ c.in_ok-place.ensures in
    sym (ap (option_map (λ (e : ℕ × Entry). e.0)) (found ∙ sym c.in-Some.ensures)) ∙ ap (λ (t : Table). opcode_named t.entries q) c.self.view_is

pub returns-in-None : goal.returns-in-None
returns-in-None c =
    let q = c.args.name.now in
    let found = found_at (λ (e : ℕ × Entry). bytes_eq q e.1.name) c.self.inside.entries _ c.in_ok-place.ensures in
    sym (ap (option_map (λ (e : ℕ × Entry). e.0)) (found ∙ sym c.in-None.ensures)) ∙ ap (λ (t : Table). opcode_named t.entries q) c.self.view_is
