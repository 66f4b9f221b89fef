use Rattle.std.proofs.Common.{◌≡◌, List, ℕ, Option, OnOk, ap, subst, ◌∙◌}
use Rattle.std.specs.List.{filter_map}
use Rattle.spv_table.specs.declared.table.Enumerant.{Enumerant}
use Rattle.spv_table.specs.Table.{kind_of, enumerant_of}
use Rattle.spv_table.specs.Lookups.{value_named}
use Rattle.spv_table.specs.Implied.{enumerants_of}
use Rattle.spv_table.specs.inner.Reached.{AddsAll, names_of}
use Rattle.spv_table.proofs.Search.{enumerant_in}
use Rattle.spv_table.proofs.implied.Reached.follow.Goals as goal

pub returns-in_default : goal.returns-in_default
returns-in_default c =
    let es = enumerants_of (kind_of c.args.table.now c.args.kind) in
    let none = c.in_default.ensures ∙ enumerant_in (kind_of c.args.table.now c.args.kind) c.args.capability in
    let P : Option Enumerant → Type 0 = λ o. AddsAll (filter_map (value_named es) (names_of o)) c.args.self.now c.args.self.now in
    subst P none (AddsAll.none c.args.self.now)

pub returns : goal.returns
returns c =
    let es = enumerants_of (kind_of c.args.table.now c.args.kind) in
    let some = c.in-Some.ensures ∙ enumerant_in (kind_of c.args.table.now c.args.kind) c.args.capability in
    let names : c.in-Some.enumerant.capabilities ≡ names_of (enumerant_of es c.args.capability) = ap names_of some in
    let P : List (List ℕ) → Type 0 = λ found. OnOk c.add_named.result (AddsAll (filter_map (value_named es) found) c.args.self.now c.add_named.new.self) in
    subst P names (rw c.capabilities.ensures at c.add_named.ensures)
