use Rattle.std.proofs.Common.{◌≡◌, ◌∙◌, ℕ, map, refl, subst, sym, ap}
use Rattle.std.specs.Str.{IsAscii}
use Rattle.spv_table.specs.declared.constants.Constants.{Constants}
use Rattle.spv_table.specs.declared.row.EntryRow.{EntryRow}
use Rattle.spv_table.specs.declared.row.KindRow.{KindRow}
use Rattle.spv_table.specs.declared.table.Entry.{Entry}
use Rattle.spv_table.specs.Rows.{entry_in}
use Rattle.spv_table.specs.Table.{Table, IsWhole}
use Rattle.spv_table.specs.inner.Constants.{table_in}
use Rattle.spv_table.specs.inner.Form.{form_of}
use Rattle.spv_table.specs.inner.Front.{AreFronts}
use Rattle.spv_table.specs.inner.Results.{results_of}
use Rattle.spv_builtin.specs.declared.constants.TheConstants.{TEXT, ITEMS, NUMBERS, NAMES, ENUMERANTS, SLOTS, NEAR, KINDS, KIND_SLOTS, ENTRIES, ENTRY_SLOTS, PLACES, RESULTS, FRONTS}
use Rattle.spv_builtin.specs.BuiltIn.{built_in}
use Rattle.spv_builtin.proofs.Computed.{text_is, kinds_pass, kind_names_pass, names_pass, results_pass, fronts_pass, whole}
use Rattle.spv_builtin.proofs.Computed.{counted, entries_few, entries_rise, places_made, forms_made}
use Rattle.spv_builtin.proofs.Fronts.{results_are, fronts_are}
use Rattle.spv_builtin.proofs.Places.{places_are, counted_are}
use Rattle.spv_builtin.proofs.Rows.{told_found, kinds_are}
use Rattle.spv_builtin.proofs.built_in.built_in.Goals as goal

-- what constants tell that are these
same : (l : Constants) → l.text.now ≡ TEXT.now → l.items.now ≡ ITEMS → l.numbers.now ≡ NUMBERS → l.names.now ≡ NAMES → l.enumerants.now ≡ ENUMERANTS → l.kinds.now ≡ KINDS
    → l.entries.now ≡ ENTRIES → table_in l ≡ built_in
unfolding built_in
same l text items numbers names enumerants kinds entries = rw (text, items, numbers, names, enumerants, kinds, entries) refl

pub told-requires-clause-ascii : goal.told-requires-clause-ascii
told-requires-clause-ascii c = subst IsAscii (sym c.constants-lies.ensures.text) text_is

pub told-requires-clause-kinds : goal.told-requires-clause-kinds
told-requires-clause-kinds c =
    let e = c.constants-lies.ensures in
    rw (e.text, e.enumerants, e.slots, e.near, e.kinds) (kinds_are TEXT.now ENUMERANTS SLOTS NEAR KINDS kinds_pass)

pub told-requires-clause-kind_names : goal.told-requires-clause-kind_names
told-requires-clause-kind_names c =
    let e = c.constants-lies.ensures in
    rw (e.text, e.kinds, e.kind_slots) (told_found TEXT.now KIND_SLOTS (λ (r : KindRow). r.1) KINDS kind_names_pass)

pub told-requires-clause-counted : goal.told-requires-clause-counted
told-requires-clause-counted c =
    let e = c.constants-lies.ensures in
    rw (e.items, e.entries) (counted_are ITEMS ENTRIES counted)

pub told-requires-clause-entry_names : goal.told-requires-clause-entry_names
told-requires-clause-entry_names c =
    let e = c.constants-lies.ensures in
    rw (e.text, e.entries, e.entry_slots) (told_found TEXT.now ENTRY_SLOTS (λ (r : EntryRow). r.1) ENTRIES names_pass)

pub told-requires-clause-whole : goal.told-requires-clause-whole
told-requires-clause-whole c =
    let e = c.constants-lies.ensures in
    subst IsWhole (sym (same c.constants-lies.result e.text e.items e.numbers e.names e.enumerants e.kinds e.entries)) whole

pub told-requires-clause-places : goal.told-requires-clause-places
told-requires-clause-places c =
    let e = c.constants-lies.ensures in
    rw (e.places, e.text, e.items, e.names, e.entries)
    (places_are (λ (x : ℕ × Entry). x.0) (entry_in TEXT.now ITEMS NAMES) (λ (r : EntryRow). r.0) ENTRIES PLACES (λ r. refl) places_made entries_rise entries_few)

pub told-requires-clause-forms : goal.told-requires-clause-forms
told-requires-clause-forms c =
    let e = c.constants-lies.ensures in
    c.constants-lies.ensures.forms ∙ forms_made ∙ ap (λ (G : Table). map form_of G.kinds) (sym (same c.constants-lies.result e.text e.items e.numbers e.names e.enumerants e.kinds e.entries))

pub told-requires-clause-results : goal.told-requires-clause-results
told-requires-clause-results c =
    let e = c.constants-lies.ensures in
    c.constants-lies.ensures.results ∙ results_are built_in built_in.entries RESULTS results_pass
    ∙ ap (λ (G : Table). map (λ x. results_of G x.1) G.entries) (sym (same c.constants-lies.result e.text e.items e.numbers e.names e.enumerants e.kinds e.entries))

pub told-requires-clause-fronts : goal.told-requires-clause-fronts
told-requires-clause-fronts c =
    let e = c.constants-lies.ensures in
    let s = same c.constants-lies.result e.text e.items e.numbers e.names e.enumerants e.kinds e.entries in
    subst (AreFronts (table_in c.constants-lies.result)) (sym c.constants-lies.ensures.fronts) (subst (λ (G : Table). AreFronts G FRONTS) (sym s) (fronts_are built_in FRONTS fronts_pass))

pub returns : goal.returns
returns c =
    let e = c.constants-lies.ensures in
    c.told.ensures ∙ same c.constants-lies.result e.text e.items e.numbers e.names e.enumerants e.kinds e.entries
