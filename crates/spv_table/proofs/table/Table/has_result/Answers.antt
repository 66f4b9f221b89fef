use Rattle.std.proofs.Common.{◌≡◌, ◌∙◌, ℕ, List, Bool, Some, None, length, get_or, slice_get, if◌then◌else◌, refl, sym, ap}
use Rattle.std.proofs.lemmas.Option.{slice_get_past, slice_get_read}
use Rattle.spv_table.specs.declared.results.Results.{Results}
use Rattle.spv_table.specs.Table.{Table, entry_of}
use Rattle.spv_table.specs.inner.Results.{entry_has_result}
use Rattle.spv_table.proofs.Found.{result_found}
use Rattle.spv_table.proofs.table.Table.has_result.Goals as goal

pub returns-then-may : goal.returns-then-may
returns-then-may c =
    let G : Table = record { kinds = c.self.inside.sorts; entries = c.self.inside.entries } in
    let place = c.place_in-place.result in
    let r = c.in-Some.results.now in
    let l = c.in-Some.ensures.lookup in
    let at = c.place_in-place.ensures ∙ ap (λ (ps : List ℕ). get_or ps c.args.opcode 4294967295) c.as_slice.ensures in
    let some : slice_get c.self.inside.results place ≡ Some r =
    ap (λ (rs : List Results). slice_get rs place) (sym c.as_slice-2.ensures) ∙ slice_get_read c.as_slice-2.result.now (length c.as_slice-2.result.now) place _ refl l.3.0 l.1 in
    ap (λ (b : Bool). if b then r.ever else r.always) (sym c.if-may.true)
    ∙ (result_found G c.args.opcode place c.args.may c.self.inside.results (Some r) some c.self.invariant.3 (ap (slice_get G.entries) at ∙ c.self.invariant.1 c.args.opcode)
    ∙ ap (λ (t : Table). entry_has_result c.args.may t (entry_of t c.args.opcode)) c.self.view_is)

pub returns-else-may : goal.returns-else-may
returns-else-may c =
    let G : Table = record { kinds = c.self.inside.sorts; entries = c.self.inside.entries } in
    let place = c.place_in-place.result in
    let r = c.in-Some.results.now in
    let l = c.in-Some.ensures.lookup in
    let at = c.place_in-place.ensures ∙ ap (λ (ps : List ℕ). get_or ps c.args.opcode 4294967295) c.as_slice.ensures in
    let some : slice_get c.self.inside.results place ≡ Some r =
    ap (λ (rs : List Results). slice_get rs place) (sym c.as_slice-2.ensures) ∙ slice_get_read c.as_slice-2.result.now (length c.as_slice-2.result.now) place _ refl l.3.0 l.1 in
    ap (λ (b : Bool). if b then r.ever else r.always) (sym c.if-may.false)
    ∙ (result_found G c.args.opcode place c.args.may c.self.inside.results (Some r) some c.self.invariant.3 (ap (slice_get G.entries) at ∙ c.self.invariant.1 c.args.opcode)
    ∙ ap (λ (t : Table). entry_has_result c.args.may t (entry_of t c.args.opcode)) c.self.view_is)

pub returns-in-None : goal.returns-in-None
returns-in-None c =
    let G : Table = record { kinds = c.self.inside.sorts; entries = c.self.inside.entries } in
    let place = c.place_in-place.result in
    let at = c.place_in-place.ensures ∙ ap (λ (ps : List ℕ). get_or ps c.args.opcode 4294967295) c.as_slice.ensures in
    let none : slice_get c.self.inside.results place ≡ None =
    ap (λ (rs : List Results). slice_get rs place) (sym c.as_slice-2.ensures) ∙ slice_get_past c.as_slice-2.result.now place c.in-None.ensures.lookup.3 in
    result_found G c.args.opcode place c.args.may c.self.inside.results None none c.self.invariant.3 (ap (slice_get G.entries) at ∙ c.self.invariant.1 c.args.opcode)
    ∙ ap (λ (t : Table). entry_has_result c.args.may t (entry_of t c.args.opcode)) c.self.view_is
