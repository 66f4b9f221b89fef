use Rattle.std.proofs.Common.{List, [], ◌≡◌, ◌+◌, ◌-◌, ℕ, Some, length, map, get_or, drop, take, position, sym, ap, subst, ◌∙◌, refl, arith}
use Rattle.std.specs.Str.{bytes_eq}
use Rattle.std.proofs.lemmas.List.{get_or_default}
use Rattle.spv_table.specs.declared.named.Names.{Names}
use Rattle.spv_table.specs.inner.Named.{slot_in, held, IsFirstBearer}
use Rattle.spv_table.specs.inner.Rows.{told}
use Rattle.spv_table.proofs.Slots.{FirstAt, first_at, window, window_few}
use Rattle.spv_table.proofs.Lookup.{near_place, none_here, none_left}
use Rattle.spv_table.proofs.named_rows.place_among.Goals as goal

pub returns-in-Some : goal.returns-in-Some
returns-in-Some g c =
    let slots = c.args.slots.now in
    let m : Names = record { slots = slots; others = [] } in
    let xs = c.args.rows.now in
    let q = c.args.name.now in
    let name = told c.args.text.now g.R.NamedRow.span in
    let ns = map name xs in
    let s = c.slot_of-slot.result in
    let k = c.in-Some.taken in
    let slot : s ≡ slot_in (length slots - 8) q = c.slot_of-slot.ensures.slot in
    let eight : s + 8 - s ≡ 8 = omega arith in
    let bearer : IsFirstBearer ns (take (s + 8 - s) (drop s slots)) q k = c.in-Some.ensures in
    let few = window_few slots s (s + 8 - s) k bearer.0 in
    let value = get_or_default (take (s + 8 - s) (drop s slots)) k 0 4294967295 bearer.0 ∙ window slots s (s + 8 - s) k few.0 in
    let P : ℕ → Type 0 = λ t. FirstAt ns slots q t k → Some (held slots (t + k)) ≡ position (λ a. bytes_eq q (name a)) xs in
    ap (λ p. Some p) value ∙ subst P (sym slot) (near_place name q xs m c.requires.finds k) (first_at ns slots q s (s + 8 - s) eight k bearer)

pub returns-in-None : goal.returns-in-None
returns-in-None g c =
    let slots = c.args.slots.now in
    let m : Names = record { slots = slots; others = [] } in
    let xs = c.args.rows.now in
    let q = c.args.name.now in
    let name = told c.args.text.now g.R.NamedRow.span in
    let none = none_here name q xs m c.requires.finds c.slot_of-slot.result slots c.slot_of-slot.ensures.slot refl (omega (arith, c.slot_of-slot.ensures.within)) c.in-None.ensures in
    none_left name q xs m c.requires.finds none 0 (λ k h. absurd (omega (arith, h))) (omega arith)
