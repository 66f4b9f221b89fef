use Rattle.std.proofs.Common.{◌≤◌, ◌-◌, ℕ, Some, if◌then◌else◌, nat_eq, length, get_or, set, ap, sym, ◌∙◌, arith}
use Rattle.spv_table.specs.declared.table.Entry.{Entry}
use Rattle.std.proofs.lemmas.Grind.{common_steps}
use Rattle.std.proofs.lemmas.Option.{slice_get_past}
use Rattle.spv_table.proofs.Backward.{first_step, dense}
use Rattle.spv_table.proofs.table.opcode_places.Goals as goal

pub loop-i-init : goal.loop-i-init
loop-i-init c = λ n.
    let past : length c.args.entries.now ≤ 4294967295 = omega arith in
    let none = slice_get_past c.args.entries.now 4294967295 past in
    rw c.new-places.ensures.items (grind (arith, common_steps, none))

pub loop-i-preserved : goal.loop-i-preserved
loop-i-preserved c = λ n.
    let es = c.args.entries.now in
    let i = c.loop-i.i in
    let x = c.index-entries-i.result in
    let old = c.loop-i.places.items in
    let wide = c.widen.new.places.items in
    let k = c.from-in-loop-i.result in
    first_step (λ e. e.0) es i x (Some (get_or old n 4294967295)) (Some (get_or (set wide k (i - 1)) n 4294967295)) n
    (omega arith) (omega arith) c.index-entries-i.is (c.loop-i.invariant n)
    (dense wide k (i - 1) n 4294967295 (omega (arith, c.in_ok-widen.ensures.place, c.from.ensures, c.from-in-loop-i.ensures))
    ∙ ap (λ p. if nat_eq k n then Some (i - 1) else Some p) (c.in_ok-widen.ensures.kept n)
    ∙ ap (λ m. if nat_eq m n then Some (i - 1) else Some (get_or old n 4294967295)) (c.from-in-loop-i.ensures ∙ ap (λ (e : ℕ × Entry). e.0) (sym c.index-entries-i.is)))
