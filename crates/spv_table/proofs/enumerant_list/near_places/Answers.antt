use Rattle.std.proofs.Common.{◌≤◌, ◌-◌, Some, if◌then◌else◌, nat_eq, length, get_or, set, ap, sym, ◌∙◌, arith}
use Rattle.spv_table.specs.declared.table.Enumerant.{Enumerant}
use Rattle.std.proofs.lemmas.Grind.{common_steps}
use Rattle.std.proofs.lemmas.Option.{slice_get_past}
use Rattle.spv_table.proofs.Backward.{first_step, dense}
use Rattle.spv_table.proofs.enumerant_list.near_places.Goals as goal

pub loop-i-init : goal.loop-i-init
loop-i-init c = λ v h.
    let past : length c.args.enumerants.now ≤ 4294967295 = omega arith in
    let none = slice_get_past c.args.enumerants.now 4294967295 past in
    rw c.new-places.ensures.items (grind (arith, common_steps, none))

pub loop-i-preserved-then-value-lt-SMALL : goal.loop-i-preserved-then-value-lt-SMALL
loop-i-preserved-then-value-lt-SMALL c = λ v h.
    let es = c.args.enumerants.now in
    let i = c.loop-i.i in
    let x = c.index-enumerants-i.result in
    let old = c.loop-i.places.items in
    let wide = c.widen.new.places.items in
    let k = (get_or es (i - 1) x).value in
    first_step (λ e. e.value) es i x (Some (get_or old v 4294967295)) (Some (get_or (set wide k (i - 1)) v 4294967295)) v
    (omega arith) (omega arith) c.index-enumerants-i.is (c.loop-i.invariant v h)
    (dense wide k (i - 1) v 4294967295 c.in_ok-widen.ensures.place
    ∙ ap (λ p. if nat_eq k v then Some (i - 1) else Some p) (c.in_ok-widen.ensures.kept v)
    ∙ ap (λ (e : Enumerant). if nat_eq e.value v then Some (i - 1) else Some (get_or old v 4294967295)) (sym c.index-enumerants-i.is))
