use Rattle.std.proofs.Common.{◌-◌, Some, cond, ap, sym, ◌∙◌, get_or, nat_eq, arith}
use Rattle.spv_table.specs.declared.table.Enumerant.{Enumerant}
use Rattle.std.specs.BTreeMap as tree
use Rattle.std.specs.Ordering.{nat_cmp}
use Rattle.spv_table.proofs.Backward.{first_step, same_number}
use Rattle.spv_table.proofs.enumerant_list.far_map.Goals as goal

pub loop-i-preserved-in_ok-insert : goal.loop-i-preserved-in_ok-insert
loop-i-preserved-in_ok-insert c = λ v h.
    first_step (λ e. e.value) c.args.enumerants.now c.loop-i.i c.index-enumerants-i.result (tree.get nat_cmp c.loop-i.places v) (tree.get nat_cmp c.insert.new.self v) v
    (omega arith) (omega arith) c.index-enumerants-i.is (c.loop-i.invariant v h)
    (c.in_ok-insert.ensures.updates.0 v ∙ ap (λ b. cond b (Some (c.loop-i.i - 1)) (tree.get nat_cmp c.loop-i.places v)) (same_number (get_or c.args.enumerants.now (c.loop-i.i - 1) c.index-enumerants-i.result).value v ∙ ap (λ (e : Enumerant). nat_eq e.value v) (sym c.index-enumerants-i.is)))
