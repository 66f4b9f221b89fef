use Rattle.std.proofs.Common.{◌≡◌, ◌≤◌, ◌<◌, ◌-◌, get_or}
use Rattle.std.specs.List.{AllAdjacentBelow}
use Rattle.spv_table.specs.declared.table.Enumerant.{Enumerant}
use Rattle.spv_table.proofs.enumerant_list.are_ordered.Given as goal

abbrev pub invariant-loop-enumerant : goal.invariant-loop-enumerant
invariant-loop-enumerant l = record {
  adjacent : AllAdjacentBelow (λ (x y : Enumerant). x.value ≤ y.value) l.enumerants l.enumerant-index;
  last : (d : Enumerant) → 0 < l.enumerant-index → (get_or l.enumerants (l.enumerant-index - 1) d).value ≡ l.last;
}
