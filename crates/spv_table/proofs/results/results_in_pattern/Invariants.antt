use Rattle.std.proofs.Common.{◌≡◌, map, take, true, false}
use Rattle.std.specs.List.{list_any}
use Rattle.spv_table.specs.declared.table.Item as declared
use Rattle.spv_table.specs.Table as spec
use Rattle.spv_table.specs.inner.Form.{form_of}
use Rattle.spv_table.specs.inner.Results.{has_result}
use Rattle.spv_table.proofs.results.results_in_pattern.Given as goal

abbrev pub invariant-loop-item : goal.invariant-loop-item
invariant-loop-item l = (G : spec.Table) → l.forms ≡ map form_of G.kinds
    → record {
      always : l.always ≡ list_any (has_result false G) (map (λ (i : declared.Item). spec.quantified i.quantifier i.kind) (take l.item-index l.pattern));
      ever : l.ever ≡ list_any (has_result true G) (map (λ (i : declared.Item). spec.quantified i.quantifier i.kind) (take l.item-index l.pattern));
    }
