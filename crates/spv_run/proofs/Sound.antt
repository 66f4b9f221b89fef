-- What a run rests on holds of a list on which no rule is broken.
use Rattle.std.proofs.Common.{ℕ, List}
use Rattle.spv_table.specs.Table.{Table}
use Rattle.spv_module.specs.Operand.{PlainInst}
use Rattle.spv_run.specs.Sound.{KeepsRules}
use Rattle.spv_run.proofs.Checked.{IsChecked}
use Rattle.spv_run.proofs.Laid.{laid_out}
use Rattle.spv_run.proofs.Unbroken.{no_cycle, one_definition, has_labels}
use Rattle.spv_run.proofs.Scoped.{labels_in_scope, has_parents, all_ready, others_ready}
use Rattle.spv_run.proofs.Typing.{all_typed, has_entries}
use Rattle.spv_run.proofs.Signatures.{has_signatures}

pub checked : (G : Table) (bound : ℕ) (is : List PlainInst) → KeepsRules G bound is → IsChecked G is
checked G bound is sound =
    let fits = sound.fits in
    let laid = laid_out G is fits sound.layout in
    let once = one_definition G bound is sound.ids in
    let scope = labels_in_scope G bound is fits laid once sound.ids in
    let typed = all_typed G is fits laid sound.types in
    record {
      fits = fits;
      laying = sound.layout;
      layout = laid;
      once = once;
      scope = scope;
      typed = typed;
      signatures = has_signatures G is fits laid sound.types;
      labels = has_labels G is fits sound.branches;
      parents = has_parents G is fits sound.layout laid once sound.branches;
      ready = all_ready G is fits laid scope typed sound.values;
      others = others_ready G is fits laid scope sound.values;
      entries = has_entries G is fits laid once sound.capabilities;
      acyclic = no_cycle is sound.calls;
    }
