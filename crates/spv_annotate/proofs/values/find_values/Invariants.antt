use Rattle.std.proofs.Common.{◌≡◌, ◌≤◌, ◌<◌, ℕ, None, map}
use Rattle.std.specs.Ordering.{nat_cmp}
use Rattle.std.specs.BTreeMap.{get}
use Rattle.spv_module.specs.Module.{plain_inst}
use Rattle.spv_annotate.specs.Module.{inst_at}
use Rattle.spv_annotate.specs.Values.{IsValue, float_of}
use Rattle.spv_annotate.specs.inner.Values.{text_or_none}
use Rattle.spv_annotate.proofs.values.find_values.Given as goal

abbrev pub invariant-loop-at : goal.invariant-loop-at
invariant-loop-at l = record {
  done : (n : ℕ) → n < l.at
      → IsValue (float_of (map plain_inst l.insts) (inst_at (map plain_inst l.insts) n))
      (text_or_none (get nat_cmp l.texts n));
  left : (n : ℕ) → l.at ≤ n → get nat_cmp l.texts n ≡ None;
}
