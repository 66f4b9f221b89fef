use Rattle.std.proofs.Common.{◌≡◌, ℕ, map}
use Rattle.spv_module.specs.Module.{plain_inst}
use Rattle.spv_annotate.specs.Module.{definition_of, open_function}
use Rattle.spv_annotate.specs.inner.Known.{asked_below}
use Rattle.spv_annotate.specs.inner.Numbers.{kept}
use Rattle.spv_annotate.proofs.firsts.find_asked.Given as goal

abbrev pub invariant-loop-at : goal.invariant-loop-at
invariant-loop-at l = record {
  first : (x : ℕ) → kept l.numbers x ≡ asked_below (map plain_inst l.insts) l.asked l.at
      (definition_of (map plain_inst l.insts) x);
  function : l.before ≡ open_function (map plain_inst l.insts) l.at;
}
