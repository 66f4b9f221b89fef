use Rattle.std.proofs.Common.{ℕ, ◌<◌, map}
use Rattle.spv_module.specs.Module.{plain_inst}
use Rattle.spv_ids.specs.Definition.{IsDefinedAt}
use Rattle.spv_form_evidence.proofs.ids.again.defined_again.Given as goal

abbrev pub invariant-loop-m : goal.invariant-loop-m
invariant-loop-m l = (k : ℕ) → k < l.m → ¬ (IsDefinedAt (map plain_inst l.insts) l.id k)
