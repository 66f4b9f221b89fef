use Rattle.std.proofs.Common.{◌≡◌, map}
use Rattle.spv_module.specs.Module.{plain_inst}
use Rattle.spv_type_forms.specs.inner.Matching.{IsMatching}
use Rattle.spv_type_forms.specs.inner.Null.{AreNulls}
use Rattle.spv_type_rules.specs.inner.Seen.{AreSeen}
use Rattle.spv_type_rules.specs.inner.Counted.{AreCounted}
use Rattle.spv_check.specs.inner.Pass.{AreKept}
use Rattle.spv_check.proofs.types.pass.first_fault.Given as goal

abbrev pub invariant-loop-n : goal.invariant-loop-n
invariant-loop-n l = record {
  same : l.entries ≡ l.fn.entries;
  seen : AreSeen (map plain_inst l.insts) l.n l.seen;
  nulls : AreNulls (map plain_inst l.insts) l.nulls;
  matching : IsMatching (map plain_inst l.insts) l.matching;
  counted : AreCounted (map plain_inst l.insts) l.n l.parameters;
  kept : AreKept l.fn.entries.table (map plain_inst l.insts) l.n;
}
