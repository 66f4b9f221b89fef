use Rattle.std.proofs.Common.{◌≡◌, ◌≤◌, [], map, take}
use Rattle.std.specs.Vec.{vec_len, vec_capacity}
use Rattle.spv_module.specs.Module.{plain_inst}
use Rattle.spv_layout.specs.Layout.{seen_classes}
use Rattle.spv_layout.specs.Place.{first_word_of}
use Rattle.spv_layout.specs.inner.Span.{no_spans}
use Rattle.spv_layout.specs.inner.Pass.{FitBelow, Follows, Kept, Leads}
use Rattle.spv_layout.proofs.plan.lay_early.Given as goal

abbrev pub invariant-loop-i : goal.invariant-loop-i
invariant-loop-i l = record {
  fit : FitBelow l.profile l.kinds (map plain_inst l.insts) l.i;
  leads : Leads (seen_classes l.profile (map plain_inst (take l.i l.insts))) l.state;
  follows : Follows (map plain_inst l.insts) l.i l.state no_spans;
  kept : Kept (map plain_inst l.insts) l.i l.state l.early.items [];
  size : vec_len l.early ≡ l.i;
  room : l.count ≤ vec_capacity l.early;
  word : l.word ≡ first_word_of (map plain_inst l.insts) l.i;
}
