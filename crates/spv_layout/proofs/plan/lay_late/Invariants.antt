use Rattle.std.proofs.Common.{◌≡◌, ◌≤◌, ◌+◌, List, [], length, map, take}
use Rattle.std.specs.Vec.{vec_len, vec_capacity}
use Rattle.spv_module.specs.Module.{plain_inst}
use Rattle.spv_layout.specs.declared.place.Early.{Early}
use Rattle.spv_layout.specs.Layout.{seen_classes}
use Rattle.spv_layout.specs.Place.{first_word_of}
use Rattle.spv_layout.specs.inner.Pass.{FitBelow, Follows, Kept, Leads}
use Rattle.spv_layout.proofs.plan.lay_late.Given as goal

abbrev pub invariant-loop-at : goal.invariant-loop-at
invariant-loop-at l = record {
  fit : FitBelow l.profile l.kinds (map plain_inst l.insts) l.at;
  leads : Leads (seen_classes l.profile (map plain_inst (take l.at l.insts))) l.state;
  follows : Follows (map plain_inst l.insts) l.at l.state l.spans;
  kept : (early : List Early) → Kept (map plain_inst l.insts) l.count l.fn.begun.state early []
      → Kept (map plain_inst l.insts) l.at l.state early l.late.items;
  size : vec_len l.late + l.count ≡ l.at;
  room : length l.insts ≤ l.count + vec_capacity l.late;
  word : l.word ≡ first_word_of (map plain_inst l.insts) l.at;
}
