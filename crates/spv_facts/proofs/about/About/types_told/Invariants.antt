use Rattle.std.proofs.Common.{◌≡◌, ◌<◌, ◌++◌, ℕ, List, [], None, drop, get_or, length}
use Rattle.std.specs.Prelude.{slice_index, if◌then◌else◌}
use Rattle.spv_module.specs.Module.{plain_insts}
use Rattle.spv_facts.specs.Definition.{definition_from}
use Rattle.spv_facts.specs.Facts.{is_told, type_things}
use Rattle.spv_facts.proofs.about.About.types_told.Given as goal

abbrev pub invariant-loop-id : goal.invariant-loop-id
invariant-loop-id l = record {
  told : List ℕ;
  room : (k : ℕ) → k < length l.fn.ids → slice_index l.fn.ids k < length l.left.items;
  left : (x : ℕ) → x < length l.left.items
      → get_or l.left.items x None
      ≡ (if is_told told x then None else definition_from x 0 (plain_insts l.fn.self.«module».now));
  things : l.told.items ++ type_things (plain_insts l.fn.self.«module».now) told (drop l.id-index l.fn.ids)
      ≡ type_things (plain_insts l.fn.self.«module».now) [] l.fn.ids;
}
