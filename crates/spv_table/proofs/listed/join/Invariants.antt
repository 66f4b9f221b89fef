use Rattle.std.proofs.Common.{map, take}
use Rattle.spv_table.specs.inner.Joined.{IsJoined}
use Rattle.spv_table.proofs.listed.join.Given as goal

abbrev pub invariant-loop-element : goal.invariant-loop-element
invariant-loop-element g l = IsJoined (map g.T.Named.name (take l.element-index l.elements)) l.text.bytes.items l.ends.items
