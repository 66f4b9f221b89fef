use Rattle.std.proofs.Common.{◌≡◌, ◌&&◌, drop}
use Rattle.std.specs.List.{list_all}
use Rattle.spv_annotate.specs.inner.Linked.{is_bare_byte}
use Rattle.spv_annotate.proofs.linked.is_bare.Given as goal

abbrev pub invariant-loop-byte : goal.invariant-loop-byte
invariant-loop-byte l = (l.bare && list_all is_bare_byte (drop l.byte-index l.text)) ≡ list_all is_bare_byte l.text
