use Rattle.std.proofs.Common.{◌≡◌, ◌&&◌, drop}
use Rattle.std.specs.List.{list_all}
use Rattle.spv_annotate.specs.inner.Draft.{is_plain}
use Rattle.spv_annotate.proofs.draft.are_plain.Given as goal

abbrev pub invariant-loop-octet : goal.invariant-loop-octet
invariant-loop-octet l = (l.plain && list_all is_plain (drop l.octet-index l.octets)) ≡ list_all is_plain l.octets
