use Rattle.std.proofs.Common.{◌≡◌, drop}
use Rattle.std.specs.List.{list_all}
use Rattle.spv_annotate.specs.inner.Tame.{is_single}
use Rattle.spv_annotate.proofs.short.are_single.Given as goal

abbrev pub invariant-loop-octet : goal.invariant-loop-octet
invariant-loop-octet l = list_all is_single (drop l.octet-index l.octets) ≡ list_all is_single l.octets
