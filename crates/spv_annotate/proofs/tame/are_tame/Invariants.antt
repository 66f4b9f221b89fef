use Rattle.std.proofs.Common.{◌≡◌, ◌&&◌, drop}
use Rattle.std.specs.List.{list_all}
use Rattle.spv_annotate.specs.inner.Tame.{is_tame_octet}
use Rattle.spv_annotate.proofs.tame.are_tame.Given as goal

abbrev pub invariant-loop-octet : goal.invariant-loop-octet
invariant-loop-octet l =
    (l.tame && list_all is_tame_octet (drop l.octet-index l.octets)) ≡ list_all is_tame_octet l.octets
