use Rattle.std.proofs.Common.{◌≡◌, ◌&&◌, drop}
use Rattle.std.specs.List.{list_all}
use Rattle.spv_annotate.specs.inner.Tame.{is_line_octet}
use Rattle.spv_annotate.proofs.tame.are_line_octets.Given as goal

abbrev pub invariant-loop-octet : goal.invariant-loop-octet
invariant-loop-octet l =
    (l.tame && list_all is_line_octet (drop l.octet-index l.octets)) ≡ list_all is_line_octet l.octets
