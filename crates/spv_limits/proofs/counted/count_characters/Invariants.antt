use Rattle.std.proofs.Common.{◌≡◌, ◌≤◌, count_by, take}
use Rattle.spv_limits.specs.Counted.{begins_character}
use Rattle.spv_limits.proofs.counted.count_characters.Given as goal

abbrev pub invariant-loop-octet : goal.invariant-loop-octet
invariant-loop-octet l =
    (l.count ≡ count_by begins_character (take l.octet-index l.text)) × (l.count ≤ l.octet-index)
