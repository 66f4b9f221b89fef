use Rattle.std.proofs.Common.{◌≡◌, ◌≤◌, ◌++◌, ◌-◌, drop, length}
use Rattle.spv_inst.specs.inner.Written.{text_words}
use Rattle.spv_inst.proofs.written.push_text.Given as goal

abbrev pub invariant-loop-at : goal.invariant-loop-at
invariant-loop-at l =
    (l.at ≤ length l.octets) × (l.words.items ++ text_words (drop l.at l.octets) ≡ l.fn.words.items
    ++ text_words l.octets)

abbrev pub decreases-loop-at : goal.decreases-loop-at
decreases-loop-at l = length l.octets - l.at
