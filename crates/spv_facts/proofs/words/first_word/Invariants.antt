use Rattle.std.proofs.Common.{◌≡◌, ◌≤◌, ◌+◌, ◌-◌, drop}
use Rattle.spv_words.specs.Header.{greatest_length}
use Rattle.spv_facts.specs.Words.{begin_of}
use Rattle.spv_facts.proofs.words.first_word.Given as goal

abbrev pub invariant-loop-done : goal.invariant-loop-done
invariant-loop-done l = record {
  within : l.done ≤ l.fn.inst;
  place : l.at ≡ 5 + begin_of (drop 5 l.fn.image) l.done;
  few : l.at ≤ greatest_length + 65535;
}

abbrev pub decreases-loop-done : goal.decreases-loop-done
decreases-loop-done l = l.fn.inst - l.done
