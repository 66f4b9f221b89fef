use denote.Shadow.{shadow}
use denote.Text.{Utf8}
use Rattle.std.proofs.Common.{◌≡◌, ◌≤◌, ◌+◌, ◌++◌, length, string_bytes}
use Rattle.spv_annotate.specs.declared.linked.Quoting.TheVariants.{Outside}
use Rattle.spv_annotate.specs.Called.{unmarked}
use Rattle.spv_annotate.proofs.literals.push_unmarked.Given as goal

abbrev pub invariant-loop-rest : goal.invariant-loop-rest
invariant-loop-rest l = record {
  text : shadow (Utf8 l.rest);
  few : l.count + length l.rest ≤ length l.line;
  all : string_bytes l.out ++ unmarked l.signature l.count Outside l.rest ≡ string_bytes l.fn.out
      ++ unmarked l.signature 0 Outside l.line;
}

abbrev pub decreases-loop-rest : goal.decreases-loop-rest
decreases-loop-rest l = length l.rest
