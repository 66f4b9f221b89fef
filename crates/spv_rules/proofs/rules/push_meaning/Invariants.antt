use Rattle.std.proofs.Common.{◌≡◌, ◌++◌, IsUtf8, length, string_bytes}
use Rattle.spv_rules.specs.Codes.{indented}
use Rattle.spv_rules.proofs.rules.push_meaning.Given as goal

abbrev pub invariant-loop-line : goal.invariant-loop-line
invariant-loop-line l = record {
  utf8 : IsUtf8 l.rest;
  told : string_bytes l.out ++ indented l.rest ≡ string_bytes l.initial.out ++ indented l.fn.meaning;
}

abbrev pub decreases-loop-line : goal.decreases-loop-line
decreases-loop-line l = length l.rest
