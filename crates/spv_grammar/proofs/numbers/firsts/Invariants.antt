use Rattle.std.proofs.Common.{◌≡◌, ◌≤◌, map, take, length}
use Rattle.spv_grammar.specs.Kinds.{first_kinds}
use Rattle.spv_grammar.proofs.numbers.firsts.Given as goal

abbrev pub invariant-loop-place : goal.invariant-loop-place
invariant-loop-place l = record {
  firsts : map (λ f. f.kind.now) l.firsts.items ≡ first_kinds (take l.place l.kinds);
  few : length l.firsts.items ≤ l.place;
}
