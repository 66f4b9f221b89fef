use Rattle.std.proofs.Common.{◌-◌, ◌≡◌, ◌≤◌, take, length}
use Rattle.std.specs.Io.KnownBytes.{Keeps, prepend_known}
use Rattle.spv_words.proofs.front.Front.fill.Given as goal

abbrev pub invariant-loop-self : goal.invariant-loop-self
invariant-loop-self g l = record {
  room : length l.self-inside.octets ≡ 8;
  fits : l.self-inside.size ≤ 8;
  kept : Keeps (prepend_known (take l.initial.self-inside.size l.initial.self-inside.octets) (g.S.Source.remaining l.initial.source))
      (prepend_known (take l.self-inside.size l.self-inside.octets) (g.S.Source.remaining l.source));
  count : g.S.Source.failures l.source ≡ g.S.Source.failures l.initial.source;
}

abbrev pub decreases-loop-self : goal.decreases-loop-self
decreases-loop-self g l = 8 - l.self-inside.size
