use Rattle.std.proofs.Common.{◌-◌, ◌≡◌, ℕ, length, map, take}
use Rattle.spv_streams.proofs.Parts.{Going}
use Rattle.spv_streams.proofs.each.each_by.Given as goal

abbrev pub invariant-loop-number : goal.invariant-loop-number
invariant-loop-number g l =
    Going l.table (l.how) (g.F.Files.known l.initial.files) (map (λ n. n.now) (take l.number l.names)) l.status l.told
    (g.W.Sink.contents l.initial.out) (g.W.Sink.contents l.out) (g.W.Sink.failures l.initial.out)
    (g.W.Sink.failures l.out)
    (g.E.Sink.contents l.initial.err) (g.E.Sink.contents l.err) (g.E.Sink.failures l.initial.err)
    (g.E.Sink.failures l.err)
    × ((n : ℕ) → g.F.Files.known l.files n ≡ g.F.Files.known l.initial.files n)

abbrev pub decreases-loop-number : goal.decreases-loop-number
decreases-loop-number g l = length l.names - l.number
