use Rattle.std.proofs.Common.{◌≡◌, drop}
use Rattle.spv_versions.specs.inner.Lines.{names_have}
use Rattle.spv_versions.proofs.lines.is_among.Given as goal

abbrev pub invariant-loop-one : goal.invariant-loop-one
invariant-loop-one l = names_have l.names l.name ≡ names_have (drop l.one-index l.names) l.name
