use denote.Shadow.{shadow}
use denote.Text.{Utf8}
use Rattle.std.proofs.Common.{◌≡◌, ◌++◌, length, string_bytes}
use Rattle.spv_annotate.specs.inner.Numbers.{kept}
use Rattle.spv_annotate.specs.Page.{linked}
use Rattle.spv_annotate.proofs.linked.push_linked.Given as goal

abbrev pub invariant-loop-rest : goal.invariant-loop-rest
invariant-loop-rest l = shadow (Utf8 l.rest) × (string_bytes l.out ++ linked (kept l.definitions) l.quoting l.rest
    ≡ string_bytes l.fn.out ++ linked (kept l.definitions) l.quoting l.line)

abbrev pub decreases-loop-rest : goal.decreases-loop-rest
decreases-loop-rest l = length l.rest
