use Rattle.std.proofs.Common.{◌≡◌, [], drop, string_bytes}
use Rattle.spv_grammar.specs.Place.{path_of}
use Rattle.spv_grammar.proofs.steps.path_of.Given as goal

abbrev pub invariant-loop-step : goal.invariant-loop-step
invariant-loop-step l = path_of (string_bytes l.path) (drop l.step-index l.steps) ≡ path_of [] l.steps
