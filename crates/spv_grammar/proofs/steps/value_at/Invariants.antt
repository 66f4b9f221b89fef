use Rattle.std.proofs.Common.{◌≡◌, drop}
use Rattle.json_tree.specs.View.{view}
use Rattle.spv_grammar.specs.Place.{leads_to}
use Rattle.spv_grammar.proofs.steps.value_at.Given as goal

abbrev pub invariant-loop-step : goal.invariant-loop-step
invariant-loop-step l = leads_to (drop l.step-index l.steps) (view l.value) ≡ leads_to l.steps (view l.fn.root)
