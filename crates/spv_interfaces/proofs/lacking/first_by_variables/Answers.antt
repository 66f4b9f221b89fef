use Rattle.std.proofs.Common.{List, sym, subst}
use Rattle.spv_flow.specs.declared.calls.graph.Call.{Call}
use Rattle.spv_interfaces.specs.inner.Turned.{AreTurned}
use Rattle.spv_interfaces.proofs.Missing.{place_first}
use Rattle.spv_interfaces.proofs.lacking.first_by_variables.Goals as goal

pub place_by_all-requires-clause-turned : goal.place_by_all-requires-clause-turned
place_by_all-requires-clause-turned c =
    subst (λ (cs : List Call). AreTurned c.args.definitions.now c.args.entries.now cs) (sym c.as_slice-2.ensures.value)
    c.in_ok-turned.ensures

pub returns : goal.returns
returns c = λ G minor used all.
    place_first G minor c.args.definitions.now c.args.variables.now c.args.entries.now c.in_ok-place.place
    c.number_at.result c.number_at.ensures all (c.in_ok-place.ensures G minor used)
