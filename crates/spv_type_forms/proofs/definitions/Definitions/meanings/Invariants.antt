use Rattle.spv_type_forms.specs.inner.Meaning.{AreMeant}
use Rattle.spv_type_forms.proofs.definitions.Definitions.meanings.Given as goal

abbrev pub invariant-loop-number : goal.invariant-loop-number
invariant-loop-number l = AreMeant l.self l.meanings.items
