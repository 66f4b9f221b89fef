use Rattle.std.proofs.Common.{sym, subst}
use Rattle.spv_type_forms.specs.inner.Meaning.{AreMeant}
use Rattle.spv_type_forms.proofs.definitions.Definitions.noted.Goals as goal

pub invariant_of-result : goal.invariant_of-result
invariant_of-result c = record {
  found = c.self.invariant.found;
  each = c.self.invariant.each;
  count = c.self.invariant.count;
  place = c.self.invariant.place;
  meant = subst (λ is. AreMeant is c.args.meanings.now) (sym c.self.view_is) c.requires;
  model = c.self.invariant.model;
}
