use Rattle.std.proofs.Common.{inl, inr, refl}
use Rattle.spv_versions.proofs.Undated.{none_listed}
use Rattle.spv_versions.proofs.kinds.missing_number_of.Goals as goal

pub returns-then-least_of : goal.returns-then-least_of
returns-then-least_of c = inr (
  refl,
  none_listed c.args.missing.now.lines c.args.missing.now.least c.args.kind
      c.least_of.result c.requires c.least_of.ensures c.if-least_of.true,
)

pub returns : goal.returns
returns c = inl c.number_of.ensures
