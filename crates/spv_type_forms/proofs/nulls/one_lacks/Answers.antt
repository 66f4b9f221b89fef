use Rattle.std.proofs.Common.{◌≡◌, true, false, length, arith}
use Rattle.spv_type_forms.proofs.Lacking.{member_within}
use Rattle.spv_type_forms.proofs.nulls.one_lacks.Goals as goal

pub returns : goal.returns
returns c = (
  λ y. absurd (let no : false ≡ true = y in cc),
  λ r.
      let w = member_within c.args.definitions.now (length c.args.lacks.now) r.0 c.args.members.now r.1 in
      absurd (c.loop-k.invariant r.0 (omega arith) r.1),
)
