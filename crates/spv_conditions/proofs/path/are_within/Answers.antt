use Rattle.std.proofs.Common.{◌≡◌, true, false, refl, sym}
use Rattle.spv_module.specs.Module.{plain_operands}
use Rattle.spv_conditions.proofs.lemmas.Paths.{never_stops, all_within}
use Rattle.spv_conditions.proofs.path.are_within.Goals as goal

pub returns-in-Some : goal.returns-in-Some
returns-in-Some c = (
  λ h. absurd (let no : false ≡ true = h in cc),
  λ w. absurd (let e = c.in-Some.ensures in
      let f = never_stops c.args.definitions.now (plain_operands c.args.operands.now) 0 c.args.t w in cc),
)

pub returns-in-None : goal.returns-in-None
returns-in-None c = (
  λ h. all_within c.args.definitions.now (plain_operands c.args.operands.now) 0 c.args.t
      (sym c.in-None.ensures),
  λ w. refl,
)
