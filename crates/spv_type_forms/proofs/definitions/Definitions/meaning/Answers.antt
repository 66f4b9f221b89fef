use Rattle.std.proofs.Common.{refl, subst}
use Rattle.spv_type_forms.specs.inner.Meaning.{IsMeant}
use Rattle.spv_type_forms.proofs.Meanings.{noted_at, unknown_meant}
use Rattle.spv_type_forms.proofs.definitions.Definitions.meaning.Goals as goal

pub returns-in-Some : goal.returns-in-Some
returns-in-Some c =
    let m = c.in-Some.meaning.now in
    let e = noted_at c.self.inside.meanings.now c.args.id m m c.in-Some.ensures.lookup.0 c.in-Some.ensures.lookup.1 refl
    in
    subst (λ is. IsMeant is c.args.id m) c.self.view_is (c.self.invariant.meant c.args.id m e)

pub returns-in-None : goal.returns-in-None
returns-in-None c = unknown_meant c.args.self.now c.args.id
