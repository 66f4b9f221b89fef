use Rattle.std.proofs.Common.{◌≡◌, ◌∙◌, ℕ, false, true, sym, subst}
use Rattle.std.proofs.lemmas.Bool.{eqb-true, eq-eqb}
use Rattle.spv_module.specs.Module.{plain_inst}
use Rattle.spv_layout.specs.Place.{IsOfSection}
use Rattle.spv_layout.proofs.Places.{section_same}
use Rattle.spv_declarations.specs.inner.Initialized.{IsOutside}
use Rattle.spv_declarations.proofs.Gathered.{one_inst}
use Rattle.spv_declarations.proofs.initialized.is_initialized.Goals as goal

pub returns-then-not-is_outside : goal.returns-then-not-is_outside
returns-then-not-is_outside c = λ i at. (
  λ y. let no : false ≡ true = y in absurd (cc),
  λ q.
      let o = subst (IsOutside c.args.imported.now)
      (sym (one_inst c.args.definitions.now c.args.number (plain_inst c.inst.result.now) i c.inst.ensures at)) q.0 in
      let no : false ≡ true = sym c.if-not-is_outside.true ∙ c.is_outside.ensures.1 o in absurd (cc),
)

pub returns : goal.returns
returns c = λ i at.
    let is = c.args.definitions.now in
    let n = c.args.number in
    let s = c.place.result.section in (
      λ y. (
        subst (IsOutside c.args.imported.now) (one_inst is n (plain_inst c.inst.result.now) i c.inst.ensures at)
            (c.is_outside.ensures.0 c.if-not-is_outside.false),
        subst (λ (k : ℕ). IsOfSection is n k) (eqb-true s 11 y) c.place.ensures.section,
      ),
      λ q. eq-eqb s 11 (section_same is n s 11 c.place.ensures.section q.1),
    )
