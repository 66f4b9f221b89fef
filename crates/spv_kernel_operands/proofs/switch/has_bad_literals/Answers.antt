use Rattle.std.proofs.Common.{◌≡◌, ◌∙◌, inl, inr, sym, subst}
use Rattle.std.proofs.lemmas.Bool.{false≢true}
use Rattle.spv_module.specs.Module.{plain_operands}
use Rattle.spv_kernel_operands.specs.Switch.{HasTwice, literals_of}
use Rattle.spv_kernel_operands.proofs.Literals.{wide_found}
use Rattle.spv_kernel_operands.proofs.switch.has_bad_literals.Goals as goal
use Rattle.spv_kernel_operands.proofs.switch.has_bad_literals.Goals.{in-Some+else-has_wide, in_default}

pub returns : goal.returns
returns c =
    let is = c.args.definitions.now in
    let os = plain_operands c.args.operands.now in
    let items : c.as_mut_slice.result.now ≡ literals_of os =
    c.as_mut_slice.ensures.value ∙ c.in_ok-literals.ensures in (
      λ t. inl (subst HasTwice items (c.has_twice.ensures.0 t)),
      λ h. elim h [
        | inl twice ↦ c.has_twice.ensures.1 (subst HasTwice (sym items) twice)
        | inr wide ↦
            let no : ⊥ = elim c.match-selector_width.branch [
              | in-Some+else-has_wide w ↦ false≢true (sym w.if-has_wide.false ∙ w.has_wide.ensures.1
                  (wide_found is os w.as_slice.result.now w.in-Some.width
                  (w.as_slice.ensures.value ∙ c.in_ok-literals.ensures) w.in-Some.ensures wide))
              | in_default w ↦ w.in_default.ensures wide.width record {
                selector = wide.selector;
                typed = wide.typed;
                int = wide.int;
              }
            ] in
            absurd no
      ],
    )
