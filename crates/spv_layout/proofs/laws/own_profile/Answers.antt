use Rattle.std.proofs.Common.{◌≡◌, ◌∙◌, refl, ap, Bool, true, false, Option, Some, None}
use Rattle.spv_module.specs.declared.opcode.TheConstants.{EXT_INST}
use Rattle.spv_module.specs.declared.profile.Profile.{Profile}
use Rattle.spv_module.specs.declared.profile.Profile.TheVariants.{Own, OpenCl}
use Rattle.spv_module.specs.declared.fault.Rule.TheVariants.{P1}
use Rattle.spv_layout.specs.declared.class.Class.TheVariants.{Extended}
use Rattle.spv_layout.specs.Row.{PlainRow}
use Rattle.spv_layout.specs.Rows.{rows, row_of, class_of}
use Rattle.spv_layout.specs.Profile.{includes, has_row}
use Rattle.spv_layout.specs.Broken.{Broken}
use Rattle.spv_layout.proofs.Seen.{wider_layout}
use Rattle.spv_layout.proofs.Blocks.{extended_in_block}
use Rattle.spv_layout.proofs.laws.own_profile.Goals as goal

own_included : (p : Profile) → includes Own p ≡ true → p ≡ Own
own_included Own h = refl
own_included OpenCl h = cc

own_row : (o : Option PlainRow) (b : Bool) → has_row Own o ≡ b → (((has_row Own o ≡ true) → ⊥) → ⊥) → (r : PlainRow) × (o ≡ Some r) × (r.profile ≡ Own)
own_row None b e u = absurd (u (λ h. cc))
own_row (Some r) true e u = (r, refl, own_included r.profile e)
own_row (Some r) false e u = absurd (u (λ h. cc))

wider_row : (o : Option PlainRow) → has_row Own o ≡ true → has_row OpenCl o ≡ true
wider_row None h = cc
wider_row (Some r) h = refl

extended_class : class_of EXT_INST ≡ Extended
unfolding rows
extended_class = refl

pub returns : goal.returns
returns c = record {
  rows = λ G is u n i h. own_row (row_of i.opcode) (has_row Own (row_of i.opcode)) refl (λ x. u P1 n refl (Broken.misfit i n h (λ f. x f.known)));
  blocks = λ is l n i h e. extended_in_block is n i l h (ap class_of e ∙ extended_class);
  wider = λ G is w. record {
    fits = λ n i h. let f = w.fits n i h in record { known = wider_row (row_of i.opcode) f.known; shape = f.shape };
    layout = wider_layout is w.layout;
  };
}
