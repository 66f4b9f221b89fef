-- Worked examples.
use Rattle.std.proofs.Common.{◌≡◌, ℕ, zero, suc, [], ◌∷◌, true, false, refl}
use Rattle.spv_module.specs.Example.{small as table}
use Rattle.spv_layout.specs.declared.class.Class.TheVariants as class
use Rattle.spv_layout.specs.declared.form.Form.TheVariants as form
use Rattle.spv_layout.specs.declared.form.Role.TheVariants as role
use Rattle.spv_layout.specs.Row.{closed, repeated}
use Rattle.spv_layout.specs.inner.Row.{row}
use Rattle.spv_layout.specs.Rows.{rows}
use Rattle.spv_layout.specs.Shape.{HasForms, AreOf, Ends}
use Rattle.spv_layout.specs.Place.{IsAt, IsOfSection}
use Rattle.spv_ops.specs.Example.{to_member, add, pointed_variable}

-- the forms of OpAccessChain with one index, and of OpIAdd
pub chain_forms : HasForms table to_member (form.OfType ∷ form.Result ∷ form.Id role.Value ∷ form.Id role.Value ∷ [])
unfolding rows
chain_forms = record {
  row = row 65 66 class.Body (form.OfType ∷ form.Result ∷ form.Id role.Value ∷ []) (repeated (form.Id role.Value ∷ []));
  rest = form.Id role.Value ∷ [];
  known = refl;
  forms = refl;
  ending = Ends.again (form.Id role.Value ∷ []) [] (Ends.done (form.Id role.Value ∷ []));
  each = AreOf.more _ _ _ _ refl (AreOf.more _ _ _ _ refl
      (AreOf.more _ _ _ _ refl (AreOf.more _ _ _ _ refl AreOf.none)));
}

pub add_forms : HasForms table add (form.OfType ∷ form.Result ∷ form.Id role.Value ∷ form.Id role.Value ∷ [])
unfolding rows
add_forms = record {
  row = row 128 136 class.Body (form.OfType ∷ form.Result ∷ form.Id role.Value ∷ form.Id role.Value ∷ []) closed;
  rest = [];
  known = refl;
  forms = refl;
  ending = Ends.nothing;
  each = AreOf.more _ _ _ _ refl (AreOf.more _ _ _ _ refl
      (AreOf.more _ _ _ _ refl (AreOf.more _ _ _ _ refl AreOf.none)));
}

-- nor are a type and a variable
no_function_beside : (f : ℕ) → IsAt pointed_variable f (class.Function ∷ []) → ⊥
unfolding rows
no_function_beside zero h = let no_true : false ≡ true = h in cc
no_function_beside (suc zero) h = let no_true : false ≡ true = h in cc
no_function_beside (suc (suc f)) h = absurd h

pub pointed_section : IsOfSection pointed_variable 1 11
unfolding rows
pointed_section = IsOfSection.global class.Variable refl refl (λ f l. no_function_beside f l.there)
