-- Worked examples.
use Rattle.std.proofs.Common.{◌≡◌, ℕ, zero, suc, [], ◌∷◌, Option, Some, true, false, refl, sym, subst}
use Rattle.std.specs.Prelude.{slice_get}
use Rattle.spv_module.specs.declared.opcode.TheConstants as opcode
use Rattle.spv_module.specs.Operand.{OfType, Result, Value, PlainInst, result_in}
use Rattle.spv_layout.specs.declared.class.Class.TheVariants as class
use Rattle.spv_layout.specs.Rows.{rows}
use Rattle.spv_layout.specs.Place.{IsAt, IsLast, IsOfSection}
use Rattle.spv_ids.specs.Definition.{IsDefinedAt}
use Rattle.spv_type_forms.specs.Example.{inst, lone_variable}

-- a variable alone is no OpFunction
no_function_at : (f : ℕ) → IsAt lone_variable f (class.Function ∷ []) → ⊥
unfolding rows
no_function_at zero h = let no_true : false ≡ true = h in cc
no_function_at (suc f) h = absurd h

pub no_last : (n f : ℕ) → IsLast lone_variable class.Function n f → ⊥
no_last n f l = no_function_at f l.there

pub lone_section : IsOfSection lone_variable 0 11
unfolding rows
lone_section = IsOfSection.global class.Variable refl refl (λ f l. no_last 0 f l)

abbrev pub lone_defined : IsDefinedAt lone_variable 8 0
lone_defined = record {
  inst = inst opcode.VARIABLE (OfType 7 ∷ Result 8 ∷ Value 0 5 ∷ []);
  there = refl;
  result = refl;
}

-- %7 is the result of no instruction of it
no_seven_at : (n : ℕ) (i : PlainInst) → slice_get lone_variable n ≡ Some i → result_in i.operands ≡ Some 7 → ⊥
no_seven_at zero i at e =
    let same : inst opcode.VARIABLE (OfType 7 ∷ Result 8 ∷ Value 0 5 ∷ []) ≡ i = cc in
    let f : ◌≡◌ {A = Option ℕ} (Some 8) (Some 7) = subst (λ (j : PlainInst). result_in j.operands ≡ Some 7)
    (sym same) e in
    cc
no_seven_at (suc n) i at e = cc

pub no_seven : (n : ℕ) → IsDefinedAt lone_variable 7 n → ⊥
no_seven n d = no_seven_at n d.inst d.there d.result
