-- The worked example of a use that is not in scope.
use Rattle.std.proofs.Common.{◌≡◌, ℕ, zero, suc, [], ◌∷◌, refl, arith, inr}
use Rattle.spv_module.specs.Example.{small}
use Rattle.spv_module.specs.Operand.{OfType, Result, Id}
use Rattle.spv_module.specs.declared.fault.Rule.{Rule}
use Rattle.spv_module.specs.declared.fault.Rule.TheVariants.{D5}
use Rattle.spv_module.specs.declared.opcode.TheConstants as opcode
use Rattle.spv_layout.specs.declared.class.Class.TheVariants.{Undef, Body, Function, FunctionEnd, Label}
use Rattle.spv_layout.specs.declared.form.Role.TheVariants as role
use Rattle.spv_layout.specs.Example.{bare}
use Rattle.spv_layout.specs.Row.{closed}
use Rattle.spv_layout.specs.inner.Row.{row, v, T, R}
use Rattle.spv_layout.specs.Rows.{rows}
use Rattle.spv_layout.specs.Shape.{AreOf, Ends, HasForms, IsUse}
use Rattle.spv_layout.specs.Place.{IsLast, IsOfFunction, IsDefinition, IsOfSection}
use Rattle.spv_layout.specs.inner.Span.{Outside, In, After, UpTo, Before}
use Rattle.spv_layout.proofs.Spans.{before_first, enters, leaves, within}
use Rattle.spv_layout.proofs.Places.{function_same}
use Rattle.spv_ids.specs.Definition.{IsDefinedAt, IsLocalTo}
use Rattle.spv_ids.specs.Order.{IsInScope}
use Rattle.spv_ids.specs.Example.{value, copy, used_outside}
use Rattle.spv_evidence.specs.declared.evidence.Evidence.{Evidence}
use Rattle.spv_evidence.specs.declared.evidence.Evidence.TheVariants.{Local}
use Rattle.spv_form_evidence.specs.ids.Evidence.{IsEvidence}
use Rattle.spv_form_evidence.proofs.lemmas.ids.Rules.{result_here}

-- The functions that the instructions are of.

outside_before_0 : Before used_outside Function (FunctionEnd ∷ []) 0 Outside
outside_before_0 = before_first used_outside Function (FunctionEnd ∷ [])

outside_0 : UpTo used_outside Function (FunctionEnd ∷ []) 0 (In 0)
unfolding rows
outside_0 = enters used_outside Function (FunctionEnd ∷ []) 0 Function Outside (omega arith) refl outside_before_0

outside_before_1 : Before used_outside Function (FunctionEnd ∷ []) 1 (In 0)
unfolding rows
outside_before_1 = leaves used_outside Function (FunctionEnd ∷ []) 0 Function (In 0) refl outside_0

outside_1 : UpTo used_outside Function (FunctionEnd ∷ []) 1 (In 0)
unfolding rows
outside_1 = enters used_outside Function (FunctionEnd ∷ []) 1 Label (In 0) (omega arith) refl outside_before_1

outside_before_2 : Before used_outside Function (FunctionEnd ∷ []) 2 (In 0)
unfolding rows
outside_before_2 = leaves used_outside Function (FunctionEnd ∷ []) 1 Label (In 0) refl outside_1

outside_2 : UpTo used_outside Function (FunctionEnd ∷ []) 2 (In 0)
unfolding rows
outside_2 = enters used_outside Function (FunctionEnd ∷ []) 2 Undef (In 0) (omega arith) refl outside_before_2

outside_before_3 : Before used_outside Function (FunctionEnd ∷ []) 3 (In 0)
unfolding rows
outside_before_3 = leaves used_outside Function (FunctionEnd ∷ []) 2 Undef (In 0) refl outside_2

outside_3 : UpTo used_outside Function (FunctionEnd ∷ []) 3 (In 0)
unfolding rows
outside_3 = enters used_outside Function (FunctionEnd ∷ []) 3 FunctionEnd (In 0) (omega arith) refl outside_before_3

outside_before_4 : Before used_outside Function (FunctionEnd ∷ []) 4 (After 0)
unfolding rows
outside_before_4 = leaves used_outside Function (FunctionEnd ∷ []) 3 FunctionEnd (In 0) refl outside_3

outside_4 : UpTo used_outside Function (FunctionEnd ∷ []) 4 (In 4)
unfolding rows
outside_4 = enters used_outside Function (FunctionEnd ∷ []) 4 Function (After 0) (omega arith) refl outside_before_4

outside_before_5 : Before used_outside Function (FunctionEnd ∷ []) 5 (In 4)
unfolding rows
outside_before_5 = leaves used_outside Function (FunctionEnd ∷ []) 4 Function (In 4) refl outside_4

outside_5 : UpTo used_outside Function (FunctionEnd ∷ []) 5 (In 4)
unfolding rows
outside_5 = enters used_outside Function (FunctionEnd ∷ []) 5 Label (In 4) (omega arith) refl outside_before_5

outside_before_6 : Before used_outside Function (FunctionEnd ∷ []) 6 (In 4)
unfolding rows
outside_before_6 = leaves used_outside Function (FunctionEnd ∷ []) 5 Label (In 4) refl outside_5

outside_6 : UpTo used_outside Function (FunctionEnd ∷ []) 6 (In 4)
unfolding rows
outside_6 = enters used_outside Function (FunctionEnd ∷ []) 6 Body (In 4) (omega arith) refl outside_before_6

-- Where the value is defined, and that it is defined nowhere else.

value_outside : IsDefinedAt used_outside 5 2
value_outside = record { inst = value; there = refl; result = refl }

outside_at : (m : ℕ) → IsDefinedAt used_outside 5 m → m ≡ 2
outside_at zero d = let r = result_here used_outside 0 5 (bare opcode.FUNCTION) refl d in cc
outside_at (suc zero) d = let r = result_here used_outside 1 5 (bare opcode.LABEL) refl d in cc
outside_at (suc (suc zero)) d = refl
outside_at (suc (suc (suc zero))) d = let r = result_here used_outside 3 5 (bare opcode.FUNCTION_END) refl d in cc
outside_at (suc (suc (suc (suc zero)))) d = let r = result_here used_outside 4 5 (bare opcode.FUNCTION) refl d in cc
outside_at (suc (suc (suc (suc (suc zero))))) d = let r = result_here used_outside 5 5 (bare opcode.LABEL) refl d in cc
outside_at (suc (suc (suc (suc (suc (suc zero)))))) d = let r = result_here used_outside 6 5 (copy 6) refl d in cc
outside_at (suc (suc (suc (suc (suc (suc (suc m))))))) d = let e = d.there in cc

is_local : IsLocalTo used_outside 5 0
unfolding rows
is_local = record {
  place = 2;
  defined = value_outside;
  of = within used_outside Function (FunctionEnd ∷ []) 2 (In 0) outside_2;
  after = omega arith;
  before = λ a. cc;
}

-- The use.

of_outside : IsOfFunction used_outside 6 4
of_outside = within used_outside Function (FunctionEnd ∷ []) 6 (In 4) outside_6

not_in_place : ¬ (IsLocalTo used_outside 5 4)
not_in_place l = let e = outside_at l.place l.defined in let a = l.after in absurd (omega arith)

not_in_scope : ¬ (IsInScope used_outside 6 5)
not_in_scope i =
    let e : i.function ≡ 4 = function_same used_outside 6 i.function 4 i.of of_outside in
    not_in_place (rw e at i.local)

definition : IsDefinition used_outside 4
unfolding rows
definition = record { label = 5; there = refl; of = within used_outside Function (FunctionEnd ∷ []) 5 (In 4) outside_5 }

section : IsOfSection used_outside 6 13
unfolding rows
section = let l : IsLast used_outside Function 6 4 = of_outside.begun in
    IsOfSection.definition Body 4 refl refl l definition

copy_forms : HasForms small (copy 6) (T ∷ R ∷ v ∷ [])
unfolding rows
copy_forms = record {
  row = row opcode.COPY_OBJECT opcode.COPY_OBJECT Body (T ∷ R ∷ v ∷ []) closed;
  rest = [];
  known = refl;
  forms = refl;
  ending = Ends.nothing;
  each = AreOf.more T (OfType 1) (R ∷ v ∷ []) (Result 6 ∷ Id 5 ∷ []) refl
      (AreOf.more R (Result 6) (v ∷ []) (Id 5 ∷ []) refl (AreOf.more v (Id 5) [] [] refl AreOf.none));
}

value_used : IsUse small (copy 6) 2 5 role.Value
value_used = record {
  forms = T ∷ R ∷ v ∷ [];
  has = copy_forms;
  form = v;
  operand = Id 5;
  form_at = refl;
  operand_at = refl;
  role = refl;
  id = refl;
}

pub outside : IsEvidence small 9 used_outside D5 6 (Local 2 2 0)
unfolding is_local
outside =
    IsEvidence.not_in_scope 6 2 5 2 0 role.Value (record { inst = copy 6; there = refl; used = value_used })
    (inr (inr section)) (record { local = is_local; by = refl })
    not_in_scope

other_function_by : (r : Rule) (n : ℕ) (e : Evidence) → IsEvidence small 9 used_outside r n e → e ≡ Local 2 2 4 → ⊥
other_function_by _ _ _ (IsEvidence.not_in_scope n k x m f r u s l h) c =
    let p : m ≡ 2 = cc in
    let q : f ≡ 4 = cc in
    let a = l.local.after in
    let b = l.by in
    absurd (omega (arith, p, q, b))
other_function_by _ _ _ _ c = cc

pub other_function : ¬ (IsEvidence small 9 used_outside D5 6 (Local 2 2 4))
other_function e = other_function_by D5 6 (Local 2 2 4) e refl
