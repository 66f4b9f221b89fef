use Rattle.std.proofs.Common.{◌≡◌, ◌≤◌, ℕ, zero, suc, [], ◌∷◌, Some, true, false, refl, arith, inr}
use Rattle.std.specs.Prelude.{slice_get}
use Rattle.spv_module.specs.Example.{small}
use Rattle.spv_module.specs.Operand.{Plain, OfType, Result, Id}
use Rattle.spv_module.specs.declared.fault.Rule.{Rule}
use Rattle.spv_module.specs.declared.fault.Rule.TheVariants.{D5}
use Rattle.spv_module.specs.declared.opcode.TheConstants as opcode
use Rattle.spv_layout.specs.declared.class.Class.TheVariants.{Undef, Body, Function, FunctionEnd, Label}
use Rattle.spv_layout.specs.declared.form.Role.TheVariants as role
use Rattle.spv_layout.specs.Example.{bare}
use Rattle.spv_layout.specs.Row.{closed}
use Rattle.spv_layout.specs.inner.Row.{row, v, T, R}
use Rattle.spv_layout.specs.Rows.{rows}
use Rattle.spv_layout.specs.Shape.{AreOf, Ends, HasForms, IsUse}
use Rattle.spv_layout.specs.Place.{IsAt, IsLast, IsOfFunction, IsDefinition, IsOfSection}
use Rattle.spv_layout.specs.inner.Span.{Outside, In, After, UpTo, Before}
use Rattle.spv_layout.proofs.Spans.{before_first, enters, leaves, within}
use Rattle.spv_layout.proofs.Places.{function_same}
use Rattle.spv_ids.specs.Definition.{IsDefinedAt, IsLocalTo, IsLocal}
use Rattle.spv_ids.specs.Order.{IsInScope}
use Rattle.spv_ids.specs.inner.Uses.{seen, seen_id, IsUsedBefore}
use Rattle.spv_ids.specs.Broken.{Broken}
use Rattle.spv_ids.specs.Example.{value, copy, used_inside, used_outside, between}
use Rattle.spv_ids.proofs.Used.{IsArgument, IsTold, use_told}
use Rattle.spv_ids.proofs.laws.scope_examples.Goals as goal

-- The functions that the instructions are of.

inside_before_0 : Before used_inside Function (FunctionEnd ∷ []) 0 Outside
inside_before_0 = before_first used_inside Function (FunctionEnd ∷ [])

inside_0 : UpTo used_inside Function (FunctionEnd ∷ []) 0 (In 0)
unfolding rows
inside_0 = enters used_inside Function (FunctionEnd ∷ []) 0 Function Outside (omega arith) refl inside_before_0

inside_before_1 : Before used_inside Function (FunctionEnd ∷ []) 1 (In 0)
unfolding rows
inside_before_1 = leaves used_inside Function (FunctionEnd ∷ []) 0 Function (In 0) refl inside_0

inside_1 : UpTo used_inside Function (FunctionEnd ∷ []) 1 (In 0)
unfolding rows
inside_1 = enters used_inside Function (FunctionEnd ∷ []) 1 Label (In 0) (omega arith) refl inside_before_1

inside_before_2 : Before used_inside Function (FunctionEnd ∷ []) 2 (In 0)
unfolding rows
inside_before_2 = leaves used_inside Function (FunctionEnd ∷ []) 1 Label (In 0) refl inside_1

inside_2 : UpTo used_inside Function (FunctionEnd ∷ []) 2 (In 0)
unfolding rows
inside_2 = enters used_inside Function (FunctionEnd ∷ []) 2 Undef (In 0) (omega arith) refl inside_before_2

inside_before_3 : Before used_inside Function (FunctionEnd ∷ []) 3 (In 0)
unfolding rows
inside_before_3 = leaves used_inside Function (FunctionEnd ∷ []) 2 Undef (In 0) refl inside_2

inside_3 : UpTo used_inside Function (FunctionEnd ∷ []) 3 (In 0)
unfolding rows
inside_3 = enters used_inside Function (FunctionEnd ∷ []) 3 Body (In 0) (omega arith) refl inside_before_3

outside_before_0 : Before used_outside Function (FunctionEnd ∷ []) 0 Outside
outside_before_0 = before_first used_outside Function (FunctionEnd ∷ [])

outside_0 : UpTo used_outside Function (FunctionEnd ∷ []) 0 (In 0)
unfolding rows
outside_0 = enters used_outside Function (FunctionEnd ∷ []) 0 Function Outside (omega arith) refl outside_before_0

outside_before_1 : Before used_outside Function (FunctionEnd ∷ []) 1 (In 0)
unfolding rows
outside_before_1 = leaves used_outside Function (FunctionEnd ∷ []) 0 Function (In 0) refl outside_0

outside_1 : UpTo used_outside Function (FunctionEnd ∷ []) 1 (In 0)
unfolding rows
outside_1 = enters used_outside Function (FunctionEnd ∷ []) 1 Label (In 0) (omega arith) refl outside_before_1

outside_before_2 : Before used_outside Function (FunctionEnd ∷ []) 2 (In 0)
unfolding rows
outside_before_2 = leaves used_outside Function (FunctionEnd ∷ []) 1 Label (In 0) refl outside_1

outside_2 : UpTo used_outside Function (FunctionEnd ∷ []) 2 (In 0)
unfolding rows
outside_2 = enters used_outside Function (FunctionEnd ∷ []) 2 Undef (In 0) (omega arith) refl outside_before_2

outside_before_3 : Before used_outside Function (FunctionEnd ∷ []) 3 (In 0)
unfolding rows
outside_before_3 = leaves used_outside Function (FunctionEnd ∷ []) 2 Undef (In 0) refl outside_2

outside_3 : UpTo used_outside Function (FunctionEnd ∷ []) 3 (In 0)
unfolding rows
outside_3 = enters used_outside Function (FunctionEnd ∷ []) 3 FunctionEnd (In 0) (omega arith) refl outside_before_3

outside_before_4 : Before used_outside Function (FunctionEnd ∷ []) 4 (After 0)
unfolding rows
outside_before_4 = leaves used_outside Function (FunctionEnd ∷ []) 3 FunctionEnd (In 0) refl outside_3

outside_4 : UpTo used_outside Function (FunctionEnd ∷ []) 4 (In 4)
unfolding rows
outside_4 = enters used_outside Function (FunctionEnd ∷ []) 4 Function (After 0) (omega arith) refl outside_before_4

outside_before_5 : Before used_outside Function (FunctionEnd ∷ []) 5 (In 4)
unfolding rows
outside_before_5 = leaves used_outside Function (FunctionEnd ∷ []) 4 Function (In 4) refl outside_4

outside_5 : UpTo used_outside Function (FunctionEnd ∷ []) 5 (In 4)
unfolding rows
outside_5 = enters used_outside Function (FunctionEnd ∷ []) 5 Label (In 4) (omega arith) refl outside_before_5

outside_before_6 : Before used_outside Function (FunctionEnd ∷ []) 6 (In 4)
unfolding rows
outside_before_6 = leaves used_outside Function (FunctionEnd ∷ []) 5 Label (In 4) refl outside_5

outside_6 : UpTo used_outside Function (FunctionEnd ∷ []) 6 (In 4)
unfolding rows
outside_6 = enters used_outside Function (FunctionEnd ∷ []) 6 Body (In 4) (omega arith) refl outside_before_6

-- Where the value is defined, and that it is defined nowhere else.

value_inside : IsDefinedAt used_inside 5 2
value_inside = record { inst = value; there = refl; result = refl }

value_outside : IsDefinedAt used_outside 5 2
value_outside = record { inst = value; there = refl; result = refl }

outside_at : (m : ℕ) → IsDefinedAt used_outside 5 m → m ≡ 2
outside_at zero d = let e = d.there in let f : bare opcode.FUNCTION ≡ d.inst = cc in let g = rw (← f) at d.result in cc
outside_at (suc zero) d = let e = d.there in let f : bare opcode.LABEL ≡ d.inst = cc in let g = rw (← f) at d.result in
    cc
outside_at (suc (suc zero)) d = refl
outside_at (suc (suc (suc zero))) d = let e = d.there in let f : bare opcode.FUNCTION_END ≡ d.inst = cc in
    let g = rw (← f) at d.result in cc
outside_at (suc (suc (suc (suc zero)))) d = let e = d.there in let f : bare opcode.FUNCTION ≡ d.inst = cc in
    let g = rw (← f) at d.result in cc
outside_at (suc (suc (suc (suc (suc zero))))) d = let e = d.there in let f : bare opcode.LABEL ≡ d.inst = cc in
    let g = rw (← f) at d.result in cc
outside_at (suc (suc (suc (suc (suc (suc zero)))))) d = let e = d.there in let f : copy 6 ≡ d.inst = cc in
    let g = rw (← f) at d.result in cc
outside_at (suc (suc (suc (suc (suc (suc (suc m))))))) d = let e = d.there in cc

-- nothing defines the type
no_type : (m : ℕ) → ¬ (IsDefinedAt used_inside 1 m)
no_type zero d = let e = d.there in let f : bare opcode.FUNCTION ≡ d.inst = cc in let g = rw (← f) at d.result in cc
no_type (suc zero) d = let e = d.there in let f : bare opcode.LABEL ≡ d.inst = cc in let g = rw (← f) at d.result in cc
no_type (suc (suc zero)) d = let e = d.there in let f : value ≡ d.inst = cc in let g = rw (← f) at d.result in cc
no_type (suc (suc (suc zero))) d = let e = d.there in let f : copy 6 ≡ d.inst = cc in let g = rw (← f) at d.result in cc
no_type (suc (suc (suc (suc zero)))) d = let e = d.there in let f : bare opcode.FUNCTION_END ≡ d.inst = cc in
    let g = rw (← f) at d.result in cc
no_type (suc (suc (suc (suc (suc m))))) d = let e = d.there in cc

-- In its function.

of_inside : IsOfFunction used_inside 3 0
of_inside = within used_inside Function (FunctionEnd ∷ []) 3 (In 0) inside_3

no_end : ¬ (IsAt used_inside 2 (FunctionEnd ∷ []))
unfolding rows
no_end a = cc

in_place : IsLocalTo used_inside 5 0
in_place = record {
  place = 2;
  defined = value_inside;
  of = within used_inside Function (FunctionEnd ∷ []) 2 (In 0) inside_2;
  after = omega arith;
  before = no_end;
}

in_scope : IsInScope used_inside 3 5
in_scope = record { function = 0; of = of_inside; local = in_place }

-- the uses are those of the type and of the value
type_used : (k x : ℕ) (o : Plain) → slice_get (seen value) k ≡ Some o → seen_id o ≡ Some x → x ≡ 1
type_used zero x o h u = let e : OfType 1 ≡ o = cc in let g = rw (← e) at u in cc
type_used (suc zero) x o h u = let e : Result 5 ≡ o = cc in let g = rw (← e) at u in cc
type_used (suc (suc k)) x o h u = cc

both_used : (k x : ℕ) (o : Plain) → slice_get (seen (copy 6)) k ≡ Some o → seen_id o ≡ Some x → (x ≡ 1 → ⊥) → x ≡ 5
both_used zero x o h u n = let e : OfType 1 ≡ o = cc in let g = rw (← e) at u in absurd (n cc)
both_used (suc zero) x o h u n = let e : Result 6 ≡ o = cc in let g = rw (← e) at u in cc
both_used (suc (suc zero)) x o h u n = let e : Id 5 ≡ o = cc in let g = rw (← e) at u in cc
both_used (suc (suc (suc k))) x o h u n = cc

not_type : (x : ℕ) → IsLocal used_inside x → x ≡ 1 → ⊥
not_type x (f, l) e = no_type l.place (rw e at l.defined)

all_in_scope : (n to x : ℕ) → IsUsedBefore used_inside n to x → IsLocal used_inside x → (IsInScope used_inside n x → ⊥)
    → ⊥
all_in_scope zero to x u l h = let t = u.there in let e : bare opcode.FUNCTION ≡ u.inst = cc in
    let o = rw (← e) at u.operand_at in cc
all_in_scope (suc zero) to x u l h = let t = u.there in let e : bare opcode.LABEL ≡ u.inst = cc in
    let o = rw (← e) at u.operand_at in cc
all_in_scope (suc (suc zero)) to x u l h =
    let t = u.there in
    let e : value ≡ u.inst = cc in
    let o = rw (← e) at u.operand_at in
    not_type x l (type_used u.place x u.operand o u.used)
all_in_scope (suc (suc (suc zero))) to x u l h =
    let t = u.there in
    let e : copy 6 ≡ u.inst = cc in
    let o = rw (← e) at u.operand_at in
    let q = both_used u.place x u.operand o u.used (not_type x l) in
    h (rw q in_scope)
all_in_scope (suc (suc (suc (suc zero)))) to x u l h = let t = u.there in
    let e : bare opcode.FUNCTION_END ≡ u.inst = cc in let o = rw (← e) at u.operand_at in cc
all_in_scope (suc (suc (suc (suc (suc n))))) to x u l h = let t = u.there in cc

no_argument : (n k x : ℕ) → ¬ (IsArgument used_inside n k x)
no_argument zero k x u = let t = u.there in let e : bare opcode.FUNCTION ≡ u.inst = cc in
    let o = rw (← e) at u.operand_at in cc
no_argument (suc zero) k x u = let t = u.there in let e : bare opcode.LABEL ≡ u.inst = cc in
    let o = rw (← e) at u.operand_at in cc
no_argument (suc (suc zero)) k x u = let t = u.there in let e : value ≡ u.inst = cc in
    let o = rw (← e) at u.operand_at in cc
no_argument (suc (suc (suc zero))) k x u = let t = u.there in let e : copy 6 ≡ u.inst = cc in
    let o = rw (← e) at u.operand_at in cc
no_argument (suc (suc (suc (suc zero)))) k x u = let t = u.there in let e : bare opcode.FUNCTION_END ≡ u.inst = cc in
    let o = rw (← e) at u.operand_at in cc
no_argument (suc (suc (suc (suc (suc n))))) k x u = let t = u.there in cc

told_in_scope : (n x : ℕ) → IsTold used_inside n x → IsLocal used_inside x → (IsInScope used_inside n x → ⊥) → ⊥
told_in_scope n x (IsTold.early to u) l h = all_in_scope n to x u l h
told_in_scope n x (IsTold.late k u) l h = no_argument n k x u

not_broken : (r : Rule) (n : ℕ) → Broken small 9 used_inside r n → r ≡ D5 → ⊥
not_broken _ _ (Broken.result_out_of_range n x d o) e = cc
not_broken _ _ (Broken.use_out_of_range n k x r u o) e = cc
not_broken _ _ (Broken.defined_again n m x a l b) e = cc
not_broken _ _ (Broken.undefined n k x r u h) e = cc
not_broken _ _ (Broken.not_in_order n k x r u o h) e = cc
not_broken _ _ (Broken.not_in_scope n k x r u s l h) e = told_in_scope n x (use_told small used_inside n k x r u) l h
not_broken _ _ (Broken.mention_out_of_range n k x m o) e = cc
not_broken _ _ (Broken.mention_undefined n k x m h) e = cc

-- Outside it.

of_outside : IsOfFunction used_outside 6 4
of_outside = within used_outside Function (FunctionEnd ∷ []) 6 (In 4) outside_6

not_in_place : ¬ (IsLocalTo used_outside 5 4)
not_in_place l = let e = outside_at l.place l.defined in let a = l.after in absurd (omega arith)

not_in_scope : ¬ (IsInScope used_outside 6 5)
not_in_scope i =
    let e : i.function ≡ 4 = function_same used_outside 6 i.function 4 i.of of_outside in
    not_in_place (rw e at i.local)

is_local : IsLocal used_outside 5
unfolding rows
is_local = (
  0,
  record {
    place = 2;
    defined = value_outside;
    of = within used_outside Function (FunctionEnd ∷ []) 2 (In 0) outside_2;
    after = omega arith;
    before = λ a. cc;
  },
)

last_of : (n f : ℕ) → IsOfFunction used_outside n f → IsLast used_outside Function n f
last_of n f o = o.begun

definition : IsDefinition used_outside 4
unfolding rows
definition = record { label = 5; there = refl; of = within used_outside Function (FunctionEnd ∷ []) 5 (In 4) outside_5 }

section : IsOfSection used_outside 6 13
unfolding rows
section = IsOfSection.definition Body 4 refl refl (last_of 6 4 of_outside) definition

copy_forms : HasForms small (copy 6) (T ∷ R ∷ v ∷ [])
unfolding rows
copy_forms = record {
  row = row opcode.COPY_OBJECT opcode.COPY_OBJECT Body (T ∷ R ∷ v ∷ []) closed;
  rest = [];
  known = refl;
  forms = refl;
  ending = Ends.nothing;
  each = AreOf.more T (OfType 1) (R ∷ v ∷ []) (Result 6 ∷ Id 5 ∷ []) refl
      (AreOf.more R (Result 6) (v ∷ []) (Id 5 ∷ []) refl (AreOf.more v (Id 5) [] [] refl AreOf.none));
}

value_used : IsUse small (copy 6) 2 5 role.Value
value_used = record {
  forms = T ∷ R ∷ v ∷ [];
  has = copy_forms;
  form = v;
  operand = Id 5;
  form_at = refl;
  operand_at = refl;
  role = refl;
  id = refl;
}

-- An instruction between functions is of none.

between_at : (m : ℕ) → IsDefinedAt between 2 m → m ≡ 2
between_at zero d = let e = d.there in let f : bare opcode.FUNCTION ≡ d.inst = cc in let g = rw (← f) at d.result in cc
between_at (suc zero) d = let e = d.there in let f : bare opcode.FUNCTION_END ≡ d.inst = cc in
    let g = rw (← f) at d.result in cc
between_at (suc (suc zero)) d = refl
between_at (suc (suc (suc m))) d = let e = d.there in cc

function_between : (f : ℕ) → IsAt between f (Function ∷ []) → f ≤ 1
unfolding rows
function_between zero h = omega arith
function_between (suc zero) h = omega arith
function_between (suc (suc zero)) h = let no : false ≡ true = h in cc
function_between (suc (suc (suc f))) h = absurd h

end_between : IsAt between 1 (FunctionEnd ∷ [])
unfolding rows
end_between = refl

not_between : ¬ (IsLocal between 2)
not_between l =
    let at : l.1.place ≡ 2 = between_at l.1.place l.1.defined in
    let before : l.0 ≤ 1 = function_between l.0 l.1.of.begun.there in
    l.1.of.not_ended 1 before (omega arith) end_between

pub returns : goal.returns
returns c = record {
  in_place = in_place;
  in_scope = in_scope;
  not_broken = λ n b. not_broken D5 n b refl;
  not_in_place = not_in_place;
  not_in_scope = not_in_scope;
  broken = Broken.not_in_scope 6 2 5 role.Value (record { inst = copy 6; there = refl; used = value_used })
      (inr (inr section)) is_local not_in_scope;
  between = not_between;
}
