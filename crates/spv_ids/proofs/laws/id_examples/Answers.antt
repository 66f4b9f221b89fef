use Rattle.std.proofs.Common.{◌≡◌, ℕ, zero, suc, [], ◌∷◌, Some, refl, arith, inl, inr}
use Rattle.std.specs.Prelude.{slice_get}
use Rattle.std.proofs.lemmas.Option.{slice_get_within}
use Rattle.spv_module.specs.Example.{small}
use Rattle.spv_module.specs.Operand.{Plain, Result, Id}
use Rattle.spv_module.specs.declared.fault.Rule.{Rule}
use Rattle.spv_module.specs.declared.fault.Rule.TheVariants.{D2, D4, D5}
use Rattle.spv_module.specs.declared.opcode.TheConstants as opcode
use Rattle.spv_layout.specs.declared.class.Class.TheVariants.{Declaration, Function}
use Rattle.spv_layout.specs.declared.form.Role.TheVariants as role
use Rattle.spv_layout.specs.Row.{repeated}
use Rattle.spv_layout.specs.inner.Row.{row, t, R}
use Rattle.spv_layout.specs.Rows.{rows}
use Rattle.spv_layout.specs.Shape.{AreOf, Ends, HasForms, IsUse}
use Rattle.spv_layout.specs.Place.{IsAt, IsOfSection}
use Rattle.spv_ids.specs.Definition.{IsDefinedAt, IsLocal}
use Rattle.spv_ids.specs.Order.{IsInOrder, IsInScope}
use Rattle.spv_ids.specs.inner.Uses.{seen, seen_id, IsUsedBefore}
use Rattle.spv_ids.proofs.Used.{IsArgument, IsTold, use_told}
use Rattle.spv_ids.specs.Broken.{Broken, IsOutOfRange}
use Rattle.spv_ids.specs.Example.{void, of_void}
use Rattle.spv_ids.proofs.laws.id_examples.Goals as goal

type_forms : HasForms small of_void (R ∷ t ∷ [])
unfolding rows
type_forms = record {
  row = row opcode.TYPE_FUNCTION opcode.TYPE_FUNCTION Declaration (R ∷ t ∷ []) (repeated (t ∷ []));
  rest = [];
  known = refl;
  forms = refl;
  ending = Ends.done (t ∷ []);
  each =
      AreOf.more R (Result 2) (t ∷ []) (Id 1 ∷ []) refl (AreOf.more t (Id 1) [] [] refl AreOf.none);
}

type_used : IsUse small of_void 1 1 role.OfType
type_used = record {
  forms = R ∷ t ∷ [];
  has = type_forms;
  form = t;
  operand = Id 1;
  form_at = refl;
  operand_at = refl;
  role = refl;
  id = refl;
}

defined_first : (x : ℕ) → IsDefinedAt (void x ∷ []) x 0
defined_first x = record { inst = void x; there = refl; result = refl }

once : (r : Rule) (n : ℕ) → Broken small 5 (void 1 ∷ []) r n → r ≡ D2 → ⊥
once _ _ (Broken.result_out_of_range n x d o) e = cc
once _ _ (Broken.use_out_of_range n k x r u o) e = cc
once _ _ (Broken.defined_again n m x a l b) e = let h = slice_get_within (void 1 ∷ []) n a.inst a.there in
    absurd (omega arith)
once _ _ (Broken.undefined n k x r u h) e = cc
once _ _ (Broken.not_in_order n k x r u o h) e = cc
once _ _ (Broken.not_in_scope n k x r u s l h) e = cc
once _ _ (Broken.mention_out_of_range n k x m o) e = cc
once _ _ (Broken.mention_undefined n k x m h) e = cc

none_defined : (m : ℕ) → ¬ (IsDefinedAt (of_void ∷ []) 1 m)
none_defined zero d = let e = d.there in let f : of_void ≡ d.inst = cc in let g = rw (← f) at d.result in cc
none_defined (suc m) d = let e = d.there in cc

not_in_order : ¬ (IsInOrder (of_void ∷ void 1 ∷ []) 0 1)
not_in_order (IsInOrder.lower m h d) = absurd (omega arith)
not_in_order (IsInOrder.announced s o) = let e = o.there in let f : of_void ≡ o.inst = cc in
    let g = rw (← f) at o.same in absurd (omega (arith, g))
not_in_order (IsInOrder.member m s o h a) = absurd (omega arith)

in_range : ¬ (IsOutOfRange 5 4)
in_range (inl e) = absurd (omega (arith, e))
in_range (inr h) = absurd (omega arith)

no_function : (f : ℕ) → ¬ (IsAt (void 1 ∷ of_void ∷ []) f (Function ∷ []))
unfolding rows
no_function zero a = cc
no_function (suc zero) a = cc
no_function (suc (suc f)) a = a

not_scoped : ¬ (IsInScope (void 1 ∷ of_void ∷ []) 1 1)
not_scoped i = no_function i.function i.of.begun.there

not_outside : (r : Rule) (n : ℕ) → Broken small 5 (void 1 ∷ of_void ∷ []) r n → r ≡ D5 → ⊥
not_outside _ _ (Broken.result_out_of_range n x d o) e = cc
not_outside _ _ (Broken.use_out_of_range n k x r u o) e = cc
not_outside _ _ (Broken.defined_again n m x a l b) e = cc
not_outside _ _ (Broken.undefined n k x r u h) e = cc
not_outside _ _ (Broken.not_in_order n k x r u o h) e = cc
not_outside _ _ (Broken.not_in_scope n k x r u s (f, l) h) e = no_function f l.of.begun.there
not_outside _ _ (Broken.mention_out_of_range n k x m o) e = cc
not_outside _ _ (Broken.mention_undefined n k x m h) e = cc

-- in section 9, where no OpFunction stands
declared : IsOfSection (of_void ∷ void 1 ∷ []) 0 11
unfolding rows
declared = IsOfSection.global Declaration refl refl (λ f l. let u = l.up_to in no_first f (omega arith) l.there) where
  no_first : (f : ℕ) → f ≡ 0 → ¬ (IsAt (of_void ∷ void 1 ∷ []) f (Function ∷ []))
  no_first zero e a = cc
  no_first (suc f) e a = absurd (omega (arith, e))

-- the only use is that of %1
no_use : (k x : ℕ) (o : Plain) → slice_get (seen (void 1)) k ≡ Some o → seen_id o ≡ Some x → ⊥
no_use zero x o h u = let e : Result 1 ≡ o = cc in let g = rw (← e) at u in cc
no_use (suc k) x o h u = cc

one_use : (k x : ℕ) (o : Plain) → slice_get (seen of_void) k ≡ Some o → seen_id o ≡ Some x → x ≡ 1
one_use zero x o h u = let e : Result 2 ≡ o = cc in let g = rw (← e) at u in cc
one_use (suc zero) x o h u = let e : Id 1 ≡ o = cc in let g = rw (← e) at u in cc
one_use (suc (suc k)) x o h u = cc

in_order : IsInOrder (void 1 ∷ of_void ∷ []) 1 1
in_order = IsInOrder.lower 0 (omega arith) (record { inst = void 1; there = refl; result = refl })

all_in_order : (n to x : ℕ) → IsUsedBefore (void 1 ∷ of_void ∷ []) n to x → (IsInOrder (void 1 ∷ of_void ∷ []) n x → ⊥)
    → ⊥
all_in_order zero to x u h =
    let t = u.there in
    let e : void 1 ≡ u.inst = cc in
    let o = rw (← e) at u.operand_at in
    no_use u.place x u.operand o u.used
all_in_order (suc zero) to x u h =
    let t = u.there in
    let e : of_void ≡ u.inst = cc in
    let o = rw (← e) at u.operand_at in
    let q = one_use u.place x u.operand o u.used in
    h (rw q in_order)
all_in_order (suc (suc n)) to x u h = let t = u.there in cc

no_argument : (n k x : ℕ) → ¬ (IsArgument (void 1 ∷ of_void ∷ []) n k x)
no_argument zero k x u = let t = u.there in let e : void 1 ≡ u.inst = cc in let o = rw (← e) at u.operand_at in cc
no_argument (suc zero) k x u = let t = u.there in let e : of_void ≡ u.inst = cc in let o = rw (← e) at u.operand_at in
    cc
no_argument (suc (suc n)) k x u = let t = u.there in cc

told_in_order : (n x : ℕ) → IsTold (void 1 ∷ of_void ∷ []) n x → (IsInOrder (void 1 ∷ of_void ∷ []) n x → ⊥) → ⊥
told_in_order n x (IsTold.early to u) h = all_in_order n to x u h
told_in_order n x (IsTold.late k u) h = no_argument n k x u

not_early : (r : Rule) (n : ℕ) → Broken small 5 (void 1 ∷ of_void ∷ []) r n → r ≡ D4 → ⊥
not_early _ _ (Broken.result_out_of_range n x d o) e = cc
not_early _ _ (Broken.use_out_of_range n k x r u o) e = cc
not_early _ _ (Broken.defined_again n m x a l b) e = cc
not_early _ _ (Broken.undefined n k x r u h) e = cc
not_early _ _ (Broken.not_in_order n k x r u o h) e =
    told_in_order n x (use_told small (void 1 ∷ of_void ∷ []) n k x r u) h
not_early _ _ (Broken.not_in_scope n k x r u s l h) e = cc
not_early _ _ (Broken.mention_out_of_range n k x m o) e = cc
not_early _ _ (Broken.mention_undefined n k x m h) e = cc

not_local : ¬ (IsLocal (void 1 ∷ of_void ∷ []) 1)
not_local (f, l) = no_function f l.of.begun.there

pub returns : goal.returns
returns c = record {
  again = Broken.defined_again 1 0 1 (record { inst = void 1; there = refl; result = refl }) (omega arith)
      (record { inst = void 1; there = refl; result = refl });
  once = λ n b. once D2 n b refl;
  out_of_range = Broken.result_out_of_range 0 5 (defined_first 5) (inr (omega arith));
  in_range = in_range;
  undefined = Broken.undefined 0 1 1 role.OfType
      (record { inst = of_void; there = refl; used = type_used }) none_defined;
  in_order = in_order;
  not_in_order = not_in_order;
  early = Broken.not_in_order 0 1 1 role.OfType (record { inst = of_void; there = refl; used = type_used })
      (inr declared) not_in_order;
  not_early = λ n b. not_early D4 n b refl;
  not_local = not_local;
  not_in_scope = not_scoped;
  not_outside = λ n b. not_outside D5 n b refl;
}
