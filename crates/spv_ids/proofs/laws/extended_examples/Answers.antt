use Rattle.std.proofs.Common.{◌≡◌, ◌<◌, ◌⊎◌, ℕ, zero, suc, [], ◌∷◌, Some, refl, arith, inl, inr}
use Rattle.std.specs.Prelude.{slice_get}
use Rattle.spv_module.specs.Example.{small}
use Rattle.spv_module.specs.Operand.{Plain, OfType, Result, Id, Word, Argument, Mention}
use Rattle.spv_module.specs.declared.fault.Rule.{Rule}
use Rattle.spv_module.specs.declared.opcode.TheConstants as opcode
use Rattle.spv_layout.specs.declared.class.Class.TheVariants.{Extended, Function}
use Rattle.spv_layout.specs.declared.form.Form.TheVariants as form
use Rattle.spv_layout.specs.declared.form.Role.TheVariants as role
use Rattle.spv_layout.specs.Row.{repeated}
use Rattle.spv_layout.specs.inner.Row.{row}
use Rattle.spv_layout.specs.Rows.{rows}
use Rattle.spv_layout.specs.Shape.{AreOf, Ends, HasForms, IsUse}
use Rattle.spv_layout.specs.Place.{IsAt}
use Rattle.spv_ids.specs.Definition.{IsDefinedAt, IsMentionedAt}
use Rattle.spv_ids.specs.Order.{IsInOrder}
use Rattle.spv_ids.specs.Broken.{Broken, IsOutOfRange}
use Rattle.spv_ids.specs.Example.{void, extended, mentioned}
use Rattle.spv_ids.specs.inner.Uses.{seen, behind, seen_id, argument_id, IsUsedBefore}
use Rattle.spv_ids.proofs.Used.{IsArgument, IsTold, use_told}
use Rattle.spv_ids.proofs.laws.extended_examples.Goals as goal

-- An argument, and a mention, that nothing defines.

forms : HasForms small (extended (Argument 4))
    (form.OfType ∷ form.Result ∷ form.Id role.Set ∷ form.Word ∷ form.Unseen ∷ [])
unfolding rows
forms = record {
  row = row opcode.EXT_INST opcode.EXT_INST Extended (form.OfType ∷ form.Result ∷ form.Id role.Set ∷ form.Word ∷ [])
      (repeated (form.Unseen ∷ []));
  rest = form.Unseen ∷ [];
  known = refl;
  forms = refl;
  ending = Ends.again (form.Unseen ∷ []) [] (Ends.done (form.Unseen ∷ []));
  each = AreOf.more form.OfType (OfType 1) (form.Result ∷ form.Id role.Set ∷ form.Word ∷ form.Unseen ∷ [])
      (Result 2 ∷ Id 1 ∷ Word 0 ∷ Argument 4 ∷ []) refl
      (AreOf.more form.Result (Result 2) (form.Id role.Set ∷ form.Word ∷ form.Unseen ∷ [])
      (Id 1 ∷ Word 0 ∷ Argument 4 ∷ []) refl
      (AreOf.more (form.Id role.Set) (Id 1) (form.Word ∷ form.Unseen ∷ []) (Word 0 ∷ Argument 4 ∷ []) refl
      (AreOf.more form.Word (Word 0) (form.Unseen ∷ []) (Argument 4 ∷ []) refl
      (AreOf.more form.Unseen (Argument 4) [] [] refl AreOf.none))));
}

used : IsUse small (extended (Argument 4)) 4 4 role.Value
used = record {
  forms = form.OfType ∷ form.Result ∷ form.Id role.Set ∷ form.Word ∷ form.Unseen ∷ [];
  has = forms;
  form = form.Unseen;
  operand = Argument 4;
  form_at = refl;
  operand_at = refl;
  role = refl;
  id = refl;
}

undefined : (o : Plain) (m : ℕ) → ¬ (IsDefinedAt (extended o ∷ []) 4 m)
undefined o zero d = let e = d.there in let f : extended o ≡ d.inst = cc in let g = rw (← f) at d.result in cc
undefined o (suc m) d = let e = d.there in cc

-- What the list defines, uses and mentions.

data IsPlace (n x : ℕ) : Type 0 where
  first : n ≡ 0 → x ≡ 1 → IsPlace n x
  second : n ≡ 1 → x ≡ 2 → IsPlace n x
  third : n ≡ 2 → x ≡ 4 → IsPlace n x

place : (n x : ℕ) → IsDefinedAt mentioned x n → IsPlace n x
place zero x d = let e = d.there in let f : void 1 ≡ d.inst = cc in let g = rw (← f) at d.result in
    IsPlace.first refl cc
place (suc zero) x d = let e = d.there in let f : extended (Mention 4) ≡ d.inst = cc in let g = rw (← f) at d.result in
    IsPlace.second refl cc
place (suc (suc zero)) x d = let e = d.there in let f : void 4 ≡ d.inst = cc in let g = rw (← f) at d.result in
    IsPlace.third refl cc
place (suc (suc (suc n))) x d = let e = d.there in cc

few : (x : ℕ) → x ≡ 1 ⊎ (x ≡ 2 ⊎ x ≡ 4) → ¬ (IsOutOfRange 5 x)
few x (inl e) (inl z) = absurd (omega (arith, e, z))
few x (inl e) (inr l) = absurd (omega (arith, e))
few x (inr (inl e)) (inl z) = absurd (omega (arith, e, z))
few x (inr (inl e)) (inr l) = absurd (omega (arith, e))
few x (inr (inr e)) (inl z) = absurd (omega (arith, e, z))
few x (inr (inr e)) (inr l) = absurd (omega (arith, e))

in_range : (n x : ℕ) → IsPlace n x → ¬ (IsOutOfRange 5 x)
in_range n x (IsPlace.first a b) = few x (inl b)
in_range n x (IsPlace.second a b) = few x (inr (inl b))
in_range n x (IsPlace.third a b) = few x (inr (inr b))

once : (n m x : ℕ) → IsPlace n x → IsPlace m x → m < n → ⊥
once n m x (IsPlace.first a b) (IsPlace.first d e) l = absurd (omega (arith, a, d))
once n m x (IsPlace.first a b) (IsPlace.second d e) l = absurd (omega (arith, b, e))
once n m x (IsPlace.first a b) (IsPlace.third d e) l = absurd (omega (arith, b, e))
once n m x (IsPlace.second a b) (IsPlace.first d e) l = absurd (omega (arith, b, e))
once n m x (IsPlace.second a b) (IsPlace.second d e) l = absurd (omega (arith, a, d))
once n m x (IsPlace.second a b) (IsPlace.third d e) l = absurd (omega (arith, b, e))
once n m x (IsPlace.third a b) (IsPlace.first d e) l = absurd (omega (arith, b, e))
once n m x (IsPlace.third a b) (IsPlace.second d e) l = absurd (omega (arith, b, e))
once n m x (IsPlace.third a b) (IsPlace.third d e) l = absurd (omega (arith, a, d))

no_use : (y k x : ℕ) (o : Plain) → slice_get (seen (void y)) k ≡ Some o → seen_id o ≡ Some x → ⊥
no_use y zero x o h u = let e : Result y ≡ o = cc in let g = rw (← e) at u in cc
no_use y (suc k) x o h u = cc

type_use : (k x : ℕ) (o : Plain) → slice_get (seen (extended (Mention 4))) k ≡ Some o → seen_id o ≡ Some x → x ≡ 1
type_use zero x o h u = let e : OfType 1 ≡ o = cc in let g = rw (← e) at u in cc
type_use (suc zero) x o h u = let e : Result 2 ≡ o = cc in let g = rw (← e) at u in cc
type_use (suc (suc zero)) x o h u = let e : Id 1 ≡ o = cc in let g = rw (← e) at u in cc
type_use (suc (suc (suc zero))) x o h u = let e : Word 0 ≡ o = cc in let g = rw (← e) at u in cc
type_use (suc (suc (suc (suc k)))) x o h u = cc

-- a use is that of %1 by the second instruction
record IsOne (n x : ℕ) : Type 0 where
  pub inst : n ≡ 1
  pub id : x ≡ 1

early_use : (n to x : ℕ) → IsUsedBefore mentioned n to x → IsOne n x
early_use zero to x u = let t = u.there in let e : void 1 ≡ u.inst = cc in let o = rw (← e) at u.operand_at in
    absurd (no_use 1 u.place x u.operand o u.used)
early_use (suc zero) to x u =
    let t = u.there in
    let e : extended (Mention 4) ≡ u.inst = cc in
    let o = rw (← e) at u.operand_at in
    record { inst = refl; id = type_use u.place x u.operand o u.used }
early_use (suc (suc zero)) to x u = let t = u.there in let e : void 4 ≡ u.inst = cc in
    let o = rw (← e) at u.operand_at in absurd (no_use 4 u.place x u.operand o u.used)
early_use (suc (suc (suc n))) to x u = let t = u.there in cc

no_value : (k x : ℕ) (o : Plain) → slice_get (behind (extended (Mention 4))) k ≡ Some o → argument_id o ≡ Some x → ⊥
no_value zero x o h u = let e : Mention 4 ≡ o = cc in let g = rw (← e) at u in cc
no_value (suc k) x o h u = cc

no_argument : (n k x : ℕ) → ¬ (IsArgument mentioned n k x)
no_argument zero k x u = let t = u.there in let e : void 1 ≡ u.inst = cc in let o = rw (← e) at u.operand_at in cc
no_argument (suc zero) k x u = let t = u.there in let e : extended (Mention 4) ≡ u.inst = cc in
    let o = rw (← e) at u.operand_at in no_value k x u.operand o u.used
no_argument (suc (suc zero)) k x u = let t = u.there in let e : void 4 ≡ u.inst = cc in
    let o = rw (← e) at u.operand_at in cc
no_argument (suc (suc (suc n))) k x u = let t = u.there in cc

one_use : (n x : ℕ) → IsTold mentioned n x → IsOne n x
one_use n x (IsTold.early to u) = early_use n to x u
one_use n x (IsTold.late k u) = absurd (no_argument n k x u)

in_void : (y k x : ℕ) → slice_get (Result y ∷ []) k ≡ Some (Mention x) → x ≡ 4
in_void y zero x h = let e : Result y ≡ Mention x = cc in cc
in_void y (suc k) x h = cc

in_extended : (k x : ℕ) → slice_get (OfType 1 ∷ Result 2 ∷ Id 1 ∷ Word 0 ∷ Mention 4 ∷ []) k ≡ Some (Mention x) → x ≡ 4
in_extended zero x h = let e : OfType 1 ≡ Mention x = cc in cc
in_extended (suc zero) x h = let e : Result 2 ≡ Mention x = cc in cc
in_extended (suc (suc zero)) x h = let e : Id 1 ≡ Mention x = cc in cc
in_extended (suc (suc (suc zero))) x h = let e : Word 0 ≡ Mention x = cc in cc
in_extended (suc (suc (suc (suc zero)))) x h = cc
in_extended (suc (suc (suc (suc (suc k))))) x h = cc

one_mention : (n k x : ℕ) → IsMentionedAt mentioned n k x → x ≡ 4
one_mention zero k x m = let t = m.there in let e : void 1 ≡ m.inst = cc in let o = rw (← e) at m.named in
    in_void 1 k x o
one_mention (suc zero) k x m = let t = m.there in let e : extended (Mention 4) ≡ m.inst = cc in
    let o = rw (← e) at m.named in in_extended k x o
one_mention (suc (suc zero)) k x m = let t = m.there in let e : void 4 ≡ m.inst = cc in let o = rw (← e) at m.named in
    in_void 4 k x o
one_mention (suc (suc (suc n))) k x m = let t = m.there in cc

-- No rule is broken.

type_defined : IsDefinedAt mentioned 1 0
type_defined = record { inst = void 1; there = refl; result = refl }

named_defined : IsDefinedAt mentioned 4 2
named_defined = record { inst = void 4; there = refl; result = refl }

in_order : IsInOrder mentioned 1 1
in_order = IsInOrder.lower 0 (omega arith) type_defined

ordered : (n x : ℕ) → IsOne n x → IsInOrder mentioned n x
ordered n x u = rw (u.inst, u.id) in_order

no_function : (f : ℕ) → ¬ (IsAt mentioned f (Function ∷ []))
unfolding rows
no_function zero a = cc
no_function (suc zero) a = cc
no_function (suc (suc zero)) a = cc
no_function (suc (suc (suc f))) a = a

nowhere : (x y m : ℕ) → x ≡ y → IsDefinedAt mentioned y m → ((k : ℕ) → ¬ (IsDefinedAt mentioned x k)) → ⊥
nowhere x y m e d h = h m (rw e d)

unbroken : (r : Rule) (n : ℕ) → ¬ (Broken small 5 mentioned r n)
unbroken _ _ (Broken.result_out_of_range n x d o) = in_range n x (place n x d) o
unbroken _ _ (Broken.use_out_of_range n k x r u o) = let w = one_use n x (use_told small mentioned n k x r u) in
    few x (inl w.id) o
unbroken _ _ (Broken.defined_again n m x d l e) = once n m x (place n x d) (place m x e) l
unbroken _ _ (Broken.undefined n k x r u h) = let w = one_use n x (use_told small mentioned n k x r u) in
    nowhere x 1 0 w.id type_defined h
unbroken _ _ (Broken.not_in_order n k x r u s h) = h (ordered n x (one_use n x (use_told small mentioned n k x r u)))
unbroken _ _ (Broken.not_in_scope n k x r u s (f, l) h) = no_function f l.of.begun.there
unbroken _ _ (Broken.mention_out_of_range n k x m o) = few x (inr (inr (one_mention n k x m))) o
unbroken _ _ (Broken.mention_undefined n k x m h) = nowhere x 4 2 (one_mention n k x m) named_defined h

pub returns : goal.returns
returns c = record {
  argument = Broken.undefined 0 4 4 role.Value (record { inst = extended (Argument 4); there = refl; used = used })
      (undefined (Argument 4));
  mention = Broken.mention_undefined 0 4 4 (record { inst = extended (Mention 4); there = refl; named = refl })
      (undefined (Mention 4));
  later = λ r n b. unbroken r n b;
}
