-- Worked examples.
use Rattle.std.proofs.Common.{◌≡◌, ◌≢◌, ◌≤◌, ◌∙◌, ℕ, zero, suc, true, false, List, [], ◌∷◌, Some, nat_eq, take, refl, sym, subst, eq-eqb, arith, inl, inr}
use Rattle.std.specs.Prelude.{slice_get}
use Rattle.std.specs.List.{AllByRecursion}
use Rattle.std.proofs.lemmas.Option.{none-some}
use Rattle.spv_module.specs.declared.opcode.TheConstants.{EXT_INST}
use Rattle.spv_module.specs.Operand.{Plain, OfType, Result, Id, Word, PlainInst}
use Rattle.spv_type_forms.specs.declared.form.Form.TheVariants as form
use Rattle.spv_type_forms.specs.declared.form.Scalar.{Scalar}
use Rattle.spv_type_forms.specs.declared.form.Scalar.TheVariants as scalar
use Rattle.spv_type_forms.specs.declared.form.Sort.TheVariants as sort
use Rattle.spv_type_forms.specs.Form.{form_of}
use Rattle.spv_extended.specs.declared.set.Set.TheVariants.{OpenClStd}
use Rattle.spv_extended.specs.Sets.{set_in}
use Rattle.spv_std_types.specs.declared.condition.Classes.{Classes}
use Rattle.spv_std_types.specs.declared.condition.Condition.{Condition}
use Rattle.spv_std_types.specs.declared.condition.Condition.TheVariants as condition
use Rattle.spv_std_types.specs.declared.condition.Relation.TheVariants as relation
use Rattle.spv_std_types.specs.declared.condition.Subject.TheVariants as subject
use Rattle.spv_std_types.specs.Condition.{Holds, IsClass, IsPointerIn, IsStored}
use Rattle.spv_std_types.specs.Table.{conditions_of, lines}
use Rattle.spv_std_types.specs.Mistyped.{IsMistyped, IsMistypedBy, Mistypes}
use Rattle.spv_std_types.specs.Example.{of, unlike, value}
use Rattle.spv_std_types.proofs.Listing.{fails_at, not_all}

-- where all conditions hold, none is broken
pub kept : (is : List PlainInst) (r x set number : ℕ) (os : List Plain)
    → AllByRecursion (Holds is r os) (conditions_of number) → (a : Condition)
    → ¬ (Mistypes is (OfType r ∷ Result x ∷ Id set ∷ Word number ∷ os) a)
kept is r x set number os h a m = not_all (Holds is r os) (conditions_of number) a m.1 h

-- where those before one hold, and this one does not, it is broken
pub broken : (is : List PlainInst) (r x set number : ℕ) (os : List Plain) (k : ℕ) (a : Condition)
    → set_in is set ≡ OpenClStd → slice_get (conditions_of number) k ≡ Some a
    → AllByRecursion (Holds is r os) (take k (conditions_of number)) → ¬ (Holds is r os a)
    → Mistypes is (OfType r ∷ Result x ∷ Id set ∷ Word number ∷ os) a
broken is r x set number os k a s e h n = (s, fails_at (Holds is r os) (conditions_of number) k a e h n)

pub apart : (a b : ℕ) → nat_eq a b ≡ false → a ≢ b
apart a b f e = let t : nat_eq a b ≡ true = eq-eqb a b e in cc

pub four : ◌≢◌ {A = ℕ} 4 1
four = apart 4 1 refl

pub few : 4 ≤ 4
few = omega arith

pub three : 3 ≤ 3
three = omega arith

pub past_four : 8 ≤ 4 → ⊥
past_four l = omega (arith, l)

pub past_three : 4 ≤ 3 → ⊥
past_three l = omega (arith, l)

pub ints_no_floats : sort.Int ≡ sort.Float → ⊥
ints_no_floats e = cc

pub floats_no_ints : sort.Float ≡ sort.Int → ⊥
floats_no_ints e = cc

pub same_some : (a b : ℕ) → Some a ≡ Some b → a ≡ b
same_some a b e = cc

pub int_widths : (v w : ℕ) → Some (form.Scalar (scalar.Int v)) ≡ Some (form.Scalar (scalar.Int w)) → v ≡ w
int_widths v w e = cc

pub float_widths : (v w : ℕ) → Some (form.Scalar (scalar.Float v)) ≡ Some (form.Scalar (scalar.Float w)) → v ≡ w
float_widths v w e = cc

pub no_int : (v w : ℕ) → Some (form.Scalar (scalar.Float v)) ≡ Some (form.Scalar (scalar.Int w)) → ⊥
no_int v w e = cc

pub no_void : (s : Scalar) → Some (form.Scalar s) ≡ Some form.Void → ⊥
no_void s e = cc

same_class : (a b p q : ℕ) → Some (form.Pointer a p) ≡ Some (form.Pointer b q) → a ≡ b
same_class a b p q e = cc

-- a pointer of another storage class
pub not_in : (is : List PlainInst) (cs : Classes) (t class p : ℕ) → form_of is t ≡ Some (form.Pointer class p)
    → ¬ (IsClass cs class) → ¬ (IsPointerIn is cs t)
not_in is cs t class p e n h = n (subst (IsClass cs) (same_class h.0 class h.1 p (sym h.2 ∙ e)) h.3)

pub private : IsStored 7
private = inr (inr (inl refl))

pub global : IsStored 5
global = inr (inl refl)

pub constant_not_stored : IsStored 0 → ⊥
constant_not_stored s = elim s [
  | inl a ↦ apart 0 4 refl a
  | inr b ↦ elim b [
    | inl a ↦ apart 0 5 refl a
    | inr d ↦ elim d [
      | inl a ↦ apart 0 7 refl a
      | inr f ↦ apart 0 8 refl f
    ]
  ]
]

-- an instruction that is no OpExtInst breaks nothing
pub not_called : (is : List PlainInst) (n : ℕ) (a : Condition) (i : PlainInst) → slice_get is n ≡ Some i
    → nat_eq i.opcode EXT_INST ≡ false → ¬ (IsMistypedBy is n a)
not_called is n a i t f b =
    let one : Some b.inst ≡ Some i = sym b.there ∙ t in
    let same : b.inst ≡ i = cc in
    apart i.opcode EXT_INST f (subst (λ (j : PlainInst). j.opcode ≡ EXT_INST) same b.called)

pub none_first : (n : ℕ) → ¬ (IsMistyped (value 8 ∷ []) n)
none_first zero m = not_called (value 8 ∷ []) 0 m.0 (value 8) refl refl m.1
none_first (suc n) m = absurd (none-some m.1.inst m.1.there)

-- the call of the small module that breaks a condition
pub unlike_mistyped : IsMistypedBy unlike 22 (condition.Relation (subject.Value 0) relation.Same subject.Result)
unfolding lines
unlike_mistyped = record {
  inst = _;
  there = refl;
  called = refl;
  mistyped = broken unlike 9 99 1 0 (of 8 ∷ []) 1 _ refl refl (refl, tt) (apart 8 9 refl);
}
