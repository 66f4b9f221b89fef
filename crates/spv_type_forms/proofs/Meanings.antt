-- What is noted of ids, with one note more.
use Rattle.std.proofs.Common.{◌≡◌, ◌≢◌, ◌∙◌, ◌<◌, ◌⊎◌, ℕ, zero, suc, Bool, true, false, nat_eq, nat_lt, if◌then◌else◌}
use Rattle.std.proofs.Common.{List, [], Option, Some, None, option_and_then, refl, sym, ap, inl, inr, length, get_or}
use Rattle.std.proofs.Common.{get_or-set_same, get_or-set_other, arith}
use Rattle.std.specs.Prelude.{slice_get, IsSome, IsSomeAnd}
use Rattle.std.proofs.Math.ListN.{set, length-set, replicate}
use Rattle.std.proofs.lemmas.Bool.{cases_eq, eq-eqb, leb-true, ltb-true}
use Rattle.std.proofs.lemmas.Option.{none-some, slice_get_within, slice_get-get_or, slice_get_read}
use Rattle.std.proofs.lemmas.Option.{get_or_from_slice_get}
use Rattle.spv_module.specs.declared.opcode.TheConstants as opcode
use Rattle.spv_module.specs.Operand.{PlainInst, result_in, type_in}
use Rattle.spv_module.specs.Width.{definition_of, type_of}
use Rattle.spv_ids.specs.Definition.{IsDefinedAt}
use Rattle.spv_ids.specs.Outcome.{IsDefinitionOf}
use Rattle.spv_type_forms.specs.declared.form.Form.{Form}
use Rattle.spv_type_forms.specs.declared.form.Form.TheVariants as form
use Rattle.spv_type_forms.specs.declared.form.Scalar.TheVariants as scalar
use Rattle.spv_type_forms.specs.declared.form.Sort.{Sort}
use Rattle.spv_type_forms.specs.declared.form.Sort.TheVariants as sort
use Rattle.spv_type_forms.specs.Form.{form_in, form_of}
use Rattle.spv_type_forms.specs.Types.{IsBool, IsData, IsDataForm, HasSort, pointee_in}
use Rattle.spv_type_forms.specs.inner.Tests.{is_int_form}
use Rattle.spv_type_forms.specs.declared.meaning.Meaning.{Meaning}
use Rattle.spv_type_forms.specs.declared.meaning.Meaning.TheVariants as meaning
use Rattle.spv_type_forms.specs.inner.Meaning.{type_meant, typed_by, IsMeaningOf, IsValueOf, IsSaid, IsMeant, AreMeant}
use Rattle.spv_type_forms.specs.inner.Meaning.{is_int, is_bool, is_data, is_wide, is_of_sort, pointee_meant, IsWide}
use Rattle.spv_type_forms.proofs.Lookups.{finds}

-- an instruction is the definition of its result
pub defined_by : (is : List PlainInst) (x n : ℕ) (i : PlainInst) (o : Option ℕ) → IsDefinitionOf is x o
    → slice_get is n ≡ Some i → result_in i.operands ≡ Some x → definition_of is x ≡ Some i
defined_by is x n i None never at r = absurd (never n (record { inst = i; there = at; result = r }))
defined_by is x n i (Some m) one at r =
    let d : IsDefinedAt is x n = record { inst = i; there = at; result = r } in
    let same : n ≡ m = one.only n d in
    finds is x (Some m) one ∙ (rw (← same) at)

-- what is noted of a type, and of a value, is said by its instruction
pub said_form : (i : PlainInst) (f : Form) (m : Meaning) → form_in i ≡ Some f → IsMeaningOf f m → IsSaid i m
said_form i f m d s = record {
  typed = λ t e. absurd (none-some t (sym s.0 ∙ e));
  of_form = λ g e. d ∙ ap Some (sym (let same : g ≡ f = rw e at s.1 in same));
  declares = λ e. rw d refl;
  other = λ g e. let same : f ≡ g = cc in rw (← same) s.2;
}

said_typed_by : (i : PlainInst) (t : ℕ) (b : Bool) → nat_eq i.opcode opcode.FUNCTION ≡ b → type_in i.operands ≡ Some t
    → IsSaid i (if b then meaning.Unknown else meaning.Typed t)
said_typed_by i t true e d =
    record {
      typed = λ u n. absurd (none-some u n);
      of_form = λ g n. absurd (none-some g n);
      declares = λ n. absurd (let no : false ≡ true = n in cc);
      other = λ g n. tt;
    }
said_typed_by i t false e d = record {
  typed = λ u s. (
    d ∙ s,
    λ same.
        let yes : nat_eq i.opcode opcode.FUNCTION ≡ true = eq-eqb i.opcode opcode.FUNCTION same in cc,
  );
  of_form = λ g n. absurd (none-some g n);
  declares = λ n. absurd (let no : false ≡ true = n in cc);
  other = λ g n. tt;
}

pub said_typed : (i : PlainInst) (t : ℕ) → type_in i.operands ≡ Some t → IsSaid i (typed_by i.opcode t)
said_typed i t d = said_typed_by i t (nat_eq i.opcode opcode.FUNCTION) refl d

-- what it says holds of that
pub said_means : (is : List PlainInst) (x : ℕ) (i : PlainInst) (m : Meaning) → definition_of is x ≡ Some i → IsSaid i m
    → IsMeant is x m
said_means is x i m d s = record {
  typed = λ t e. rw d (s.typed t e);
  of_form = λ f e. rw d (s.of_form f e);
  declares = λ e. rw d (s.declares e);
  other = λ f e. s.other f (rw d at e);
}

-- and so what is read of it
typed_in : (o : Option PlainInst) (t : ℕ) → IsSomeAnd o (IsValueOf t)
    → option_and_then (λ i. type_in i.operands) o ≡ Some t
typed_in None t h = absurd h
typed_in (Some i) t h = h.0

pub type_read : (is : List PlainInst) (x : ℕ) (m : Meaning) (t : ℕ) → IsMeant is x m → type_meant m ≡ Some t
    → type_of is x ≡ Some t
type_read is x m t h e = typed_in (definition_of is x) t (h.typed t e)

value_in : (o : Option PlainInst) (t : ℕ) → IsSomeAnd o (IsValueOf t)
    → IsSomeAnd o (λ i. IsSome (type_in i.operands) × (i.opcode ≢ opcode.FUNCTION))
value_in None t h = absurd h
value_in (Some i) t h = (rw h.0 refl, h.1)

pub value_read : (is : List PlainInst) (x : ℕ) (m : Meaning) (t : ℕ) → IsMeant is x m → type_meant m ≡ Some t
    → IsSomeAnd (definition_of is x) (λ i. IsSome (type_in i.operands) × (i.opcode ≢ opcode.FUNCTION))
value_read is x m t h e = value_in (definition_of is x) t (h.typed t e)

-- nothing is meant of an id of which nothing is noted
pub unknown_meant : (is : List PlainInst) (x : ℕ) → IsMeant is x meaning.Unknown
unknown_meant is x = record {
  typed = λ t e. absurd (none-some t e);
  of_form = λ f e. absurd (none-some f e);
  declares = λ e. absurd (let no : false ≡ true = e in cc);
  other = λ f e. tt;
}

-- what is noted of a type is what it is
pub int_meant : (is : List PlainInst) (x : ℕ) (m : Meaning) → IsMeant is x m → is_int m ≡ true
    → is_int_form (form_of is x) ≡ true
int_meant is x (meaning.Int w) h e = rw (h.of_form (form.Scalar (scalar.Int w)) refl) refl
int_meant is x _ h e = cc

pub bool_meant : (is : List PlainInst) (x : ℕ) (m : Meaning) → IsMeant is x m → is_bool m ≡ true → IsBool is x
bool_meant is x meaning.Bool h e = h.of_form (form.Scalar scalar.Bool) refl
bool_meant is x _ h e = cc

pub wide_meant : (is : List PlainInst) (x : ℕ) (m : Meaning) → IsMeant is x m → is_wide m ≡ true → IsWide is x
wide_meant is x (meaning.Int w) h e = (w, inl (h.of_form (form.Scalar (scalar.Int w)) refl), leb-true 32 w e)
wide_meant is x (meaning.Float w) h e = (w, inr (h.of_form (form.Scalar (scalar.Float w)) refl), leb-true 32 w e)
wide_meant is x _ h e = cc

pub sort_meant : (is : List PlainInst) (x : ℕ) (s : Sort) (m : Meaning) → IsMeant is x m → is_of_sort s m ≡ true
    → HasSort s is x
sort_meant is x sort.Int (meaning.Int w) h e = rw (h.of_form (form.Scalar (scalar.Int w)) refl) refl
sort_meant is x sort.Float (meaning.Float w) h e = rw (h.of_form (form.Scalar (scalar.Float w)) refl) refl
sort_meant is x sort.Bool meaning.Bool h e = rw (h.of_form (form.Scalar scalar.Bool) refl) refl
sort_meant is x s _ h e = cc

pub pointee_read : (is : List PlainInst) (x : ℕ) (m : Meaning) (p : ℕ) → IsMeant is x m → pointee_meant m ≡ Some p
    → pointee_in (form_of is x) ≡ Some p
pointee_read is x (meaning.UniformConstant q) p h e = rw (h.of_form (form.Pointer 0 q) refl) e
pointee_read is x (meaning.Input q) p h e = rw (h.of_form (form.Pointer 1 q) refl) e
pointee_read is x (meaning.Workgroup q) p h e = rw (h.of_form (form.Pointer 4 q) refl) e
pointee_read is x (meaning.CrossWorkgroup q) p h e = rw (h.of_form (form.Pointer 5 q) refl) e
pointee_read is x (meaning.Local q) p h e = rw (h.of_form (form.Pointer 7 q) refl) e
pointee_read is x (meaning.Generic q) p h e = rw (h.of_form (form.Pointer 8 q) refl) e
pointee_read is x _ p h e = cc

data_in : (o : Option Form) → IsSome o → ((f : Form) → o ≡ Some f → IsDataForm f) → IsSomeAnd o IsDataForm
data_in None s h = absurd (let no : false ≡ true = s in cc)
data_in (Some f) s h = h f refl

pub data_meant : (is : List PlainInst) (x : ℕ) (m : Meaning) → IsMeant is x m → is_data m ≡ true → IsData is x
data_meant is x meaning.Declared h e = data_in (form_of is x) (h.declares refl) h.other
data_meant is x meaning.Bool h e = rw (h.of_form (form.Scalar scalar.Bool) refl) tt
data_meant is x (meaning.Int w) h e = rw (h.of_form (form.Scalar (scalar.Int w)) refl) tt
data_meant is x (meaning.Float w) h e = rw (h.of_form (form.Scalar (scalar.Float w)) refl) tt
data_meant is x meaning.Struct h e = rw (h.of_form form.Struct refl) tt
data_meant is x (meaning.Vector2 c) h e = rw (h.of_form (form.Vector c 2) refl) tt
data_meant is x (meaning.Vector3 c) h e = rw (h.of_form (form.Vector c 3) refl) tt
data_meant is x (meaning.Vector4 c) h e = rw (h.of_form (form.Vector c 4) refl) tt
data_meant is x (meaning.Vector8 c) h e = rw (h.of_form (form.Vector c 8) refl) tt
data_meant is x (meaning.Vector16 c) h e = rw (h.of_form (form.Vector c 16) refl) tt
data_meant is x (meaning.UniformConstant p) h e = rw (h.of_form (form.Pointer 0 p) refl) tt
data_meant is x (meaning.Input p) h e = rw (h.of_form (form.Pointer 1 p) refl) tt
data_meant is x (meaning.Workgroup p) h e = rw (h.of_form (form.Pointer 4 p) refl) tt
data_meant is x (meaning.CrossWorkgroup p) h e = rw (h.of_form (form.Pointer 5 p) refl) tt
data_meant is x (meaning.Local p) h e = rw (h.of_form (form.Pointer 7 p) refl) tt
data_meant is x (meaning.Generic p) h e = rw (h.of_form (form.Pointer 8 p) refl) tt
data_meant is x (meaning.Object o) h e = rw (h.of_form (form.Object o) refl) tt
data_meant is x _ h e = cc

set_same : (l : List Meaning) (n : ℕ) (v a : Meaning) → n < length l → slice_get (set l n v) n ≡ Some a → v ≡ a
set_same l n v a h s =
    let g : get_or (set l n v) n meaning.Unknown ≡ a = get_or_from_slice_get (set l n v) n a meaning.Unknown s in
    sym (get_or-set_same l n v meaning.Unknown h) ∙ g

set_other : (l : List Meaning) (n k : ℕ) (v a : Meaning) → k ≢ n → slice_get (set l n v) k ≡ Some a
    → slice_get l k ≡ Some a
set_other l n k v a ne s =
    let w : k < length (set l n v) = slice_get_within (set l n v) k a s in
    let w' : k < length l = omega (arith, length-set {A = Meaning}) in
    let g : get_or (set l n v) k meaning.Unknown ≡ a = get_or_from_slice_get (set l n v) k a meaning.Unknown s in
    let e : get_or l k meaning.Unknown ≡ a = sym (get_or-set_other l n k v meaning.Unknown ne) ∙ g in
    slice_get-get_or l k meaning.Unknown w' ∙ ap Some e

meant_at : (is : List PlainInst) (l : List Meaning) (n k : ℕ) (v a : Meaning) → n < length l → AreMeant is l
    → IsMeant is n v
    → slice_get (set l n v) k ≡ Some a → (k ≡ n) ⊎ (k ≡ n → ⊥) → IsMeant is k a
meant_at is l n k v a h old new s (inl e) =
    let t : v ≡ a = set_same l n v a h (rw e at s) in
    rw (e, ← t) new
meant_at is l n k v a h old new s (inr e) = old k a (set_other l n k v a e s)

pub meant_set : (is : List PlainInst) (l : List Meaning) (n : ℕ) (v : Meaning) → n < length l → AreMeant is l
    → IsMeant is n v → AreMeant is (set l n v)
meant_set is l n v h old new = λ k a s. meant_at is l n k v a h old new s (cases_eq k n)

-- what was read of the list
pub noted_at : (l : List Meaning) (n : ℕ) (a v : Meaning) → true ≡ nat_lt n (length l) → a ≡ get_or l n a → a ≡ v
    → slice_get l n ≡ Some v
noted_at l n a v t e s =
    let w : n < length l = ltb-true n (length l) (sym t) in
    slice_get_read l (length l) n a refl w e ∙ ap Some s

-- nothing is noted
read : (n k : ℕ) (a : Meaning) → slice_get (replicate n meaning.Unknown) k ≡ Some a → meaning.Unknown ≡ a
read zero k a h = absurd (let no : None ≡ Some a = h in cc)
read (suc n) zero a h = cc
read (suc n) (suc k) a h = read n k a h

pub nothing_meant : (is : List PlainInst) (l : List Meaning) (n : ℕ) → l ≡ replicate n meaning.Unknown → AreMeant is l
nothing_meant is l n e = λ k a h. let s : meaning.Unknown ≡ a = read n k a (rw e at h) in rw (← s) (unknown_meant is k)

no_element : (k : ℕ) (a : Meaning) → slice_get {X = Meaning} [] k ≡ Some a → ⊥
no_element zero a h = let no : None ≡ Some a = h in cc
no_element (suc k) a h = let no : None ≡ Some a = h in cc

pub none_meant : (is : List PlainInst) → AreMeant is []
none_meant is = λ k a h. absurd (no_element k a h)
