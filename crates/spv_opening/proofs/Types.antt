-- What ids declare is the same in alike lists.
use Rattle.std.proofs.Common.{◌≡◌, ◌∙◌, ◌+◌, ℕ, List, [], ◌∷◌, Option, Some, None, refl, sym, ap, subst, length, nat_eq}
use Rattle.std.proofs.Common.{if◌then◌else◌}
use Rattle.std.specs.Prelude.{slice_get, option_and_then, option_map, IsSomeAnd, nat_le, ◌&&◌, ◌||◌, IsTrue}
use Rattle.spv_module.specs.Operand.{PlainInst, type_in}
use Rattle.spv_module.specs.Width.{definition_of, type_of}
use Rattle.spv_module.specs.declared.opcode.TheConstants as opcode
use Rattle.spv_type_forms.specs.declared.form.Form.{Form}
use Rattle.spv_type_forms.specs.declared.form.Form.TheVariants as form
use Rattle.spv_type_forms.specs.declared.form.Components.{Components}
use Rattle.spv_type_forms.specs.Definitions.{IsConstant, IsGlobal}
use Rattle.spv_type_forms.specs.Form.{form_in, form_of}
use Rattle.spv_type_forms.specs.declared.objects.Image.{Image}
use Rattle.spv_type_forms.specs.Objects.{enumerant_in, image_in, image_of, pipe_access_in, pipe_access_of, addressing_of}
use Rattle.spv_type_forms.specs.Parts.{number_in, constant_of, length_of, after_result, members_of, id_in, part_in}
use Rattle.spv_type_forms.specs.Parts.{part_of, count_in, count_of, ArePartsFrom, AreParts}
use Rattle.spv_type_forms.specs.Reach.{AreWithin}
use Rattle.spv_type_forms.specs.Types.{scalar_in, components_in, components_of}
use Rattle.spv_type_forms.specs.Values.{types_of}
use Rattle.spv_opening.proofs.Alike.{Alike, AlikeOption, Looks, definitions, same_at, told_same}
use Rattle.spv_opening.proofs.Spots.{section}

-- What is told of the definition of an id.

pub of_definition : (A : Type 0) (p : PlainInst → Option A) → ((i j : PlainInst) → Looks i j → p i ≡ p j)
    → (is js : List PlainInst) → Alike is js → (x : ℕ)
    → option_and_then p (definition_of is x) ≡ option_and_then p (definition_of js x)
of_definition A p h is js a x = by (definition_of is x) (definition_of js x) (definitions is js a x)
  where
    by : (o q : Option PlainInst) → AlikeOption o q → option_and_then p o ≡ option_and_then p q
    by _ _ AlikeOption.neither = refl
    by _ _ (AlikeOption.some i j l) = h i j l

pub opcode_of_definition : (P : ℕ → Type 0) (is js : List PlainInst) → Alike is js → (x : ℕ)
    → IsSomeAnd (definition_of is x) (λ d. P d.opcode) → IsSomeAnd (definition_of js x) (λ d. P d.opcode)
opcode_of_definition P is js a x h = by (definition_of is x) (definition_of js x) (definitions is js a x) h
  where
    by : (o q : Option PlainInst) → AlikeOption o q → IsSomeAnd o (λ d. P d.opcode) → IsSomeAnd q (λ d. P d.opcode)
    by _ _ AlikeOption.neither h = h
    by _ _ (AlikeOption.some i j l) h = subst P l.opcode h

pub and_then : (A B : Type 0) (f g : A → Option B) → ((x : A) → f x ≡ g x) → (o : Option A)
    → option_and_then f o ≡ option_and_then g o
and_then A B f g h None = refl
and_then A B f g h (Some x) = h x

pub mapped : (A B : Type 0) (f g : A → B) → ((x : A) → f x ≡ g x) → (o : Option A) → option_map f o ≡ option_map g o
mapped A B f g h None = refl
mapped A B f g h (Some x) = ap Some (h x)

same_form : (i j : PlainInst) → Looks i j → form_in i ≡ form_in j
same_form = told_same (Option Form) form_in None (λ k call. rw call refl)

pub forms : (is js : List PlainInst) → Alike is js → (t : ℕ) → form_of is t ≡ form_of js t
forms = of_definition Form form_in same_form

pub types : (is js : List PlainInst) → Alike is js → (x : ℕ) → type_of is x ≡ type_of js x
types = of_definition ℕ (λ i. type_in i.operands) (λ i j l. l.type)

pub constants : (is js : List PlainInst) → Alike is js → (x : ℕ) → constant_of is x ≡ constant_of js x
constants = of_definition ℕ (λ i. if nat_eq i.opcode opcode.CONSTANT then number_in i.operands else None)
    (told_same (Option ℕ) (λ i. if nat_eq i.opcode opcode.CONSTANT then number_in i.operands else None) None
    (λ k call. rw call refl))

lengths : (is js : List PlainInst) → Alike is js → (x : ℕ) → length_of is x ≡ length_of js x
lengths = of_definition ℕ (λ i. if nat_eq i.opcode opcode.CONSTANT
    || nat_eq i.opcode opcode.SPEC_CONSTANT then number_in i.operands else None)
    (told_same (Option ℕ) (λ i. if nat_eq i.opcode opcode.CONSTANT
    || nat_eq i.opcode opcode.SPEC_CONSTANT then number_in i.operands else None) None (λ k call. rw call refl))

pub array_lengths : (is js : List PlainInst) → Alike is js → (x : ℕ) → length_of is x ≡ length_of js x
array_lengths = lengths

pub members : (is js : List PlainInst) → Alike is js → (t : ℕ) → members_of is t ≡ members_of js t
members is js a t = by (definition_of is t) (definition_of js t) (definitions is js a t)
  where
    by : (o q : Option PlainInst) → AlikeOption o q
        → option_map (λ (i : PlainInst). after_result i.operands) o ≡ option_map
        (λ (i : PlainInst). after_result i.operands) q
    by _ _ AlikeOption.neither = refl
    by _ _ (AlikeOption.some i j l) = ap Some l.members

pub types_of_all : (is js : List PlainInst) → Alike is js → (xs : List ℕ) → types_of is xs ≡ types_of js xs
types_of_all is js a [] = refl
types_of_all is js a (x ∷ xs) =
    ap (option_and_then (λ t. option_map (λ ts. t ∷ ts) (types_of is xs))) (types is js a x)
    ∙ and_then ℕ (List ℕ) (λ t. option_map (λ ts. t ∷ ts) (types_of is xs))
    (λ t. option_map (λ ts. t ∷ ts) (types_of js xs))
    (λ t. ap (option_map (λ ts. t ∷ ts)) (types_of_all is js a xs)) (type_of js x)

-- Parts.

part_by : (is js : List PlainInst) → Alike is js → (t k : ℕ) (f : Form) → part_in is t k f ≡ part_in js t k f
part_by is js a t k form.Struct =
    ap (option_and_then (λ ms. option_and_then id_in (slice_get ms k))) (members is js a t)
part_by is js a t k (form.Vector c n) = refl
part_by is js a t k (form.Array e l) = refl
part_by is js a t k _ = refl

pub parts : (is js : List PlainInst) → Alike is js → (t k : ℕ) → part_of is t k ≡ part_of js t k
parts is js a t k = ap (option_and_then (part_in is t k)) (forms is js a t)
    ∙ and_then Form ℕ (part_in is t k) (part_in js t k) (part_by is js a t k) (form_of js t)

count_by_form : (is js : List PlainInst) → Alike is js → (t : ℕ) (f : Form) → count_in is t f ≡ count_in js t f
count_by_form is js a t form.Struct = ap (option_map (λ ms. length ms)) (members is js a t)
count_by_form is js a t (form.Vector c n) = refl
count_by_form is js a t (form.Array e l) = lengths is js a l
count_by_form is js a t _ = refl

pub counts : (is js : List PlainInst) → Alike is js → (t : ℕ) → count_of is t ≡ count_of js t
counts is js a t = ap (option_and_then (count_in is t)) (forms is js a t)
    ∙ and_then Form ℕ (count_in is t) (count_in js t) (count_by_form is js a t) (form_of js t)

parts_from : (is js : List PlainInst) → Alike is js → (t k : ℕ) (us : List ℕ) → ArePartsFrom is t k us
    → ArePartsFrom js t k us
parts_from is js a t k [] h = tt
parts_from is js a t k (u ∷ us) h = (sym (parts is js a t k) ∙ h.0, parts_from is js a t (k + 1) us h.1)

pub are_parts : (is js : List PlainInst) → Alike is js → (t : ℕ) (us : List ℕ) → AreParts is t us → AreParts js t us
are_parts is js a t us h = (sym (counts is js a t) ∙ h.0, parts_from is js a t 0 us h.1)

pub are_within : (is js : List PlainInst) → Alike is js → (t : ℕ) (ks : List ℕ) → AreWithin is t ks → AreWithin js t ks
are_within is js a _ _ (AreWithin.none t) = AreWithin.none t
are_within is js a _ _ (AreWithin.more t k u n ks c l p w) =
    AreWithin.more t k u n ks (sym (counts is js a t) ∙ c) l (sym (parts is js a t k) ∙ p) (are_within is js a u ks w)

components_by : (is js : List PlainInst) → Alike is js → (f : Form) → components_in is f ≡ components_in js f
components_by is js a (form.Scalar s) = refl
components_by is js a (form.Vector c n) =
    ap (λ o. option_map (λ s. record { scalar = s; count = n }) (scalar_in o)) (forms is js a c)
components_by is js a _ = refl

pub components : (is js : List PlainInst) → Alike is js → (t : ℕ) → components_of is t ≡ components_of js t
components is js a t =
    ap (option_and_then (components_in is)) (forms is js a t)
    ∙ and_then Form Components (components_in is) (components_in js) (components_by is js a) (form_of js t)

-- The words of image types and pipe types, and the addressing model.

pub images : (is js : List PlainInst) → Alike is js → (t : ℕ) → image_of is t ≡ image_of js t
images = of_definition Image (λ i. if nat_eq i.opcode opcode.TYPE_IMAGE then image_in i.operands else None)
    (told_same (Option Image) (λ i. if nat_eq i.opcode opcode.TYPE_IMAGE then image_in i.operands else None) None
    (λ k call. rw call refl))

pub pipes : (is js : List PlainInst) → Alike is js → (t : ℕ) → pipe_access_of is t ≡ pipe_access_of js t
pipes = of_definition ℕ (λ i. if nat_eq i.opcode opcode.TYPE_PIPE then pipe_access_in i.operands else None)
    (told_same (Option ℕ) (λ i. if nat_eq i.opcode opcode.TYPE_PIPE then pipe_access_in i.operands else None) None
    (λ k call. rw call refl))

pub addressing : (is js : List PlainInst) → Alike is js → addressing_of is ≡ addressing_of js
addressing _ _ Alike.none = refl
addressing _ _ (Alike.more i j is js l a) =
    told_same (Option ℕ) (λ k. if nat_eq k.opcode opcode.MEMORY_MODEL then enumerant_in k.operands else addressing_of is)
    (addressing_of is) (λ k call. rw call refl) i j l
    ∙ ap (λ o. if nat_eq j.opcode opcode.MEMORY_MODEL then enumerant_in j.operands else o) (addressing is js a)

-- Definitions of initializers.

pub is_constant : (is js : List PlainInst) → Alike is js → (x : ℕ) → IsConstant is x → IsConstant js x
is_constant = opcode_of_definition (λ code.
    IsTrue ((nat_le opcode.CONSTANT_TRUE code && nat_le code opcode.CONSTANT_NULL)
    || (nat_le opcode.SPEC_CONSTANT_TRUE code && nat_le code opcode.SPEC_CONSTANT_COMPOSITE)
    || nat_eq code opcode.CONSTANT_PIPE_STORAGE))

pub is_global : (is js : List PlainInst) → Alike is js → (x : ℕ) → IsGlobal is x → IsGlobal js x
is_global is js a x g = record {
  place = g.place;
  defined = record {
    inst = g.defined.inst;
    there = same_at is js a g.place g.defined.inst g.defined.there
        (λ call. let never : opcode.VARIABLE ≡ opcode.EXT_INST = sym g.variable ∙ call in cc);
    result = g.defined.result;
  };
  variable = g.variable;
  section = section is js a g.place 11 g.section;
}
