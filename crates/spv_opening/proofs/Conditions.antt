-- The conditions of the table of types hold of the same types in alike lists.
use Rattle.std.proofs.Common.{◌≡◌, ◌≢◌, ◌⊎◌, ◌∙◌, ◌+◌, ◌<◌, ◌≤◌, inl, inr, ℕ, List, [], ◌∷◌, Bool, true, false, Option}
use Rattle.std.proofs.Common.{Some, None, refl, sym, ap, subst, length, nat_eq, if◌then◌else◌, map}
use Rattle.std.specs.Prelude.{slice_get, option_and_then, option_map, unwrap_or, take, drop, nat_lt, IsSome, IsSomeAnd}
use Rattle.std.specs.Prelude.{IsTrue, MatchOption, ◌||◌}
use Rattle.std.specs.List.{AllByRecursion}
use Rattle.spv_table.specs.Table.{Table}
use Rattle.spv_module.specs.Operand.{Plain, OfType, Result, Id, Word, PlainInst}
use Rattle.spv_module.specs.Width.{definition_of, type_of}
use Rattle.spv_module.specs.declared.opcode.TheConstants as opcode
use Rattle.spv_extended.specs.declared.set.Set.{Set}
use Rattle.spv_extended.specs.Opened.{opened_inst, opened_operands}
use Rattle.spv_type_forms.specs.declared.form.Form.{Form}
use Rattle.spv_type_forms.specs.declared.form.Form.TheVariants as form
use Rattle.spv_type_forms.specs.declared.form.Scalar.TheVariants as scalar
use Rattle.spv_type_forms.specs.declared.form.Sort.{Sort}
use Rattle.spv_type_forms.specs.declared.form.Sort.TheVariants as sort
use Rattle.spv_type_forms.specs.declared.form.Components.{Components}
use Rattle.spv_type_forms.specs.declared.objects.Image.{Image}
use Rattle.spv_type_forms.specs.Form.{form_of}
use Rattle.spv_type_forms.specs.Objects as objects
use Rattle.spv_type_forms.specs.Objects.{image_of, addressing_of, IsSizeInt, IsArrayOfSizes, IsSizeArray, AreOfRange}
use Rattle.spv_type_forms.specs.Objects.{IsRangeStruct, IsRange}
use Rattle.spv_type_kinds.specs.Operands.{words_in, ids_in, after_head, result_type_in, function_type_in}
use Rattle.spv_type_forms.specs.Definitions.{IsConstant}
use Rattle.spv_type_forms.specs.Parts.{part_of, count_of, constant_of, members_of}
use Rattle.spv_type_forms.specs.Types.{components_of, IsDataForm, IsData, HasSort, sort_of, pointee_in, class_in}
use Rattle.spv_type_forms.specs.Types.{PointsTo, IsInt, IsSomeInt, IsObject, IsPlainForm, IsPlain, IsPointer}
use Rattle.spv_type_kinds.specs.declared.kinds.Kind.{Kind}
use Rattle.spv_type_kinds.specs.declared.kinds.Kind.TheVariants as kind
use Rattle.spv_type_kinds.specs.declared.kinds.Relation.{Relation}
use Rattle.spv_type_kinds.specs.declared.kinds.Relation.TheVariants as relation
use Rattle.spv_conditions.specs.declared.asked.Rest.{Rest}
use Rattle.spv_conditions.specs.declared.asked.Rest.TheVariants as rest
use Rattle.spv_conditions.specs.declared.asked.Asked.{Asked}
use Rattle.spv_conditions.specs.declared.asked.Asked.TheVariants as asked
use Rattle.spv_conditions.specs.Block.{function_type_of, signature_in, invoked_of, invoked_at, Takes}
use Rattle.spv_conditions.specs.Block.{IsBlock, IsLocalSize, IsLocal, TakesLocals, after_block, AreLocals}
use Rattle.spv_conditions.specs.Chain.{indexes_in, base_in, chosen_in, chosen_of, led_from, led_by, led_to}
use Rattle.spv_conditions.specs.Condition.{IsComposite, IsOf, Agrees, scalar_bits, bits_of}
use Rattle.spv_conditions.specs.Path.{part_within, reached_by}
use Rattle.spv_conditions.specs.Rest.{both_sizes, size_in, share_in, shares_of, IsComponent, IsShare, OfVector, OfParts}
use Rattle.spv_type_kinds.specs.declared.kinds.Images.{Images}
use Rattle.spv_conditions.specs.declared.asked.Texels.{Texels}
use Rattle.spv_conditions.specs.declared.asked.Texels.TheVariants as texels
use Rattle.spv_conditions.specs.Image.{has_images, behind_in, image_behind, plane_in, places_in, extent_in, IsImage}
use Rattle.spv_conditions.specs.Image.{IsSampled, Counts, IsNumeric, component_in, component_of, IsOfSampledType}
use Rattle.spv_conditions.specs.Image.{IsTexelPointer}
use Rattle.spv_conditions.specs.Texels.{has_bit, mask_in, before_of, grad_at, offset_at, sample_at, Where, IsSampleFit}
use Rattle.spv_conditions.specs.Texels.{IsSignFit, IsLod, IsPlane, IsAt, AreGrad, IsOffset, AreImageOperands}
use Rattle.spv_conditions.specs.Group.{enumerant_in, all_ids_in, IsConstantAt, IsClusterSize, int_width_in}
use Rattle.spv_conditions.specs.Group.{int_width_of, part_width_in, part_width_of, IsPacked}
use Rattle.spv_conditions.specs.Further.{after_enumerant, AreSome, IsIntConstant, IsLasting, IsGroup, IsNoGroup, IsMember}
use Rattle.spv_conditions.specs.Further.{AreMembers, is_silent, set_name_in, set_name_of, IsSilent, IsVoid, MayStand}
use Rattle.spv_conditions.specs.Rest.{AreSeveral, IsShareAt, AreFilling, AreCounted, IsPartAt, RestHolds}
use Rattle.spv_conditions.specs.Values.{type_at}
use Rattle.spv_conditions.specs.Variable.{class_of, initializers_in, HasClass, MayHave, MayInitialize}
use Rattle.spv_conditions.specs.Asks.{HoldsOf}
use Rattle.spv_ops.specs.Table.{lines, conditions_of}
use Rattle.spv_ops.specs.Typed.{IsTyped}
use Rattle.spv_opening.proofs.Alike.{Alike, AlikeOption, alike_opened, back, definitions, told_same}
use Rattle.spv_opening.proofs.Matching.{matches_alike}
use Rattle.spv_opening.proofs.Spots.{section, of_function, of_block}
use Rattle.spv_opening.proofs.Types.{of_definition, opcode_of_definition, and_then, mapped, forms, types, constants}
use Rattle.spv_opening.proofs.Types.{array_lengths, members, parts, counts, are_parts, components, are_within, images}
use Rattle.spv_opening.proofs.Types.{pipes, addressing, is_constant, is_global, types_of_all}
use Rattle.spv_opening.proofs.Uses.{opened_by, values_closed}

pub on_some : (A : Type 0) (P Q : A → Type 0) (o : Option A) → ((x : A) → P x → Q x) → IsSomeAnd o P → IsSomeAnd o Q
on_some A P Q (Some x) f h = f x h
on_some A P Q None f h = h

pub all_by : (A : Type 0) (P Q : A → Type 0) (xs : List A) → ((x : A) → P x → Q x) → AllByRecursion P xs
    → AllByRecursion Q xs
all_by A P Q [] f h = tt
all_by A P Q (x ∷ xs) f (h, k) = (f x h, all_by A P Q xs f k)

pub match_option : (A : Type 0) (N : Type 0) (P Q : A → Type 0) (o : Option A) → ((x : A) → P x → Q x)
    → MatchOption o N P → MatchOption o N Q
match_option A N P Q (Some x) f h = f x h
match_option A N P Q None f h = h

-- Kinds and relations.

pub formed : (P : Option Form → Type 0) (is js : List PlainInst) → Alike is js → (t : ℕ) → P (form_of is t)
    → P (form_of js t)
formed P is js a t h = subst P (forms is js a t) h

pub points_to : (is js : List PlainInst) → Alike is js → (t p : ℕ) → PointsTo is t p → PointsTo js t p
points_to is js a t p e = formed (λ o. pointee_in o ≡ Some p) is js a t e

pub is_data : (is js : List PlainInst) → Alike is js → (t : ℕ) → IsData is t → IsData js t
is_data is js a t h = formed (λ o. IsSomeAnd o IsDataForm) is js a t h

has_sort : (is js : List PlainInst) → Alike is js → (s : Sort) (t : ℕ) → HasSort s is t → HasSort s js t
has_sort is js a s t h = subst (λ o. IsSomeAnd o (λ (c : Components). sort_of c.scalar ≡ s)) (components is js a t) h

equal_form : (is js : List PlainInst) → Alike is js → (t : ℕ) (f : Form) → form_of is t ≡ Some f → form_of js t ≡ Some f
equal_form is js a t f e = sym (forms is js a t) ∙ e

-- what a pointer points to
pointed : (P Q : ℕ → Type 0) → ((p : ℕ) → P p → Q p) → (is js : List PlainInst) → Alike is js → (t : ℕ)
    → IsSomeAnd (pointee_in (form_of is t)) P → IsSomeAnd (pointee_in (form_of js t)) Q
pointed P Q f is js a t h =
    formed (λ o. IsSomeAnd (pointee_in o) Q) is js a t (on_some ℕ P Q (pointee_in (form_of is t)) f h)

plain : (is js : List PlainInst) → Alike is js → (t : ℕ) → IsPlain is t → IsPlain js t
plain is js a t h = formed (λ o. IsSomeAnd o IsPlainForm) is js a t h

some_int : (is js : List PlainInst) → Alike is js → (t : ℕ) → IsSomeInt is t → IsSomeInt js t
some_int is js a t (w, e) = (w, equal_form is js a t _ e)

numeric : (is js : List PlainInst) → Alike is js → (t : ℕ) → IsNumeric is t → IsNumeric js t
numeric is js a t (inl h) = inl (has_sort is js a _ t h)
numeric is js a t (inr h) = inr (has_sort is js a _ t h)

-- sizes and ranges

size : (is js : List PlainInst) → Alike is js → (t : ℕ) → IsSizeInt is t → IsSizeInt js t
size is js a t h =
    subst (λ o. IsSomeAnd (option_and_then objects.size_in o) (IsInt js t)) (addressing is js a)
    (on_some ℕ (IsInt is t) (IsInt js t) (option_and_then objects.size_in (addressing_of is))
    (λ w e. equal_form is js a t _ e) h)

array_of_sizes : (is js : List PlainInst) → Alike is js → (n : ℕ) (f : Form) → IsArrayOfSizes is n f
    → IsArrayOfSizes js n f
array_of_sizes is js a n (form.Array e l) (s, c) = (size is js a e s, sym (array_lengths is js a l) ∙ c)
array_of_sizes is js a n _ h = absurd h

size_array : (is js : List PlainInst) → Alike is js → (n t : ℕ) → IsSizeArray is n t → IsSizeArray js n t
size_array is js a n t h = formed (λ o. IsSomeAnd o (IsArrayOfSizes js n)) is js a t
    (on_some Form (IsArrayOfSizes is n) (IsArrayOfSizes js n) (form_of is t) (array_of_sizes is js a n) h)

of_range : (is js : List PlainInst) → Alike is js → (os : List Plain) → AreOfRange is os → AreOfRange js os
of_range is js a (Id d ∷ Id x ∷ Id y ∷ Id z ∷ []) (e, p, q, r) =
    (equal_form is js a d _ e, size_array is js a 3 x p, size_array is js a 3 y q, size_array is js a 3 z r)
of_range is js a _ h = absurd h

range_struct : (is js : List PlainInst) → Alike is js → (t : ℕ) → IsRangeStruct is t → IsRangeStruct js t
range_struct is js a t (e, h) = (
  equal_form is js a t _ e,
  subst (λ o. IsSomeAnd o (AreOfRange js)) (members is js a t)
      (on_some (List Plain) (AreOfRange is) (AreOfRange js) (members_of is t) (of_range is js a) h),
)

range : (is js : List PlainInst) → Alike is js → (t : ℕ) → IsRange is t → IsRange js t
range is js a t (inl h) = inl (range_struct is js a t h)
range is js a t (inr (p, e, h)) = inr (p, points_to is js a t p e, range_struct is js a p h)

-- images

behind : (is js : List PlainInst) → Alike is js → (t : ℕ) → image_behind is t ≡ image_behind js t
behind is js a t =
    ap (option_and_then (λ f. image_of is (behind_in t f))) (forms is js a t)
    ∙ and_then Form Image (λ f. image_of is (behind_in t f)) (λ f. image_of js (behind_in t f))
    (λ f. images is js a (behind_in t f)) (form_of js t)

sampled : (is js : List PlainInst) → Alike is js → (t : ℕ) → IsSampled is t → IsSampled js t
sampled is js a t ((i, e), h) =
    ((i, equal_form is js a t _ e), subst (λ o. IsSomeAnd o (λ (m : Image). m.multisampled ≡ 0)) (behind is js a t) h)

image : (is js : List PlainInst) → Alike is js → (k : Images) (t : ℕ) → IsImage is k t → IsImage js k t
image is js a k t h = subst (λ o. IsSomeAnd o (λ m. IsTrue (has_images k m))) (images is js a t) h

pub kinds : (is js : List PlainInst) → Alike is js → (k : Kind) (t : ℕ) → IsOf is k t → IsOf js k t
kinds is js a kind.Int t (w, e) = (w, equal_form is js a t _ e)
kinds is js a kind.Int32 t e = equal_form is js a t _ e
kinds is js a kind.Number t (inl (w, e)) = inl (w, equal_form is js a t _ e)
kinds is js a kind.Number t (inr (w, e)) = inr (w, equal_form is js a t _ e)
kinds is js a kind.Bool t e = equal_form is js a t _ e
kinds is js a kind.Data t h = is_data is js a t h
kinds is js a kind.Ints t h = has_sort is js a _ t h
kinds is js a kind.Floats t h = has_sort is js a _ t h
kinds is js a kind.Bools t h = has_sort is js a _ t h
kinds is js a kind.Pointer t (p, e) = (p, points_to is js a t p e)
kinds is js a kind.FunctionPointer t (p, e) = (p, equal_form is js a t _ e)
kinds is js a kind.GenericPointer t (p, e) = (p, equal_form is js a t _ e)
kinds is js a kind.NamedPointer t (s, p, e, n) = (s, p, equal_form is js a t _ e, n)
kinds is js a kind.Vector t (c, n, e) = (c, n, equal_form is js a t _ e)
kinds is js a kind.Composite t h = formed (λ o. IsSomeAnd o IsComposite) is js a t h
kinds is js a kind.Plain t h = plain is js a t h
kinds is js a kind.Scalars t h = subst (λ o. IsSome o) (components is js a t) h
kinds is js a kind.Floats32 t h =
    subst (λ o. IsSomeAnd o (λ (c : Components). c.scalar ≡ scalar.Float 32)) (components is js a t) h
kinds is js a kind.FewInts t h =
    subst (λ o. IsSomeAnd o (λ (c : Components). (sort_of c.scalar ≡ sort.Int) × (c.count ≤ 3)))
    (components is js a t) h
kinds is js a kind.Ballot t e = sym (components is js a t) ∙ e
kinds is js a kind.Int8Pointer t h =
    pointed (λ p. IsInt is p 8) (λ p. IsInt js p 8) (λ p e. equal_form is js a p _ e) is js a t h
kinds is js a kind.Int32Pointer t h =
    pointed (λ p. IsInt is p 32) (λ p. IsInt js p 32) (λ p e. equal_form is js a p _ e) is js a t h
kinds is js a kind.PlainPointer t h = pointed (IsPlain is) (IsPlain js) (plain is js a) is js a t h
kinds is js a kind.GlobalPointer t (p, e) = (p, equal_form is js a t _ e)
kinds is js a (kind.Object o) t e = equal_form is js a t _ e
kinds is js a (kind.ObjectPointer o) t h =
    pointed (IsObject is o) (IsObject js o) (λ p e. equal_form is js a p _ e) is js a t h
kinds is js a (kind.Pipe access) t e = sym (pipes is js a t) ∙ e
kinds is js a kind.Size t h = size is js a t h
kinds is js a kind.Sizes t (inl h) = inl (size is js a t h)
kinds is js a kind.Sizes t (inr (inl h)) = inr (inl (size_array is js a 2 t h))
kinds is js a kind.Sizes t (inr (inr h)) = inr (inr (size_array is js a 3 t h))
kinds is js a kind.RangeStruct t h = range_struct is js a t h
kinds is js a kind.Range t h = range is js a t h
kinds is js a kind.NumbersPointer t h = pointed (IsNumeric is) (IsNumeric js) (numeric is js a) is js a t h
kinds is js a (kind.Image k) t h = image is js a k t h
kinds is js a kind.SampledImage t h = sampled is js a t h
kinds is js a kind.Four t (c, e) = (c, equal_form is js a t _ e)

two_components : (P : Components → Components → Type 0) (is js : List PlainInst) → Alike is js → (t u : ℕ)
    → IsSomeAnd (components_of is t) (λ c. IsSomeAnd (components_of is u) (λ d. P c d))
    → IsSomeAnd (components_of js t) (λ c. IsSomeAnd (components_of js u) (λ d. P c d))
two_components P is js a t u h =
    subst (λ o. IsSomeAnd o (λ c. IsSomeAnd (components_of js u) (λ d. P c d))) (components is js a t)
    (subst (λ o. IsSomeAnd (components_of is t) (λ c. IsSomeAnd o (λ d. P c d))) (components is js a u) h)

bits : (is js : List PlainInst) → Alike is js → (t b : ℕ) → bits_of is t ≡ Some b → bits_of js t ≡ Some b
bits is js a t b e = sym (ap (option_and_then (λ (c : Components). scalar_bits c.count c.scalar))
    (components is js a t)) ∙ e

-- how many components a type has, by the image behind another; and of which type
image_counts : (f : Image → Option ℕ) (P : ℕ → ℕ → Type 0) (is js : List PlainInst) → Alike is js → (t u : ℕ)
    → Counts is f P t u → Counts js f P t u
image_counts f P is js a t u h =
    subst (λ o. IsSomeAnd o (λ (m : Image). IsSomeAnd (f m) (λ n. IsSomeAnd (components_of js t) (λ c. P n c.count))))
    (behind is js a u)
    (subst (λ o. IsSomeAnd (image_behind is u) (λ (m : Image). IsSomeAnd (f m) (λ n.
    IsSomeAnd o (λ (c : Components). P n c.count)))) (components is js a t) h)

of_sampled_type : (is js : List PlainInst) → Alike is js → (t u : ℕ) → IsOfSampledType is t u → IsOfSampledType js t u
of_sampled_type is js a t u h =
    subst (λ o. IsSomeAnd o (λ (m : Image).
    (form_of js m.sampled_type ≡ Some form.Void) ⊎ (component_of js t ≡ Some m.sampled_type))) (behind is js a u)
    (on_some Image (λ m. (form_of is m.sampled_type ≡ Some form.Void) ⊎ (component_of is t ≡ Some m.sampled_type))
    (λ m. (form_of js m.sampled_type ≡ Some form.Void) ⊎ (component_of js t ≡ Some m.sampled_type))
    (image_behind is u) each h)
  where
    each : (m : Image) → (form_of is m.sampled_type ≡ Some form.Void) ⊎ (component_of is t ≡ Some m.sampled_type)
        → (form_of js m.sampled_type ≡ Some form.Void) ⊎ (component_of js t ≡ Some m.sampled_type)
    each m (inl e) = inl (equal_form is js a m.sampled_type _ e)
    each m (inr e) = inr (sym (ap (option_map (λ f. component_in t f)) (forms is js a t)) ∙ e)

texel_pointer : (is js : List PlainInst) → Alike is js → (t u : ℕ) → IsTexelPointer is t u → IsTexelPointer js t u
texel_pointer is js a t u h =
    subst (λ o. IsSomeAnd o (λ (m : Image). IsPointer js t 11 m.sampled_type)) (behind is js a u)
    (on_some Image (λ m. IsPointer is t 11 m.sampled_type) (λ m. IsPointer js t 11 m.sampled_type) (image_behind is u)
    (λ m e. equal_form is js a t _ e) h)

pub relations : (is js : List PlainInst) → Alike is js → (q : Relation) (t u : ℕ) → Agrees is q t u → Agrees js q t u
relations is js a relation.Same t u e = e
relations is js a relation.SameCount t u h = two_components (λ c d. c.count ≡ d.count) is js a t u h
relations is js a relation.OtherWidth t u h = two_components (λ c d. c.scalar ≢ d.scalar) is js a t u h
relations is js a relation.SameBits t u (inl (b, e, f)) = inl (b, bits is js a t b e, bits is js a u b f)
relations is js a relation.SameBits t u (inr (class, p, q, e, f)) =
    inr (class, p, q, equal_form is js a t _ e, equal_form is js a u _ f)
relations is js a relation.Chooses t u (inl e) = inl (equal_form is js a t _ e)
relations is js a relation.Chooses t u (inr (c, n, e, m)) =
    inr (c, n, equal_form is js a u _ e, sym (components is js a t) ∙ m)
relations is js a relation.PointsTo t u e = points_to is js a t u e
relations is js a relation.SamePointee t u (p, e, f) = (p, points_to is js a t p e, points_to is js a u p f)
relations is js a relation.SameClass t u (class, p, q, e, f) =
    (class, p, q, equal_form is js a t _ e, equal_form is js a u _ f)
relations is js a relation.VectorOf t u (n, e) = (n, equal_form is js a t _ e)
relations is js a relation.ComponentOf t u (n, e) = (n, equal_form is js a u _ e)
relations is js a relation.SameComponent t u (c, m, n, e, f) =
    (c, m, n, equal_form is js a t _ e, equal_form is js a u _ f)
relations is js a relation.PairOf t u (e, p) = (equal_form is js a t _ e, are_parts is js a t (u ∷ u ∷ []) p)
relations is js a relation.Across t u (inl (p, q, e, f)) =
    inl (p, q, equal_form is js a t _ e, equal_form is js a u _ f)
relations is js a relation.Across t u (inr (p, q, e, f)) =
    inr (p, q, equal_form is js a t _ e, equal_form is js a u _ f)
relations is js a relation.SampledImageOf t u e = equal_form is js a t _ e
relations is js a relation.TexelPointer t u h = texel_pointer is js a t u h
relations is js a relation.Place t u (s, c) =
    (has_sort is js a _ t s, image_counts places_in (λ n m. n ≡ m) is js a t u c)
relations is js a relation.IntCoordinate t u (s, c) =
    (has_sort is js a _ t s, image_counts places_in (λ n m. n ≤ m) is js a t u c)
relations is js a relation.Coordinate t u (s, c) =
    (numeric is js a t s, image_counts places_in (λ n m. n ≤ m) is js a t u c)
relations is js a relation.Extent t u (s, c) =
    (has_sort is js a _ t s, image_counts extent_in (λ n m. n ≡ m) is js a t u c)
relations is js a relation.Texel t u (s, c) = (numeric is js a t s, of_sampled_type is js a t u c)
relations is js a relation.Matches t u (n, m) = (n, matches_alike is js a t u m)

-- Ways of indexes.

chosen_by : (is js : List PlainInst) → Alike is js → (t x : ℕ) (f : Form) → chosen_in is t x f ≡ chosen_in js t x f
chosen_by is js a t x form.Struct =
    ap (option_and_then (part_of is t)) (constants is js a x)
    ∙ and_then ℕ ℕ (part_of is t) (part_of js t) (λ k. parts is js a t k) (constant_of js x)
chosen_by is js a t x f = parts is js a t 0

chosen : (is js : List PlainInst) → Alike is js → (t x : ℕ) → chosen_of is t x ≡ chosen_of js t x
chosen is js a t x = ap (option_and_then (chosen_in is t x)) (forms is js a t)
    ∙ and_then Form ℕ (chosen_in is t x) (chosen_in js t x) (chosen_by is js a t x) (form_of js t)

led : (is js : List PlainInst) → Alike is js → (xs : List ℕ) (t : ℕ) → led_from is xs t ≡ led_from js xs t
led is js a [] t = refl
led is js a (x ∷ xs) t =
    ap (option_and_then (led_from is xs)) (chosen is js a t x)
    ∙ and_then ℕ ℕ (led_from is xs) (led_from js xs) (led is js a xs) (chosen_of js t x)

base : (is js : List PlainInst) → Alike is js → (types : List ℕ) → base_in is types ≡ base_in js types
base is js a [] = refl
base is js a (o ∷ types) = ap pointee_in (forms is js a o)

way : (is js : List PlainInst) → Alike is js → (ys types : List ℕ)
    → option_and_then (led_from is ys) (base_in is types) ≡ option_and_then (led_from js ys) (base_in js types)
way is js a ys types =
    ap (option_and_then (led_from is ys)) (base is js a types)
    ∙ and_then ℕ ℕ (led_from is ys) (led_from js ys) (led is js a ys) (base_in js types)

ways_by : (is js : List PlainInst) → Alike is js → (element : Bool) (xs types : List ℕ) (k : ℕ)
    → led_by is element xs types k ≡ led_by js element xs types k
ways_by is js a element xs types k =
    and_then (List ℕ) ℕ (λ ys. option_and_then (led_from is (take k ys)) (base_in is types))
    (λ ys. option_and_then (led_from js (take k ys)) (base_in js types)) (λ ys. way is js a (take k ys) types)
    (indexes_in element xs)

ways_to : (is js : List PlainInst) → Alike is js → (element : Bool) (xs types : List ℕ)
    → led_to is element xs types ≡ led_to js element xs types
ways_to is js a element xs types =
    and_then (List ℕ) ℕ (λ ys. option_and_then (led_from is ys) (base_in is types))
    (λ ys. option_and_then (led_from js ys) (base_in js types)) (λ ys. way is js a ys types) (indexes_in element xs)

part_inside : (is js : List PlainInst) → Alike is js → (t k : ℕ) → part_within is t k ≡ part_within js t k
part_inside is js a t k =
    ap (option_and_then (λ n. if nat_lt k n then part_of is t k else None)) (counts is js a t)
    ∙ and_then ℕ ℕ (λ n. if nat_lt k n then part_of is t k else None) (λ n. if nat_lt k n then part_of js t k else None)
    (λ n. ap (λ p. if nat_lt k n then p else None) (parts is js a t k)) (count_of js t)

reached : (is js : List PlainInst) → Alike is js → (ks : List ℕ) (t : ℕ) → reached_by is ks t ≡ reached_by js ks t
reached is js a [] t = refl
reached is js a (k ∷ ks) t =
    ap (λ o. unwrap_or (option_map (λ u. reached_by is ks u) o) t) (part_inside is js a t k)
    ∙ ap (λ o. unwrap_or o t) (mapped ℕ ℕ (λ u. reached_by is ks u) (λ u. reached_by js ks u) (reached is js a ks)
    (part_within js t k))

-- Counts of components.

sizes : (is js : List PlainInst) → Alike is js → (ts : List ℕ) → both_sizes is ts ≡ both_sizes js ts
sizes is js a [] = refl
sizes is js a (t ∷ []) = refl
sizes is js a (t ∷ u ∷ ts) =
    ap (λ o. size_in o + size_in (form_of is u)) (forms is js a t)
    ∙ ap (λ o. size_in (form_of js t) + size_in o) (forms is js a u)

shares : (is js : List PlainInst) → Alike is js → (c : ℕ) (ts : List ℕ) → shares_of is c ts ≡ shares_of js c ts
shares is js a c [] = refl
shares is js a c (t ∷ ts) =
    ap (λ o. option_and_then (λ n. option_map (λ m. n + m) (shares_of is c ts))
    (if nat_eq t c then Some 1 else share_in c o)) (forms is js a t)
    ∙ and_then ℕ ℕ (λ n. option_map (λ m. n + m) (shares_of is c ts)) (λ n. option_map (λ m. n + m) (shares_of js c ts))
    (λ n. ap (option_map (λ m. n + m)) (shares is js a c ts))
    (if nat_eq t c then Some 1 else share_in c (form_of js t))

of_vector : (P Q : ℕ → ℕ → Type 0) (f : Option Form) → ((c n : ℕ) → P c n → Q c n) → OfVector f P → OfVector f Q
of_vector P Q (Some (form.Vector c n)) g h = g c n h
of_vector P Q (Some _) g h = tt
of_vector P Q None g h = tt

of_parts : (P Q : Type 0) (f : Option Form) → (P → Q) → OfParts f P → OfParts f Q
of_parts P Q (Some form.Struct) g h = g h
of_parts P Q (Some (form.Array e l)) g h = g h
of_parts P Q (Some _) g h = tt
of_parts P Q None g h = tt

share : (is js : List PlainInst) → Alike is js → (c u : ℕ) → IsShare is c u → IsShare js c u
share is js a c u (inl e) = inl e
share is js a c u (inr (n, e)) = inr (n, equal_form is js a u _ e)

-- What is asked of variables.

may_have : (is js : List PlainInst) → Alike is js → (n class : ℕ) → MayHave is n class → MayHave js n class
may_have is js a n class (inl (s, p, q)) = inl (section is js a n 11 s, p, q)
may_have is js a n class (inr (f, o, e)) = inr (f, of_function is js a n f o, e)

may_initialize : (is js : List PlainInst) → Alike is js → (x : ℕ) → MayInitialize is x → MayInitialize js x
may_initialize is js a x (inl c) = inl (is_constant is js a x c)
may_initialize is js a x (inr g) = inr (is_global is js a x g)

has_class : (is js : List PlainInst) → Alike is js → (r : Option ℕ) (os : List Plain) → HasClass is r os
    → HasClass js r os
has_class is js a r os h =
    on_some ℕ (λ t. IsSomeAnd (class_of os) (λ class. class_in (form_of is t) ≡ Some class))
    (λ t. IsSomeAnd (class_of os) (λ class. class_in (form_of js t) ≡ Some class)) r
    (λ t. on_some ℕ (λ class. class_in (form_of is t) ≡ Some class) (λ class. class_in (form_of js t) ≡ Some class)
    (class_of os) (λ class. formed (λ o. class_in o ≡ Some class) is js a t)) h

-- What is asked of groups and of dot products.

constant_at : (is js : List PlainInst) → Alike is js → (i : PlainInst) (k : ℕ) → IsConstantAt is i k
    → IsConstantAt js i k
constant_at is js a i k h =
    on_some ℕ (IsConstant is) (IsConstant js) (slice_get (all_ids_in i.operands) k) (is_constant is js a) h

cluster_size : (is js : List PlainInst) → Alike is js → (i : PlainInst) (types : List ℕ) → IsClusterSize is i types
    → IsClusterSize js i types
cluster_size is js a i ts h =
    match_option ℕ (Unit {0}) (λ t. IsSomeInt is t × IsConstantAt is i 2) (λ t. IsSomeInt js t × IsConstantAt js i 2)
    (slice_get ts 2) (λ t q. (some_int is js a t q.0, constant_at is js a i 2 q.1)) h

int_width : (is js : List PlainInst) → Alike is js → (t : ℕ) → int_width_of is t ≡ int_width_of js t
int_width is js a t = ap (option_and_then int_width_in) (forms is js a t)

part_width_by : (is js : List PlainInst) → Alike is js → (f : Form) → part_width_in is f ≡ part_width_in js f
part_width_by is js a (form.Vector c n) = int_width is js a c
part_width_by is js a _ = refl

part_width : (is js : List PlainInst) → Alike is js → (t : ℕ) → part_width_of is t ≡ part_width_of js t
part_width is js a t = ap (option_and_then (part_width_in is)) (forms is js a t)
    ∙ and_then Form ℕ (part_width_in is) (part_width_in js) (part_width_by is js a) (form_of js t)

packed : (is js : List PlainInst) → Alike is js → (f : Option ℕ) (r o : ℕ) → IsPacked is f r o → IsPacked js f r o
packed is js a (Some f) r o e = equal_form is js a o _ e
packed is js a None r o h =
    subst (λ p. IsSomeAnd p (λ w. IsSomeAnd (int_width_of js r) (λ v. w ≤ v))) (part_width is js a o)
    (subst (λ p. IsSomeAnd (part_width_of is o) (λ w. IsSomeAnd p (λ v. w ≤ v))) (int_width is js a r) h)

-- What is asked of image operands.

where_holds : (b : Bool) (P Q : Type 0) → (P → Q) → Where b P → Where b Q
where_holds true P Q f h = f h
where_holds false P Q f h = h

at_place : (types : List ℕ) (k : ℕ) (P Q : ℕ → Type 0) → ((t : ℕ) → P t → Q t) → IsAt types k P → IsAt types k Q
at_place ts k P Q f h = on_some ℕ P Q (slice_get ts k) f h

sample_fit : (is js : List PlainInst) → Alike is js → (m o : ℕ) → IsSampleFit is m o → IsSampleFit js m o
sample_fit is js a m o h =
    subst (λ p. IsSomeAnd p (λ (i : Image). has_bit m 64 ≡ nat_eq i.multisampled 1)) (behind is js a o) h

sign_fit : (is js : List PlainInst) → Alike is js → (m t : ℕ) → IsSignFit is m t → IsSignFit js m t
sign_fit is js a m t h = where_holds (has_bit m 4096 || has_bit m 8192) (HasSort sort.Int is t) (HasSort sort.Int js t)
    (has_sort is js a _ t) h

lod : (is js : List PlainInst) → Alike is js → (k : Texels) (t : ℕ) → IsLod is k t → IsLod js k t
lod is js a texels.Sampled t (w, e) = (w, equal_form is js a t _ e)
lod is js a texels.Read t h = some_int is js a t h
lod is js a texels.Written t h = some_int is js a t h

plane : (is js : List PlainInst) → Alike is js → (s : Sort) (o t : ℕ) → IsPlane is s o t → IsPlane js s o t
plane is js a s o t (h, c) = (has_sort is js a s t h, image_counts (λ i. plane_in i.dim) (λ n m. n ≡ m) is js a t o c)

image_operands : (is js : List PlainInst) → Alike is js → (i : PlainInst) (k : Texels) (types : List ℕ) (m o : ℕ)
    → AreImageOperands is i k types m o → AreImageOperands js i k types m o
image_operands is js a i k ts m o (l, g, c, s) = (
  where_holds (has_bit m 2) (IsAt ts (before_of k) (IsLod is k)) (IsAt ts (before_of k) (IsLod js k))
      (at_place ts (before_of k) (IsLod is k) (IsLod js k) (lod is js a k)) l,
  where_holds (has_bit m 4) (AreGrad is ts o (grad_at k m)) (AreGrad js ts o (grad_at k m)) (λ h. (
    at_place ts (grad_at k m) (IsPlane is sort.Float o) (IsPlane js sort.Float o) (plane is js a sort.Float o) h.0,
    at_place ts (grad_at k m + 1) (IsPlane is sort.Float o) (IsPlane js sort.Float o) (plane is js a sort.Float o) h.1,
  )) g,
  where_holds (has_bit m 8) (IsOffset is i ts o (offset_at k m)) (IsOffset js i ts o (offset_at k m)) (λ h. (
    at_place ts (offset_at k m) (IsPlane is sort.Int o) (IsPlane js sort.Int o) (plane is js a sort.Int o) h.0,
    constant_at is js a i (offset_at k m) h.1,
  )) c,
  where_holds (has_bit m 64) (IsAt ts (sample_at k m) (IsSomeInt is)) (IsAt ts (sample_at k m) (IsSomeInt js))
      (at_place ts (sample_at k m) (IsSomeInt is) (IsSomeInt js) (some_int is js a)) s,
)

-- What is asked of instructions outside blocks.

int_constant : (is js : List PlainInst) → Alike is js → (o : Plain) → IsIntConstant is o → IsIntConstant js o
int_constant is js a (Id x) (c, h) = (
  is_constant is js a x c,
  subst (λ o. IsSomeAnd o (IsSomeInt js)) (types is js a x)
      (on_some ℕ (IsSomeInt is) (IsSomeInt js) (type_of is x) (some_int is js a) h),
)
int_constant is js a _ h = absurd h

lasting : (is js : List PlainInst) → Alike is js → (o : Plain) → IsLasting is o → IsLasting js o
lasting is js a (Id x) h = may_initialize is js a x h
lasting is js a _ h = absurd h

some_alike : (P Q : Plain → Type 0) → ((o : Plain) → P o → Q o) → (os : List Plain) → AreSome P os → AreSome Q os
some_alike P Q f os (n, h) = (n, all_by Plain P Q os f h)

no_group : (is js : List PlainInst) → Alike is js → (x : ℕ) → IsNoGroup is x → IsNoGroup js x
no_group is js a x h = by (definition_of is x) (definition_of js x) (definitions is js a x) h
  where
    by : (o q : Option PlainInst) → AlikeOption o q
        → MatchOption o (Unit {0}) (λ d. d.opcode ≢ opcode.DECORATION_GROUP)
        → MatchOption q (Unit {0}) (λ d. d.opcode ≢ opcode.DECORATION_GROUP)
    by _ _ AlikeOption.neither h = h
    by _ _ (AlikeOption.some i j l) h = λ e. h (l.opcode ∙ e)

a_member : (is js : List PlainInst) → Alike is js → (t k : ℕ) → IsMember is t k → IsMember js t k
a_member is js a t k (e, h) = (equal_form is js a t _ e, subst (λ o. IsSomeAnd o (λ n. k < n)) (counts is js a t) h)

are_members : (is js : List PlainInst) → Alike is js → (w : Option ℕ) (os : List Plain) → AreMembers is w os
    → AreMembers js w os
are_members is js a None [] h = tt
are_members is js a None (Id t ∷ os) h = are_members is js a (Some t) os h
are_members is js a (Some t) (Word k ∷ os) (m, h) = (a_member is js a t k m, are_members is js a None os h)
are_members is js a _ _ h = absurd h

set_names : (is js : List PlainInst) → Alike is js → (x : ℕ) → set_name_of is x ≡ set_name_of js x
set_names = of_definition (List ℕ)
    (λ i. if nat_eq i.opcode opcode.EXT_INST_IMPORT then set_name_in i.operands else None)
    (told_same (Option (List ℕ))
    (λ i. if nat_eq i.opcode opcode.EXT_INST_IMPORT then set_name_in i.operands else None) None
    (λ k call. rw call refl))

a_void : (is js : List PlainInst) → Alike is js → (r : Option ℕ) → IsVoid is r → IsVoid js r
a_void is js a r h = on_some ℕ (λ t. form_of is t ≡ Some form.Void) (λ t. form_of js t ≡ Some form.Void) r
    (λ t e. equal_form is js a t _ e) h

silent_set : (is js : List PlainInst) → Alike is js → (s : ℕ)
    → IsSomeAnd (set_name_of is s) (λ name. IsTrue (is_silent name))
    → IsSomeAnd (set_name_of js s) (λ name. IsTrue (is_silent name))
silent_set is js a s h = subst (λ o. IsSomeAnd o (λ name. IsTrue (is_silent name))) (set_names is js a s) h

silent : (is js : List PlainInst) → Alike is js → (i : PlainInst) → IsSilent is i → IsSilent js i
silent is js a i h = on_some ℕ (λ s. IsSomeAnd (set_name_of is s) (λ name. IsTrue (is_silent name)))
    (λ s. IsSomeAnd (set_name_of js s) (λ name. IsTrue (is_silent name))) (slice_get (all_ids_in i.operands) 0)
    (silent_set is js a) h

may_stand : (is js : List PlainInst) → Alike is js → (n : ℕ) (i : PlainInst) (r : Option ℕ) → MayStand is n i r
    → MayStand js n i r
may_stand is js a n i r (inl (b, w)) = inl (b, of_block is js a n b w)
may_stand is js a n i r (inr (v, s)) = inr (a_void is js a r v, silent is js a i s)

-- What is asked of blocks of device enqueue.

function_types : (is js : List PlainInst) → Alike is js → (f : ℕ) → function_type_of is f ≡ function_type_of js f
function_types = of_definition ℕ function_type_in (told_same (Option ℕ) function_type_in None (λ k call. rw call refl))

signatures : (is js : List PlainInst) → Alike is js → (t : ℕ)
    → option_and_then signature_in (definition_of is t) ≡ option_and_then signature_in (definition_of js t)
signatures = of_definition (List Plain) signature_in
    (told_same (Option (List Plain)) signature_in None (λ k call. rw call refl))

invoked : (is js : List PlainInst) → Alike is js → (f : ℕ) → invoked_of is f ≡ invoked_of js f
invoked is js a f =
    ap (option_and_then (λ t. option_and_then signature_in (definition_of is t))) (function_types is js a f)
    ∙ and_then ℕ (List Plain) (λ t. option_and_then signature_in (definition_of is t))
    (λ t. option_and_then signature_in (definition_of js t)) (signatures is js a) (function_type_of js f)

invoked_by : (is js : List PlainInst) → Alike is js → (xs : List ℕ) (k : ℕ) → invoked_at is xs k ≡ invoked_at js xs k
invoked_by is js a xs k =
    and_then ℕ (List Plain) (invoked_of is) (invoked_of js) (invoked is js a) (slice_get xs k)

takes : (is js : List PlainInst) → Alike is js → (t : ℕ) (os : List Plain) → Takes is t os → Takes js t os
takes is js a t (Id r ∷ Id p ∷ ps) (v, e) = (equal_form is js a r _ v, e)
takes is js a t _ h = absurd h

a_block : (is js : List PlainInst) → Alike is js → (xs : List ℕ) (k : ℕ) (types : List ℕ) → IsBlock is xs k types
    → IsBlock js xs k types
a_block is js a xs k types h =
    on_some ℕ (λ t. IsSomeAnd (invoked_at is xs k) (Takes is t)) (λ t. IsSomeAnd (invoked_at js xs k) (Takes js t))
    (slice_get types k) (λ t g. subst (λ o. IsSomeAnd o (Takes js t)) (invoked_by is js a xs k)
    (on_some (List Plain) (Takes is t) (Takes js t) (invoked_at is xs k) (takes is js a t) g)) h

local_size : (is js : List PlainInst) → Alike is js → (t : ℕ) → IsLocalSize is t → IsLocalSize js t
local_size is js a t (inl h) = inl (some_int is js a t h)
local_size is js a t (inr h) = inr (pointed (IsSomeInt is) (IsSomeInt js) (some_int is js a) is js a t h)

a_local : (is js : List PlainInst) → Alike is js → (o : Plain) → IsLocal is o → IsLocal js o
a_local is js a (Id t) (p, e) = (p, equal_form is js a t _ e)
a_local is js a _ h = absurd h

takes_locals : (is js : List PlainInst) → Alike is js → (count : ℕ) (os : List Plain) → TakesLocals is count os
    → TakesLocals js count os
takes_locals is js a count (r ∷ p ∷ ps) (e, h) = (e, all_by Plain (IsLocal is) (IsLocal js) ps (a_local is js a) h)
takes_locals is js a count _ h = absurd h

are_locals : (is js : List PlainInst) → Alike is js → (xs : List ℕ) (k : ℕ) (types : List ℕ) → AreLocals is xs k types
    → AreLocals js xs k types
are_locals is js a xs k types h = subst (λ o. IsSomeAnd o (TakesLocals js (length (after_block k types))))
    (invoked_by is js a xs k)
    (on_some (List Plain) (TakesLocals is (length (after_block k types)))
    (TakesLocals js (length (after_block k types))) (invoked_at is xs k)
    (takes_locals is js a (length (after_block k types))) h)

-- All else that is asked.
pub rests : (is js : List PlainInst) → Alike is js → (n : ℕ) (i : PlainInst) (r : Option ℕ) (types : List ℕ) (q : Rest)
    → RestHolds is n i r types q → RestHolds js n i r types q
rests is js a n i r types rest.Weights h = h
rests is js a n i r types rest.StorageClass h = has_class is js a r (after_head i.operands) h
rests is js a n i r types rest.ClassHere h =
    on_some ℕ (MayHave is n) (MayHave js n) (class_of (after_head i.operands)) (may_have is js a n) h
rests is js a n i r types rest.Initializer h =
    all_by ℕ (MayInitialize is) (MayInitialize js) (initializers_in (after_head i.operands)) (may_initialize is js a) h
rests is js a n i r types rest.InitializerType h =
    on_some ℕ (λ t. AllByRecursion (PointsTo is t) types) (λ t. AllByRecursion (PointsTo js t) types) r
    (λ t. all_by ℕ (PointsTo is t) (PointsTo js t) types (points_to is js a t)) h
rests is js a n i r types (rest.Chosen element k) h =
    subst (λ o. IsSome o) (ways_by is js a element (ids_in (after_head i.operands)) types (k + 1)) h
rests is js a n i r types (rest.Leads element) h =
    on_some ℕ (λ t. IsSomeAnd (led_to is element (ids_in (after_head i.operands)) types) (PointsTo is t))
    (λ t. IsSomeAnd (led_to js element (ids_in (after_head i.operands)) types) (PointsTo js t)) r
    (λ t k. subst (λ o. IsSomeAnd o (PointsTo js t)) (ways_to is js a element (ids_in (after_head i.operands)) types)
    (on_some ℕ (PointsTo is t) (PointsTo js t) (led_to is element (ids_in (after_head i.operands)) types)
    (points_to is js a t) k)) h
rests is js a n i r types rest.Indexes h = h
rests is js a n i r types (rest.Within k) h =
    on_some ℕ _ _ (slice_get types k) (λ t. are_within is js a t (words_in i.operands)) h
rests is js a n i r types (rest.Reached s k) h =
    on_some ℕ (λ t. IsSomeAnd (type_at r types s) (λ u. reached_by is (words_in i.operands) t ≡ u))
    (λ t. IsSomeAnd (type_at r types s) (λ u. reached_by js (words_in i.operands) t ≡ u)) (slice_get types k)
    (λ t. on_some ℕ (λ u. reached_by is (words_in i.operands) t ≡ u) (λ u. reached_by js (words_in i.operands) t ≡ u)
    (type_at r types s) (λ u e. sym (reached is js a (words_in i.operands) t) ∙ e)) h
rests is js a n i r types rest.ComponentCount h =
    on_some ℕ (λ t. (c : ℕ) × (form_of is t ≡ Some (form.Vector c (length (words_in i.operands)))))
    (λ t. (c : ℕ) × (form_of js t ≡ Some (form.Vector c (length (words_in i.operands))))) r
    (λ t p. (p.0, equal_form is js a t _ p.1)) h
rests is js a n i r types rest.Component h =
    subst (λ m. AllByRecursion (IsComponent m) (words_in i.operands)) (sizes is js a types) h
rests is js a n i r types rest.Several h =
    on_some ℕ (λ t. AreSeveral types (form_of is t)) (λ t. AreSeveral types (form_of js t)) r
    (λ t. formed (AreSeveral types) is js a t) h
rests is js a n i r types (rest.Share k) h =
    on_some ℕ (λ t. IsShareAt is types k (form_of is t)) (λ t. IsShareAt js types k (form_of js t)) r
    (λ t g. formed (IsShareAt js types k) is js a t
    (of_vector (λ c m. IsSomeAnd (slice_get types k) (IsShare is c))
    (λ c m. IsSomeAnd (slice_get types k) (IsShare js c)) (form_of is t)
    (λ c m. on_some ℕ (IsShare is c) (IsShare js c) (slice_get types k) (share is js a c)) g)) h
rests is js a n i r types rest.Filled h =
    on_some ℕ (λ t. AreFilling is types (form_of is t)) (λ t. AreFilling js types (form_of js t)) r
    (λ t g. formed (AreFilling js types) is js a t
    (of_vector (λ c m. shares_of is c types ≡ Some m) (λ c m. shares_of js c types ≡ Some m) (form_of is t)
    (λ c m e. sym (shares is js a c types) ∙ e) g)) h
rests is js a n i r types rest.Count h =
    on_some ℕ (λ t. AreCounted is t types (form_of is t)) (λ t. AreCounted js t types (form_of js t)) r
    (λ t g. formed (AreCounted js t types) is js a t
    (of_parts (count_of is t ≡ Some (length types)) (count_of js t ≡ Some (length types)) (form_of is t)
    (λ e. sym (counts is js a t) ∙ e) g)) h
rests is js a n i r types (rest.Part k) h =
    on_some ℕ (λ t. IsPartAt is t types k (form_of is t)) (λ t. IsPartAt js t types k (form_of js t)) r
    (λ t g. formed (IsPartAt js t types k) is js a t
    (of_parts (IsSomeAnd (slice_get types k) (λ u. part_of is t k ≡ Some u))
    (IsSomeAnd (slice_get types k) (λ u. part_of js t k ≡ Some u)) (form_of is t)
    (on_some ℕ (λ u. part_of is t k ≡ Some u) (λ u. part_of js t k ≡ Some u) (slice_get types k)
    (λ u e. sym (parts is js a t k) ∙ e)) g)) h
rests is js a n i r types rest.CastClass h = has_class is js a r (drop 1 (after_head i.operands)) h
rests is js a n i r types rest.Scan h = h
rests is js a n i r types rest.Cluster h = h
rests is js a n i r types rest.ClusterSize h = cluster_size is js a i types h
rests is js a n i r types (rest.Constant k) h = constant_at is js a i k h
rests is js a n i r types rest.Packed h =
    on_some ℕ (λ o. IsSomeAnd r (λ t. IsPacked is (enumerant_in i.operands) t o))
    (λ o. IsSomeAnd r (λ t. IsPacked js (enumerant_in i.operands) t o)) (slice_get types 0)
    (λ o. on_some ℕ (λ t. IsPacked is (enumerant_in i.operands) t o) (λ t. IsPacked js (enumerant_in i.operands) t o) r
    (λ t. packed is js a (enumerant_in i.operands) t o)) h
rests is js a n i r types (rest.ImageMask k) h = h
rests is js a n i r types rest.ImageSample h =
    on_some ℕ (IsSampleFit is (mask_in i.operands)) (IsSampleFit js (mask_in i.operands)) (slice_get types 0)
    (sample_fit is js a (mask_in i.operands)) h
rests is js a n i r types (rest.ImageSign s) h =
    on_some ℕ (IsSignFit is (mask_in i.operands)) (IsSignFit js (mask_in i.operands)) (type_at r types s)
    (sign_fit is js a (mask_in i.operands)) h
rests is js a n i r types (rest.ImageOperands k) h =
    on_some ℕ (AreImageOperands is i k types (mask_in i.operands)) (AreImageOperands js i k types (mask_in i.operands))
    (slice_get types 0) (image_operands is js a i k types (mask_in i.operands)) h
rests is js a n i r types rest.Extended h = may_stand is js a n i r h
rests is js a n i r types rest.ModeIds h =
    some_alike (IsIntConstant is) (IsIntConstant js) (int_constant is js a) (after_enumerant i.operands) h
rests is js a n i r types rest.DecorationIds h =
    some_alike (IsLasting is) (IsLasting js) (lasting is js a) (after_enumerant i.operands) h
rests is js a n i r types rest.Texts h = h
rests is js a n i r types rest.Group h =
    on_some ℕ (IsGroup is) (IsGroup js) (slice_get (all_ids_in i.operands) 0)
    (opcode_of_definition (λ code. code ≡ opcode.DECORATION_GROUP) is js a) h
rests is js a n i r types rest.NoMoreGroups h =
    all_by ℕ (IsNoGroup is) (IsNoGroup js) (all_ids_in (drop 1 i.operands)) (no_group is js a) h
rests is js a n i r types rest.Members h = are_members is js a None (drop 1 i.operands) h
rests is js a n i r types (rest.Block k) h = a_block is js a (ids_in (after_head i.operands)) k types h
rests is js a n i r types (rest.LocalSizes k) h =
    all_by ℕ (IsLocalSize is) (IsLocalSize js) (after_block k types) (local_size is js a) h
rests is js a n i r types (rest.Locals k) h = are_locals is js a (ids_in (after_head i.operands)) k types h

holds : (is js : List PlainInst) → Alike is js → (n : ℕ) (i : PlainInst) (r : Option ℕ) (types : List ℕ) (q : Asked)
    → HoldsOf is n i r types q → HoldsOf js n i r types q
holds is js a n i r types (asked.Operands result values) h = h
holds is js a n i r types (asked.Kind k s) h = on_some ℕ (IsOf is k) (IsOf js k) (type_at r types s) (kinds is js a k) h
holds is js a n i r types (asked.Relation q s t) h =
    on_some ℕ (λ u. IsSomeAnd (type_at r types t) (Agrees is q u)) (λ u. IsSomeAnd (type_at r types t) (Agrees js q u))
    (type_at r types s)
    (λ u. on_some ℕ (Agrees is q u) (Agrees js q u) (type_at r types t) (relations is js a q u)) h
holds is js a n i r types (asked.Rest q) h = rests is js a n i r types q h

pub typed : (G : Table) (is js : List PlainInst) → Alike is js → (n : ℕ) (i : PlainInst) → IsTyped G is n i
    → IsTyped G js n i
typed G is js a n i (inl e) = inl e
typed G is js a n i (inr (xs, types, v, e, h)) =
    inr (
      xs,
      types,
      v,
      sym (types_of_all is js a xs) ∙ e,
      all_by Asked (HoldsOf is n i _ types) (HoldsOf js n i _ types) (conditions_of i.opcode (length types))
          (holds is js a n i _ types) h,
    )

-- What is asked of an OpExtInst: it holds before it is opened where it holds of the opened one.

asked_of_call : (m : ℕ) → conditions_of opcode.EXT_INST m ≡ asked.Rest rest.Extended ∷ []
unfolding lines
asked_of_call m = refl

same_type_in : (sets : ℕ → Set) (os : List Plain) → result_type_in (opened_operands sets os) ≡ result_type_in os
same_type_in sets (OfType t ∷ Result x ∷ Id s ∷ Word number ∷ os) = refl
same_type_in sets os = refl

same_set : (sets : ℕ → Set) (os : List Plain)
    → slice_get (all_ids_in (opened_operands sets os)) 0 ≡ slice_get (all_ids_in os) 0
same_set sets (OfType t ∷ Result x ∷ Id s ∷ Word number ∷ os) = refl
same_set sets os = refl

stands_closed : (sets : ℕ → Set) (js : List PlainInst) (n : ℕ) (i : PlainInst)
    → MayStand js n (opened_by sets i) (result_type_in (opened_operands sets i.operands))
    → MayStand js n i (result_type_in i.operands)
stands_closed sets js n i (inl h) = inl h
stands_closed sets js n i (inr (v, s)) = inr (
  subst (IsVoid js) (same_type_in sets i.operands) v,
  subst (λ o. IsSomeAnd o (λ s. IsSomeAnd (set_name_of js s) (λ name. IsTrue (is_silent name))))
      (same_set sets i.operands) s,
)

pub typed_call : (G : Table) (sets : ℕ → Set) (is : List PlainInst) (n : ℕ) (i : PlainInst)
    → i.opcode ≡ opcode.EXT_INST → IsTyped G (map (opened_inst sets) is) n (opened_by sets i) → IsTyped G is n i
typed_call G sets is n i call (inl e) = inl e
typed_call G sets is n i call (inr (xs, ts, v, e, h)) =
    let js = map (opened_inst sets) is in
    let a = back is js (alike_opened sets is) in
    let same : conditions_of i.opcode (length ts) ≡ asked.Rest rest.Extended ∷ [] =
    ap (λ code. conditions_of code (length ts)) call ∙ asked_of_call (length ts) in
    let r = result_type_in (opened_operands sets i.operands) in
    let there : AllByRecursion (HoldsOf js n (opened_by sets i) r ts) (asked.Rest rest.Extended ∷ []) =
    subst (AllByRecursion (HoldsOf js n (opened_by sets i) r ts)) same h in
    let here : AllByRecursion (HoldsOf is n i (result_type_in i.operands) ts) (asked.Rest rest.Extended ∷ []) =
    (may_stand js is a n i (result_type_in i.operands) (stands_closed sets js n i there.0), tt) in
    inr (
      xs,
      ts,
      values_closed G sets i xs call v,
      types_of_all is js (alike_opened sets is) xs ∙ e,
      subst (AllByRecursion (HoldsOf is n i (result_type_in i.operands) ts)) (sym same) here,
    )
