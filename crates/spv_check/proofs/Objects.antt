-- Sizes, ranges and images, and what instructions ask of image operands: decided.
use Rattle.std.proofs.Common.{◌≡◌, ◌+◌, ◌⊎◌, ℕ, List, [], ◌∷◌, Option, Some, Bool, true, false, refl, inl, inr}
use Rattle.std.proofs.Common.{nat_eq}
use Rattle.std.specs.Prelude.{IsTrue, IsSomeAnd, option_and_then, slice_get, ◌||◌}
use Rattle.std.proofs.lemmas.Bool.{cases_eq}
use Rattle.spv_module.specs.Operand.{Plain, Id, PlainInst}
use Rattle.spv_type_forms.specs.declared.form.Form.{Form}
use Rattle.spv_type_forms.specs.declared.form.Form.TheVariants as form
use Rattle.spv_type_forms.specs.declared.form.Sort.{Sort}
use Rattle.spv_type_forms.specs.declared.form.Sort.TheVariants as sort
use Rattle.spv_type_forms.specs.declared.objects.Image.{Image}
use Rattle.spv_type_forms.specs.Form.{form_of}
use Rattle.spv_type_forms.specs.Definitions.{IsConstant}
use Rattle.spv_type_forms.specs.Objects.{image_of, addressing_of, size_in, IsSizeInt, IsArrayOfSizes, IsSizeArray}
use Rattle.spv_type_forms.specs.Objects.{AreOfRange, IsRangeStruct, IsRange}
use Rattle.spv_type_forms.specs.Parts.{length_of, members_of}
use Rattle.spv_type_forms.specs.Types.{components_of, HasSort, IsInt, IsSomeInt, IsPointer}
use Rattle.spv_type_kinds.specs.declared.kinds.Images.{Images}
use Rattle.spv_conditions.specs.declared.asked.Texels.{Texels}
use Rattle.spv_conditions.specs.declared.asked.Texels.TheVariants as texels
use Rattle.spv_conditions.specs.Group.{all_ids_in, IsConstantAt}
use Rattle.spv_conditions.specs.Image.{has_images, image_behind, plane_in, IsImage, IsSampled, IsTexelPointer, Counts}
use Rattle.spv_conditions.specs.Image.{IsNumeric, component_of, IsOfSampledType, IsTexel}
use Rattle.spv_conditions.specs.Texels.{has_bit, before_of, grad_at, offset_at, sample_at, Where, IsSampleFit, IsSignFit}
use Rattle.spv_conditions.specs.Texels.{IsLod, IsPlane, IsAt, AreGrad, IsOffset, AreImageOperands}
use Rattle.spv_check.proofs.Decided.{Decided, both, four, either, some_and, number_same, is_true}
use Rattle.spv_check.proofs.Forms.{constant_or_not, float_or_not, has_sort, int_of_width, pointer_to, points_somewhere}
use Rattle.spv_check.proofs.Forms.{sampled_or_not, some_int, struct_or_not, void_or_not}

-- sizes and ranges

pub size_or_not : (is : List PlainInst) (t : ℕ) → Decided (IsSizeInt is t)
size_or_not is t =
    some_and (option_and_then size_in (addressing_of is)) (IsInt is t) (λ w. int_of_width (form_of is t) w)

array_of_sizes : (is : List PlainInst) (n : ℕ) (f : Form) → Decided (IsArrayOfSizes is n f)
array_of_sizes is n (form.Array e l) = both (size_or_not is e) (number_same (length_of is l) (Some n))
array_of_sizes is n _ = inr (λ h. h)

pub size_array : (is : List PlainInst) (n t : ℕ) → Decided (IsSizeArray is n t)
size_array is n t = some_and (form_of is t) (IsArrayOfSizes is n) (array_of_sizes is n)

of_range : (is : List PlainInst) (os : List Plain) → Decided (AreOfRange is os)
of_range is (Id d ∷ Id a ∷ Id b ∷ Id c ∷ []) =
    four (int_of_width (form_of is d) 32) (size_array is 3 a) (size_array is 3 b) (size_array is 3 c)
of_range is _ = inr (λ h. h)

pub range_struct : (is : List PlainInst) (t : ℕ) → Decided (IsRangeStruct is t)
range_struct is t =
    both (struct_or_not (form_of is t)) (some_and (members_of is t) (AreOfRange is) (of_range is))

pub range_or_not : (is : List PlainInst) (t : ℕ) → Decided (IsRange is t)
range_or_not is t =
    either (range_struct is t) (points_somewhere is t (λ p. IsRangeStruct is p) (λ p. range_struct is p))

-- images

pub image_or_not : (is : List PlainInst) (k : Images) (t : ℕ) → Decided (IsImage is k t)
image_or_not is k t =
    some_and (image_of is t) (λ m. IsTrue (has_images k m)) (λ m. is_true (has_images k m))

pub sampled_image : (is : List PlainInst) (t : ℕ) → Decided (IsSampled is t)
sampled_image is t = both (sampled_or_not (form_of is t))
    (some_and (image_behind is t) (λ m. m.multisampled ≡ 0) (λ m. cases_eq m.multisampled 0))

pub texel_pointer : (is : List PlainInst) (t u : ℕ) → Decided (IsTexelPointer is t u)
texel_pointer is t u = some_and (image_behind is u) (λ m. IsPointer is t 11 m.sampled_type)
    (λ m. pointer_to (form_of is t) 11 m.sampled_type)

pub counts_or_not : (is : List PlainInst) (f : Image → Option ℕ) (P : ℕ → ℕ → Type 0)
    → ((n m : ℕ) → Decided (P n m)) → (t u : ℕ) → Decided (Counts is f P t u)
counts_or_not is f P d t u =
    some_and (image_behind is u) (λ m. IsSomeAnd (f m) (λ n. IsSomeAnd (components_of is t) (λ c. P n c.count)))
    (λ m. some_and (f m) (λ n. IsSomeAnd (components_of is t) (λ c. P n c.count))
    (λ n. some_and (components_of is t) (λ c. P n c.count) (λ c. d n c.count)))

pub numeric_or_not : (is : List PlainInst) (t : ℕ) → Decided (IsNumeric is t)
numeric_or_not is t = either (has_sort is sort.Int t) (has_sort is sort.Float t)

of_sampled_type : (is : List PlainInst) (t u : ℕ) → Decided (IsOfSampledType is t u)
of_sampled_type is t u = some_and (image_behind is u)
    (λ m. (form_of is m.sampled_type ≡ Some form.Void) ⊎ (component_of is t ≡ Some m.sampled_type))
    (λ m. either (void_or_not (form_of is m.sampled_type)) (number_same (component_of is t) (Some m.sampled_type)))

pub texel_or_not : (is : List PlainInst) (t u : ℕ) → Decided (IsTexel is t u)
texel_or_not is t u = both (numeric_or_not is t) (of_sampled_type is t u)

-- image operands

same_truth : (a b : Bool) → Decided (a ≡ b)
same_truth true true = inl refl
same_truth false false = inl refl
same_truth true false = inr (λ e. cc)
same_truth false true = inr (λ e. cc)

pub sample_fit : (is : List PlainInst) (m o : ℕ) → Decided (IsSampleFit is m o)
sample_fit is m o = some_and (image_behind is o) (λ i. has_bit m 64 ≡ nat_eq i.multisampled 1)
    (λ i. same_truth (has_bit m 64) (nat_eq i.multisampled 1))

where_or_not : (b : Bool) (P : Type 0) → Decided P → Decided (Where b P)
where_or_not true P d = d
where_or_not false P d = inl tt

pub sign_fit : (is : List PlainInst) (m t : ℕ) → Decided (IsSignFit is m t)
sign_fit is m t = where_or_not (has_bit m 4096 || has_bit m 8192) (HasSort sort.Int is t) (has_sort is sort.Int t)

lod_or_not : (is : List PlainInst) (k : Texels) (t : ℕ) → Decided (IsLod is k t)
lod_or_not is texels.Sampled t = float_or_not (form_of is t)
lod_or_not is texels.Read t = some_int is t
lod_or_not is texels.Written t = some_int is t

plane_or_not : (is : List PlainInst) (s : Sort) (o t : ℕ) → Decided (IsPlane is s o t)
plane_or_not is s o t = both (has_sort is s t)
    (counts_or_not is (λ i. plane_in i.dim) (λ n m. n ≡ m) (λ n m. cases_eq n m) t o)

at_place : (types : List ℕ) (k : ℕ) (P : ℕ → Type 0) → ((t : ℕ) → Decided (P t)) → Decided (IsAt types k P)
at_place ts k P d = some_and (slice_get ts k) P d

pub constant_at : (is : List PlainInst) (i : PlainInst) (k : ℕ) → Decided (IsConstantAt is i k)
constant_at is i k = some_and (slice_get (all_ids_in i.operands) k) (IsConstant is) (constant_or_not is)

grad_or_not : (is : List PlainInst) (types : List ℕ) (o k : ℕ) → Decided (AreGrad is types o k)
grad_or_not is ts o k = both (at_place ts k (IsPlane is sort.Float o) (plane_or_not is sort.Float o))
    (at_place ts (k + 1) (IsPlane is sort.Float o) (plane_or_not is sort.Float o))

offset_or_not : (is : List PlainInst) (i : PlainInst) (types : List ℕ) (o k : ℕ) → Decided (IsOffset is i types o k)
offset_or_not is i ts o k =
    both (at_place ts k (IsPlane is sort.Int o) (plane_or_not is sort.Int o)) (constant_at is i k)

pub image_operands : (is : List PlainInst) (i : PlainInst) (k : Texels) (types : List ℕ) (m o : ℕ)
    → Decided (AreImageOperands is i k types m o)
image_operands is i k ts m o = four
    (where_or_not (has_bit m 2) (IsAt ts (before_of k) (IsLod is k))
    (at_place ts (before_of k) (IsLod is k) (lod_or_not is k)))
    (where_or_not (has_bit m 4) (AreGrad is ts o (grad_at k m)) (grad_or_not is ts o (grad_at k m)))
    (where_or_not (has_bit m 8) (IsOffset is i ts o (offset_at k m)) (offset_or_not is i ts o (offset_at k m)))
    (where_or_not (has_bit m 64) (IsAt ts (sample_at k m) (IsSomeInt is))
    (at_place ts (sample_at k m) (IsSomeInt is) (some_int is)))
