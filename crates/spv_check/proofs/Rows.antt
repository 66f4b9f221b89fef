-- The rows of types: decided.
use Rattle.std.proofs.Common.{◌≡◌, ◌≢◌, ◌<◌, ◌≤◌, ◌+◌, ℕ, List, [], ◌∷◌, Option, Some, None, Bool, true, false, refl}
use Rattle.std.proofs.Common.{subst, inl, inr, length}
use Rattle.std.specs.Prelude.{IsSome, IsSomeAnd, slice_get, drop}
use Rattle.std.specs.List.{AllByRecursion}
use Rattle.std.proofs.lemmas.Bool.{cases_eq}
use Rattle.spv_module.specs.Operand.{Plain, PlainInst}
use Rattle.spv_type_forms.specs.declared.form.Scalar.TheVariants as scalar
use Rattle.spv_type_forms.specs.declared.form.Form.{Form}
use Rattle.spv_type_forms.specs.declared.form.Form.TheVariants as form
use Rattle.spv_type_forms.specs.declared.form.Sort.TheVariants as sort
use Rattle.spv_type_forms.specs.declared.form.Components.{Components}
use Rattle.spv_type_kinds.specs.declared.kinds.Kind.{Kind}
use Rattle.spv_type_kinds.specs.declared.kinds.Kind.TheVariants as kind
use Rattle.spv_type_kinds.specs.declared.kinds.Relation.{Relation}
use Rattle.spv_type_kinds.specs.declared.kinds.Relation.TheVariants as relation
use Rattle.spv_conditions.specs.declared.asked.Rest.{Rest}
use Rattle.spv_conditions.specs.declared.asked.Rest.TheVariants as rest
use Rattle.spv_conditions.specs.declared.asked.Asked.{Asked}
use Rattle.spv_conditions.specs.declared.asked.Asked.TheVariants as asked
use Rattle.spv_conditions.specs.Asks.{HoldsOf}
use Rattle.spv_conditions.specs.Block.{IsLocalSize, after_block}
use Rattle.spv_conditions.specs.Chain.{led_by, led_to}
use Rattle.spv_conditions.specs.Condition.{Agrees, HasResult, IsComposite, IsNamedClass, IsOf, bits_of}
use Rattle.spv_conditions.specs.Path.{reached_by, stop_at}
use Rattle.spv_conditions.specs.Rest.{RestHolds, IsComponent, IsShare, AreSeveral, IsShareAt, AreFilling, AreCounted}
use Rattle.spv_conditions.specs.Rest.{IsPartAt, OfParts, OfVector, both_sizes, shares_of}
use Rattle.spv_conditions.specs.Values.{type_at}
use Rattle.spv_conditions.specs.Variable.{MayHave, MayInitialize, HasClass, class_of, initializers_in}
use Rattle.spv_conditions.specs.Group.{enumerant_in, all_ids_in, IsPacked}
use Rattle.spv_conditions.specs.Further.{after_enumerant, IsIntConstant, IsLasting, IsText, IsGroup, IsNoGroup}
use Rattle.spv_conditions.specs.Image.{places_in, extent_in, IsNumeric}
use Rattle.spv_conditions.specs.Texels.{mask_in, is_mask, values_end, IsSampleFit, IsSignFit, AreImageOperands}
use Rattle.spv_conditions.proofs.lemmas.Paths.{all_within, never_stops}
use Rattle.spv_type_forms.specs.Form.{form_of}
use Rattle.spv_type_forms.specs.Objects.{pipe_access_of}
use Rattle.spv_type_forms.specs.Types.{components_of, IsInt, IsObject, IsPlain, IsVector, IsPointer, PointsTo, sort_of}
use Rattle.spv_type_forms.specs.Types.{pointee_in, class_in}
use Rattle.spv_type_kinds.specs.Operands.{words_in, ids_in, after_head, result_type_in}
use Rattle.spv_type_forms.specs.Parts.{part_of, count_of}
use Rattle.spv_type_forms.specs.Reach.{AreWithin}
use Rattle.spv_ops.specs.Table.{conditions_of}
use Rattle.spv_type_forms.specs.Values.{types_of}
use Rattle.spv_type_forms.proofs.MatchesDecided.{matches_or_not}
use Rattle.spv_ops.specs.Values.{values_of}
use Rattle.spv_ops.specs.Typed.{Typed}
use Rattle.spv_ops.specs.inner.Typed.{IsTypedIn}
use Rattle.spv_check.proofs.Decided.{Decided, anew, both, either, opposite, some_and, pinned, number_same, numbers_same}
use Rattle.spv_check.proofs.Decided.{all_or_not, is_true}
use Rattle.spv_check.proofs.Standing.{least_or_not, less_or_not}
use Rattle.spv_check.proofs.Forms.{bool_or_not, bool_vectors, class_at, component_or_not, data_or_not, has_sort}
use Rattle.spv_check.proofs.Forms.{initializer_or_not, int_of_width, made_or_not, named_class, number_or_not, object_or_not}
use Rattle.spv_check.proofs.Forms.{parts_or_not, plain_or_not, pointer_of_class, pointer_or_not, points_at_all}
use Rattle.spv_check.proofs.Forms.{points_or_not, points_somewhere, sampled_of, scalar_or_not, some_int, sort_same}
use Rattle.spv_check.proofs.Forms.{struct_or_not, two_pointers, vector_of_count, vector_or_not, vector_with}
use Rattle.spv_check.proofs.Objects.{constant_at, counts_or_not, image_operands, image_or_not, numeric_or_not}
use Rattle.spv_check.proofs.Objects.{range_or_not, range_struct, sample_fit, sampled_image, sign_fit, size_array}
use Rattle.spv_check.proofs.Objects.{size_or_not, texel_or_not, texel_pointer}
use Rattle.spv_check.proofs.Blocks.{block_or_not, local_size, locals_or_not}
use Rattle.spv_check.proofs.Outside.{are_some, cluster_size, clusters_or_not, group_or_not, int_constant}
use Rattle.spv_check.proofs.Outside.{lasting_or_not, may_stand, members_or_not, no_group, packed_or_not, scan_or_not}
use Rattle.spv_check.proofs.Outside.{text_or_not}

-- kinds

named_pointer : (is : List PlainInst) (t : ℕ) → Decided ((class p : ℕ) × IsPointer is t class p × IsNamedClass class)
named_pointer is t = elim (pointer_or_not (form_of is t)) [
  | inr none ↦ inr (λ h. none (h.0, h.1, h.2))
  | inl f ↦ anew (λ k. (f.0, f.1, f.2, k))
      (λ h. (
      let a = f.2 in
      let b = h.2 in
      let c : h.0 ≡ f.0 = cc in
      subst IsNamedClass c h.3))
      (named_class f.0)
]

composite_form : (f : Form) → Decided (IsComposite f)
composite_form (form.Vector c n) = inl tt
composite_form form.Struct = inl tt
composite_form (form.Array e l) = inl tt
composite_form _ = inr (λ h. h)

components_or_not : (o : Option Components) → Decided (IsSome o)
components_or_not None = inr (λ h. let e = h in cc)
components_or_not (Some c) = inl refl

kind_or_not : (is : List PlainInst) (k : Kind) (t : ℕ) → Decided (IsOf is k t)
kind_or_not is kind.Int t = some_int is t
kind_or_not is kind.Int32 t = int_of_width (form_of is t) 32
kind_or_not is kind.Number t = number_or_not is t
kind_or_not is kind.Bool t = bool_or_not (form_of is t)
kind_or_not is kind.Data t = data_or_not is t
kind_or_not is kind.Ints t = has_sort is sort.Int t
kind_or_not is kind.Floats t = has_sort is sort.Float t
kind_or_not is kind.Bools t = has_sort is sort.Bool t
kind_or_not is kind.Pointer t = points_at_all is t
kind_or_not is kind.FunctionPointer t = pointer_of_class (form_of is t) 7
kind_or_not is kind.GenericPointer t = pointer_of_class (form_of is t) 8
kind_or_not is kind.NamedPointer t = named_pointer is t
kind_or_not is kind.Vector t = vector_or_not (form_of is t)
kind_or_not is kind.Composite t = some_and (form_of is t) IsComposite composite_form
kind_or_not is kind.Plain t = plain_or_not is t
kind_or_not is kind.Scalars t = components_or_not (components_of is t)
kind_or_not is kind.Floats32 t = some_and (components_of is t) (λ c. c.scalar ≡ scalar.Float 32)
    (λ c. scalar_or_not c.scalar (scalar.Float 32))
kind_or_not is kind.FewInts t = some_and (components_of is t) (λ c. (sort_of c.scalar ≡ sort.Int) × (c.count ≤ 3))
    (λ c. both (sort_same (sort_of c.scalar) sort.Int) (least_or_not c.count 3))
kind_or_not is kind.Ballot t = made_or_not (components_of is t) (scalar.Int 32) 4
kind_or_not is kind.Int8Pointer t =
    some_and (pointee_in (form_of is t)) (λ p. IsInt is p 8) (λ p. int_of_width (form_of is p) 8)
kind_or_not is kind.Int32Pointer t =
    some_and (pointee_in (form_of is t)) (λ p. IsInt is p 32) (λ p. int_of_width (form_of is p) 32)
kind_or_not is kind.PlainPointer t = some_and (pointee_in (form_of is t)) (IsPlain is) (plain_or_not is)
kind_or_not is kind.GlobalPointer t = pointer_of_class (form_of is t) 5
kind_or_not is (kind.Object o) t = object_or_not (form_of is t) o
kind_or_not is (kind.ObjectPointer o) t =
    some_and (pointee_in (form_of is t)) (IsObject is o) (λ p. object_or_not (form_of is p) o)
kind_or_not is (kind.Pipe access) t = number_same (pipe_access_of is t) (Some access)
kind_or_not is kind.Size t = size_or_not is t
kind_or_not is kind.Sizes t = either (size_or_not is t) (either (size_array is 2 t) (size_array is 3 t))
kind_or_not is kind.RangeStruct t = range_struct is t
kind_or_not is kind.Range t = range_or_not is t
kind_or_not is kind.NumbersPointer t =
    some_and (pointee_in (form_of is t)) (IsNumeric is) (numeric_or_not is)
kind_or_not is (kind.Image k) t = image_or_not is k t
kind_or_not is kind.SampledImage t = sampled_image is t
kind_or_not is kind.Four t = vector_of_count is t 4

-- relations

same_component : (is : List PlainInst) (t u : ℕ) → Decided ((c m n : ℕ) × IsVector is t c m × IsVector is u c n)
same_component is t u = elim (vector_or_not (form_of is t)) [
  | inr none ↦ inr (λ h. none (h.0, h.1, h.3))
  | inl f ↦ anew (λ k. (f.0, f.1, k.0, f.2, k.1))
      (λ h. (
      let a = f.2 in
      let b = h.3 in
      let c : h.0 ≡ f.0 = cc in
      (h.2, subst (λ (d : ℕ). IsVector is u d h.2) c h.4)))
      (vector_with is u f.0)
]

across_or_not : (is : List PlainInst) (c d t u : ℕ)
    → Decided ((p q : ℕ) × IsPointer is t c p × IsPointer is u d q)
across_or_not is c d t u = anew (λ h. (h.0.0, h.1.0, h.0.1, h.1.1)) (λ h. ((h.0, h.2), (h.1, h.3)))
    (both (pointer_of_class (form_of is t) c) (pointer_of_class (form_of is u) d))

relation_or_not : (is : List PlainInst) (q : Relation) (t u : ℕ) → Decided (Agrees is q t u)
relation_or_not is relation.Same t u = cases_eq t u
relation_or_not is relation.SameCount t u =
    some_and (components_of is t) (λ c. IsSomeAnd (components_of is u) (λ d. c.count ≡ d.count))
    (λ c. some_and (components_of is u) (λ d. c.count ≡ d.count) (λ d. cases_eq c.count d.count))
relation_or_not is relation.OtherWidth t u =
    some_and (components_of is t) (λ c. IsSomeAnd (components_of is u) (λ d. c.scalar ≢ d.scalar))
    (λ c. some_and (components_of is u) (λ d. c.scalar ≢ d.scalar) (λ d. opposite (scalar_or_not c.scalar d.scalar)))
relation_or_not is relation.SameBits t u = either
    (pinned (bits_of is t) (λ b. bits_of is u ≡ Some b) (λ b. number_same (bits_of is u) (Some b)))
    (two_pointers is u t)
relation_or_not is relation.Chooses t u = either (bool_or_not (form_of is t)) (bool_vectors is u t)
relation_or_not is relation.PointsTo t u = points_or_not is t u
relation_or_not is relation.SamePointee t u = points_somewhere is t (λ p. PointsTo is u p) (λ p. points_or_not is u p)
relation_or_not is relation.SameClass t u = two_pointers is u t
relation_or_not is relation.VectorOf t u = vector_with is t u
relation_or_not is relation.ComponentOf t u = vector_with is u t
relation_or_not is relation.SameComponent t u = same_component is t u
relation_or_not is relation.PairOf t u = both (struct_or_not (form_of is t)) (parts_or_not is t (u ∷ u ∷ []))
relation_or_not is relation.Across t u = either (across_or_not is 4 5 t u) (across_or_not is 5 4 t u)
relation_or_not is relation.SampledImageOf t u = sampled_of (form_of is t) u
relation_or_not is relation.TexelPointer t u = texel_pointer is t u
relation_or_not is relation.Place t u = both (has_sort is sort.Int t)
    (counts_or_not is places_in (λ n m. n ≡ m) (λ n m. cases_eq n m) t u)
relation_or_not is relation.IntCoordinate t u = both (has_sort is sort.Int t)
    (counts_or_not is places_in (λ n m. n ≤ m) (λ n m. least_or_not n m) t u)
relation_or_not is relation.Coordinate t u = both (numeric_or_not is t)
    (counts_or_not is places_in (λ n m. n ≤ m) (λ n m. least_or_not n m) t u)
relation_or_not is relation.Extent t u = both (has_sort is sort.Int t)
    (counts_or_not is extent_in (λ n m. n ≡ m) (λ n m. cases_eq n m) t u)
relation_or_not is relation.Texel t u = texel_or_not is t u
relation_or_not is relation.Matches t u = both (opposite (cases_eq t u)) (matches_or_not is t u)

-- other conditions

there_or_not : (o : Option ℕ) → Decided (IsSome o)
there_or_not None = inr (λ h. let e = h in cc)
there_or_not (Some x) = inl refl

of_vector : (o : Option Form) (P : ℕ → ℕ → Type 0) → ((c n : ℕ) → Decided (P c n)) → Decided (OfVector o P)
of_vector (Some (form.Vector c n)) P d = d c n
of_vector _ P d = inl tt

of_parts : (o : Option Form) (P : Type 0) → Decided P → Decided (OfParts o P)
of_parts (Some form.Struct) P d = d
of_parts (Some (form.Array e l)) P d = d
of_parts _ P d = inl tt

share_or_not : (is : List PlainInst) (c u : ℕ) → Decided (IsShare is c u)
share_or_not is c u = either (cases_eq u c) (vector_with is u c)

within_or_not : (is : List PlainInst) (os : List Plain) (t : ℕ) → Decided (AreWithin is t (words_in os))
within_or_not is os t =
    anew (λ e. all_within is os 0 t e) (λ w. never_stops is os 0 t w) (number_same (stop_at is 0 os t) None)

has_class : (is : List PlainInst) (r : Option ℕ) (os : List Plain) → Decided (HasClass is r os)
has_class is r os = some_and r (λ t. IsSomeAnd (class_of os) (λ c. class_in (form_of is t) ≡ Some c))
    (λ t. some_and (class_of os) (λ c. class_in (form_of is t) ≡ Some c)
    (λ c. number_same (class_in (form_of is t)) (Some c)))

rest_or_not : (is : List PlainInst) (n : ℕ) (i : PlainInst) (r : Option ℕ) (types : List ℕ) (q : Rest)
    → Decided (RestHolds is n i r types q)
rest_or_not is n i r types rest.Weights =
    either (numbers_same (words_in i.operands) []) (cases_eq (length (words_in i.operands)) 2)
rest_or_not is n i r types rest.StorageClass = has_class is r (after_head i.operands)
rest_or_not is n i r types rest.ClassHere = some_and (class_of (after_head i.operands)) (MayHave is n) (class_at is n)
rest_or_not is n i r types rest.Initializer =
    all_or_not (MayInitialize is) (initializer_or_not is) (initializers_in (after_head i.operands))
rest_or_not is n i r types rest.InitializerType =
    some_and r (λ t. AllByRecursion (PointsTo is t) types) (λ t. all_or_not (PointsTo is t) (points_or_not is t) types)
rest_or_not is n i r types (rest.Chosen element k) =
    there_or_not (led_by is element (ids_in (after_head i.operands)) types (k + 1))
rest_or_not is n i r types (rest.Leads element) =
    some_and r (λ t. IsSomeAnd (led_to is element (ids_in (after_head i.operands)) types) (PointsTo is t))
    (λ t. some_and (led_to is element (ids_in (after_head i.operands)) types) (PointsTo is t) (points_or_not is t))
rest_or_not is n i r types rest.Indexes = opposite (numbers_same (words_in i.operands) [])
rest_or_not is n i r types (rest.Within k) =
    some_and (slice_get types k) (λ t. AreWithin is t (words_in i.operands)) (within_or_not is i.operands)
rest_or_not is n i r types (rest.Reached s k) =
    some_and (slice_get types k) (λ t. IsSomeAnd (type_at r types s) (λ u. reached_by is (words_in i.operands) t ≡ u))
    (λ t. some_and (type_at r types s) (λ u. reached_by is (words_in i.operands) t ≡ u)
    (λ u. cases_eq (reached_by is (words_in i.operands) t) u))
rest_or_not is n i r types rest.ComponentCount =
    some_and r (λ t. (c : ℕ) × IsVector is t c (length (words_in i.operands)))
    (λ t. vector_of_count is t (length (words_in i.operands)))
rest_or_not is n i r types rest.Component =
    all_or_not (IsComponent (both_sizes is types)) (component_or_not (both_sizes is types)) (words_in i.operands)
rest_or_not is n i r types rest.Several =
    some_and r (λ t. AreSeveral types (form_of is t))
    (λ t. of_vector (form_of is t) (λ c m. 1 < length types) (λ c m. less_or_not 1 (length types)))
rest_or_not is n i r types (rest.Share k) = some_and r (λ t. IsShareAt is types k (form_of is t))
    (λ t. of_vector (form_of is t) (λ c m. IsSomeAnd (slice_get types k) (IsShare is c))
    (λ c m. some_and (slice_get types k) (IsShare is c) (share_or_not is c)))
rest_or_not is n i r types rest.Filled =
    some_and r (λ t. AreFilling is types (form_of is t))
    (λ t. of_vector (form_of is t) (λ c m. shares_of is c types ≡ Some m)
    (λ c m. number_same (shares_of is c types) (Some m)))
rest_or_not is n i r types rest.Count =
    some_and r (λ t. AreCounted is t types (form_of is t))
    (λ t. of_parts (form_of is t) (count_of is t ≡ Some (length types))
    (number_same (count_of is t) (Some (length types))))
rest_or_not is n i r types (rest.Part k) = some_and r (λ t. IsPartAt is t types k (form_of is t))
    (λ t. of_parts (form_of is t) (IsSomeAnd (slice_get types k) (λ u. part_of is t k ≡ Some u))
    (some_and (slice_get types k) (λ u. part_of is t k ≡ Some u) (λ u. number_same (part_of is t k) (Some u))))
rest_or_not is n i r types rest.CastClass = has_class is r (drop 1 (after_head i.operands))
rest_or_not is n i r types rest.Scan = scan_or_not i
rest_or_not is n i r types rest.Cluster = clusters_or_not i (length types)
rest_or_not is n i r types rest.ClusterSize = cluster_size is i types
rest_or_not is n i r types (rest.Constant k) = constant_at is i k
rest_or_not is n i r types rest.Packed =
    some_and (slice_get types 0) (λ o. IsSomeAnd r (λ t. IsPacked is (enumerant_in i.operands) t o))
    (λ o. some_and r (λ t. IsPacked is (enumerant_in i.operands) t o)
    (λ t. packed_or_not is (enumerant_in i.operands) t o))
rest_or_not is n i r types (rest.ImageMask k) =
    both (is_true (is_mask k (mask_in i.operands))) (cases_eq (length types) (values_end k (mask_in i.operands)))
rest_or_not is n i r types rest.ImageSample =
    some_and (slice_get types 0) (IsSampleFit is (mask_in i.operands)) (sample_fit is (mask_in i.operands))
rest_or_not is n i r types (rest.ImageSign s) =
    some_and (type_at r types s) (IsSignFit is (mask_in i.operands)) (sign_fit is (mask_in i.operands))
rest_or_not is n i r types (rest.ImageOperands k) =
    some_and (slice_get types 0) (AreImageOperands is i k types (mask_in i.operands))
    (image_operands is i k types (mask_in i.operands))
rest_or_not is n i r types rest.Extended = may_stand is n i r
rest_or_not is n i r types rest.ModeIds =
    are_some (IsIntConstant is) (int_constant is) (after_enumerant i.operands)
rest_or_not is n i r types rest.DecorationIds =
    are_some (IsLasting is) (lasting_or_not is) (after_enumerant i.operands)
rest_or_not is n i r types rest.Texts = are_some IsText text_or_not (after_enumerant i.operands)
rest_or_not is n i r types rest.Group =
    some_and (slice_get (all_ids_in i.operands) 0) (IsGroup is) (group_or_not is)
rest_or_not is n i r types rest.NoMoreGroups =
    all_or_not (IsNoGroup is) (no_group is) (all_ids_in (drop 1 i.operands))
rest_or_not is n i r types rest.Members = members_or_not is None (drop 1 i.operands)
rest_or_not is n i r types (rest.Block k) = block_or_not is (ids_in (after_head i.operands)) k types
rest_or_not is n i r types (rest.LocalSizes k) = all_or_not (IsLocalSize is) (local_size is) (after_block k types)
rest_or_not is n i r types (rest.Locals k) = locals_or_not is (ids_in (after_head i.operands)) k types

-- all conditions

result_or_not : (b : Bool) (r : Option ℕ) → Decided (HasResult b r)
result_or_not true (Some r) = inl tt
result_or_not true None = inr (λ h. h)
result_or_not false (Some r) = inr (λ h. h)
result_or_not false None = inl tt

asked_or_not : (is : List PlainInst) (n : ℕ) (i : PlainInst) (r : Option ℕ) (types : List ℕ) (a : Asked)
    → Decided (HoldsOf is n i r types a)
asked_or_not is n i r types (asked.Operands b k) = both (result_or_not b r) (cases_eq (length types) k)
asked_or_not is n i r types (asked.Kind k s) = some_and (type_at r types s) (IsOf is k) (kind_or_not is k)
asked_or_not is n i r types (asked.Relation q s t) =
    some_and (type_at r types s) (λ u. IsSomeAnd (type_at r types t) (Agrees is q u))
    (λ u. some_and (type_at r types t) (Agrees is q u) (relation_or_not is q u))
asked_or_not is n i r types (asked.Rest q) = rest_or_not is n i r types q

pub typed_or_not : (is : List PlainInst) (n : ℕ) (i : PlainInst) → Decided (IsTypedIn is n i)
typed_or_not is n i = some_and (types_of is (values_of i)) (λ types. Typed is n i types)
    (λ types. let r = result_type_in i.operands in
    all_or_not (HoldsOf is n i r types) (asked_or_not is n i r types) (conditions_of i.opcode (length types)))
