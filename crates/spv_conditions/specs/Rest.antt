-- What the table of types asks beside kinds of types and relations between them: of literals, of ids, of the place.
-- [3.49.3 to 3.49.5, 3.49.8, 3.49.10 to 3.49.13, 3.49.17, 3.49.21, 3.49.24; own: the table of types]
use Rattle.std.specs.Prelude.{◌≡◌, ◌≢◌, ◌⊎◌, ◌+◌, ◌<◌, ℕ, List, [], ◌∷◌, Option, Some, None, IsSome, IsSomeAnd}
use Rattle.std.specs.Prelude.{length, slice_get, drop, nat_eq, if◌then◌else◌, option_and_then, option_map}
use Rattle.std.specs.List.{AllByRecursion}
use Rattle.spv_module.specs.Operand.{PlainInst}
use Rattle.spv_type_kinds.specs.Operands.{words_in, ids_in, after_head}
use Rattle.spv_type_forms.specs.Types.{PointsTo, IsVector}
use Rattle.spv_type_forms.specs.declared.form.Form.{Form}
use Rattle.spv_type_forms.specs.declared.form.Form.TheVariants as form
use Rattle.spv_type_forms.specs.Form.{form_of}
use Rattle.spv_type_forms.specs.Reach.{AreWithin}
use Rattle.spv_type_forms.specs.Parts.{count_of, part_of}
use Rattle.spv_conditions.specs.declared.asked.Rest.{Rest}
use Rattle.spv_conditions.specs.declared.asked.Rest.TheVariants as rest
use Rattle.spv_conditions.specs.Chain.{led_by, led_to}
use Rattle.spv_conditions.specs.Variable.{initializers_in, class_of, HasClass, MayHave, MayInitialize}
use Rattle.spv_conditions.specs.Values.{type_at}
use Rattle.spv_conditions.specs.Path.{reached_by}
use Rattle.spv_conditions.specs.Further.{after_enumerant, AreSome, IsIntConstant, IsLasting, IsText, BeginsWithGroup}
use Rattle.spv_conditions.specs.Further.{HasNoMoreGroups, AreMembers, MayStand}
use Rattle.spv_conditions.specs.Texels.{mask_in, IsMasked, IsSampleFit, IsSignFit, AreImageOperands}
use Rattle.spv_conditions.specs.Block.{IsBlock, IsLocalSize, after_block, AreLocals}
use Rattle.spv_conditions.specs.Group.{enumerant_in, IsScan, HasClusters, IsClusterSize, IsConstantAt, IsPacked}

-- how many components a vector type has; how many the first two types, vectors, have together [3.49.6; 3.49.12
-- OpVectorShuffle]
abbrev pub size_in : Option Form → ℕ
size_in (Some (form.Vector c n)) = n
size_in _ = 0

abbrev pub both_sizes : List PlainInst → List ℕ → ℕ
both_sizes is (t ∷ u ∷ ts) = size_in (form_of is t) + size_in (form_of is u)
both_sizes is ts = 0

-- How many components of a vector of component type c values of these types give together: one for each type that is c,
-- the count for each that is a vector of c. [3.49.12]
abbrev pub share_in : ℕ → Option Form → Option ℕ
share_in c (Some (form.Vector d n)) = if nat_eq d c then Some n else None
share_in c _ = None

abbrev pub shares_of : List PlainInst → ℕ → List ℕ → Option ℕ
shares_of is c [] = Some 0
shares_of is c (t ∷ ts) = option_and_then (λ n. option_map (λ m. n + m) (shares_of is c ts))
    (if nat_eq t c then Some 1 else share_in c (form_of is t))

-- a literal of a shuffle: one of n components, those of two vectors, or undefined [3.49.12]
abbrev pub IsComponent : ℕ → ℕ → Type 0
IsComponent n k = (k < n) ⊎ (k ≡ 4294967295)

-- what is asked of a vector type, by its component type and its count; and of a struct or an array type. Of others
-- nothing is asked.
abbrev pub OfVector : Option Form → (ℕ → ℕ → Type 0) → Type 0
OfVector (Some (form.Vector c n)) P = P c n
OfVector o P = Unit {0}

abbrev pub OfParts : Option Form → Type 0 → Type 0
OfParts (Some form.Struct) P = P
OfParts (Some (form.Array e l)) P = P
OfParts o P = Unit {0}

-- a value of the type u gives components of the type c: one, or as many as it has [3.49.12 OpCompositeConstruct]
abbrev pub IsShare : List PlainInst → ℕ → ℕ → Type 0
IsShare is c u = (u ≡ c) ⊎ ((n : ℕ) × IsVector is u c n)

-- what is asked of constituents of these types, where a composite type of that form is made [3.49.12
-- OpCompositeConstruct]
abbrev pub AreSeveral : List ℕ → Option Form → Type 0
AreSeveral types f = OfVector f (λ c n. 1 < length types)

abbrev pub IsShareAt : List PlainInst → List ℕ → ℕ → Option Form → Type 0
IsShareAt is types k f = OfVector f (λ c n. IsSomeAnd (slice_get types k) (IsShare is c))

abbrev pub AreFilling : List PlainInst → List ℕ → Option Form → Type 0
AreFilling is types f = OfVector f (λ c n. shares_of is c types ≡ Some n)

abbrev pub AreCounted : List PlainInst → ℕ → List ℕ → Option Form → Type 0
AreCounted is t types f = OfParts f (count_of is t ≡ Some (length types))

abbrev pub IsPartAt : List PlainInst → ℕ → List ℕ → ℕ → Option Form → Type 0
IsPartAt is t types k f = OfParts f (IsSomeAnd (slice_get types k) (λ u. part_of is t k ≡ Some u))

-- It holds at the instruction i of number n: of its result type r, if it has one, of the types of its value operands in
-- order, and of its other operands. [own: Y5]
abbrev pub RestHolds : List PlainInst → ℕ → PlainInst → Option ℕ → List ℕ → Rest → Type 0
RestHolds is n i r types rest.Weights = (words_in i.operands ≡ []) ⊎ (length (words_in i.operands) ≡ 2)
RestHolds is n i r types rest.StorageClass = HasClass is r (after_head i.operands)
RestHolds is n i r types rest.ClassHere = IsSomeAnd (class_of (after_head i.operands)) (MayHave is n)
RestHolds is n i r types rest.Initializer =
    AllByRecursion (MayInitialize is) (initializers_in (after_head i.operands))
RestHolds is n i r types rest.InitializerType = IsSomeAnd r (λ t. AllByRecursion (PointsTo is t) types)
RestHolds is n i r types (rest.Chosen element k) =
    IsSome (led_by is element (ids_in (after_head i.operands)) types (k + 1))
RestHolds is n i r types (rest.Leads element) =
    IsSomeAnd r (λ t. IsSomeAnd (led_to is element (ids_in (after_head i.operands)) types) (PointsTo is t))
RestHolds is n i r types rest.Indexes = words_in i.operands ≢ []
RestHolds is n i r types (rest.Within k) = IsSomeAnd (slice_get types k) (λ t. AreWithin is t (words_in i.operands))
RestHolds is n i r types (rest.Reached s k) = IsSomeAnd (slice_get types k) (λ t.
    IsSomeAnd (type_at r types s) (λ u. reached_by is (words_in i.operands) t ≡ u))
RestHolds is n i r types rest.ComponentCount =
    IsSomeAnd r (λ t. (c : ℕ) × IsVector is t c (length (words_in i.operands)))
RestHolds is n i r types rest.Component = AllByRecursion (IsComponent (both_sizes is types)) (words_in i.operands)
RestHolds is n i r types rest.Several = IsSomeAnd r (λ t. AreSeveral types (form_of is t))
RestHolds is n i r types (rest.Share k) = IsSomeAnd r (λ t. IsShareAt is types k (form_of is t))
RestHolds is n i r types rest.Filled = IsSomeAnd r (λ t. AreFilling is types (form_of is t))
RestHolds is n i r types rest.Count = IsSomeAnd r (λ t. AreCounted is t types (form_of is t))
RestHolds is n i r types (rest.Part k) = IsSomeAnd r (λ t. IsPartAt is t types k (form_of is t))
RestHolds is n i r types rest.CastClass = HasClass is r (drop 1 (after_head i.operands))
RestHolds is n i r types rest.Scan = IsScan i
RestHolds is n i r types rest.Cluster = HasClusters i (length types)
RestHolds is n i r types rest.ClusterSize = IsClusterSize is i types
RestHolds is n i r types (rest.Constant k) = IsConstantAt is i k
RestHolds is n i r types rest.Packed = IsSomeAnd (slice_get types 0) (λ o.
    IsSomeAnd r (λ t. IsPacked is (enumerant_in i.operands) t o))
RestHolds is n i r types (rest.ImageMask k) = IsMasked k types (mask_in i.operands)
RestHolds is n i r types rest.ImageSample = IsSomeAnd (slice_get types 0) (IsSampleFit is (mask_in i.operands))
RestHolds is n i r types (rest.ImageSign s) = IsSomeAnd (type_at r types s) (IsSignFit is (mask_in i.operands))
RestHolds is n i r types (rest.ImageOperands k) =
    IsSomeAnd (slice_get types 0) (AreImageOperands is i k types (mask_in i.operands))
RestHolds is n i r types rest.Extended = MayStand is n i r
RestHolds is n i r types rest.ModeIds = AreSome (IsIntConstant is) (after_enumerant i.operands)
RestHolds is n i r types rest.DecorationIds = AreSome (IsLasting is) (after_enumerant i.operands)
RestHolds is n i r types rest.Texts = AreSome IsText (after_enumerant i.operands)
RestHolds is n i r types rest.Group = BeginsWithGroup is i
RestHolds is n i r types rest.NoMoreGroups = HasNoMoreGroups is i
RestHolds is n i r types rest.Members = AreMembers is None (drop 1 i.operands)
RestHolds is n i r types (rest.Block k) = IsBlock is (ids_in (after_head i.operands)) k types
RestHolds is n i r types (rest.LocalSizes k) = AllByRecursion (IsLocalSize is) (after_block k types)
RestHolds is n i r types (rest.Locals k) = AreLocals is (ids_in (after_head i.operands)) k types
