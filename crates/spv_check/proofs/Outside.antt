-- What instructions of groups, dot products and instructions outside blocks ask: decided.
use Rattle.std.proofs.Common.{◌≡◌, ◌≢◌, ◌⊎◌, ◌<◌, ◌≤◌, ℕ, List, [], ◌∷◌, Option, Some, None, refl, inl, inr}
use Rattle.std.specs.Prelude.{IsTrue, IsSomeAnd, slice_get}
use Rattle.std.proofs.lemmas.Bool.{cases_eq}
use Rattle.spv_module.specs.declared.opcode.TheConstants as opcode
use Rattle.spv_module.specs.Operand.{Plain, Id, Word, Text, PlainInst}
use Rattle.spv_module.specs.Width.{definition_of, type_of}
use Rattle.spv_type_forms.specs.declared.form.Form.TheVariants as form
use Rattle.spv_type_forms.specs.Form.{form_of}
use Rattle.spv_type_forms.specs.Parts.{count_of}
use Rattle.spv_type_forms.specs.Types.{IsSomeInt}
use Rattle.spv_conditions.specs.Group.{enumerant_in, all_ids_in, IsScan, HasClusters, IsClusterSize, IsConstantAt}
use Rattle.spv_conditions.specs.Group.{int_width_of, part_width_of, IsPacked}
use Rattle.spv_conditions.specs.Further.{AreSome, IsIntConstant, IsLasting, IsText, IsGroup, IsNoGroup, IsMember}
use Rattle.spv_conditions.specs.Further.{AreMembers, is_silent, set_name_of, IsSilent, IsVoid, MayStand}
use Rattle.spv_check.proofs.Decided.{Decided, both, either, opposite, some_and, matched, all_or_not, is_true}
use Rattle.spv_check.proofs.Standing.{block_or_none, least_or_not, less_or_not}
use Rattle.spv_check.proofs.Forms.{constant_or_not, initializer_or_not, int_of_width, some_int, struct_or_not, void_or_not}
use Rattle.spv_check.proofs.Objects.{constant_at}

-- groups and dot products

pub scan_or_not : (i : PlainInst) → Decided (IsScan i)
scan_or_not i = some_and (enumerant_in i.operands) (λ g. g ≤ 2) (λ g. least_or_not g 2)

pub clusters_or_not : (i : PlainInst) (count : ℕ) → Decided (HasClusters i count)
clusters_or_not i count = some_and (enumerant_in i.operands)
    (λ g. ((g ≤ 2) × (count ≡ 2)) ⊎ ((g ≡ 3) × (count ≡ 3)))
    (λ g. either (both (least_or_not g 2) (cases_eq count 2)) (both (cases_eq g 3) (cases_eq count 3)))

pub cluster_size : (is : List PlainInst) (i : PlainInst) (types : List ℕ) → Decided (IsClusterSize is i types)
cluster_size is i ts = matched (slice_get ts 2) (Unit {0}) (λ t. IsSomeInt is t × IsConstantAt is i 2) (inl tt)
    (λ t. both (some_int is t) (constant_at is i 2))

pub packed_or_not : (is : List PlainInst) (f : Option ℕ) (r o : ℕ) → Decided (IsPacked is f r o)
packed_or_not is (Some f) r o = int_of_width (form_of is o) 32
packed_or_not is None r o =
    some_and (part_width_of is o) (λ w. IsSomeAnd (int_width_of is r) (λ v. w ≤ v))
    (λ w. some_and (int_width_of is r) (λ v. w ≤ v) (λ v. least_or_not w v))

-- instructions outside blocks

empty_or_not : (os : List Plain) → Decided (os ≡ [])
empty_or_not [] = inl refl
empty_or_not (o ∷ os) = inr (λ e. cc)

pub are_some : (P : Plain → Type 0) → ((o : Plain) → Decided (P o)) → (os : List Plain) → Decided (AreSome P os)
are_some P d os = both (opposite (empty_or_not os)) (all_or_not P d os)

pub int_constant : (is : List PlainInst) (o : Plain) → Decided (IsIntConstant is o)
int_constant is (Id x) = both (constant_or_not is x) (some_and (type_of is x) (IsSomeInt is) (some_int is))
int_constant is _ = inr (λ h. h)

pub lasting_or_not : (is : List PlainInst) (o : Plain) → Decided (IsLasting is o)
lasting_or_not is (Id x) = initializer_or_not is x
lasting_or_not is _ = inr (λ h. h)

pub text_or_not : (o : Plain) → Decided (IsText o)
text_or_not (Text t) = inl tt
text_or_not _ = inr (λ h. h)

pub group_or_not : (is : List PlainInst) (x : ℕ) → Decided (IsGroup is x)
group_or_not is x = some_and (definition_of is x) (λ d. d.opcode ≡ opcode.DECORATION_GROUP)
    (λ d. cases_eq d.opcode opcode.DECORATION_GROUP)

pub no_group : (is : List PlainInst) (x : ℕ) → Decided (IsNoGroup is x)
no_group is x = matched (definition_of is x) (Unit {0}) (λ d. d.opcode ≢ opcode.DECORATION_GROUP) (inl tt)
    (λ d. opposite (cases_eq d.opcode opcode.DECORATION_GROUP))

member_or_not : (is : List PlainInst) (t k : ℕ) → Decided (IsMember is t k)
member_or_not is t k = both (struct_or_not (form_of is t)) (some_and (count_of is t) (λ n. k < n) (λ n. less_or_not k n))

pub members_or_not : (is : List PlainInst) (w : Option ℕ) (os : List Plain) → Decided (AreMembers is w os)
members_or_not is None [] = inl tt
members_or_not is None (Id t ∷ os) = members_or_not is (Some t) os
members_or_not is (Some t) (Word k ∷ os) = both (member_or_not is t k) (members_or_not is None os)
members_or_not is _ _ = inr (λ h. h)

void_result : (is : List PlainInst) (r : Option ℕ) → Decided (IsVoid is r)
void_result is r = some_and r (λ t. form_of is t ≡ Some form.Void) (λ t. void_or_not (form_of is t))

silent_or_not : (is : List PlainInst) (i : PlainInst) → Decided (IsSilent is i)
silent_or_not is i = some_and (slice_get (all_ids_in i.operands) 0)
    (λ s. IsSomeAnd (set_name_of is s) (λ name. IsTrue (is_silent name)))
    (λ s. some_and (set_name_of is s) (λ name. IsTrue (is_silent name)) (λ name. is_true (is_silent name)))

pub may_stand : (is : List PlainInst) (n : ℕ) (i : PlainInst) (r : Option ℕ) → Decided (MayStand is n i r)
may_stand is n i r = either (block_or_none is n) (both (void_result is r) (silent_or_not is i))
