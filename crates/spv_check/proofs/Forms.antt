-- What a type id declares: decided.
use Rattle.std.proofs.Common.{◌≡◌, ◌∙◌, ◌+◌, ℕ, List, [], ◌∷◌, Option, Some, None, refl, sym, ap, subst, inl, inr, length}
use Rattle.std.specs.Prelude.{IsTrue}
use Rattle.std.proofs.lemmas.Bool.{cases_eq}
use Rattle.std.proofs.lemmas.Option.{same_Some}
use Rattle.spv_module.specs.Operand.{PlainInst}
use Rattle.spv_module.specs.Width.{definition_of}
use Rattle.spv_type_forms.specs.declared.form.Scalar.{Scalar}
use Rattle.spv_type_forms.specs.declared.form.Scalar.TheVariants as scalar
use Rattle.spv_type_forms.specs.declared.form.Form.{Form}
use Rattle.spv_type_forms.specs.declared.form.Form.TheVariants as form
use Rattle.spv_type_kinds.specs.declared.kinds.Object.{Object}
use Rattle.spv_type_kinds.specs.declared.kinds.Object.TheVariants as object
use Rattle.spv_type_forms.specs.declared.form.Sort.{Sort}
use Rattle.spv_type_forms.specs.declared.form.Sort.TheVariants as sort
use Rattle.spv_type_forms.specs.declared.form.Components.{Components}
use Rattle.spv_type_forms.specs.Form.{form_of}
use Rattle.spv_type_forms.specs.Definitions.{IsConstant}
use Rattle.spv_type_forms.specs.Types.{components_of, IsDataForm, IsData, IsPlainForm, IsPlain, IsSomeInt, IsNumber}
use Rattle.spv_type_forms.specs.Types.{IsVector, IsPointer, PointsTo, HasSort, sort_of, pointee_in}
use Rattle.spv_type_forms.specs.inner.Types.{IsB}
use Rattle.spv_type_forms.specs.inner.Definitions.{is_constant_opcode}
use Rattle.spv_type_forms.specs.Parts.{part_of, count_of, AreParts, ArePartsFrom}
use Rattle.spv_conditions.specs.Condition.{IsNamedClass}
use Rattle.spv_conditions.specs.Rest.{IsComponent}
use Rattle.spv_conditions.specs.Variable.{MayHave, MayInitialize}
use Rattle.spv_check.proofs.Decided.{Decided, anew, both, three, either, opposite, some_and, pinned, number_same, is_true}
use Rattle.spv_check.proofs.Standing.{global_section_or_not, function_or_none, global_or_not, less_or_not}

-- what an id declares

pub int_or_not : (f : Option Form) → Decided ((w : ℕ) × (f ≡ Some (form.Scalar (scalar.Int w))))
int_or_not (Some (form.Scalar (scalar.Int w))) = inl (w, refl)
int_or_not _ = inr (λ h. let e = h.1 in cc)

pub float_or_not : (f : Option Form) → Decided ((w : ℕ) × (f ≡ Some (form.Scalar (scalar.Float w))))
float_or_not (Some (form.Scalar (scalar.Float w))) = inl (w, refl)
float_or_not _ = inr (λ h. let e = h.1 in cc)

pub bool_or_not : (f : Option Form) → Decided (f ≡ Some (form.Scalar scalar.Bool))
bool_or_not (Some (form.Scalar scalar.Bool)) = inl refl
bool_or_not _ = inr (λ e. cc)

pub vector_or_not : (f : Option Form) → Decided ((c n : ℕ) × (f ≡ Some (form.Vector c n)))
vector_or_not (Some (form.Vector c n)) = inl (c, n, refl)
vector_or_not _ = inr (λ h. let e = h.2 in cc)

pub pointer_or_not : (f : Option Form) → Decided ((c p : ℕ) × (f ≡ Some (form.Pointer c p)))
pointer_or_not (Some (form.Pointer c p)) = inl (c, p, refl)
pointer_or_not _ = inr (λ h. let e = h.2 in cc)

pub void_or_not : (f : Option Form) → Decided (f ≡ Some form.Void)
void_or_not (Some form.Void) = inl refl
void_or_not _ = inr (λ e. cc)

same_object : (x o : Object) → Decided (x ≡ o)
same_object object.Image object.Image = inl refl
same_object object.Sampler object.Sampler = inl refl
same_object object.Event object.Event = inl refl
same_object object.DeviceEvent object.DeviceEvent = inl refl
same_object object.ReserveId object.ReserveId = inl refl
same_object object.Queue object.Queue = inl refl
same_object object.Pipe object.Pipe = inl refl
same_object object.PipeStorage object.PipeStorage = inl refl
same_object object.NamedBarrier object.NamedBarrier = inl refl
same_object _ _ = inr (λ e. cc)

pub object_or_not : (f : Option Form) (o : Object) → Decided (f ≡ Some (form.Object o))
object_or_not (Some (form.Object x)) o = anew (λ e. cc) (λ e. cc) (same_object x o)
object_or_not _ o = inr (λ e. cc)

pub struct_or_not : (f : Option Form) → Decided (f ≡ Some form.Struct)
struct_or_not (Some form.Struct) = inl refl
struct_or_not _ = inr (λ e. cc)

pub sampled_or_not : (f : Option Form) → Decided ((i : ℕ) × (f ≡ Some (form.SampledImage i)))
sampled_or_not (Some (form.SampledImage i)) = inl (i, refl)
sampled_or_not _ = inr (λ h. let e = h.1 in cc)

pub sampled_of : (f : Option Form) (u : ℕ) → Decided (f ≡ Some (form.SampledImage u))
sampled_of f u = elim (sampled_or_not f) [
  | inr none ↦ inr (λ h. none (u, h))
  | inl i ↦ anew (λ e. (let k = i.1 in cc)) (λ h. (let k = i.1 in cc)) (cases_eq i.0 u)
]

pub opaque_or_not : (f : Option Form) → Decided (f ≡ Some form.Opaque)
opaque_or_not (Some form.Opaque) = inl refl
opaque_or_not _ = inr (λ e. cc)

pub int_of_width : (f : Option Form) (w : ℕ) → Decided (f ≡ Some (form.Scalar (scalar.Int w)))
int_of_width f w = elim (int_or_not f) [
  | inr none ↦ inr (λ h. none (w, h))
  | inl i ↦ anew (λ e. (let k = i.1 in cc)) (λ h. (let k = i.1 in cc)) (cases_eq i.0 w)
]

-- a pointer of a class to something
pub pointer_of_class : (f : Option Form) (c : ℕ) → Decided ((p : ℕ) × (f ≡ Some (form.Pointer c p)))
pointer_of_class f c = elim (pointer_or_not f) [
  | inr none ↦ inr (λ h. none (c, h.0, h.1))
  | inl i ↦ anew (λ e. (i.1, (let k = i.2 in cc))) (λ h. (let k = i.2 in let l = h.1 in cc)) (cases_eq i.0 c)
]

-- a pointer of a class to a type
pub pointer_to : (f : Option Form) (c p : ℕ) → Decided (f ≡ Some (form.Pointer c p))
pointer_to f c p = elim (pointer_or_not f) [
  | inr none ↦ inr (λ h. none (c, p, h))
  | inl i ↦ anew (λ h. (let k = i.2 in let a = h.0 in let b = h.1 in cc)) (λ h. (let k = i.2 in (cc, cc)))
      (both (cases_eq i.0 c) (cases_eq i.1 p))
]

pub points_or_not : (is : List PlainInst) (t p : ℕ) → Decided (PointsTo is t p)
points_or_not is t p = number_same (pointee_in (form_of is t)) (Some p)

-- to the same
pub points_somewhere : (is : List PlainInst) (t : ℕ) (P : ℕ → Type 0) → ((p : ℕ) → Decided (P p))
    → Decided ((p : ℕ) × PointsTo is t p × P p)
points_somewhere is t P d = pinned (pointee_in (form_of is t)) P d

pub points_at_all : (is : List PlainInst) (t : ℕ) → Decided ((p : ℕ) × PointsTo is t p)
points_at_all is t = anew (λ h. (h.0, h.1)) (λ h. (h.0, h.1, tt)) (points_somewhere is t (λ p. Unit {0}) (λ p. inl tt))

data_form : (f : Form) → Decided (IsDataForm f)
data_form form.Void = inr (λ h. h)
data_form form.Opaque = inr (λ h. h)
data_form form.Function = inr (λ h. h)
data_form (form.SampledImage i) = inr (λ h. h)
data_form _ = inl tt

pub data_or_not : (is : List PlainInst) (t : ℕ) → Decided (IsData is t)
data_or_not is t = some_and (form_of is t) IsDataForm data_form

plain_form : (f : Form) → Decided (IsPlainForm f)
plain_form (form.Object o) = inr (λ h. h)
plain_form form.Void = inr (λ h. h)
plain_form form.Opaque = inr (λ h. h)
plain_form form.Function = inr (λ h. h)
plain_form (form.SampledImage i) = inr (λ h. h)
plain_form _ = inl tt

pub plain_or_not : (is : List PlainInst) (t : ℕ) → Decided (IsPlain is t)
plain_or_not is t = some_and (form_of is t) IsPlainForm plain_form

pub some_int : (is : List PlainInst) (t : ℕ) → Decided (IsSomeInt is t)
some_int is t = int_or_not (form_of is t)

pub number_or_not : (is : List PlainInst) (t : ℕ) → Decided (IsNumber is t)
number_or_not is t = either (some_int is t) (float_or_not (form_of is t))

-- components

abbrev parts : Scalar → ℕ → Components
parts s n = record { scalar = s; count = n }

pub scalar_or_not : (s q : Scalar) → Decided (s ≡ q)
scalar_or_not (scalar.Int v) (scalar.Int w) = anew (λ e. ap scalar.Int e) (λ e. cc) (cases_eq v w)
scalar_or_not (scalar.Float v) (scalar.Float w) = anew (λ e. ap scalar.Float e) (λ e. cc) (cases_eq v w)
scalar_or_not scalar.Bool scalar.Bool = inl refl
scalar_or_not _ _ = inr (λ e. cc)

pub made_or_not : (o : Option Components) (s : Scalar) (n : ℕ) → Decided (o ≡ Some (parts s n))
made_or_not None s n = inr (λ e. cc)
made_or_not (Some c) s n =
    anew (λ h. ap (λ (q : Scalar). Some (parts q c.count)) h.0 ∙ ap (λ (m : ℕ). Some (parts s m)) h.1)
    (λ e. let k = same_Some c (parts s n) e in
    (ap (λ (d : Components). d.scalar) k, ap (λ (d : Components). d.count) k))
    (both (scalar_or_not c.scalar s) (cases_eq c.count n))

bool_in : (s : Scalar) → Decided (s ≡ scalar.Bool)
bool_in scalar.Bool = inl refl
bool_in _ = inr (λ e. cc)

count_same : (o : Option Components) (s q : Scalar) (n m : ℕ) → o ≡ Some (parts s n) → o ≡ Some (parts q m) → n ≡ m
count_same o s q n m a b = ap (λ (c : Components). c.count) (same_Some (parts s n) (parts q m) (sym a ∙ b))

bools : (o : Option Components) → Decided ((n : ℕ) × (o ≡ Some (parts scalar.Bool n)))
bools None = inr (λ h. let e = h.1 in cc)
bools (Some c) = anew (λ e. (c.count, ap (λ (s : Scalar). Some (parts s c.count)) e))
    (λ h. ap (λ (k : Components). k.scalar) (same_Some c (parts scalar.Bool h.0) h.1)) (bool_in c.scalar)

bools_of : (o : Option Components) (n : ℕ) → Decided (o ≡ Some (parts scalar.Bool n))
bools_of o n = elim (bools o) [
  | inr none ↦ inr (λ h. none (n, h))
  | inl b ↦ anew (λ e. subst (λ (k : ℕ). o ≡ Some (parts scalar.Bool k)) e b.1)
      (λ h. count_same o scalar.Bool scalar.Bool b.0 n b.1 h) (cases_eq b.0 n)
]

pub sort_same : (a b : Sort) → Decided (a ≡ b)
sort_same sort.Int sort.Int = inl refl
sort_same sort.Float sort.Float = inl refl
sort_same sort.Bool sort.Bool = inl refl
sort_same _ _ = inr (λ e. cc)

pub has_sort : (is : List PlainInst) (s : Sort) (t : ℕ) → Decided (HasSort s is t)
has_sort is s t = some_and (components_of is t) (λ c. sort_of c.scalar ≡ s) (λ c. sort_same (sort_of c.scalar) s)

pub named_class : (c : ℕ) → Decided (IsNamedClass c)
named_class c = either (cases_eq c 4) (either (cases_eq c 5) (cases_eq c 7))

pub two_pointers : (is : List PlainInst) (r o : ℕ)
    → Decided ((class p q : ℕ) × IsPointer is o class p × IsPointer is r class q)
two_pointers is r o = elim (pointer_or_not (form_of is o)) [
  | inr none ↦ inr (λ h. none (h.0, h.1, h.3))
  | inl f ↦ anew (λ k. (f.0, f.1, k.0, f.2, k.1))
      (λ h. (
      let a = f.2 in
      let b = h.3 in
      let c : h.0 ≡ f.0 = cc in
      (h.2, subst (λ (k : ℕ). IsPointer is r k h.2) c h.4)))
      (pointer_of_class (form_of is r) f.0)
]

pub bool_vectors : (is : List PlainInst) (r o : ℕ) → Decided ((c n : ℕ) × IsVector is r c n × IsB is o n)
bool_vectors is r o = elim (vector_or_not (form_of is r)) [
  | inr none ↦ inr (λ h. none (h.0, h.1, h.2))
  | inl f ↦ anew (λ k. (f.0, f.1, f.2, k))
      (λ h. (
      let a = f.2 in
      let b = h.2 in
      let d : h.1 ≡ f.1 = cc in
      subst (λ (n : ℕ). IsB is o n) d h.3))
      (bools_of (components_of is o) f.1)
]

-- composites

parts_from : (is : List PlainInst) (t k : ℕ) (us : List ℕ) → Decided (ArePartsFrom is t k us)
parts_from is t k [] = inl tt
parts_from is t k (u ∷ us) = both (number_same (part_of is t k) (Some u)) (parts_from is t (k + 1) us)

pub parts_or_not : (is : List PlainInst) (t : ℕ) (us : List ℕ) → Decided (AreParts is t us)
parts_or_not is t us = both (number_same (count_of is t) (Some (length us))) (parts_from is t 0 us)

pub component_or_not : (n k : ℕ) → Decided (IsComponent n k)
component_or_not n k = either (less_or_not k n) (cases_eq k 4294967295)

pub vector_with : (is : List PlainInst) (o c : ℕ) → Decided ((n : ℕ) × IsVector is o c n)
vector_with is o c = elim (vector_or_not (form_of is o)) [
  | inr none ↦ inr (λ h. none (c, h.0, h.1))
  | inl f ↦ anew (λ e. (f.1, (let a = f.2 in cc))) (λ h. (let a = f.2 in let b = h.1 in cc)) (cases_eq f.0 c)
]

pub vector_of_count : (is : List PlainInst) (t m : ℕ) → Decided ((c : ℕ) × IsVector is t c m)
vector_of_count is t m = elim (vector_or_not (form_of is t)) [
  | inr none ↦ inr (λ h. none (h.0, m, h.1))
  | inl f ↦ anew (λ e. (f.0, (let a = f.2 in cc))) (λ h. (let a = f.2 in let b = h.1 in cc)) (cases_eq f.1 m)
]

-- variables

pub class_at : (is : List PlainInst) (n class : ℕ) → Decided (MayHave is n class)
class_at is n class = either (three (global_section_or_not is n) (opposite (cases_eq class 7))
    (opposite (cases_eq class 8))) (elim (function_or_none is n) [
      | inr none ↦ inr (λ h. none (h.0, h.1))
      | inl f ↦ anew (λ e. (f.0, f.1, e)) (λ h. h.2) (cases_eq class 7)
    ])

pub constant_or_not : (is : List PlainInst) (x : ℕ) → Decided (IsConstant is x)
constant_or_not is x = some_and (definition_of is x) (λ d. IsTrue (is_constant_opcode d.opcode))
    (λ d. is_true (is_constant_opcode d.opcode))

pub initializer_or_not : (is : List PlainInst) (x : ℕ) → Decided (MayInitialize is x)
initializer_or_not is x = either (constant_or_not is x) (global_or_not is x)
