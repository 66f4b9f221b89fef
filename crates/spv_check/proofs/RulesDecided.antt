-- What the rules Y1 to Y8 demand: decided.
use Rattle.std.proofs.Common.{◌≡◌, ◌<◌, ◌≤◌, ◌∙◌, ◌^◌, ℕ, List, [], ◌∷◌, Option, Some, None, Bool, true, false, refl}
use Rattle.std.proofs.Common.{sym, ap, subst, inl, inr, length}
use Rattle.std.specs.Prelude.{IsSomeAnd, IsSome, IsTrue, slice_get, map, take}
use Rattle.std.proofs.lemmas.Bool.{cases_eq}
use Rattle.std.proofs.lemmas.Option.{same_Some}
use Rattle.spv_table.specs.Table.{Table}
use Rattle.spv_module.specs.Operand.{Plain, Result, Id, Word, Number, Value, PlainInst, type_in}
use Rattle.spv_module.specs.Width.{definition_of, type_of}
use Rattle.spv_module.specs.declared.fault.Rule.{Rule}
use Rattle.spv_module.specs.declared.fault.Rule.TheVariants as rule
use Rattle.spv_layout.specs.declared.form.Role.{Role}
use Rattle.spv_layout.specs.declared.form.Role.TheVariants as role
use Rattle.spv_layout.specs.Shape.{FitsShape}
use Rattle.spv_layout.proofs.Places.{function_same}
use Rattle.spv_ids.specs.Definition.{IsDefinedAt}
use Rattle.spv_type_forms.specs.declared.form.Form.TheVariants as form
use Rattle.spv_type_forms.specs.Form.{form_in, form_of}
use Rattle.spv_type_forms.specs.Types.{scalar_in, class_in, IsSomeInt, IsData}
use Rattle.spv_type_forms.specs.Parts.{length_of, AreParts}
use Rattle.spv_type_kinds.specs.declared.kinds.Object.TheVariants as object
use Rattle.spv_type_forms.specs.declared.objects.Image.{Image}
use Rattle.spv_type_forms.specs.Objects.{image_in, image_of}
use Rattle.spv_type_forms.proofs.Deciding.{lacks_or_not}
use Rattle.spv_type_kinds.specs.Operands.{ids_in, after_head}
use Rattle.spv_type_forms.specs.Values.{types_of}
use Rattle.spv_ops.specs.Typed.{IsTyped}
use Rattle.spv_ops.proofs.Judged.{told}
use Rattle.spv_type_rules.specs.roles.Role.{Plays}
use Rattle.spv_type_rules.specs.roles.inner.Role.{IsTypeDeclaration, IsValue, IsOfOpcode}
use Rattle.spv_type_rules.specs.declared.declaration.Declaration.{Declaration}
use Rattle.spv_type_rules.specs.declared.declaration.Declaration.TheVariants.{Int, Float, Vector, Array, Struct}
use Rattle.spv_type_rules.specs.declared.declaration.Declaration.TheVariants.{Pointer, Function, Forward}
use Rattle.spv_type_rules.specs.declared.declaration.Declaration.TheVariants as declaration
use Rattle.spv_type_rules.specs.declared.constant.Constant.{Constant}
use Rattle.spv_type_rules.specs.declared.constant.Constant.TheVariants as constant
use Rattle.spv_type_rules.specs.Declaration.{declaration_of, IsLength, IsPointerAfter, DeclaresSoundly}
use Rattle.spv_type_rules.specs.Declaration.{IsSoundImage, IsSampled}
use Rattle.spv_type_rules.specs.Asked.{IsIntWidth, IsFloatWidth, IsVectorCount}
use Rattle.spv_type_rules.specs.inner.Declaration.{IsSoundDeclaration}
use Rattle.spv_type_rules.specs.Constant.{constant_of, is_part_opcode, IsPart, FitsWidth, AreConstantParts, Constitutes}
use Rattle.spv_type_rules.specs.inner.Constant.{IsSoundConstant}
use Rattle.spv_type_rules.specs.Function.{signature_of, parameters_after, ReturnsAfter, parameters_between}
use Rattle.spv_type_rules.specs.Function.{parameter_type_of, OfFunction, ReturnsNothing, ReturnsTyped, CallsTyped}
use Rattle.spv_type_rules.specs.Function.{CallsSoundly}
use Rattle.spv_type_rules.specs.Keeps.{KeepsFunctions, KeepsReturns, Keeps}
use Rattle.spv_type_rules.specs.inner.Keeps.{CallsAreSound}
use Rattle.spv_check.proofs.Decided.{Decided, held, anew, both, five, either, opposite, given, some_and, matched, pinned}
use Rattle.spv_check.proofs.Decided.{number_same, all_or_not, is_true}
use Rattle.spv_check.proofs.Standing.{least_or_not, less_or_not, defined_with, function_or_none, global_or_not}
use Rattle.spv_check.proofs.Forms.{int_or_not, float_or_not, bool_or_not, void_or_not, opaque_or_not, data_or_not}
use Rattle.spv_check.proofs.Forms.{some_int, object_or_not, parts_or_not}
use Rattle.spv_check.proofs.Rows.{typed_or_not}

-- Y1

some_or_not : {A : Type 0} → (o : Option A) → Decided (IsSome o)
some_or_not None = inr (λ h. let e : false ≡ true = h in cc)
some_or_not (Some x) = inl refl

pub plays_or_not : (is : List PlainInst) (r : Role) (x : ℕ) → Decided (Plays is r x)
plays_or_not is role.OfType x = some_and (definition_of is x) IsTypeDeclaration
    (λ d. either (both (least_or_not 19 d.opcode) (least_or_not d.opcode 38))
    (either (cases_eq d.opcode 322) (cases_eq d.opcode 327)))
plays_or_not is role.Value x = some_and (definition_of is x) IsValue
    (λ d. both (some_or_not (type_in d.operands)) (opposite (cases_eq d.opcode 54)))
plays_or_not is role.Function x = some_and (definition_of is x) (IsOfOpcode 54) (λ d. cases_eq d.opcode 54)
plays_or_not is role.Text x = some_and (definition_of is x) (IsOfOpcode 7) (λ d. cases_eq d.opcode 7)
plays_or_not is role.Set x = some_and (definition_of is x) (IsOfOpcode 11) (λ d. cases_eq d.opcode 11)
plays_or_not is role.Global x = global_or_not is x
plays_or_not is role.Label x = inl tt
plays_or_not is role.Any x = inl tt

-- Y2

int_width : (w : ℕ) → Decided (IsIntWidth w)
int_width w = either (cases_eq w 8) (either (cases_eq w 16) (either (cases_eq w 32) (cases_eq w 64)))

float_width : (w : ℕ) → Decided (IsFloatWidth w)
float_width w = either (cases_eq w 16) (either (cases_eq w 32) (cases_eq w 64))

vector_count : (n : ℕ) → Decided (IsVectorCount n)
vector_count n = either (cases_eq n 2)
    (either (cases_eq n 3) (either (cases_eq n 4) (either (cases_eq n 8) (cases_eq n 16))))

length_or_not : (is : List PlainInst) (x : ℕ) → Decided (IsLength is x)
length_or_not is x = both (some_and (type_of is x) (IsSomeInt is) (some_int is))
    (some_and (length_of is x) (λ n. 1 ≤ n) (λ n. least_or_not 1 n))

record IsAfter (is : List PlainInst) (n class m : ℕ) : Type 0 where
  pub after : n < m
  pub inst : PlainInst
  pub there : slice_get is m ≡ Some inst
  pub pointer : class_in (form_in inst) ≡ Some class

after_or_not : (is : List PlainInst) (n class m : ℕ) → Decided (IsAfter is n class m)
after_or_not is n class m = anew (λ h. record { after = h.0; inst = h.1.0; there = h.1.1; pointer = h.1.2 })
    (λ a. (a.after, (a.inst, a.there, a.pointer)))
    (both (less_or_not n m) (pinned (slice_get is m) (λ i. class_in (form_in i) ≡ Some class)
    (λ i. number_same (class_in (form_in i)) (Some class))))

after_pointer : (is : List PlainInst) (n t class m : ℕ) (d : IsDefinedAt is t m) (a : IsAfter is n class m)
    → class_in (form_in d.inst) ≡ Some class
after_pointer is n t class m d a = ap (λ (i : PlainInst). class_in (form_in i))
    (same_Some d.inst a.inst (sym d.there ∙ a.there)) ∙ a.pointer

pointer_after : (is : List PlainInst) (n t class : ℕ) → Decided (IsPointerAfter is n t class)
pointer_after is n t class = anew
    (λ h. record {
      place = h.0;
      after = h.1.1.after;
      defined = h.1.0;
      pointer = after_pointer is n t class h.0 h.1.0 h.1.1;
    })
    (λ p. (
    let d = p.defined in
    (p.place, (d, record { after = p.after; inst = d.inst; there = d.there; pointer = p.pointer }))))
    (defined_with is t (IsAfter is n class) (after_or_not is n class))

sound_image : (is : List PlainInst) (m : Image) → Decided (IsSoundImage is m)
sound_image is m =
    let f = form_of is m.sampled_type in
    five (either (void_or_not f) (either (int_or_not f) (float_or_not f))) (least_or_not m.depth 2)
    (least_or_not m.arrayed 1) (least_or_not m.multisampled 1) (least_or_not m.sampled 2)

declares : (is : List PlainInst) (n : ℕ) (d : Declaration) (os : List Plain) → Decided (DeclaresSoundly is n d os)
declares is n Int (Result t ∷ Word w ∷ Word s ∷ []) = both (int_width w) (cases_eq s 0)
declares is n Float (Result t ∷ Word w ∷ []) = float_width w
declares is n Vector (Result t ∷ Id c ∷ Word k ∷ []) = some_and (scalar_in (form_of is c)) (λ s. IsVectorCount k)
    (λ s. vector_count k)
declares is n Array (Result t ∷ Id e ∷ Id l ∷ []) = both (data_or_not is e) (length_or_not is l)
declares is n Struct (Result t ∷ os) = all_or_not (IsData is) (data_or_not is) (ids_in os)
declares is n Pointer (Result t ∷ Value k class ∷ Id p ∷ []) = either (data_or_not is p) (opaque_or_not (form_of is p))
declares is n Function (Result t ∷ Id r ∷ os) = both (either (data_or_not is r) (void_or_not (form_of is r)))
    (all_or_not (IsData is) (data_or_not is) (ids_in os))
declares is n Forward (Id p ∷ Value k class ∷ []) = pointer_after is n p class
declares is n declaration.Image os = some_and (image_in os) (IsSoundImage is) (sound_image is)
declares is n declaration.SampledImage (Result t ∷ Id i ∷ []) = some_and (image_of is i) IsSampled
    (λ m. both (opposite (cases_eq m.dim 5)) (opposite (cases_eq m.dim 6)))
declares is n _ os = inr (λ h. h)

declaration_or_not : (is : List PlainInst) (n : ℕ) (i : PlainInst) → Decided (IsSoundDeclaration is n i)
declaration_or_not is n i =
    matched (declaration_of i.opcode) (Unit {0}) (λ d. DeclaresSoundly is n d i.operands) (inl tt)
    (λ d. declares is n d i.operands)

-- Y4

fits_width : (is : List PlainInst) (r low : ℕ) → Decided (FitsWidth is r low)
fits_width is r low = elim (either (int_or_not (form_of is r)) (float_or_not (form_of is r))) [
  | inr none ↦ inr (λ h. elim h.1 [ inl a ↦ none (inl (h.0, a)) | inr a ↦ none (inr (h.0, a)) ])
  | inl some ↦ elim some [
    | inl a ↦ anew (λ k. (a.0, inl a.1, k))
        (λ h. (
        let p = a.1 in
        let e : h.0 ≡ a.0 = elim h.1 [ inl b ↦ cc | inr b ↦ cc ] in
        subst (λ (w : ℕ). w < 32 → low < 2 ^ w) e h.2))
        (given (less_or_not a.0 32) (less_or_not low (2 ^ a.0)))
    | inr a ↦ anew (λ k. (a.0, inr a.1, k))
        (λ h. (
        let p = a.1 in
        let e : h.0 ≡ a.0 = elim h.1 [ inl b ↦ cc | inr b ↦ cc ] in
        subst (λ (w : ℕ). w < 32 → low < 2 ^ w) e h.2))
        (given (less_or_not a.0 32) (less_or_not low (2 ^ a.0)))
  ]
]

part_or_not : (is : List PlainInst) (spec : Bool) (x : ℕ) → Decided (IsPart is spec x)
part_or_not is spec x = some_and (definition_of is x) (λ d. IsTrue (is_part_opcode spec d.opcode))
    (λ d. is_true (is_part_opcode spec d.opcode))

constant_parts : (is : List PlainInst) (spec : Bool) (r : ℕ) (xs : List ℕ) → Decided (AreConstantParts is spec r xs)
constant_parts is spec r xs = both (all_or_not (IsPart is spec) (part_or_not is spec) xs)
    (some_and (types_of is xs) (AreParts is r) (parts_or_not is r))

constitutes : (is : List PlainInst) (c : Constant) (r : ℕ) (os : List Plain) → Decided (Constitutes is c r os)
constitutes is constant.Bool r os = bool_or_not (form_of is r)
constitutes is constant.Number r (Number low high words ∷ []) = fits_width is r low
constitutes is constant.Composite r os = constant_parts is false r (ids_in os)
constitutes is constant.SpecComposite r os = constant_parts is true r (ids_in os)
constitutes is constant.Null r os = both (data_or_not is r) (opposite (lacks_or_not is r))
constitutes is constant.Sampler r (Value a mode ∷ Word n ∷ Value f filter ∷ []) =
    both (object_or_not (form_of is r) object.Sampler) (least_or_not n 1)
constitutes is constant.PipeStorage r os = object_or_not (form_of is r) object.PipeStorage
constitutes is _ r os = inr (λ h. h)

constant_or_not : (is : List PlainInst) (i : PlainInst) → Decided (IsSoundConstant is i)
constant_or_not is i = matched (constant_of i.opcode) (Unit {0})
    (λ c. IsSomeAnd (type_in i.operands) (λ r. Constitutes is c r (after_head i.operands))) (inl tt)
    (λ c. some_and (type_in i.operands) (λ r. Constitutes is c r (after_head i.operands))
    (λ r. constitutes is c r (after_head i.operands)))

-- Y6

returns_after : (r : Option ℕ) (count : ℕ) (os : List Plain) → Decided (ReturnsAfter r count os)
returns_after r count (Id t ∷ ps) = both (number_same r (Some t)) (cases_eq (length ps) count)
returns_after r count _ = inr (λ h. h)

of_function : (is : List PlainInst) (n : ℕ) (P : ℕ → PlainInst → Type 0)
    → ((f : ℕ) (d : PlainInst) → Decided (P f d)) → Decided (OfFunction is n P)
of_function is n P d = elim (function_or_none is n) [
  | inr none ↦ inr (λ h. none (h.0, h.1))
  | inl f ↦ anew (λ h. (f.0, f.1, h))
      (λ h. subst (λ (k : ℕ). IsSomeAnd (slice_get is k) (P k)) (function_same is n h.0 f.0 h.1 f.1) h.2)
      (some_and (slice_get is f.0) (P f.0) (d f.0))
]

functions_or_not : (is : List PlainInst) (n : ℕ) (i : PlainInst) → Decided (KeepsFunctions is n i)
functions_or_not is n i = anew (λ h. record { function = h.0; parameter = h.1 }) (λ k. (k.function, k.parameter))
    (both
    (given (cases_eq i.opcode 54) (some_and (signature_of is i)
    (ReturnsAfter (type_in i.operands) (parameters_after is n))
    (returns_after (type_in i.operands) (parameters_after is n))))
    (given (cases_eq i.opcode 55) (of_function is n
    (λ f d. IsSomeAnd (type_in i.operands) (λ t. parameter_type_of is d (parameters_between is f n) ≡ Some t))
    (λ f d. some_and (type_in i.operands) (λ t. parameter_type_of is d (parameters_between is f n) ≡ Some t)
    (λ t. number_same (parameter_type_of is d (parameters_between is f n)) (Some t))))))

-- Y7

returns_nothing : (is : List PlainInst) (d : PlainInst) → Decided (ReturnsNothing is d)
returns_nothing is d = some_and (type_in d.operands) (λ r. form_of is r ≡ Some form.Void)
    (λ r. void_or_not (form_of is r))

returns_typed : (d : PlainInst) (types : List ℕ) → Decided (ReturnsTyped d types)
returns_typed d (o ∷ []) = number_same (type_in d.operands) (Some o)
returns_typed d _ = inr (λ h. h)

returns_or_not : (is : List PlainInst) (n : ℕ) (i : PlainInst) → Decided (KeepsReturns is n i)
returns_or_not is n i = anew (λ h. record { nothing = h.0; value = h.1 }) (λ k. (k.nothing, k.value))
    (both
    (given (cases_eq i.opcode 253) (of_function is n (λ f d. ReturnsNothing is d) (λ f d. returns_nothing is d)))
    (given (cases_eq i.opcode 254)
    (of_function is n (λ f d. IsSomeAnd (types_of is (take 1 (ids_in i.operands))) (ReturnsTyped d))
    (λ f d. some_and (types_of is (take 1 (ids_in i.operands))) (ReturnsTyped d) (returns_typed d)))))

-- Y8

ids_same : (os : List Plain) (xs : List ℕ) → Decided (os ≡ map Id xs)
ids_same [] [] = inl refl
ids_same [] (x ∷ xs) = inr (λ e. cc)
ids_same (o ∷ os) [] = inr (λ e. cc)
ids_same (Id y ∷ os) (x ∷ xs) = anew (λ h. let a = h.0 in let b = h.1 in cc) (λ e. (cc, cc))
    (both (cases_eq y x) (ids_same os xs))
ids_same (_ ∷ os) (x ∷ xs) = inr (λ e. cc)

signature_same : (o : Option (List Plain)) (xs : List ℕ) → Decided (o ≡ Some (map Id xs))
signature_same None xs = inr (λ e. cc)
signature_same (Some os) xs = anew (λ e. ap (λ (z : List Plain). Some z) e) (λ e. same_Some os (map Id xs) e)
    (ids_same os xs)

calls_soundly : (is : List PlainInst) (r : ℕ) (os : List Plain) → Decided (CallsSoundly is r os)
calls_soundly is r (Id f ∷ os) = some_and (definition_of is f)
    (λ d. IsSomeAnd (types_of is (ids_in os)) (CallsTyped is d r))
    (λ d. some_and (types_of is (ids_in os)) (CallsTyped is d r)
    (λ types. signature_same (signature_of is d) (r ∷ types)))
calls_soundly is r _ = inr (λ h. h)

calls_or_not : (is : List PlainInst) (i : PlainInst) → Decided (CallsAreSound is i)
calls_or_not is i = given (cases_eq i.opcode 57)
    (some_and (type_in i.operands) (λ r. CallsSoundly is r (after_head i.operands))
    (λ r. calls_soundly is r (after_head i.operands)))

-- Y5, of an instruction that fits its shape

typed : (G : Table) (is : List PlainInst) (n : ℕ) (i : PlainInst) → slice_get is n ≡ Some i → FitsShape G i
    → Decided (IsTyped G is n i)
typed G is n i at fits = anew
    (λ h. (
    let t = (told G is n i at fits).0 h in
    subst (λ (j : PlainInst). IsTyped G is n j) (same_Some t.inst i (sym t.there ∙ at)) t.typed))
    (λ t. (told G is n i at fits).1 (record { inst = i; there = at; typed = t }))
    (typed_or_not is n i)

-- what is demanded holds, where it cannot be that it does not

pub keeps : (G : Table) (is : List PlainInst) (r : Rule) (n : ℕ) (i : PlainInst) → slice_get is n ≡ Some i
    → FitsShape G i
    → ¬ (¬ (Keeps (IsTyped G is) is r n i)) → Keeps (IsTyped G is) is r n i
keeps G is rule.Y2 n i at fits h = held (declaration_or_not is n i) h
keeps G is rule.Y3 n i at fits h = λ r. h (λ k. k r)
keeps G is rule.Y4 n i at fits h = held (constant_or_not is i) h
keeps G is rule.Y5 n i at fits h = held (typed G is n i at fits) h
keeps G is rule.Y6 n i at fits h = held (functions_or_not is n i) h
keeps G is rule.Y7 n i at fits h = held (returns_or_not is n i) h
keeps G is rule.Y8 n i at fits h = held (calls_or_not is i) h
keeps G is _ n i at fits h = tt
