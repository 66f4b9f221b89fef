-- What the rules on types demand is kept where it is kept of an alike list.
use Rattle.std.proofs.Common.{◌≡◌, ◌≢◌, ◌∙◌, ◌+◌, ◌⊎◌, inl, inr, ℕ, zero, suc, List, [], ◌∷◌, ◌≤◌, Bool, true, false}
use Rattle.std.proofs.Common.{Option, Some, None, refl, sym, ap, subst, nat_eq, if◌then◌else◌, map, take, drop}
use Rattle.std.specs.Prelude.{slice_get, option_and_then, take_while, not, ◌||◌, ◌&&◌, nat_le, IsSome, IsSomeAnd}
use Rattle.std.specs.Prelude.{IsTrue, MatchOption}
use Rattle.std.proofs.lemmas.Bool.{eqb-true}
use Rattle.std.proofs.lemmas.List.Sums.{take_while-cons, sum_by-cons}
use Rattle.spv_table.specs.Table.{Table}
use Rattle.spv_module.specs.Operand.{Plain, Result, Id, Word, Number, Value, PlainInst, type_in}
use Rattle.spv_module.specs.Width.{definition_of, type_of}
use Rattle.spv_module.specs.declared.opcode.TheConstants as opcode
use Rattle.spv_module.specs.declared.fault.Rule.{Rule}
use Rattle.spv_module.specs.declared.fault.Rule.TheVariants as rule
use Rattle.spv_extended.specs.declared.set.Set.{Set}
use Rattle.spv_extended.specs.Opened.{opened_inst}
use Rattle.spv_layout.specs.declared.form.Role.{Role}
use Rattle.spv_layout.specs.declared.form.Role.TheVariants as role
use Rattle.spv_type_forms.specs.declared.form.Form.{Form}
use Rattle.spv_type_forms.specs.declared.form.Form.TheVariants as form
use Rattle.spv_type_forms.specs.Form.{form_in, form_of}
use Rattle.spv_type_kinds.specs.Operands.{ids_in, after_head}
use Rattle.spv_type_forms.specs.Parts.{id_in, AreParts}
use Rattle.spv_type_forms.specs.Types.{IsData, IsSomeInt, scalar_in, class_in}
use Rattle.spv_type_forms.specs.Values.{types_of}
use Rattle.spv_ops.specs.Typed.{IsTyped}
use Rattle.spv_type_rules.specs.declared.constant.Constant.{Constant}
use Rattle.spv_type_rules.specs.declared.constant.Constant.TheVariants as constant
use Rattle.spv_type_rules.specs.declared.declaration.Declaration.{Declaration}
use Rattle.spv_type_rules.specs.declared.declaration.Declaration.TheVariants as declaration
use Rattle.spv_type_rules.specs.Constant.{constant_of, is_part_opcode, IsPart, FitsWidth, AreConstantParts, Constitutes}
use Rattle.spv_type_rules.specs.Declaration.{declaration_of, IsLength, IsPointerAfter, DeclaresSoundly}
use Rattle.spv_type_rules.specs.Function.{signature_in, function_type_in, signature_of, parameter_count}
use Rattle.spv_type_rules.specs.Function.{parameters_after, parameters_between, parameter_type_of, ReturnsAfter}
use Rattle.spv_type_rules.specs.Function.{OfFunction, ReturnsNothing, ReturnsTyped, CallsTyped, CallsSoundly}
use Rattle.spv_type_rules.specs.Keeps.{Keeps, KeepsFunctions, KeepsReturns}
use Rattle.spv_type_rules.specs.Repeat.{Repeats}
use Rattle.spv_type_rules.specs.roles.Broken as roles
use Rattle.spv_type_rules.specs.roles.Role.{Plays}
use Rattle.spv_type_rules.specs.Declaration.{IsSampledType, IsSoundImage, IsSampled}
use Rattle.spv_type_forms.specs.declared.objects.Image.{Image}
use Rattle.spv_type_forms.specs.Objects.{image_in}
use Rattle.spv_type_forms.specs.Null.{LacksNull}
use Rattle.spv_opening.proofs.Alike.{Alike, AlikeOption, Looks, alike_opened, back, definitions}
use Rattle.spv_opening.proofs.Alike.{looks_same, other_at, same_at, told_same}
use Rattle.spv_opening.proofs.Conditions.{on_some, all_by, match_option, is_data, typed, typed_call}
use Rattle.spv_opening.proofs.Flow.{there}
use Rattle.spv_opening.proofs.Matching.{earlier_alike}
use Rattle.spv_opening.proofs.Spots.{of_function}
use Rattle.spv_opening.proofs.Types.{of_definition, opcode_of_definition, and_then, forms, types, types_of_all}
use Rattle.spv_opening.proofs.Types.{array_lengths, are_parts, images, parts, is_global}
use Rattle.spv_opening.proofs.Uses.{opened_by, used}

-- Roles.

plays : (is js : List PlainInst) → Alike is js → (r : Role) (x : ℕ) → Plays is r x → Plays js r x
plays is js a role.OfType x h =
    opcode_of_definition (λ code. ((opcode.TYPE_VOID ≤ code) × (code ≤ opcode.TYPE_PIPE))
    ⊎ (code ≡ opcode.TYPE_PIPE_STORAGE) ⊎ (code ≡ opcode.TYPE_NAMED_BARRIER)) is js a x h
plays is js a role.Value x h = by (definition_of is x) (definition_of js x) (definitions is js a x) h
  where
    by : (o q : Option PlainInst) → AlikeOption o q
        → IsSomeAnd o (λ d. IsSome (type_in d.operands) × (d.opcode ≢ opcode.FUNCTION))
        → IsSomeAnd q (λ d. IsSome (type_in d.operands) × (d.opcode ≢ opcode.FUNCTION))
    by _ _ AlikeOption.neither h = h
    by _ _ (AlikeOption.some i j l) (s, f) = (subst (λ o. IsSome o) l.type s, λ e. f (l.opcode ∙ e))
plays is js a role.Function x h = opcode_of_definition (λ code. code ≡ opcode.FUNCTION) is js a x h
plays is js a role.Text x h = opcode_of_definition (λ code. code ≡ opcode.STRING) is js a x h
plays is js a role.Set x h = opcode_of_definition (λ code. code ≡ opcode.EXT_INST_IMPORT) is js a x h
plays is js a role.Global x h = is_global is js a x h
plays is js a role.Label x h = tt
plays is js a role.Any x h = tt

pub roles_broken : (G : Table) (sets : ℕ → Set) (is : List PlainInst) (r : Rule) (n : ℕ) → roles.Broken G is r n
    → roles.Broken G (map (opened_inst sets) is) r n
roles_broken G sets is _ _ (roles.miscast n k x r u never) =
    let js = map (opened_inst sets) is in
    roles.miscast n k x r (used G sets is n k x r u)
    (λ p. never (plays js is (back is js (alike_opened sets is)) r x p))

-- Declarations.

some_int : (is js : List PlainInst) → Alike is js → (t : ℕ) → IsSomeInt is t → IsSomeInt js t
some_int is js a t (w, e) = (w, sym (forms is js a t) ∙ e)

is_length : (is js : List PlainInst) → Alike is js → (x : ℕ) → IsLength is x → IsLength js x
is_length is js a x (t, n) = (
  subst (λ o. IsSomeAnd o (IsSomeInt js)) (types is js a x)
      (on_some ℕ (IsSomeInt is) (IsSomeInt js) (type_of is x) (some_int is js a) t),
  subst (λ o. IsSomeAnd o (λ m. 1 ≤ m)) (array_lengths is js a x) n,
)

pointer_after : (is js : List PlainInst) → Alike is js → (n t class : ℕ) → IsPointerAfter is n t class
    → IsPointerAfter js n t class
pointer_after is js a n t class p =
    let o = other_at is js a p.place p.defined.inst p.defined.there in
    record {
      place = p.place;
      after = p.after;
      defined = record { inst = o.inst; there = o.there; result = sym o.looks.result ∙ p.defined.result };
      pointer = sym (ap class_in (told_same (Option Form) form_in None
          (λ k call. rw call refl) p.defined.inst o.inst o.looks)) ∙ p.pointer;
    }

data_or : (is js : List PlainInst) → Alike is js → (t : ℕ) (f : Form) → IsData is t ⊎ (form_of is t ≡ Some f)
    → IsData js t ⊎ (form_of js t ≡ Some f)
data_or is js a t f (inl h) = inl (is_data is js a t h)
data_or is js a t f (inr e) = inr (sym (forms is js a t) ∙ e)

sampled_type : (is js : List PlainInst) → Alike is js → (t : ℕ) → IsSampledType is t → IsSampledType js t
sampled_type is js a t (inl e) = inl (sym (forms is js a t) ∙ e)
sampled_type is js a t (inr (inl (w, e))) = inr (inl (w, sym (forms is js a t) ∙ e))
sampled_type is js a t (inr (inr (w, e))) = inr (inr (w, sym (forms is js a t) ∙ e))

sound_image : (is js : List PlainInst) → Alike is js → (m : Image) → IsSoundImage is m → IsSoundImage js m
sound_image is js a m h = (sampled_type is js a m.sampled_type h.0, h.1, h.2, h.3, h.4)

declares : (is js : List PlainInst) → Alike is js → (n : ℕ) (d : Declaration) (os : List Plain)
    → DeclaresSoundly is n d os → DeclaresSoundly js n d os
declares is js a n declaration.Int (Result t ∷ Word w ∷ Word s ∷ []) h = h
declares is js a n declaration.Float (Result t ∷ Word w ∷ []) h = h
declares is js a n declaration.Vector (Result t ∷ Id c ∷ Word k ∷ []) h =
    subst (λ o. IsSomeAnd (scalar_in o) (λ s. (k ≡ 2) ⊎ (k ≡ 3) ⊎ (k ≡ 4) ⊎ (k ≡ 8) ⊎ (k ≡ 16))) (forms is js a c) h
declares is js a n declaration.Array (Result t ∷ Id e ∷ Id l ∷ []) (d, m) = (is_data is js a e d, is_length is js a l m)
declares is js a n declaration.Struct (Result t ∷ os) h =
    all_by ℕ (IsData is) (IsData js) (ids_in os) (is_data is js a) h
declares is js a n declaration.Pointer (Result t ∷ Value k class ∷ Id p ∷ []) h = data_or is js a p form.Opaque h
declares is js a n declaration.Function (Result t ∷ Id r ∷ os) (d, h) =
    (data_or is js a r form.Void d, all_by ℕ (IsData is) (IsData js) (ids_in os) (is_data is js a) h)
declares is js a n declaration.Forward (Id p ∷ Value k class ∷ []) h = pointer_after is js a n p class h
declares is js a n declaration.Image os h =
    on_some Image (IsSoundImage is) (IsSoundImage js) (image_in os) (sound_image is js a) h
declares is js a n declaration.SampledImage (Result t ∷ Id i ∷ []) h =
    subst (λ o. IsSomeAnd o IsSampled) (images is js a i) h
declares is js a n _ _ h = absurd h

-- Constants.

fits_width : (is js : List PlainInst) → Alike is js → (r low : ℕ) → FitsWidth is r low → FitsWidth js r low
fits_width is js a r low (w, inl e, f) = (w, inl (sym (forms is js a r) ∙ e), f)
fits_width is js a r low (w, inr e, f) = (w, inr (sym (forms is js a r) ∙ e), f)

constant_parts : (is js : List PlainInst) → Alike is js → (spec : Bool) (r : ℕ) (xs : List ℕ)
    → AreConstantParts is spec r xs → AreConstantParts js spec r xs
constant_parts is js a spec r xs (p, t) = (
  all_by ℕ (IsPart is spec) (IsPart js spec) xs
      (λ x. opcode_of_definition (λ code. IsTrue (is_part_opcode spec code)) is js a x) p,
  subst (λ o. IsSomeAnd o (AreParts js r)) (types_of_all is js a xs)
      (on_some (List ℕ) (AreParts is r) (AreParts js r) (types_of is xs) (are_parts is js a r) t),
)

-- Types without a null value.

lacks : (is js : List PlainInst) → Alike is js → (t : ℕ) → LacksNull is t → LacksNull js t
lacks is js a _ (LacksNull.itself t o f y) = LacksNull.itself t o (sym (forms is js a t) ∙ f) y
lacks is js a _ (LacksNull.element t e l f r h) =
    LacksNull.element t e l (sym (forms is js a t) ∙ f) (earlier_alike is js a e t r) (lacks is js a e h)
lacks is js a _ (LacksNull.member t k u f p r h) =
    LacksNull.member t k u (sym (forms is js a t) ∙ f) (sym (parts is js a t k) ∙ p) (earlier_alike is js a u t r)
    (lacks is js a u h)

constitutes : (is js : List PlainInst) → Alike is js → (c : Constant) (r : ℕ) (os : List Plain) → Constitutes is c r os
    → Constitutes js c r os
constitutes is js a constant.Bool r os h = sym (forms is js a r) ∙ h
constitutes is js a constant.Number r (Number low high words ∷ []) h = fits_width is js a r low h
constitutes is js a constant.Composite r os h = constant_parts is js a false r (ids_in os) h
constitutes is js a constant.SpecComposite r os h = constant_parts is js a true r (ids_in os) h
constitutes is js a constant.Null r os h = (is_data is js a r h.0, λ l. h.1 (lacks js is (back is js a) r l))
constitutes is js a constant.Sampler r (Value c mode ∷ Word n ∷ Value f filter ∷ []) h =
    (sym (forms is js a r) ∙ h.0, h.1)
constitutes is js a constant.PipeStorage r os h = sym (forms is js a r) ∙ h
constitutes is js a _ r _ h = absurd h

-- Types that are declared twice.

repeats : (is js : List PlainInst) → Alike is js → (n : ℕ) (i : PlainInst) → (i.opcode ≡ opcode.EXT_INST → ⊥)
    → Repeats is n i → Repeats js n i
repeats is js a n i never r = record {
  once = r.once;
  place = r.place;
  earlier = r.earlier;
  other = r.other;
  there = same_at is js a r.place r.other r.there (λ call. never (r.alike.0 ∙ call));
  alike = r.alike;
}

-- Functions.

alike_drop : (is js : List PlainInst) (n : ℕ) → Alike is js → Alike (drop n is) (drop n js)
alike_drop is js zero a = a
alike_drop _ _ (suc n) Alike.none = Alike.none
alike_drop _ _ (suc n) (Alike.more i j is js l a) = alike_drop is js n a

alike_take : (is js : List PlainInst) (n : ℕ) → Alike is js → Alike (take n is) (take n js)
alike_take is js zero a = Alike.none
alike_take _ _ (suc n) Alike.none = Alike.none
alike_take _ _ (suc n) (Alike.more i j is js l a) = Alike.more i j (take n is) (take n js) l (alike_take is js n a)

is_parameter : PlainInst → ℕ
is_parameter k = if nat_eq k.opcode opcode.FUNCTION_PARAMETER then 1 else 0

counted : (is js : List PlainInst) → Alike is js → parameter_count is ≡ parameter_count js
unfolding is_parameter
counted _ _ Alike.none = refl
counted _ _ (Alike.more i j is js l a) =
    sum_by-cons is_parameter i is ∙ (ap (λ code.
    (if nat_eq code opcode.FUNCTION_PARAMETER then 1 else 0) + parameter_count is) l.opcode
    ∙ (ap (λ m. (if nat_eq j.opcode opcode.FUNCTION_PARAMETER then 1 else 0) + m) (counted is js a)
    ∙ sym (sum_by-cons is_parameter j js)))

alike_while : (test : ℕ → Bool) (is js : List PlainInst) → Alike is js
    → Alike (take_while (λ i. test i.opcode) is) (take_while (λ i. test i.opcode) js)
alike_while test _ _ Alike.none = Alike.none
alike_while test _ _ (Alike.more i j is js l a) =
    let p : PlainInst → Bool = λ k. test k.opcode in
    subst (λ xs. Alike xs (take_while p (j ∷ js))) (sym (take_while-cons p i is))
    (subst (λ ys. Alike (if test i.opcode then i ∷ take_while p is else []) ys) (sym (take_while-cons p j js))
    (subst (λ code. Alike (if test i.opcode then i ∷ take_while p is else [])
    (if test code then j ∷ take_while p js else [])) l.opcode (by (alike_while test is js a) (test i.opcode))))
  where
    by : Alike (take_while (λ k. test k.opcode) is) (take_while (λ k. test k.opcode) js) → (b : Bool)
        → Alike (if b then i ∷ take_while (λ k. test k.opcode) is else [])
        (if b then j ∷ take_while (λ k. test k.opcode) js else [])
    by h true = Alike.more i j (take_while (λ k. test k.opcode) is) (take_while (λ k. test k.opcode) js) l h
    by h false = Alike.none

after : (is js : List PlainInst) → Alike is js → (n : ℕ) → parameters_after is n ≡ parameters_after js n
after is js a n =
    let test : ℕ → Bool = λ code. not (nat_eq code opcode.LABEL || nat_eq code opcode.FUNCTION_END) in
    counted (take_while (λ i. test i.opcode) (drop (n + 1) is)) (take_while (λ i. test i.opcode) (drop (n + 1) js))
    (alike_while test (drop (n + 1) is) (drop (n + 1) js) (alike_drop is js (n + 1) a))

between : (is js : List PlainInst) → Alike is js → (f n : ℕ) → parameters_between is f n ≡ parameters_between js f n
between is js a f n =
    counted (drop (f + 1) (take n is)) (drop (f + 1) (take n js))
    (alike_drop (take n is) (take n js) (f + 1) (alike_take is js n a))

signatures : (is js : List PlainInst) → Alike is js → (i j : PlainInst) → Looks i j
    → signature_of is i ≡ signature_of js j
signatures is js a i j l =
    ap (option_and_then (λ t. option_and_then signature_in (definition_of is t)))
    (told_same (Option ℕ) function_type_in None (λ k call. rw call refl) i j l)
    ∙ and_then ℕ (List Plain) (λ t. option_and_then signature_in (definition_of is t))
    (λ t. option_and_then signature_in (definition_of js t))
    (of_definition (List Plain) signature_in
    (told_same (Option (List Plain)) signature_in None (λ k call. rw call refl)) is js a) (function_type_in j)

parameter_types : (is js : List PlainInst) → Alike is js → (i j : PlainInst) → Looks i j → (k : ℕ)
    → parameter_type_of is i k ≡ parameter_type_of js j k
parameter_types is js a i j l k =
    ap (option_and_then (λ ts. option_and_then id_in (slice_get ts (k + 1)))) (signatures is js a i j l)

inside : (is js : List PlainInst) → Alike is js → (n : ℕ) (P Q : ℕ → PlainInst → Type 0)
    → ((f : ℕ) (d e : PlainInst) → Looks d e → P f d → Q f e) → OfFunction is n P → OfFunction js n Q
inside is js a n P Q g (f, w, s) =
    let t = there is f (P f) s in
    let o = other_at is js a f t.inst t.there in
    (f, of_function is js a n f w, subst (λ x. IsSomeAnd x (Q f)) (sym o.there) (g f t.inst o.inst o.looks t.holds))

functions : (is js : List PlainInst) → Alike is js → (n : ℕ) (i : PlainInst) → Looks i i → KeepsFunctions is n i
    → KeepsFunctions js n i
functions is js a n i same k = record {
  function = λ e.
      subst (λ m. IsSomeAnd (signature_of js i) (ReturnsAfter (type_in i.operands) m)) (after is js a n)
      (subst (λ o. IsSomeAnd o (ReturnsAfter (type_in i.operands) (parameters_after is n)))
      (signatures is js a i i same) (k.function e));
  parameter = λ e.
      inside is js a n (λ f d. IsSomeAnd (type_in i.operands)
      (λ t. parameter_type_of is d (parameters_between is f n) ≡ Some t))
      (λ f d. IsSomeAnd (type_in i.operands) (λ t. parameter_type_of js d (parameters_between js f n) ≡ Some t))
      (λ f d g l h. on_some ℕ (λ t. parameter_type_of is d (parameters_between is f n) ≡ Some t)
      (λ t. parameter_type_of js g (parameters_between js f n) ≡ Some t) (type_in i.operands)
      (λ t q. sym (ap (parameter_type_of is d) (between is js a f n)
      ∙ parameter_types is js a d g l (parameters_between js f n)) ∙ q) h) (k.parameter e);
}

returns_typed : (d e : PlainInst) → Looks d e → (os : List ℕ) → ReturnsTyped d os → ReturnsTyped e os
returns_typed d e l [] h = h
returns_typed d e l (o ∷ []) h = sym l.type ∙ h
returns_typed d e l (o ∷ p ∷ os) h = h

returns_nothing : (is js : List PlainInst) → Alike is js → (d e : PlainInst) → Looks d e → ReturnsNothing is d
    → ReturnsNothing js e
returns_nothing is js a d e l h =
    subst (λ o. IsSomeAnd o (λ r. form_of js r ≡ Some form.Void)) l.type
    (on_some ℕ (λ r. form_of is r ≡ Some form.Void) (λ r. form_of js r ≡ Some form.Void) (type_in d.operands)
    (λ r q. sym (forms is js a r) ∙ q) h)

returns : (is js : List PlainInst) → Alike is js → (n : ℕ) (i : PlainInst) → KeepsReturns is n i → KeepsReturns js n i
returns is js a n i k = record {
  nothing = λ e. inside is js a n (λ f d. ReturnsNothing is d) (λ f d. ReturnsNothing js d)
      (λ f d g l h. returns_nothing is js a d g l h) (k.nothing e);
  value = λ e.
      inside is js a n (λ f d. IsSomeAnd (types_of is (take 1 (ids_in i.operands))) (ReturnsTyped d))
      (λ f d. IsSomeAnd (types_of js (take 1 (ids_in i.operands))) (ReturnsTyped d))
      (λ f d g l h. subst (λ o. IsSomeAnd o (ReturnsTyped g)) (types_of_all is js a (take 1 (ids_in i.operands)))
      (on_some (List ℕ) (ReturnsTyped d) (ReturnsTyped g) (types_of is (take 1 (ids_in i.operands)))
      (returns_typed d g l) h)) (k.value e);
}

calls_soundly : (is js : List PlainInst) → Alike is js → (r : ℕ) (os : List Plain) → CallsSoundly is r os
    → CallsSoundly js r os
calls_soundly is js a r (Id f ∷ os) h = by (definition_of is f) (definition_of js f) (definitions is js a f) h
  where
    by : (o q : Option PlainInst) → AlikeOption o q
        → IsSomeAnd o (λ d. IsSomeAnd (types_of is (ids_in os)) (CallsTyped is d r))
        → IsSomeAnd q (λ d. IsSomeAnd (types_of js (ids_in os)) (CallsTyped js d r))
    by _ _ AlikeOption.neither h = h
    by _ _ (AlikeOption.some d e l) h =
        subst (λ o. IsSomeAnd o (CallsTyped js e r)) (types_of_all is js a (ids_in os))
        (on_some (List ℕ) (CallsTyped is d r) (CallsTyped js e r) (types_of is (ids_in os))
        (λ ts q. sym (signatures is js a d e l) ∙ q) h)
calls_soundly is js a r _ h = absurd h

-- What is asked of an instruction that is no OpExtInst; of one nothing is asked.

keeps_same : (G : Table) (is js : List PlainInst) → Alike is js → (r : Rule) (n : ℕ) (i : PlainInst)
    → (i.opcode ≡ opcode.EXT_INST → ⊥) → Looks i i → Keeps (IsTyped G is) is r n i
    → Keeps (IsTyped G js) js r n i
keeps_same G is js a rule.Y2 n i never same k =
    match_option Declaration (Unit {0}) (λ d. DeclaresSoundly is n d i.operands)
    (λ d. DeclaresSoundly js n d i.operands) (declaration_of i.opcode) (λ d. declares is js a n d i.operands) k
keeps_same G is js a rule.Y3 n i never same k = λ q. k (repeats js is (back is js a) n i never q)
keeps_same G is js a rule.Y4 n i never same k =
    match_option Constant (Unit {0}) (λ c. IsSomeAnd (type_in i.operands)
    (λ r. Constitutes is c r (after_head i.operands)))
    (λ c. IsSomeAnd (type_in i.operands) (λ r. Constitutes js c r (after_head i.operands))) (constant_of i.opcode)
    (λ c. on_some ℕ (λ r. Constitutes is c r (after_head i.operands)) (λ r. Constitutes js c r (after_head i.operands))
    (type_in i.operands) (λ r. constitutes is js a c r (after_head i.operands))) k
keeps_same G is js a rule.Y5 n i never same k = typed G is js a n i k
keeps_same G is js a rule.Y6 n i never same k = functions is js a n i same k
keeps_same G is js a rule.Y7 n i never same k = returns is js a n i k
keeps_same G is js a rule.Y8 n i never same k = λ e.
    on_some ℕ (λ r. CallsSoundly is r (after_head i.operands)) (λ r. CallsSoundly js r (after_head i.operands))
    (type_in i.operands) (λ r. calls_soundly is js a r (after_head i.operands)) (k e)
keeps_same G is js a _ n i never same k = tt

keeps_call : (G : Table) (sets : ℕ → Set) (is : List PlainInst) (r : Rule) (n : ℕ) (i : PlainInst)
    → i.opcode ≡ opcode.EXT_INST
    → Keeps (IsTyped G (map (opened_inst sets) is)) (map (opened_inst sets) is) r n (opened_by sets i)
    → Keeps (IsTyped G is) is r n i
keeps_call G sets is rule.Y2 n i call k =
    subst (λ code. MatchOption (declaration_of code) (Unit {0}) (λ d. DeclaresSoundly is n d i.operands)) (sym call) tt
keeps_call G sets is rule.Y3 n i call k = λ q.
    let once : false ≡ true = subst (λ code. IsTrue
    ((nat_le opcode.TYPE_VOID code && nat_le code opcode.TYPE_SAMPLED_IMAGE) || nat_eq code opcode.TYPE_OPAQUE
    || (nat_le opcode.TYPE_FUNCTION code && nat_le code opcode.TYPE_PIPE)
    || nat_eq code opcode.TYPE_PIPE_STORAGE || nat_eq code opcode.TYPE_NAMED_BARRIER)) call q.once in
    cc
keeps_call G sets is rule.Y4 n i call k =
    subst (λ code. MatchOption (constant_of code) (Unit {0})
    (λ c. IsSomeAnd (type_in i.operands) (λ r. Constitutes is c r (after_head i.operands)))) (sym call) tt
keeps_call G sets is rule.Y5 n i call k = typed_call G sets is n i call k
keeps_call G sets is rule.Y6 n i call k = record {
  function = λ e. let never : opcode.FUNCTION ≡ opcode.EXT_INST = sym e ∙ call in absurd (let f : ⊥ = cc in f);
  parameter = λ e. let never : opcode.FUNCTION_PARAMETER ≡ opcode.EXT_INST = sym e ∙ call in
      absurd (let f : ⊥ = cc in f);
}
keeps_call G sets is rule.Y7 n i call k = record {
  nothing = λ e. let never : opcode.RETURN ≡ opcode.EXT_INST = sym e ∙ call in absurd (let f : ⊥ = cc in f);
  value = λ e. let never : opcode.RETURN_VALUE ≡ opcode.EXT_INST = sym e ∙ call in absurd (let f : ⊥ = cc in f);
}
keeps_call G sets is rule.Y8 n i call k = λ e. let never : opcode.FUNCTION_CALL ≡ opcode.EXT_INST = sym e ∙ call in
    absurd (let f : ⊥ = cc in f)
keeps_call G sets is _ n i call k = tt

pub rules_kept : (G : Table) (sets : ℕ → Set) (is : List PlainInst) (r : Rule) (n : ℕ) (i : PlainInst)
    → Keeps (IsTyped G (map (opened_inst sets) is)) (map (opened_inst sets) is) r n (opened_inst sets i)
    → Keeps (IsTyped G is) is r n i
rules_kept G sets is r n i = by (nat_eq i.opcode opcode.EXT_INST) refl
  where
    by : (b : Bool) → nat_eq i.opcode opcode.EXT_INST ≡ b
        → Keeps (IsTyped G (map (opened_inst sets) is)) (map (opened_inst sets) is) r n
        (if b then opened_by sets i else i)
        → Keeps (IsTyped G is) is r n i
    by true e k = keeps_call G sets is r n i (eqb-true i.opcode opcode.EXT_INST e) k
    by false e k =
        let js = map (opened_inst sets) is in
        let never : i.opcode ≡ opcode.EXT_INST → ⊥ = λ call.
        let f : nat_eq i.opcode opcode.EXT_INST ≡ true = rw call refl in let g : true ≡ false = sym f ∙ e in cc in
        keeps_same G js is (back is js (alike_opened sets is)) r n i never (looks_same i) k
