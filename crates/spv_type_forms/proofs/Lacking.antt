-- Types without a null value.
use Rattle.std.proofs.Common.{◌≡◌, ◌<◌, ◌∙◌, ◌↔◌, ℕ, List, [], ◌∷◌, ◌++◌, Option, Some, None, Bool, true, false, refl}
use Rattle.std.proofs.Common.{not, sym, ap, subst, length, arith, option_and_then, zero, suc, ◌⊎◌, inl, inr}
use Rattle.std.specs.Prelude.{IsTrue, slice_get}
use Rattle.std.proofs.lemmas.List.{length-map}
use Rattle.std.proofs.lemmas.Option.{option_and_then_some, slice_get_within}
use Rattle.spv_module.specs.Module.{plain_operand, plain_operands}
use Rattle.spv_module.specs.declared.operand.Operand.{Operand}
use Rattle.spv_module.specs.declared.opcode.TheConstants as opcode
use Rattle.spv_module.specs.Operand.{Plain, Result, Id, Value, PlainInst, result_in}
use Rattle.spv_ids.specs.Definition.{IsDefinedAt}
use Rattle.spv_ids.specs.Outcome.{IsOnly}
use Rattle.spv_type_forms.specs.declared.form.Form.{Form}
use Rattle.spv_type_forms.specs.declared.form.Form.TheVariants as form
use Rattle.spv_type_kinds.specs.declared.kinds.Object.{Object}
use Rattle.spv_type_forms.specs.Form.{form_in, form_of}
use Rattle.spv_type_forms.specs.Parts.{part_of, members_of, id_in}
use Rattle.spv_type_forms.specs.Types.{IsData}
use Rattle.spv_type_forms.specs.Null.{lacks_null, IsEarlier, LacksNull, IsNullable}
use Rattle.spv_type_kinds.specs.declared.kinds.Object.TheVariants as object
use Rattle.spv_type_forms.specs.Example.{inst, objects, pipes}
use Rattle.spv_type_forms.proofs.Lookups.{finds}
use Rattle.spv_type_forms.specs.inner.Null.{AreLacking, LacksBefore, MemberLacks, OneLacks}

-- Something is known of the types that are defined before an instruction.

pub known_before : (is : List PlainInst) (ls : List Bool) (u m : ℕ) (b : Bool) → AreLacking is ls → IsOnly is u m
    → slice_get ls m ≡ Some b → m < length ls → IsTrue b ↔ LacksBefore is (length ls) u
known_before is ls u m b k one at l = (
  λ y. record { place = m; before = l; one = one; lacks = (k.each u m b one at).0 y },
  λ r. (k.each u m b one at).1 r.lacks,
)

pub never_before : (is : List PlainInst) (n u m : ℕ) → IsOnly is u m → (m < n → ⊥) → LacksBefore is n u → ⊥
never_before is n u m one h r = let e : r.place ≡ m = one.only r.place r.one.there in h (rw e at r.before)

pub undefined_before : (is : List PlainInst) (n u : ℕ) → ((k : ℕ) → IsDefinedAt is u k → ⊥) → LacksBefore is n u → ⊥
undefined_before is n u never r = never r.place r.one.there

-- A member.

pub member_told : (is : List PlainInst) (n u k : ℕ) (ms : List Plain) (b : Bool)
    → option_and_then id_in (slice_get ms k) ≡ Some u → (IsTrue b ↔ LacksBefore is n u)
    → IsTrue b ↔ MemberLacks is n ms k
member_told is n u k ms b e d = (
  λ y. record { id = u; named = e; lacks = d.0 y },
  λ r.
      let same : r.id ≡ u = (let s : Some r.id ≡ Some u = sym r.named ∙ e in cc) in
      d.1 (rw same at r.lacks),
)

pub no_member : (is : List PlainInst) (n k : ℕ) (ms : List Plain) → option_and_then id_in (slice_get ms k) ≡ None
    → IsTrue false ↔ MemberLacks is n ms k
no_member is n k ms e = (
  λ y. absurd (let no : false ≡ true = y in cc),
  λ r. absurd (let s : None ≡ Some r.id = sym e ∙ r.named in cc),
)

pub member_within : (is : List PlainInst) (n k : ℕ) (ms : List Operand) → MemberLacks is n (plain_operands ms) k
    → k < length ms
member_within is n k ms r =
    option_and_then_some id_in (slice_get (plain_operands ms) k) r.id r.named
    (λ o at i. let w = slice_get_within (plain_operands ms) k o at in
    let m = length-map ms plain_operand in omega arith)

-- What a type's form says of it.

earlier : (is : List PlainInst) (t n u : ℕ) → IsOnly is t n → LacksBefore is n u → IsEarlier is u t
earlier is t n u one r =
    record { place = r.place; later = n; before = r.before; one = r.one; next = one }

before : (is : List PlainInst) (t n u : ℕ) → IsOnly is t n → IsEarlier is u t → LacksNull is u → LacksBefore is n u
before is t n u one r l =
    let e : r.later ≡ n = one.only r.later r.next.there in
    record { place = r.place; before = rw e at r.before; one = r.one; lacks = l }

object_lacks : (is : List PlainInst) (t : ℕ) (o : Object) → form_of is t ≡ Some (form.Object o) → LacksNull is t
    → IsTrue (lacks_null o)
object_lacks is t o f (LacksNull.itself _ p g l) = let e : p ≡ o = cc in rw (← e) l
object_lacks is t o f (LacksNull.element _ e l g a b) = absurd (let no : form.Array e l ≡ form.Object o = cc in cc)
object_lacks is t o f (LacksNull.member _ k u g p a b) = absurd (let no : form.Struct ≡ form.Object o = cc in cc)

pub of_object : (is : List PlainInst) (t : ℕ) (o : Object) → form_of is t ≡ Some (form.Object o)
    → IsTrue (lacks_null o) ↔ LacksNull is t
of_object is t o f = (λ y. LacksNull.itself t o f y, object_lacks is t o f)

element_lacks : (is : List PlainInst) (t n e l : ℕ) → IsOnly is t n → form_of is t ≡ Some (form.Array e l)
    → LacksNull is t → LacksBefore is n e
element_lacks is t n e l one f (LacksNull.itself _ p g y) =
    absurd (let no : form.Array e l ≡ form.Object p = cc in cc)
element_lacks is t n e l one f (LacksNull.element _ d k g a b) =
    let same : d ≡ e = cc in before is t n e one (rw same at a) (rw same at b)
element_lacks is t n e l one f (LacksNull.member _ k u g p a b) =
    absurd (let no : form.Array e l ≡ form.Struct = cc in cc)

pub of_array : (is : List PlainInst) (t n e l : ℕ) → IsOnly is t n → form_of is t ≡ Some (form.Array e l)
    → LacksBefore is n e ↔ LacksNull is t
of_array is t n e l one f = (
  λ r. LacksNull.element t e l f (earlier is t n e one r) r.lacks,
  element_lacks is t n e l one f,
)

member_named : (is : List PlainInst) (t k u : ℕ) (ms : List Plain) → form_of is t ≡ Some form.Struct
    → members_of is t ≡ Some ms → part_of is t k ≡ option_and_then id_in (slice_get ms k)
member_named is t k u ms f m = rw (f, m) refl

member_lacks : (is : List PlainInst) (t n : ℕ) (ms : List Plain) → IsOnly is t n → form_of is t ≡ Some form.Struct
    → members_of is t ≡ Some ms → LacksNull is t → OneLacks is n ms
member_lacks is t n ms one f m (LacksNull.itself _ p g y) =
    absurd (let no : form.Struct ≡ form.Object p = cc in cc)
member_lacks is t n ms one f m (LacksNull.element _ d k g a b) =
    absurd (let no : form.Struct ≡ form.Array d k = cc in cc)
member_lacks is t n ms one f m (LacksNull.member _ k u g p a b) = (
  k,
  record {
    id = u;
    named = sym (member_named is t k u ms f m) ∙ p;
    lacks = before is t n u one a b;
  },
)

pub of_struct : (is : List PlainInst) (t n : ℕ) (ms : List Plain) → IsOnly is t n → form_of is t ≡ Some form.Struct
    → members_of is t ≡ Some ms → OneLacks is n ms ↔ LacksNull is t
of_struct is t n ms one f m = (
  λ r. LacksNull.member t r.0 r.1.id f (member_named is t r.0 r.1.id ms f m ∙ r.1.named)
      (earlier is t n r.1.id one r.1.lacks) r.1.lacks.lacks,
  member_lacks is t n ms one f m,
)

-- Types of other forms lack nothing.
abbrev pub may_lack : Option Form → Bool
may_lack (Some (form.Object o)) = true
may_lack (Some (form.Array e l)) = true
may_lack (Some form.Struct) = true
may_lack _ = false

pub of_others : (is : List PlainInst) (t : ℕ) → may_lack (form_of is t) ≡ false → LacksNull is t → ⊥
of_others is t h (LacksNull.itself _ p g y) = let no : true ≡ false = rw g at h in cc
of_others is t h (LacksNull.element _ d k g a b) = let no : true ≡ false = rw g at h in cc
of_others is t h (LacksNull.member _ k u g p a b) = let no : true ≡ false = rw g at h in cc

pub of_undefined : (is : List PlainInst) (t : ℕ) → ((k : ℕ) → IsDefinedAt is t k → ⊥) → LacksNull is t → ⊥
of_undefined is t never h =
    let none : form_of is t ≡ None = ap (option_and_then form_in) (finds is t None never) in
    of_others is t (rw none refl) h

-- What is known of one instruction more.

no_element : (k : ℕ) (a : Bool) → slice_get {X = Bool} [] k ≡ Some a → ⊥
no_element zero a h = let no : None ≡ Some a = h in cc
no_element (suc k) a h = let no : None ≡ Some a = h in cc

one_more : (ls : List Bool) (m : ℕ) (b c : Bool) → slice_get (ls ++ b ∷ []) m ≡ Some c
    → (slice_get ls m ≡ Some c) ⊎ ((m ≡ length ls) × (b ≡ c))
one_more [] zero b c h = inr (refl, cc)
one_more [] (suc m) b c h = absurd (no_element m c h)
one_more (l ∷ ls) zero b c h = inl h
one_more (l ∷ ls) (suc m) b c h = elim (one_more ls m b c h) [ inl e ↦ inl e | inr p ↦ inr (ap suc p.0, p.1) ]

pub lacking_more : (is : List PlainInst) (ls : List Bool) (b : Bool) → AreLacking is ls
    → ((t : ℕ) → IsOnly is t (length ls) → IsTrue b ↔ LacksNull is t) → AreLacking is (ls ++ b ∷ [])
lacking_more is ls b k h = record {
  each = λ t m c one at. elim (one_more ls m b c at) [
    | inl e ↦ k.each t m c one e
    | inr p ↦ rw (← p.1) (h t (rw p.0 at one))
  ];
}

pub lacking_none : (is : List PlainInst) → AreLacking is []
lacking_none is = record { each = λ t m b one at. absurd (no_element m b at) }

-- the id that the next instruction defines
pub next_result : (is : List PlainInst) (n t u : ℕ) (i : PlainInst) → slice_get is n ≡ Some i
    → result_in i.operands ≡ Some t → IsOnly is u n → t ≡ u
next_result is n t u i at r one =
    let same : i ≡ one.there.inst = cc (at, one.there.there) in
    let e : Some t ≡ Some u = sym r ∙ rw same one.there.result in
    cc

pub no_result : (is : List PlainInst) (n u : ℕ) (i : PlainInst) → slice_get is n ≡ Some i
    → result_in i.operands ≡ None → IsOnly is u n → ⊥
no_result is n u i at r one =
    let same : i ≡ one.there.inst = cc (at, one.there.there) in
    let e : None ≡ Some u = sym r ∙ rw same one.there.result in
    cc

-- Data types with a null value.

pub nullable_object : (is : List PlainInst) (t : ℕ) (o : Object) (b : Bool) → form_of is t ≡ Some (form.Object o)
    → b ≡ lacks_null o → IsTrue (not b) ↔ IsNullable is t
nullable_object is t o true f e = (
  λ y. absurd (let no : false ≡ true = y in cc),
  λ n. absurd (n.1 (LacksNull.itself t o f (sym e))),
)
nullable_object is t o false f e = (
  λ y. (rw f tt, λ l. let no : false ≡ true = e ∙ object_lacks is t o f l in cc),
  λ n. refl,
)

pub nullable_data : (is : List PlainInst) (t : ℕ) (b : Bool) → IsData is t → (IsTrue b ↔ LacksNull is t)
    → IsTrue (not b) ↔ IsNullable is t
nullable_data is t true d l = (λ y. absurd (let no : false ≡ true = y in cc), λ n. absurd (n.1 (l.0 refl)))
nullable_data is t false d l = (λ y. (d, λ h. let no : false ≡ true = l.1 h in cc), λ n. refl)

pub nullable_simply : (is : List PlainInst) (t : ℕ) → IsData is t → may_lack (form_of is t) ≡ false
    → IsTrue true ↔ IsNullable is t
nullable_simply is t d h = (λ y. (d, of_others is t h), λ n. refl)

pub not_nullable : (is : List PlainInst) (t : ℕ) → (IsData is t → ⊥) → IsTrue false ↔ IsNullable is t
not_nullable is t d = (λ y. absurd (let no : false ≡ true = y in cc), λ n. absurd (d n.0))

-- Types of the small module of objects.

int_lacks : LacksNull objects 1 → ⊥
int_lacks h = of_others objects 1 refl h

queue_lacks : LacksNull objects 7 → ⊥
queue_lacks h = let no : false ≡ true = object_lacks objects 7 object.Queue refl h in cc

part_lacks : (k u : ℕ) → part_of objects 13 k ≡ Some u → LacksNull objects u → ⊥
part_lacks zero u p h = let e : u ≡ 7 = cc in queue_lacks (subst (λ (t : ℕ). LacksNull objects t) e h)
part_lacks (suc zero) u p h = let e : u ≡ 1 = cc in int_lacks (subst (λ (t : ℕ). LacksNull objects t) e h)
part_lacks (suc (suc k)) u p h = cc

struct_lacks : (t : ℕ) → t ≡ 13 → LacksNull objects t → ⊥
struct_lacks t s (LacksNull.itself _ p g y) = let no : Some form.Struct ≡ Some (form.Object p) = rw s at g in cc
struct_lacks t s (LacksNull.element _ d k g a b) = let no : Some form.Struct ≡ Some (form.Array d k) = rw s at g in cc
struct_lacks t s (LacksNull.member _ k u g p a b) = part_lacks k u (rw s at p) b

pub members_nullable : IsNullable objects 13
members_nullable = (tt, struct_lacks 13 refl)

pub int_nullable : IsNullable objects 1
int_nullable = (tt, int_lacks)

pub pipe_lacks : LacksNull pipes 1
pipe_lacks = LacksNull.itself 1 object.Pipe refl refl

pipe_at : (n : ℕ) → IsDefinedAt pipes 1 n → n ≡ 0
pipe_at zero d = refl
pipe_at (suc zero) d = let e = d.there in
    let f : inst opcode.TYPE_ARRAY (Result 2 ∷ Id 1 ∷ Id 3 ∷ []) ≡ d.inst = cc in let g = rw (← f) at d.result in cc
pipe_at (suc (suc n)) d = let e = d.there in cc

array_at : (n : ℕ) → IsDefinedAt pipes 2 n → n ≡ 1
array_at zero d = let e = d.there in
    let f : inst opcode.TYPE_PIPE (Result 1 ∷ Value 7 1 ∷ []) ≡ d.inst = cc in let g = rw (← f) at d.result in cc
array_at (suc zero) d = refl
array_at (suc (suc n)) d = let e = d.there in cc

pub pipes_lack : LacksNull pipes 2
pipes_lack = LacksNull.element 2 1 3 refl (record {
  place = 0;
  later = 1;
  before = omega arith;
  one = record { there = record { inst = _; there = refl; result = refl }; only = pipe_at };
  next = record { there = record { inst = _; there = refl; result = refl }; only = array_at };
}) pipe_lacks
