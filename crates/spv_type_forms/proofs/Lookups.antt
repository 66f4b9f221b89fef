-- The one instruction that defines an id is the last that does.
use Rattle.std.proofs.Common.{◌≡◌, ◌<◌, ◌↔◌, ℕ, zero, suc, List, [], ◌∷◌, Option, Some, None, Bool, true, false}
use Rattle.std.proofs.Common.{if◌then◌else◌, length, refl, ap, ◌∙◌, subst, arith, option_and_then}
use Rattle.std.specs.Prelude.{slice_get}
use Rattle.std.proofs.lemmas.Bool.{eqb-true, eq-eqb}
use Rattle.std.proofs.lemmas.Option.{none-some, slice_get_within}
use Rattle.spv_module.specs.declared.opcode.TheConstants as opcode
use Rattle.spv_module.specs.Operand.{PlainInst, result_in}
use Rattle.spv_module.specs.Width.{definition_of, has_result, or_else}
use Rattle.spv_layout.specs.Place.{IsOfSection}
use Rattle.spv_layout.specs.Plan.{IsPlaceOf}
use Rattle.spv_layout.specs.declared.place.Place.{Place}
use Rattle.spv_ids.specs.Definition.{IsDefinedAt}
use Rattle.spv_ids.specs.Outcome.{IsDefinitionOf, IsOnly}
use Rattle.spv_type_forms.specs.Definitions.{IsGlobal}

or_none : (a : Option PlainInst) → or_else a None ≡ a
or_none None = refl
or_none (Some i) = refl

at_result : (o : Option ℕ) (x : ℕ) → has_result o x ≡ true → o ≡ Some x
at_result None x h = absurd (let no : false ≡ true = h in cc)
at_result (Some r) x h = ap Some (eqb-true r x h)

has_it : (o : Option ℕ) (x : ℕ) → o ≡ Some x → has_result o x ≡ true
has_it None x h = absurd (none-some x h)
has_it (Some r) x h = eq-eqb r x (let e : r ≡ x = cc in e)

inner : (i : PlainInst) (is : List PlainInst) (x n : ℕ) → IsDefinedAt (i ∷ is) x (suc n) → IsDefinedAt is x n
inner i is x n d = record { inst = d.inst; there = d.there; result = d.result }

outer : (i : PlainInst) (is : List PlainInst) (x n : ℕ) → IsDefinedAt is x n → IsDefinedAt (i ∷ is) x (suc n)
outer i is x n d = record { inst = d.inst; there = d.there; result = d.result }

none_here : (i : PlainInst) (is : List PlainInst) (x : ℕ) (b : Bool) → has_result (result_in i.operands) x ≡ b
    → definition_of is x ≡ None
    → (IsDefinedAt (i ∷ is) x 0 → ⊥) → or_else (definition_of is x) (if b then Some i else None) ≡ None
none_here i is x true e rest never =
    absurd (never (record { inst = i; there = refl; result = at_result (result_in i.operands) x e }))
none_here i is x false e rest never = rw rest refl

-- an id that no instruction has as its result is not defined
none_at : (is : List PlainInst) (x : ℕ) → ((n : ℕ) → IsDefinedAt is x n → ⊥) → definition_of is x ≡ None
none_at [] x never = refl
none_at (i ∷ is) x never =
    let rest : definition_of is x ≡ None = none_at is x (λ n d. never (suc n) (outer i is x n d)) in
    none_here i is x (has_result (result_in i.operands) x) refl rest (never 0)

later : (i : PlainInst) (is : List PlainInst) (x q : ℕ) (b : Bool) → has_result (result_in i.operands) x ≡ b
    → definition_of is x ≡ slice_get is q
    → (IsDefinedAt (i ∷ is) x 0 → ⊥) → or_else (definition_of is x) (if b then Some i else None) ≡ slice_get is q
later i is x q true e rest never =
    absurd (never (record { inst = i; there = refl; result = at_result (result_in i.operands) x e }))
later i is x q false e rest never = or_none (definition_of is x) ∙ rest

last_at : (is : List PlainInst) (x m : ℕ) → IsDefinedAt is x m → ((k : ℕ) → IsDefinedAt is x k → k ≡ m)
    → definition_of is x ≡ slice_get is m
last_at [] x m d only = refl
last_at (i ∷ is) x zero d only =
    let same : i ≡ d.inst = cc (d.there) in
    let result : result_in i.operands ≡ Some x = rw same d.result in
    let here : has_result (result_in i.operands) x ≡ true = has_it (result_in i.operands) x result in
    let rest : definition_of is x ≡ None = none_at is x
    (λ n e. let no : suc n ≡ 0 = only (suc n) (outer i is x n e) in omega arith) in
    rw (rest, here) refl
last_at (i ∷ is) x (suc q) d only =
    let rest : definition_of is x ≡ slice_get is q = last_at is x q (inner i is x q d)
    (λ n e. let same : suc n ≡ suc q = only (suc n) (outer i is x n e) in omega arith) in
    later i is x q (has_result (result_in i.operands) x) refl rest (λ e. let no : 0 ≡ suc q = only 0 e in omega arith)

-- what is kept of an id finds its definition
pub finds : (is : List PlainInst) (x : ℕ) (o : Option ℕ) → IsDefinitionOf is x o
    → definition_of is x ≡ option_and_then (slice_get is) o
finds is x None never = none_at is x never
finds is x (Some m) one = last_at is x m one.there one.only

-- it is the number of an instruction
pub is_within : (is : List PlainInst) (x m : ℕ) → IsDefinedAt is x m → m < length is
is_within is x m d = slice_get_within is m d.inst d.there

-- an instruction of section 11 is of no other
pub one_section : (is : List PlainInst) (n s : ℕ) → IsOfSection is n s → IsOfSection is n 11 → s ≡ 11
one_section is n s (IsOfSection.early c _ at of) (IsOfSection.early d _ there by) = cc
one_section is n s (IsOfSection.early c _ at of) (IsOfSection.global d there by never) = cc
one_section is n s (IsOfSection.global c at of never) e = refl
one_section is n s (IsOfSection.declaration c f at of last d) (IsOfSection.early e _ there by) = cc
one_section is n s (IsOfSection.declaration c f at of last d) (IsOfSection.global e there by never) =
    absurd (never f last)
one_section is n s (IsOfSection.definition c f at of last d) (IsOfSection.early e _ there by) = cc
one_section is n s (IsOfSection.definition c f at of last d) (IsOfSection.global e there by never) =
    absurd (never f last)

-- whether a definition is a variable of section 9 is told by its opcode and section
pub global_told : (is : List PlainInst) (x m : ℕ) (i : PlainInst) (p : Place) → IsOnly is x m → slice_get is m ≡ Some i
    → IsPlaceOf is m p
    → ((i.opcode ≡ opcode.VARIABLE) × (p.section ≡ 11)) ↔ IsGlobal is x
global_told is x m i p one at place = (
  λ two.
      let same : i ≡ one.there.inst = cc (at, one.there.there) in
      record { place = m; defined = one.there; variable = rw (← same) two.0; section = rw (← two.1) place.section },
  λ g.
      let e : g.place ≡ m = one.only g.place g.defined in
      let there : slice_get is m ≡ Some g.defined.inst = rw (← e) g.defined.there in
      let same : i ≡ g.defined.inst = cc (at, there) in
      (rw same g.variable, one_section is m p.section place.section (rw (← e) g.section)),
)

pub kept_one : (is : List PlainInst) (x m : ℕ) (o : Option ℕ) → IsDefinitionOf is x o → o ≡ Some m → IsOnly is x m
kept_one is x m o one e = subst (IsDefinitionOf is x) e one

pub no_global : (is : List PlainInst) (x : ℕ) (o : Option ℕ) → IsDefinitionOf is x o → o ≡ None → IsGlobal is x → ⊥
no_global is x o one e g =
    let never : IsDefinitionOf is x None = subst (IsDefinitionOf is x) e one in
    never g.place g.defined
