-- The ids in an interface, one after another.
use Rattle.std.proofs.Common.{◌≡◌, ◌<◌, ◌≤◌, ◌+◌, ◌∙◌, ◌⊎◌, ◌↔◌, inl, inr, ℕ, List, Bool, true, false, Some, None}
use Rattle.std.proofs.Common.{refl, sym, ap, subst, arith, length, get_or, not, IsTrue}
use Rattle.std.specs.Prelude.{slice_get, option_map}
use Rattle.std.specs.BTreeSet.{BTreeSet, contains}
use Rattle.std.specs.Ordering.{nat_cmp}
use Rattle.std.proofs.lemmas.Bool.{cases_lt}
use Rattle.std.proofs.lemmas.Option.{slice_get-map, slice_get-get_or, slice_get_within}
use Rattle.spv_module.specs.Operand.{Plain, PlainInst, Id}
use Rattle.spv_module.specs.declared.operand.Operand.{Operand}
use Rattle.spv_module.specs.Module.{plain_operand, plain_operands}
use Rattle.spv_interfaces.specs.Interface.{IsOfClass, IsTwiceIn}
use Rattle.spv_interfaces.specs.inner.Entries.{HasInner, IsUnsound, face_id}

-- An operand of a list, and the id that it is.
pub operand_there : (os : List Operand) (i : ℕ) (d : Operand) → i < length os
    → slice_get (plain_operands os) i ≡ Some (plain_operand (get_or os i d))
operand_there os i d l = slice_get-map plain_operand os i ∙ ap (option_map plain_operand) (slice_get-get_or os i d l)

is_id : (o : Plain) (x : ℕ) → face_id o ≡ Some x → o ≡ Id x
is_id (Id y) x h = (let e : y ≡ x = cc in ap Id e)
is_id _ x h = cc

pub id_there : (os : List Plain) (i x : ℕ) (o : Plain) → slice_get os i ≡ Some o → face_id o ≡ Some x
    → slice_get os i ≡ Some (Id x)
id_there os i x o h e = h ∙ ap Some (is_id o x e)

pub no_id_there : (os : List Plain) (i : ℕ) (o : Plain) → slice_get os i ≡ Some o → face_id o ≡ None → (x : ℕ)
    → slice_get os i ≡ Some (Id x) → ⊥
no_id_there os i o h e x g =
    let s : o ≡ Id x = cc in
    let f : face_id o ≡ Some x = ap face_id s in
    cc

pub one_there : (os : List Plain) (i x y : ℕ) → slice_get os i ≡ Some (Id x) → slice_get os i ≡ Some (Id y) → x ≡ y
one_there os i x y h g = cc

-- An id among the first operands.
abbrev pub IsBefore : List Plain → ℕ → ℕ → Type 0
IsBefore os to x = (k : ℕ) × (k < to) × (slice_get os k ≡ Some (Id x))

before_cases : (os : List Plain) (i x : ℕ) → IsBefore os (i + 1) x → IsBefore os i x ⊎ (slice_get os i ≡ Some (Id x))
before_cases os i x b = elim (cases_lt b.0 i) [
  | inl less ↦ inl (b.0, less, b.2)
  | inr last ↦
      let l = b.1 in
      let e : b.0 ≡ i = omega (arith, l, last) in
      inr (subst (λ (k : ℕ). slice_get os k ≡ Some (Id x)) e b.2)
]

before_keeps : (os : List Plain) (i x : ℕ) → IsBefore os i x → IsBefore os (i + 1) x
before_keeps os i x b = let l = b.1 in (b.0, omega (arith, l), b.2)

before_here : (os : List Plain) (i x : ℕ) → slice_get os i ≡ Some (Id x) → IsBefore os (i + 1) x
before_here os i x h = (i, omega arith, h)

pub not_before_more : (os : List Plain) (i x : ℕ) → ¬ (slice_get os i ≡ Some (Id x)) → ¬ (IsBefore os i x)
    → ¬ (IsBefore os (i + 1) x)
not_before_more os i x here none b = elim (before_cases os i x b) [ inl o ↦ none o | inr h ↦ here h ]

-- the set has the ids among the first operands; none of these is there twice
abbrev pub AreSeen : List Plain → ℕ → BTreeSet ℕ → Type 0
AreSeen os to s = (y : ℕ) → IsTrue (contains nat_cmp s y) ↔ IsBefore os to y

abbrev pub AreOnce : List Plain → ℕ → Type 0
AreOnce os to = (y : ℕ) (t : IsTwiceIn os y) → ¬ (t.second < to)

pub seen_more : (os : List Plain) (i x : ℕ) (old new : BTreeSet ℕ) → slice_get os i ≡ Some (Id x)
    → ((y : ℕ) → IsTrue (contains nat_cmp new y) ↔ (IsTrue (contains nat_cmp old y) ⊎ (y ≡ x)))
    → AreSeen os i old → AreSeen os (i + 1) new
seen_more os i x old new at put seen y = (
  λ t. elim ((put y).0 t) [
    | inl o ↦ before_keeps os i y ((seen y).0 o)
    | inr e ↦ before_here os i y (subst (λ (z : ℕ). slice_get os i ≡ Some (Id z)) (sym e) at)
  ],
  λ b. (put y).1 (elim (before_cases os i y b) [
    | inl o ↦ inl ((seen y).1 o)
    | inr h ↦ inr (one_there os i y x h at)
  ]),
)

pub seen_past : (os : List Plain) (i : ℕ) (s : BTreeSet ℕ) → ((x : ℕ) → slice_get os i ≡ Some (Id x) → ⊥)
    → AreSeen os i s → AreSeen os (i + 1) s
seen_past os i s none seen y = (
  λ t. before_keeps os i y ((seen y).0 t),
  λ b. elim (before_cases os i y b) [ inl o ↦ (seen y).1 o | inr h ↦ absurd (none y h) ],
)

once_at : (os : List Plain) (i y : ℕ) (t : IsTwiceIn os y) → t.second ≡ i → slice_get os i ≡ Some (Id y)
once_at os i y t e = subst (λ (k : ℕ). slice_get os k ≡ Some (Id y)) e t.other

pub once_more : (os : List Plain) (i x : ℕ) → slice_get os i ≡ Some (Id x) → ¬ (IsBefore os i x) → AreOnce os i
    → AreOnce os (i + 1)
once_more os i x at fresh once y t l = elim (cases_lt t.second i) [
  | inl less ↦ once y t less
  | inr last ↦
      let e : t.second ≡ i = omega (arith, l, last) in
      let same = one_there os i y x (once_at os i y t e) at in
      let o = t.order in
      fresh (t.first, omega (arith, o, e), subst (λ (z : ℕ). slice_get os t.first ≡ Some (Id z)) same t.one)
]

pub once_past : (os : List Plain) (i : ℕ) → ((x : ℕ) → slice_get os i ≡ Some (Id x) → ⊥) → AreOnce os i
    → AreOnce os (i + 1)
once_past os i none once y t l = elim (cases_lt t.second i) [
  | inl less ↦ once y t less
  | inr last ↦
      let e : t.second ≡ i = omega (arith, l, last) in
      none y (once_at os i y t e)
]

pub twice_here : (os : List Plain) (i x : ℕ) → IsBefore os i x → slice_get os i ≡ Some (Id x)
    → (y : ℕ) × IsTwiceIn os y
twice_here os i x b at = (x, record { first = b.0; second = i; order = b.1; one = b.2; other = at })

pub once_all : (os : List Plain) (n : ℕ) → length os ≤ n → AreOnce os n → ¬ ((y : ℕ) × IsTwiceIn os y)
once_all os n l once (y, t) =
    let w = slice_get_within os t.second (Id y) t.other in
    once y t (omega (arith, w, l))

-- no id among the first operands is a variable of another class
abbrev pub AreOutside : List PlainInst → List Plain → ℕ → Type 0
AreOutside is os to = (k x : ℕ) → k < to → slice_get os k ≡ Some (Id x)
    → ¬ ((class : ℕ) × IsOfClass is x class × (class ≡ 1 → ⊥) × (class ≡ 3 → ⊥))

pub outside_more : (is : List PlainInst) (os : List Plain) (i x : ℕ) → slice_get os i ≡ Some (Id x)
    → ¬ ((class : ℕ) × IsOfClass is x class × (class ≡ 1 → ⊥) × (class ≡ 3 → ⊥)) → AreOutside is os i
    → AreOutside is os (i + 1)
outside_more is os i x at never all k y l h i' = elim (cases_lt k i) [
  | inl less ↦ all k y less h i'
  | inr last ↦
      let e : k ≡ i = omega (arith, l, last) in
      let same = one_there os i y x (subst (λ (j : ℕ). slice_get os j ≡ Some (Id y)) e h) at in
      never (subst (λ (z : ℕ). (class : ℕ) × IsOfClass is z class × (class ≡ 1 → ⊥) × (class ≡ 3 → ⊥)) same i')
]

pub outside_past : (is : List PlainInst) (os : List Plain) (i : ℕ) → ((x : ℕ) → slice_get os i ≡ Some (Id x) → ⊥)
    → AreOutside is os i → AreOutside is os (i + 1)
outside_past is os i none all k y l h i' = elim (cases_lt k i) [
  | inl less ↦ all k y less h i'
  | inr last ↦
      let e : k ≡ i = omega (arith, l, last) in
      none y (subst (λ (j : ℕ). slice_get os j ≡ Some (Id y)) e h)
]

pub inner_here : (is : List PlainInst) (os : List Plain) (i x : ℕ) → slice_get os i ≡ Some (Id x)
    → (class : ℕ) × IsOfClass is x class × (class ≡ 1 → ⊥) × (class ≡ 3 → ⊥) → HasInner is os
inner_here is os i x at h =
    record { id = x; class = h.0; named = (i, at); of = h.1; not_input = h.2; not_output = h.3 }

pub outside_all : (is : List PlainInst) (os : List Plain) (n : ℕ) → length os ≤ n → AreOutside is os n
    → ¬ (HasInner is os)
outside_all is os n l all h =
    let w = slice_get_within os h.named.0 (Id h.id) h.named.1 in
    all h.named.0 h.id (omega (arith, w, l)) h.named.1 (h.class, h.of, h.not_input, h.not_output)

-- whether an interface is wrong by what is in it, by the version
pub by_twice : (minor : ℕ) (is : List PlainInst) (os : List Plain) (b : Bool) → 4 ≤ minor
    → IsTrue b ↔ ((x : ℕ) × IsTwiceIn os x) → IsTrue b ↔ IsUnsound minor is os
by_twice minor is os b l h = (λ t. IsUnsound.twice l (h.0 t), back) where
  back : IsUnsound minor is os → IsTrue b
  back (IsUnsound.twice m t) = h.1 t
  back (IsUnsound.inner m t) = absurd (omega (arith, l, m))

pub by_inner : (minor : ℕ) (is : List PlainInst) (os : List Plain) (b : Bool) → minor < 4
    → IsTrue b ↔ HasInner is os → IsTrue b ↔ IsUnsound minor is os
by_inner minor is os b l h = (λ t. IsUnsound.inner l (h.0 t), back) where
  back : IsUnsound minor is os → IsTrue b
  back (IsUnsound.twice m t) = absurd (omega (arith, l, m))
  back (IsUnsound.inner m t) = h.1 t

-- by what was put into the set
of_not : (a b : Bool) → a ≡ not b → a ≡ false → b ≡ true
of_not a true e f = refl
of_not a false e f = (let t : a ≡ true = e in let no : true ≡ false = sym t ∙ f in cc)

of_not_too : (a b : Bool) → a ≡ not b → a ≡ true → b ≡ false
of_not_too a true e f = (let t : a ≡ false = e in let no : false ≡ true = sym t ∙ f in cc)
of_not_too a false e f = refl

pub seen_before : (os : List Plain) (i x : ℕ) (s : BTreeSet ℕ) (fresh : Bool) → fresh ≡ not (contains nat_cmp s x)
    → fresh ≡ false → AreSeen os i s → IsBefore os i x
seen_before os i x s fresh e f seen = (seen x).0 (of_not fresh (contains nat_cmp s x) e f)

pub not_seen : (os : List Plain) (i x : ℕ) (s : BTreeSet ℕ) (fresh : Bool) → fresh ≡ not (contains nat_cmp s x)
    → fresh ≡ true → AreSeen os i s → ¬ (IsBefore os i x)
not_seen os i x s fresh e t seen b =
    let f = of_not_too fresh (contains nat_cmp s x) e t in
    let u = (seen x).1 b in
    let no : false ≡ true = sym f ∙ u in
    absurd (cc)
