-- Ids that instructions decorate, and passes over all instructions.
use Rattle.std.proofs.Common.{◌≡◌, ◌≢◌, ◌∙◌, ◌⊎◌, ◌↔◌, ◌<◌, ◌≤◌, inl, inr, ℕ, Bool, true, false, refl, sym, ap, subst}
use Rattle.std.proofs.Common.{arith, List, [], Option, Some, None, IsTrue, length, nat_eq, if◌then◌else◌}
use Rattle.std.specs.Prelude.{slice_get}
use Rattle.std.specs.BTreeSet.{BTreeSet}
use Rattle.std.proofs.lemmas.Bool.{eq-eqb, eqb-true}
use Rattle.std.proofs.lemmas.Option.{none-some, same_Some, slice_get_within}
use Rattle.spv_module.specs.declared.opcode.TheConstants as opcode
use Rattle.spv_module.specs.Operand.{Plain, PlainInst}
use Rattle.spv_conditions.specs.Further.{IsGroup}
use Rattle.spv_capabilities.specs.Entry.{entered_by, imported_by}
use Rattle.spv_declarations.specs.Given.{At, Gives, HasId, NamesTarget, behind_first, first_in, given_by, group_by}
use Rattle.spv_declarations.specs.Decorated.{Has, HasBy, IsEntered, IsLeastBy, IsLinkedEntry}
use Rattle.spv_declarations.specs.declared.said.Said.{Said}
use Rattle.spv_declarations.specs.inner.Said.{AreSaid, HasAt, ImportsBy, IsKnown}
use Rattle.spv_declarations.specs.inner.Sets.{Adds, HasBoth, IsIn, IsOf, IsSaid}
use Rattle.spv_declarations.specs.inner.Shown.{Enters, IsDecorated}
use Rattle.spv_declarations.proofs.Gathered.{none_in}
use Rattle.spv_declarations.proofs.Saying.{imports_give}
use Rattle.spv_declarations.proofs.Stated.{at_has, has_at, own_only, by_group_only, import_own, import_by_group}
use Rattle.spv_declarations.proofs.Stated.{kept_said, target_kept, target_imports}

-- A pass over all instructions meets one that is such a one.
pub none_left : (is : List PlainInst) (P : PlainInst → Type 0) (total n : ℕ) → total ≡ length is → total ≤ n
    → ((k : ℕ) → k < n → ¬ (At is P k)) → IsSaid is P → ⊥
none_left is P total n e le none s =
    let w = slice_get_within is s.0 s.1 s.2 in
    none s.0 (omega (arith, w, e, le)) (s.1, s.2, s.3)

-- What gives a decoration names no group; what names one names one alone.
group_code : (n : ℕ) (i : PlainInst) (g : ℕ) → group_by n i ≡ Some g → i.opcode ≡ n
group_code n i g e = by (nat_eq i.opcode n) refl e where
  by : (b : Bool) → nat_eq i.opcode n ≡ b → (if b then first_in i.operands else None) ≡ Some g → i.opcode ≡ n
  by true t f = eqb-true i.opcode n t
  by false t f = absurd (none-some g f)

pub group_gives_none : (i : PlainInst) (g : ℕ) → group_by opcode.GROUP_DECORATE i ≡ Some g → given_by i ≡ None
group_gives_none i g e =
    let code = group_code opcode.GROUP_DECORATE i g e in
    rw code refl

pub one_group : (i : PlainInst) (n g h : ℕ) → group_by n i ≡ Some g → group_by n i ≡ Some h → h ≡ g
one_group i n g h e f = same_Some h g (sym f ∙ e)

pub one_given : (i : PlainInst) (x y d e : ℕ) → given_by i ≡ Some (x, d) → given_by i ≡ Some (y, e) → y ≡ x
one_given i x y d e g h = ap (λ (p : ℕ × ℕ). p.0) (same_Some (y, e) (x, d) (sym h ∙ g))

-- the ids that an instruction decorates, where it gives a decoration, where it names a group, and where it does neither
pub decorated_own : (i : PlainInst) (y e x : ℕ) → given_by i ≡ Some (y, e) → IsDecorated i x → x ≡ y
decorated_own i y e x g (inl (d, h)) = one_given i y x e d g h
decorated_own i y e x g (inr (n, t)) = absurd (none-some (y, e) (sym (group_gives_none i n t.0) ∙ g))

pub decorated_target : (i : PlainInst) (g x : ℕ) → group_by opcode.GROUP_DECORATE i ≡ Some g → IsDecorated i x
    → NamesTarget i g x
decorated_target i g x e (inl (d, h)) = absurd (none-some (x, d) (sym (group_gives_none i g e) ∙ h))
decorated_target i g x e (inr (n, t)) = (e, t.1)

pub decorated_none : (i : PlainInst) (x : ℕ) → given_by i ≡ None → group_by opcode.GROUP_DECORATE i ≡ None
    → IsDecorated i x → ⊥
decorated_none i x e f (inl (d, h)) = none-some (x, d) (sym e ∙ h)
decorated_none i x e f (inr (n, t)) = none-some n (sym f ∙ t.0)

-- By a test of each case.
pub own_decorates : (i : PlainInst) (y e x : ℕ) → given_by i ≡ Some (y, e) → IsTrue (nat_eq y x) ↔ IsDecorated i x
own_decorates i y e x g = (
  λ h. inl (e, subst (λ (z : ℕ). given_by i ≡ Some (z, e)) (eqb-true y x h) g),
  λ h. eq-eqb y x (sym (decorated_own i y e x g h)),
)

pub target_decorates : (i : PlainInst) (g x : ℕ) (os : List Plain) (b : Bool)
    → group_by opcode.GROUP_DECORATE i ≡ Some g → os ≡ behind_first i.operands → (IsTrue b ↔ HasId os x)
    → IsTrue b ↔ IsDecorated i x
target_decorates i g x os b e q t = (
  λ h. inr (g, (e, subst (λ (ps : List Plain). HasId ps x) q (t.0 h))),
  λ h. t.1 (subst (λ (ps : List Plain). HasId ps x) (sym q) (decorated_target i g x e h).1),
)

pub none_decorates : (i : PlainInst) (x : ℕ) → given_by i ≡ None → group_by opcode.GROUP_DECORATE i ≡ None
    → IsTrue false ↔ IsDecorated i x
none_decorates i x e f = (
  λ h. let no : false ≡ true = h in absurd (cc),
  λ h. absurd (decorated_none i x e f h),
)

-- sets of what an instruction decorates
pub own_ids : (i : PlainInst) (y e : ℕ) (old new : BTreeSet ℕ) → old.keys ≡ [] → given_by i ≡ Some (y, e)
    → Adds (λ x. x ≡ y) old new → (x : ℕ) → IsIn new x ↔ IsDecorated i x
own_ids i y e old new k g a x = (
  λ h. elim ((a x).0 h) [
    | inl o ↦ absurd (none_in old x k o)
    | inr q ↦ inl (e, subst (λ (z : ℕ). given_by i ≡ Some (z, e)) (sym q) g)
  ],
  λ h. (a x).1 (inr (decorated_own i y e x g h)),
)

pub target_ids : (i : PlainInst) (g : ℕ) (os : List Plain) (old new : BTreeSet ℕ) → old.keys ≡ []
    → group_by opcode.GROUP_DECORATE i ≡ Some g → os ≡ behind_first i.operands → Adds (HasId os) old new
    → (x : ℕ) → IsIn new x ↔ IsDecorated i x
target_ids i g os old new k e q a x = (
  λ h. elim ((a x).0 h) [
    | inl o ↦ absurd (none_in old x k o)
    | inr m ↦ inr (g, (e, subst (λ (ps : List Plain). HasId ps x) q m))
  ],
  λ h. (a x).1 (inr (subst (λ (ps : List Plain). HasId ps x) (sym q) (decorated_target i g x e h).1)),
)

pub none_ids : (i : PlainInst) (s : BTreeSet ℕ) → s.keys ≡ [] → given_by i ≡ None
    → group_by opcode.GROUP_DECORATE i ≡ None → (x : ℕ) → IsIn s x ↔ IsDecorated i x
none_ids i s k e f x = (λ h. absurd (none_in s x k h), λ h. absurd (decorated_none i x e f h))

-- What has a decoration by an instruction is decorated by it; and so is what it imports.
pub has_decorated : (is : List PlainInst) (d x : ℕ) (i : PlainInst) → HasAt is (Gives d) x i → IsDecorated i x
has_decorated is d x i (HasAt.own s g) = inl (d, s)
has_decorated is d x i (HasAt.by_group g t s) = inr (g, t)

pub import_decorated : (is : List PlainInst) (l : Option ℕ) (x : ℕ) (i : PlainInst) → HasAt is (ImportsBy l) x i
    → IsDecorated i x
import_decorated is l x i (HasAt.own s g) = inl (41, imports_give l i x s)
import_decorated is l x i (HasAt.by_group g t s) = inr (g, t)

-- All that an instruction decorates has what one of it has.
pub same_at : (is : List PlainInst) (d x y : ℕ) (i : PlainInst) → IsDecorated i x → HasAt is (Gives d) y i
    → HasAt is (Gives d) x i
same_at is d x y i k (HasAt.own s g) =
    let q : x ≡ y = decorated_own i y d x s k in
    subst (λ (z : ℕ). HasAt is (Gives d) z i) (sym q) (HasAt.own s g)
same_at is d x y i k (HasAt.by_group g t s) = HasAt.by_group g (decorated_target i g x t.0 k) s

-- what an instruction gives the ids that it decorates: by itself, by a group, or nothing
pub own_gives : (is : List PlainInst) (i : PlainInst) (y e d : ℕ) (b : Bool) → given_by i ≡ Some (y, e)
    → (IsTrue b ↔ ((e ≡ d) × (¬ (IsGroup is y)))) → (x : ℕ) → IsDecorated i x → IsTrue b ↔ HasAt is (Gives d) x i
own_gives is i y e d b g t x k = (
  λ h.
      let p = t.0 h in
      let q = decorated_own i y e x g k in
      let r : Gives d i y = subst (λ (z : ℕ). given_by i ≡ Some (y, z)) p.0 g in
      subst (λ (z : ℕ). HasAt is (Gives d) z i) (sym q) (HasAt.own r p.1),
  λ h. let o = own_only is i y e x d g h in t.1 (sym o.1, o.2),
)

pub group_gives : (l : Option ℕ) (is : List PlainInst) (s : Said) (i : PlainInst) (g d : ℕ) (b : Bool)
    → AreSaid l is s → IsOf is i → IsKnown d → group_by opcode.GROUP_DECORATE i ≡ Some g
    → (IsTrue b ↔ HasBoth s.pairs g d) → (x : ℕ) → IsDecorated i x → IsTrue b ↔ HasAt is (Gives d) x i
group_gives l is s i g d b a o k e t x m = (
  λ h. HasAt.by_group g (decorated_target i g x e m) (kept_said l is s g d a (t.0 h)),
  λ h.
      let r = by_group_only is i x d (group_gives_none i g e) h in
      let q = one_group i opcode.GROUP_DECORATE g r.0 e r.1.0 in
      t.1 (subst (λ (z : ℕ). HasBoth s.pairs z d) q (target_kept l is s i r.0 x d a o r.1 k r.2)),
)

pub nothing_given : (is : List PlainInst) (i : PlainInst) (d : ℕ) → given_by i ≡ None
    → group_by opcode.GROUP_DECORATE i ≡ None → (x : ℕ) → IsDecorated i x → IsTrue false ↔ HasAt is (Gives d) x i
nothing_given is i d e f x k = absurd (decorated_none i x e f k)

-- and what it imports
pub own_imports : (is : List PlainInst) (l : Option ℕ) (i : PlainInst) (y : ℕ) (b : Bool) → ImportsBy l i y
    → (IsTrue b ↔ (¬ (IsGroup is y))) → (x : ℕ) → IsDecorated i x → IsTrue b ↔ HasAt is (ImportsBy l) x i
own_imports is l i y b g t x k = (
  λ h.
      let q = decorated_own i y 41 x (imports_give l i y g) k in
      subst (λ (z : ℕ). HasAt is (ImportsBy l) z i) (sym q) (HasAt.own g (t.0 h)),
  λ h. t.1 (import_own is l i y x g h).1,
)

pub group_imports : (l : Option ℕ) (is : List PlainInst) (s : Said) (i : PlainInst) (g : ℕ) (b : Bool)
    → AreSaid l is s → IsOf is i → imported_by l i ≡ None → group_by opcode.GROUP_DECORATE i ≡ Some g
    → (IsTrue b ↔ IsIn s.importing g) → (x : ℕ) → IsDecorated i x → IsTrue b ↔ HasAt is (ImportsBy l) x i
group_imports l is s i g b a o n e t x m = (
  λ h. HasAt.by_group g (decorated_target i g x e m) (a.imported g (t.0 h)),
  λ h.
      let r = import_by_group is l i x (λ w. none-some x (sym n ∙ w)) h in
      let q = one_group i opcode.GROUP_DECORATE g r.0 e r.1.0 in
      t.1 (subst (λ (z : ℕ). IsIn s.importing z) q (target_imports l is s i r.0 x a o r.1 r.2)),
)

pub nothing_imported : (is : List PlainInst) (l : Option ℕ) (i : PlainInst) → imported_by l i ≡ None
    → group_by opcode.GROUP_DECORATE i ≡ None → (x : ℕ) → IsDecorated i x → IsTrue false ↔ HasAt is (ImportsBy l) x i
nothing_imported is l i n f x k = (
  λ h. let no : false ≡ true = h in absurd (cc),
  λ h.
      let r = import_by_group is l i x (λ w. none-some x (sym n ∙ w)) h in
      absurd (none-some r.0 (sym f ∙ r.1.0)),
)

-- both tests of one id
pub both_tests : (is : List PlainInst) (Says : PlainInst → ℕ → Type 0) (i : PlainInst) (x : ℕ) (p q : Bool)
    → (HasAt is Says x i → IsDecorated i x) → (IsTrue p ↔ IsDecorated i x)
    → (IsDecorated i x → IsTrue q ↔ HasAt is Says x i) → p ≡ true → IsTrue q ↔ HasAt is Says x i
both_tests is Says i x p q f t u e = u (t.0 e)

pub first_test : (is : List PlainInst) (Says : PlainInst → ℕ → Type 0) (i : PlainInst) (x : ℕ) (p : Bool)
    → (HasAt is Says x i → IsDecorated i x) → (IsTrue p ↔ IsDecorated i x) → p ≡ false → IsTrue p ↔ HasAt is Says x i
first_test is Says i x p f t e = (λ h. let no : false ≡ true = sym e ∙ h in absurd (cc), λ h. t.1 (f h))

-- O9: what has linkage by an instruction
pub linked_at : (is : List PlainInst) (n : ℕ) (i : PlainInst) → slice_get is n ≡ Some i → IsLinkedEntry is n
    → (x : ℕ) × IsEntered is x × HasAt is (Gives 41) x i
linked_at is n i at b = (b.0, b.1, has_at is (Gives 41) b.0 n i at b.2)

pub linked_within : (is : List PlainInst) (n : ℕ) → IsLinkedEntry is n → n < length is
linked_within is n (x, e, Has.own i at s g) = slice_get_within is n i at
linked_within is n (x, e, Has.by_group i j g m at t u s) = slice_get_within is n i at

pub some_entry : (is : List PlainInst) (n : ℕ) (i : PlainInst) (functions : BTreeSet ℕ) → slice_get is n ≡ Some i
    → IsLinkedEntry is n → ((x : ℕ) → IsIn functions x ↔ IsDecorated i x) → IsSaid is (Enters functions)
some_entry is n i functions at b t =
    let l = linked_at is n i at b in
    let e = l.1 in
    (e.place, e.inst, e.there, (l.0, (t l.0).1 (has_decorated is 41 l.0 i l.2), e.named))

pub entry_of : (is : List PlainInst) (n m : ℕ) (i : PlainInst) (functions : BTreeSet ℕ) → slice_get is n ≡ Some i
    → IsLinkedEntry is n → ((x : ℕ) → IsIn functions x ↔ IsDecorated i x) → At is (Enters functions) m
    → (x : ℕ) × (e : IsEntered is x) × HasBy is x 41 n × (e.place ≡ m)
entry_of is n m i functions at b t h =
    let l = linked_at is n i at b in
    let f = h.2 in
    let k = (t f.0).0 f.1 in (
      f.0,
      record { place = m; inst = h.0; there = h.1; named = f.2 },
      at_has is (Gives 41) f.0 n i at (same_at is 41 f.0 l.0 i k l.2),
      refl,
    )
