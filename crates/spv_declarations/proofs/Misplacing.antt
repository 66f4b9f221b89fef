-- O7, at single instructions.
use Rattle.std.proofs.Common.{◌≡◌, ◌∙◌, ◌⊎◌, ◌↔◌, ◌<◌, ◌≤◌, ◌&&◌, ◌||◌, inl, inr, ℕ, zero, suc, length, slice_index_or}
use Rattle.std.proofs.Common.{Bool, true, false, refl, sym, subst, arith, List, [], ◌∷◌, Option, Some, Result, Ok, Err}
use Rattle.std.proofs.Common.{IfOk, nat_le, IsTrue}
use Rattle.std.specs.Prelude.{slice_get, Contains}
use Rattle.std.proofs.lemmas.Bool.{leb-true}
use Rattle.spv_module.specs.declared.opcode.TheConstants as opcode
use Rattle.spv_module.specs.Operand.{Plain, Id, PlainInst}
use Rattle.spv_conditions.specs.Further.{IsGroup}
use Rattle.spv_declarations.specs.Given.{Gives, HasId, HasIdBehind, HasPair, NamesTarget, NamesMember, member_given_by}
use Rattle.spv_declarations.specs.Given.{group_by, behind_first}
use Rattle.spv_declarations.specs.Decorated.{Has, HasOnMember, IsMisplaced}
use Rattle.spv_declarations.specs.Table.{Line, is_within, is_listed, is_among, lines, never_on_members, StandsOn}
use Rattle.spv_declarations.specs.Table.{IsNeverOnMembers}
use Rattle.spv_declarations.specs.declared.said.Said.{Said}
use Rattle.spv_declarations.specs.inner.Said.{IsKnown, AreSaid, HasAt, HasMemberAt}
use Rattle.spv_declarations.specs.inner.Misplaced.{IsAnyMisplaced, IsAnyNever}
use Rattle.spv_declarations.specs.inner.Sets.{AnyId, HasBoth}
use Rattle.spv_declarations.proofs.Gathered.{one_inst}
use Rattle.spv_declarations.proofs.Stated.{at_has, has_at, member_at_has, member_has_at, known_misplaced, kept_said}
use Rattle.spv_declarations.proofs.Stated.{target_kept, pair_kept}

-- the decorations of the table are small numbers
abbrev all_below : ℕ → List (ℕ × ℕ) → Bool
all_below m [] = true
all_below m (r ∷ rs) = nat_le r.1 m && all_below m rs

abbrev lines_below : ℕ → List Line → Bool
lines_below m [] = true
lines_below m (l ∷ ls) = all_below m l.0.now && lines_below m ls

first_of : (a b : Bool) → (a && b) ≡ true → a ≡ true
first_of true b h = refl
first_of false b h = h

second_of : (a b : Bool) → (a && b) ≡ true → b ≡ true
second_of true b h = h
second_of false b h = cc

or_elim : (a b : Bool) (P : Type 0) → (a ≡ true → P) → (b ≡ true → P) → (a || b) ≡ true → P
or_elim true b P f g h = f refl
or_elim false b P f g h = g h

in_one : (m d : ℕ) (r : ℕ × ℕ) → nat_le r.1 m ≡ true → is_within r d ≡ true → d ≤ m
in_one m d r g h =
    let a = leb-true r.1 m g in
    let b = leb-true d r.1 (second_of (nat_le r.0 d) (nat_le d r.1) h) in
    omega (arith, a, b)

among_small : (m d : ℕ) (rs : List (ℕ × ℕ)) → all_below m rs ≡ true → is_among rs d ≡ true → d ≤ m
among_small m d [] a h = cc
among_small m d (r ∷ rs) a h = or_elim (is_within r d) (is_among rs d) (d ≤ m)
    (in_one m d r (first_of (nat_le r.1 m) (all_below m rs) a))
    (among_small m d rs (second_of (nat_le r.1 m) (all_below m rs) a)) h

listed_small : (m d : ℕ) (ls : List Line) → lines_below m ls ≡ true → is_listed ls d ≡ true → d ≤ m
listed_small m d [] a h = cc
listed_small m d (l ∷ ls) a h = or_elim (is_among l.0.now d) (is_listed ls d) (d ≤ m)
    (among_small m d l.0.now (first_of (all_below m l.0.now) (lines_below m ls) a))
    (listed_small m d ls (second_of (all_below m l.0.now) (lines_below m ls) a)) h

lines_small : lines_below 6000 lines ≡ true
unfolding lines
lines_small = refl

never_small : all_below 6000 never_on_members ≡ true
unfolding never_on_members
never_small = refl

pub known_small : (d : ℕ) → IsKnown d → d < 4294967295
known_small d (inl h) = let l = listed_small 6000 d lines lines_small h in omega (arith, l)
known_small d (inr h) = let l = among_small 6000 d never_on_members never_small h in omega (arith, l)

-- what an instruction gives, as a target or a pair of a group or by itself
abbrev pub MisplacesOwn : List PlainInst → PlainInst → Type 0
MisplacesOwn is i = (x d : ℕ) × Gives d i x × (¬ (StandsOn is d x)) × (¬ (IsGroup is x))

abbrev pub MisplacesMember : PlainInst → Type 0
MisplacesMember i = (t k d : ℕ) × (member_given_by i ≡ Some (t, k, d)) × IsNeverOnMembers d

abbrev pub MisplacesTarget : List PlainInst → Said → PlainInst → Type 0
MisplacesTarget is s i = (g x d : ℕ) × NamesTarget i g x × (d < 4294967295) × HasBoth s.pairs g d
    × (¬ (StandsOn is d x))

abbrev pub MisplacesPair : Said → PlainInst → Type 0
MisplacesPair s i = (g t k d : ℕ) × NamesMember i g t k × (d < 4294967295) × HasBoth s.pairs g d × IsNeverOnMembers d

abbrev pub HasAnId : PlainInst → Type 0
HasAnId i = (i.opcode ≡ opcode.DECORATE) × HasIdBehind i.operands

pub by_id : (is : List PlainInst) (n : ℕ) (i : PlainInst) → slice_get is n ≡ Some i → HasAnId i → IsMisplaced is n
by_id is n i at h = IsMisplaced.with_id i at h.0 h.1

pub by_own : (is : List PlainInst) (n : ℕ) (i : PlainInst) → slice_get is n ≡ Some i → MisplacesOwn is i
    → IsMisplaced is n
by_own is n i at h = IsMisplaced.on_id h.0 h.1 (Has.own i at h.2 h.4) h.3

pub by_member : (is : List PlainInst) (n : ℕ) (i : PlainInst) → slice_get is n ≡ Some i → MisplacesMember i
    → IsMisplaced is n
by_member is n i at h = IsMisplaced.on_member h.0 h.1 h.2 (HasOnMember.own i at h.3) h.4

pub by_target : (l : Option ℕ) (is : List PlainInst) (s : Said) (n : ℕ) (i : PlainInst) → AreSaid l is s
    → slice_get is n ≡ Some i → MisplacesTarget is s i → IsMisplaced is n
by_target l is s n i a at h =
    IsMisplaced.on_id h.1 h.2
    (at_has is (Gives h.2) h.1 n i at (HasAt.by_group h.0 h.3 (kept_said l is s h.0 h.2 a h.5)))
    h.6

pub by_pair : (l : Option ℕ) (is : List PlainInst) (s : Said) (n : ℕ) (i : PlainInst) → AreSaid l is s
    → slice_get is n ≡ Some i → MisplacesPair s i → IsMisplaced is n
by_pair l is s n i a at h = IsMisplaced.on_member h.1 h.2 h.3
    (member_at_has is h.1 h.2 h.3 n i at (HasMemberAt.by_group h.0 h.4 (kept_said l is s h.0 h.3 a h.6))) h.7

on_id_cases : (l : Option ℕ) (is : List PlainInst) (s : Said) (n : ℕ) (i : PlainInst) (x d : ℕ) → AreSaid l is s
    → slice_get is n ≡ Some i → HasAt is (Gives d) x i → ¬ (StandsOn is d x)
    → MisplacesOwn is i ⊎ MisplacesTarget is s i
on_id_cases l is s n i x d a at (HasAt.own e g) m = inl (x, d, e, m, g)
on_id_cases l is s n i x d a at (HasAt.by_group g t e) m =
    let k = known_misplaced is d x m in
    inr (g, x, d, t, known_small d k, target_kept l is s i g x d a (n, at) t k e, m)

on_member_cases : (l : Option ℕ) (is : List PlainInst) (s : Said) (n : ℕ) (i : PlainInst) (t k d : ℕ) → AreSaid l is s
    → slice_get is n ≡ Some i → HasMemberAt is t k d i → IsNeverOnMembers d → MisplacesMember i ⊎ MisplacesPair s i
on_member_cases l is s n i t k d a at (HasMemberAt.own e) m = inl (t, k, d, e, m)
on_member_cases l is s n i t k d a at (HasMemberAt.by_group g p e) m =
    inr (g, t, k, d, p, known_small d (inr m), pair_kept l is s i g t k d a (n, at) p (inr m) e, m)

-- none of these breaks the rule
pub by_none : (l : Option ℕ) (is : List PlainInst) (s : Said) (n : ℕ) (i : PlainInst) → AreSaid l is s
    → slice_get is n ≡ Some i → ¬ (HasAnId i) → ¬ (MisplacesOwn is i) → ¬ (MisplacesMember i)
    → ¬ (MisplacesTarget is s i) → ¬ (MisplacesPair s i) → ¬ (IsMisplaced is n)
by_none l is s n i a at p q r u v (IsMisplaced.with_id j there o h) =
    p (subst HasAnId (one_inst is n j i there at) (o, h))
by_none l is s n i a at p q r u v (IsMisplaced.on_id x d h m) =
    elim (on_id_cases l is s n i x d a at (has_at is (Gives d) x n i at h) m) [ inl o ↦ q o | inr o ↦ u o ]
by_none l is s n i a at p q r u v (IsMisplaced.on_member t k d h m) =
    elim (on_member_cases l is s n i t k d a at (member_has_at is t k d n i at h) m) [ inl o ↦ r o | inr o ↦ v o ]

-- some decorations
pub misplaced_in : (is : List PlainInst) (x : ℕ) (ds : List ℕ) (k e : ℕ) → k < length ds → slice_index_or ds k e ≡ e
    → ¬ (StandsOn is e x) → IsAnyMisplaced is ds x
misplaced_in is x [] k e l q p = absurd (omega (arith, l))
misplaced_in is x (d ∷ ds) zero e l q p = inl (subst (λ (z : ℕ). ¬ (StandsOn is z x)) (sym q) p)
misplaced_in is x (d ∷ ds) (suc k) e l q p = inr (misplaced_in is x ds k e (omega (arith, l)) q p)

pub misplaced_out : (is : List PlainInst) (x : ℕ) (ds : List ℕ) → IsAnyMisplaced is ds x
    → (d : ℕ) × Contains ds d × (¬ (StandsOn is d x))
misplaced_out is x [] h = absurd h
misplaced_out is x (d ∷ ds) (inl p) = (d, (zero, omega arith, refl), p)
misplaced_out is x (d ∷ ds) (inr r) =
    let t = misplaced_out is x ds r in
    let l = t.1.1 in
    (t.0, (suc t.1.0, omega (arith, l), t.1.2), t.2)

pub never_in : (ds : List ℕ) (k e : ℕ) → k < length ds → slice_index_or ds k e ≡ e → IsNeverOnMembers e → IsAnyNever ds
never_in [] k e l q p = absurd (omega (arith, l))
never_in (d ∷ ds) zero e l q p = inl (subst IsNeverOnMembers (sym q) p)
never_in (d ∷ ds) (suc k) e l q p = inr (never_in ds k e (omega (arith, l)) q p)

pub never_out : (ds : List ℕ) → IsAnyNever ds → (d : ℕ) × Contains ds d × IsNeverOnMembers d
never_out [] h = absurd h
never_out (d ∷ ds) (inl p) = (d, (zero, omega arith, refl), p)
never_out (d ∷ ds) (inr r) =
    let t = never_out ds r in
    let l = t.1.1 in
    (t.0, (suc t.1.0, omega (arith, l), t.1.2), t.2)

-- some ids among operands
pub any_id : (P : ℕ → Type 0) (os : List Plain) → AnyId P os → (x : ℕ) × HasId os x × P x
any_id P [] h = absurd h
any_id P (Id y ∷ os) (inl p) = (y, inl refl, p)
any_id P (Id y ∷ os) (inr r) = let t = any_id P os r in (t.0, inr t.1, t.2)
any_id P (_ ∷ os) h = any_id P os h

pub id_any : (P : ℕ → Type 0) (os : List Plain) (x : ℕ) → HasId os x → P x → AnyId P os
id_any P [] x h p = absurd h
id_any P (Id y ∷ os) x (inl e) p = inl (subst P (sym e) p)
id_any P (Id y ∷ os) x (inr h) p = inr (id_any P os x h p)
id_any P (_ ∷ os) x h p = id_any P os x h p

same_group : (i : PlainInst) (o g h : ℕ) → group_by o i ≡ Some g → group_by o i ≡ Some h → g ≡ h
same_group i o g h e f = let p : Some g ≡ Some h = sym e ∙ f in cc

-- What a group that an instruction names says of its targets, and of its pairs.
pub target_misplaced : (is : List PlainInst) (s : Said) (i : PlainInst) (g : ℕ) (os : List Plain) (ds : List ℕ)
    (b : Bool)
    → group_by opcode.GROUP_DECORATE i ≡ Some g → os ≡ behind_first i.operands
    → ((d : ℕ) → d < 4294967295 → Contains ds d ↔ HasBoth s.pairs g d)
    → (IsTrue b ↔ AnyId (IsAnyMisplaced is ds) os) → IsTrue b ↔ MisplacesTarget is s i
target_misplaced is s i g os ds b e q k t = (
  λ y.
      let a = any_id (IsAnyMisplaced is ds) os (t.0 y) in
      let m = misplaced_out is a.0 ds a.2 in
      let l = known_small m.0 (known_misplaced is m.0 a.0 m.2) in
      (g, a.0, m.0, (e, subst (λ (z : List Plain). HasId z a.0) q a.1), l, (k m.0 l).0 m.1, m.2),
  λ h.
      let v = same_group i opcode.GROUP_DECORATE g h.0 e h.3.0 in
      let c = (k h.2 h.4).1 (subst (λ (z : ℕ). HasBoth s.pairs z h.2) (sym v) h.5) in
      t.1 (id_any (IsAnyMisplaced is ds) os h.1 (subst (λ (z : List Plain). HasId z h.1) (sym q) h.3.1)
      (misplaced_in is h.1 ds c.0 h.2 c.1 c.2 h.6)),
)

pub pair_misplaced : (s : Said) (i : PlainInst) (g : ℕ) (os : List Plain) (ds : List ℕ) (b : Bool)
    → group_by opcode.GROUP_MEMBER_DECORATE i ≡ Some g → os ≡ behind_first i.operands
    → ((t k : ℕ) × HasPair os t k) → ((d : ℕ) → d < 4294967295 → Contains ds d ↔ HasBoth s.pairs g d)
    → (IsTrue b ↔ IsAnyNever ds) → IsTrue b ↔ MisplacesPair s i
pair_misplaced s i g os ds b e q p k t = (
  λ y.
      let m = never_out ds (t.0 y) in
      let l = known_small m.0 (inr m.2) in
      (g, p.0, p.1, m.0, (e, subst (λ (z : List Plain). HasPair z p.0 p.1) q p.2), l, (k m.0 l).0 m.1, m.2),
  λ h.
      let v = same_group i opcode.GROUP_MEMBER_DECORATE g h.0 e h.4.0 in
      let c = (k h.3 h.5).1 (subst (λ (z : ℕ). HasBoth s.pairs z h.3) (sym v) h.6) in
      t.1 (never_in ds c.0 h.3 c.1 c.2 h.7),
)

-- A test that came out false; all of them.
pub not_so : (P : Type 0) (b : Bool) → (IsTrue b ↔ P) → b ≡ false → ¬ P
not_so P b t f p = let no : false ≡ true = sym f ∙ t.1 p in cc

pub last_tells : (l : Option ℕ) (is : List PlainInst) (s : Said) (n : ℕ) (i : PlainInst) (b : Bool) → AreSaid l is s
    → slice_get is n ≡ Some i → ¬ (HasAnId i) → ¬ (MisplacesOwn is i) → ¬ (MisplacesMember i)
    → ¬ (MisplacesTarget is s i) → (IsTrue b ↔ MisplacesPair s i) → IsTrue b ↔ IsMisplaced is n
last_tells l is s n i true a at p q r u t = (λ y. by_pair l is s n i a at (t.0 y), λ m. refl)
last_tells l is s n i false a at p q r u t = (
  λ y. let no : false ≡ true = y in absurd (cc),
  λ m. absurd (by_none l is s n i a at p q r u (λ v. let no : false ≡ true = t.1 v in cc) m),
)

-- an id behind the first two operands
pub behind_tells : (os ps : List Plain) (b : Bool) → ps ≡ os → (IsTrue b ↔ AnyId (λ x. Unit {0}) ps)
    → IsTrue b ↔ ((x : ℕ) × HasId os x)
behind_tells os ps b e t = (
  λ y. let a = any_id (λ x. Unit {0}) ps (t.0 y) in (a.0, subst (λ (z : List Plain). HasId z a.0) e a.1),
  λ h. t.1 (id_any (λ x. Unit {0}) ps h.0 (subst (λ (z : List Plain). HasId z h.0) (sym e) h.1) tt),
)

-- what a call answers, weakened
pub if_ok : {A E : Type 0} (r : Result A E) (P Q : A → Type 0) → ((a : A) → P a → Q a) → IfOk r P → IfOk r Q
if_ok (Ok a) P Q f h = f a h
if_ok (Err e) P Q f h = h
