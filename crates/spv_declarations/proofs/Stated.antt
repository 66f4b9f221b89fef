-- What ids and members have, and by which instruction.
use Rattle.std.proofs.Common.{◌≡◌, ◌∙◌, ◌↔◌, inl, inr, ℕ, Bool, true, false, refl, sym, ap, subst, arith, List, [], ◌∷◌}
use Rattle.std.proofs.Common.{Option, Some, None, Result, Ok, Err, OnOk, IsTrue, ◌≤◌, length}
use Rattle.std.specs.Prelude.{slice_get}
use Rattle.std.specs.BTreeSet.{BTreeSet}
use Rattle.spv_module.specs.declared.opcode.TheConstants as opcode
use Rattle.spv_module.specs.Operand.{PlainInst}
use Rattle.spv_conditions.specs.Further.{IsGroup, IsMember}
use Rattle.spv_declarations.specs.Given.{is_decorate, given_by, given_in, member_given_by, member_given_in}
use Rattle.spv_declarations.specs.Given.{is_member_decorate, Gives, NamesTarget, NamesMember}
use Rattle.spv_declarations.specs.Decorated.{Has, HasBy, HasOnMember}
use Rattle.spv_declarations.specs.Table.{is_listed, lines, StandsOn}
use Rattle.spv_declarations.specs.declared.said.Said.{Said}
use Rattle.spv_declarations.specs.inner.Early.{is_early, AreEarly}
use Rattle.spv_declarations.specs.inner.Said.{IsKnown, NamesGroup, ImportsBy, GivesGroup, ImportsGroup, AreSaid, HasAt}
use Rattle.spv_declarations.specs.inner.Said.{HasMemberAt, BuildsIn}
use Rattle.spv_declarations.specs.inner.Sets.{IsIn, HasBoth, Adds, AddsBoth, IsSaid, IsOf, HasAll, Gathers, GathersBoth}
use Rattle.spv_declarations.proofs.Saying.{gated, given_early, member_given_early, target_early, pair_early}
use Rattle.spv_declarations.proofs.Saying.{target_group, member_group, imports_give}
use Rattle.spv_declarations.proofs.Adding.{adds_same, adds_none, both_same, both_none}
use Rattle.spv_declarations.proofs.Gathered.{one_inst, none_in, none_both, said_early}

empty_by : (xs : List ℕ) → length xs ≡ 0 → xs ≡ []
empty_by [] e = refl
empty_by (x ∷ xs) e = absurd (omega (arith, e))

pub at_has : (is : List PlainInst) (Says : PlainInst → ℕ → Type 0) (x n : ℕ) (i : PlainInst) → slice_get is n ≡ Some i
    → HasAt is Says x i → Has is Says x n
at_has is Says x n i at (HasAt.own s g) = Has.own i at s g
at_has is Says x n i at (HasAt.by_group g t s) = Has.by_group i s.1 g s.0 at t s.2 s.3

has_there : (is : List PlainInst) (Says : PlainInst → ℕ → Type 0) (x n : ℕ) → Has is Says x n
    → (i : PlainInst) × (slice_get is n ≡ Some i) × HasAt is Says x i
has_there is Says x n (Has.own i at s g) = (i, at, HasAt.own s g)
has_there is Says x n (Has.by_group i j g m at t there s) = (i, at, HasAt.by_group g t (m, j, there, s))

pub has_place : (is : List PlainInst) (d x n : ℕ) → HasBy is x d n
    → (i : PlainInst) × (slice_get is n ≡ Some i) × HasAt is (Gives d) x i
has_place is d x n h = has_there is (Gives d) x n h

pub has_at : (is : List PlainInst) (Says : PlainInst → ℕ → Type 0) (x n : ℕ) (i : PlainInst) → slice_get is n ≡ Some i
    → Has is Says x n → HasAt is Says x i
has_at is Says x n i at h =
    let t = has_there is Says x n h in
    subst (HasAt is Says x) (one_inst is n t.0 i t.1 at) t.2

pub has_some : (is : List PlainInst) (Says : PlainInst → ℕ → Type 0) (x n : ℕ) → Has is Says x n
    → IsSaid is (λ i. HasAt is Says x i)
has_some is Says x n h = let t = has_there is Says x n h in (n, t.0, t.1, t.2)

pub member_at_has : (is : List PlainInst) (t k d n : ℕ) (i : PlainInst) → slice_get is n ≡ Some i
    → HasMemberAt is t k d i → HasOnMember is t k d n
member_at_has is t k d n i at (HasMemberAt.own e) = HasOnMember.own i at e
member_at_has is t k d n i at (HasMemberAt.by_group g m s) = HasOnMember.by_group i s.1 g s.0 at m s.2 s.3

member_there : (is : List PlainInst) (t k d n : ℕ) → HasOnMember is t k d n
    → (i : PlainInst) × (slice_get is n ≡ Some i) × HasMemberAt is t k d i
member_there is t k d n (HasOnMember.own i at e) = (i, at, HasMemberAt.own e)
member_there is t k d n (HasOnMember.by_group i j g m at p there s) = (i, at, HasMemberAt.by_group g p (m, j, there, s))

pub member_place : (is : List PlainInst) (t k d n : ℕ) → HasOnMember is t k d n
    → (i : PlainInst) × (slice_get is n ≡ Some i) × HasMemberAt is t k d i
member_place is t k d n h = member_there is t k d n h

pub member_has_at : (is : List PlainInst) (t k d n : ℕ) (i : PlainInst) → slice_get is n ≡ Some i
    → HasOnMember is t k d n → HasMemberAt is t k d i
member_has_at is t k d n i at h =
    let s = member_there is t k d n h in
    subst (HasMemberAt is t k d) (one_inst is n s.0 i s.1 at) s.2

pub member_has_some : (is : List PlainInst) (t k d n : ℕ) → HasOnMember is t k d n
    → IsSaid is (λ i. HasMemberAt is t k d i)
member_has_some is t k d n h = let s = member_there is t k d n h in (n, s.0, s.1, s.2)

-- by which opcodes
pub has_early : (is : List PlainInst) (Says : PlainInst → ℕ → Type 0) (x : ℕ) (i : PlainInst)
    → (Says i x → is_early i.opcode ≡ true) → HasAt is Says x i → is_early i.opcode ≡ true
has_early is Says x i f (HasAt.own s g) = f s
has_early is Says x i f (HasAt.by_group g t s) = target_early i g x t

pub has_by_early : (is : List PlainInst) (d x : ℕ) (i : PlainInst) → HasAt is (Gives d) x i → is_early i.opcode ≡ true
has_by_early is d x i h = has_early is (Gives d) x i (given_early i x d) h

pub has_import_early : (is : List PlainInst) (l : Option ℕ) (x : ℕ) (i : PlainInst) → HasAt is (ImportsBy l) x i
    → is_early i.opcode ≡ true
has_import_early is l x i h = has_early is (ImportsBy l) x i (λ s. given_early i x 41 (imports_give l i x s)) h

pub has_member_early : (is : List PlainInst) (t k d : ℕ) (i : PlainInst) → HasMemberAt is t k d i
    → is_early i.opcode ≡ true
has_member_early is t k d i (HasMemberAt.own e) = member_given_early i t k d e
has_member_early is t k d i (HasMemberAt.by_group g m s) = pair_early i g t k m

-- An instruction that gives something names no group.
apart_by : (i : PlainInst) (n : ℕ) (test : ℕ → Bool) → test i.opcode ≡ true → i.opcode ≡ n → test n ≡ false → ⊥
apart_by i n test t e f =
    let h : test n ≡ true = subst (λ (m : ℕ). test m ≡ true) e t in
    let no : true ≡ false = sym h ∙ f in cc

pub gives_no_target : (i : PlainInst) (x d g y : ℕ) → given_by i ≡ Some (x, d) → NamesTarget i g y → ⊥
gives_no_target i x d g y e t =
    apart_by i opcode.GROUP_DECORATE is_decorate (gated (is_decorate i.opcode) (given_in i.operands) (x, d) e)
    (target_group i g t.0) refl

pub gives_no_pair : (i : PlainInst) (t k d g u j : ℕ) → member_given_by i ≡ Some (t, k, d) → NamesMember i g u j → ⊥
gives_no_pair i t k d g u j e m = apart_by i opcode.GROUP_MEMBER_DECORATE is_member_decorate
    (gated (is_member_decorate i.opcode) (member_given_in i.operands) (t, k, d) e) (member_group i g m.0) refl

-- what an instruction that gives an id a decoration says of another; and one that gives none
pub own_only : (is : List PlainInst) (i : PlainInst) (x d y e : ℕ) → given_by i ≡ Some (x, d)
    → HasAt is (Gives e) y i → (y ≡ x) × (e ≡ d) × (¬ (IsGroup is x))
own_only is i x d y e g (HasAt.own s n) =
    let p : Some (x, d) ≡ Some (y, e) = sym g ∙ s in
    let r : (x, d) ≡ (y, e) = cc in
    let q : y ≡ x = sym (ap (λ (z : ℕ × ℕ). z.0) r) in
    (q, sym (ap (λ (z : ℕ × ℕ). z.1) r), subst (λ (z : ℕ). ¬ (IsGroup is z)) q n)
own_only is i x d y e g (HasAt.by_group h t s) = absurd (gives_no_target i x d h y g t)

pub by_group_only : (is : List PlainInst) (i : PlainInst) (y e : ℕ) → given_by i ≡ None → HasAt is (Gives e) y i
    → (g : ℕ) × NamesTarget i g y × IsSaid is (λ j. Gives e j g)
by_group_only is i y e n (HasAt.own s h) = let no : None ≡ Some (y, e) = sym n ∙ s in cc
by_group_only is i y e n (HasAt.by_group g t s) = (g, t, s)

pub import_own : (is : List PlainInst) (l : Option ℕ) (i : PlainInst) (x y : ℕ) → ImportsBy l i x
    → HasAt is (ImportsBy l) y i → (y ≡ x) × (¬ (IsGroup is x))
import_own is l i x y g (HasAt.own s n) =
    let p : Some x ≡ Some y = sym g ∙ s in
    let q : y ≡ x = cc in
    (q, subst (λ (z : ℕ). ¬ (IsGroup is z)) q n)
import_own is l i x y g (HasAt.by_group h t s) = absurd (gives_no_target i x 41 h y (imports_give l i x g) t)

pub import_by_group : (is : List PlainInst) (l : Option ℕ) (i : PlainInst) (y : ℕ) → (ImportsBy l i y → ⊥)
    → HasAt is (ImportsBy l) y i → (g : ℕ) × NamesTarget i g y × IsSaid is (λ j. ImportsBy l j g)
import_by_group is l i y n (HasAt.own s h) = absurd (n s)
import_by_group is l i y n (HasAt.by_group g t s) = (g, t, s)

-- decorations of which the table speaks
pub known_listed : (d : ℕ) → is_listed lines d ≡ true → IsKnown d
known_listed d h = inl h

pub known_11 : IsKnown 11
unfolding lines
known_11 = inl refl

pub known_19 : IsKnown 19
unfolding lines
known_19 = inl refl

pub known_20 : IsKnown 20
unfolding lines
known_20 = inl refl

pub known_41 : IsKnown 41
unfolding lines
known_41 = inl refl

known_by : (is : List PlainInst) (d x : ℕ) (b : Bool) → is_listed lines d ≡ b → ¬ (StandsOn is d x) → IsKnown d
known_by is d x true e n = inl e
known_by is d x false e n = absurd (n (λ t. let no : false ≡ true = sym e ∙ t in absurd (cc)))

-- what does not stand on an id is known
pub known_misplaced : (is : List PlainInst) (d x : ℕ) → ¬ (StandsOn is d x) → IsKnown d
known_misplaced is d x n = known_by is d x (is_listed lines d) refl n

-- What is kept of a group that an instruction names is what is said of it.
pub kept_said : (l : Option ℕ) (is : List PlainInst) (s : Said) (g d : ℕ) → AreSaid l is s → HasBoth s.pairs g d
    → IsSaid is (λ j. Gives d j g)
kept_said l is s g d a h = (a.kept g d h).1

pub target_kept : (l : Option ℕ) (is : List PlainInst) (s : Said) (i : PlainInst) (g x d : ℕ) → AreSaid l is s
    → IsOf is i → NamesTarget i g x → IsKnown d → IsSaid is (λ j. Gives d j g) → HasBoth s.pairs g d
target_kept l is s i g x d a o t k h = a.keeps g d (o.0, i, o.1, inl t.0) k h

pub pair_kept : (l : Option ℕ) (is : List PlainInst) (s : Said) (i : PlainInst) (g t j d : ℕ) → AreSaid l is s
    → IsOf is i → NamesMember i g t j → IsKnown d → IsSaid is (λ j. Gives d j g) → HasBoth s.pairs g d
pair_kept l is s i g t j d a o m k h = a.keeps g d (o.0, i, o.1, inr m.0) k h

pub target_imports : (l : Option ℕ) (is : List PlainInst) (s : Said) (i : PlainInst) (g x : ℕ) → AreSaid l is s
    → IsOf is i → NamesTarget i g x → IsSaid is (λ j. ImportsBy l j g) → IsIn s.importing g
target_imports l is s i g x a o t h = a.imports g (o.0, i, o.1, inl t.0) h

-- Where no group is named, nothing is said of one.
no_keys : (s : BTreeSet ℕ) → length s.keys ≡ 0 → s.keys ≡ []
no_keys s e = empty_by s.keys e

pub said_empty : (l : Option ℕ) (is : List PlainInst) (groups : BTreeSet ℕ) (s : Said) → HasAll is NamesGroup groups
    → length groups.keys ≡ 0 → s.pairs.keys ≡ [] → s.importing.keys ≡ [] → AreSaid l is s
said_empty l is groups s h e p q = record {
  kept = λ g d t. absurd (none_both s.pairs g d p t);
  keeps = λ g d n k t. absurd (none_in groups g (no_keys groups e) ((h g).1 n));
  imported = λ g t. absurd (none_in s.importing g q t);
  imports = λ g n t. absurd (none_in groups g (no_keys groups e) ((h g).1 n));
}

-- What is gathered of groups is what is said of them.
pub said_gathered : (l : Option ℕ) (is : List PlainInst) (groups : BTreeSet ℕ) (s : Said) (count n : ℕ)
    → AreEarly is count → HasAll is NamesGroup groups → count ≤ n → GathersBoth n is (GivesGroup groups) s.pairs
    → Gathers n is (ImportsGroup groups l) s.importing → AreSaid l is s
said_gathered l is groups s count n early h le p q = record {
  kept = λ g d t. let b = (p g d).0 t in (b.4.1, (b.0, b.1, b.3, b.4.2));
  keeps = λ g d o k t. (p g d).1 (said_early is (λ i. GivesGroup groups i g d) count n early
      (λ i r. given_early i g d r.2) le (t.0, t.1, t.2, ((h g).1 o, k, t.3)));
  imported = λ g t. let b = (q g).0 t in (b.0, b.1, b.3, b.4.1);
  imports = λ g o t. (q g).1 (said_early is (λ i. ImportsGroup groups l i g) count n early
      (λ i r. given_early i g 41 (imports_give l i g r.1)) le (t.0, t.1, t.2, ((h g).1 o, t.3)));
}

-- What an instruction adds to the ids that have a decoration.
pub targets_add : (l : Option ℕ) (is : List PlainInst) (s : Said) (i : PlainInst) (d : ℕ) (old new : BTreeSet ℕ)
    → AreSaid l is s → IsOf is i → IsKnown d → given_by i ≡ None
    → Adds (λ x. (g : ℕ) × NamesTarget i g x × HasBoth s.pairs g d) old new
    → Adds (λ x. HasAt is (Gives d) x i) old new
targets_add l is s i d old new a o k n t = adds_same _ (λ x. HasAt is (Gives d) x i) old new
    (λ x p. HasAt.by_group p.0 p.1 (kept_said l is s p.0 d a p.2))
    (λ x h. let b = by_group_only is i x d n h in (b.0, b.1, target_kept l is s i b.0 x d a o b.1 k b.2)) t

pub own_adds : (is : List PlainInst) (i : PlainInst) (x d : ℕ) (old new : BTreeSet ℕ) → given_by i ≡ Some (x, d)
    → ¬ (IsGroup is x) → Adds (λ y. y ≡ x) old new → Adds (λ y. HasAt is (Gives d) y i) old new
own_adds is i x d old new g n a = adds_same (λ y. y ≡ x) (λ y. HasAt is (Gives d) y i) old new
    (λ y e. subst (λ (z : ℕ). HasAt is (Gives d) z i) (sym e) (HasAt.own g n))
    (λ y h. (own_only is i x d y d g h).0) a

pub adds_nothing : (is : List PlainInst) (i : PlainInst) (x own d : ℕ) (s : BTreeSet ℕ) → given_by i ≡ Some (x, own)
    → (own ≡ d → ¬ (IsGroup is x) → ⊥) → Adds (λ y. HasAt is (Gives d) y i) s s
adds_nothing is i x own d s g none = adds_none (λ y. HasAt is (Gives d) y i) s
    (λ y h. let o = own_only is i x own y d g h in none (sym o.1) o.2)

-- and to those that are imported
pub import_targets_add : (l : Option ℕ) (is : List PlainInst) (s : Said) (i : PlainInst) (old new : BTreeSet ℕ)
    → AreSaid l is s → IsOf is i → ((x : ℕ) → ImportsBy l i x → ⊥)
    → Adds (λ x. (g : ℕ) × NamesTarget i g x × IsIn s.importing g) old new
    → Adds (λ x. HasAt is (ImportsBy l) x i) old new
import_targets_add l is s i old new a o n t = adds_same _ (λ x. HasAt is (ImportsBy l) x i) old new
    (λ x p. HasAt.by_group p.0 p.1 (a.imported p.0 p.2))
    (λ x h. let b = import_by_group is l i x (n x) h in (b.0, b.1, target_imports l is s i b.0 x a o b.1 b.2)) t

pub import_adds : (l : Option ℕ) (is : List PlainInst) (i : PlainInst) (x : ℕ) (old new : BTreeSet ℕ) → ImportsBy l i x
    → ¬ (IsGroup is x) → Adds (λ y. y ≡ x) old new → Adds (λ y. HasAt is (ImportsBy l) y i) old new
import_adds l is i x old new g n a = adds_same (λ y. y ≡ x) (λ y. HasAt is (ImportsBy l) y i) old new
    (λ y e. subst (λ (z : ℕ). HasAt is (ImportsBy l) z i) (sym e) (HasAt.own g n))
    (λ y h. (import_own is l i x y g h).0) a

pub imports_nothing : (l : Option ℕ) (is : List PlainInst) (i : PlainInst) (x : ℕ) (s : BTreeSet ℕ) → ImportsBy l i x
    → IsGroup is x → Adds (λ y. HasAt is (ImportsBy l) y i) s s
imports_nothing l is i x s g group = adds_none (λ y. HasAt is (ImportsBy l) y i) s
    (λ y h. (import_own is l i x y g h).1 group)

-- and to the members
member_only : (is : List PlainInst) (i : PlainInst) (t k d u j e : ℕ) → member_given_by i ≡ Some (t, k, d)
    → HasMemberAt is u j e i → (u ≡ t) × (j ≡ k) × (e ≡ d)
member_only is i t k d u j e g (HasMemberAt.own s) =
    let p : Some (t, k, d) ≡ Some (u, j, e) = sym g ∙ s in
    let r : (t, k, d) ≡ (u, j, e) = cc in (
      sym (ap (λ (z : ℕ × ℕ × ℕ). z.0) r),
      sym (ap (λ (z : ℕ × ℕ × ℕ). z.1) r),
      sym (ap (λ (z : ℕ × ℕ × ℕ). z.2) r),
    )
member_only is i t k d u j e g (HasMemberAt.by_group h m s) = absurd (gives_no_pair i t k d h u j g m)

member_by_group : (is : List PlainInst) (i : PlainInst) (u j e : ℕ) → member_given_by i ≡ None
    → HasMemberAt is u j e i → (g : ℕ) × NamesMember i g u j × IsSaid is (λ o. Gives e o g)
member_by_group is i u j e n (HasMemberAt.own s) = let no : None ≡ Some (u, j, e) = sym n ∙ s in cc
member_by_group is i u j e n (HasMemberAt.by_group g m s) = (g, m, s)

pub pairs_build : (l : Option ℕ) (is : List PlainInst) (s : Said) (i : PlainInst) (old new : BTreeSet (ℕ × ℕ))
    → AreSaid l is s → IsOf is i → member_given_by i ≡ None
    → AddsBoth (λ t k. IsMember is t k × ((g : ℕ) × NamesMember i g t k × HasBoth s.pairs g 11)) old new
    → AddsBoth (BuildsIn is i) old new
pairs_build l is s i old new a o n t = both_same _ (BuildsIn is i) old new
    (λ u k p. (p.0, HasMemberAt.by_group p.1.0 p.1.1 (kept_said l is s p.1.0 11 a p.1.2)))
    (λ u k h. let b = member_by_group is i u k 11 n h.1 in
    (h.0, (b.0, b.1, pair_kept l is s i b.0 u k 11 a o b.1 known_11 b.2))) t

pub own_builds : (is : List PlainInst) (i : PlainInst) (t k : ℕ) (old new : BTreeSet (ℕ × ℕ))
    → member_given_by i ≡ Some (t, k, 11)
    → AddsBoth (λ u j. IsMember is u j × (u ≡ t) × (j ≡ k)) old new → AddsBoth (BuildsIn is i) old new
own_builds is i t k old new g a = both_same _ (BuildsIn is i) old new
    (λ u j p. (p.0, HasMemberAt.own (rw (p.1, p.2) g)))
    (λ u j h. let m = member_only is i t k 11 u j 11 g h.1 in (h.0, m.0, m.1)) a

pub builds_nothing : (is : List PlainInst) (i : PlainInst) (t k d : ℕ) (s : BTreeSet (ℕ × ℕ))
    → member_given_by i ≡ Some (t, k, d) → (d ≡ 11 → ⊥) → AddsBoth (BuildsIn is i) s s
builds_nothing is i t k d s g n =
    both_none (BuildsIn is i) s (λ u j h. let m = member_only is i t k d u j 11 g h.1 in n (sym m.2))

-- what a call gives, weakened
pub on_ok : {A E : Type 0} (r : Result A E) (P Q : Type 0) → (P → Q) → OnOk r P → OnOk r Q
on_ok (Ok a) P Q f h = f h
on_ok (Err e) P Q f h = h

pub links_by_group : (l : Option ℕ) (is : List PlainInst) (s : Said) (i : PlainInst) (entered : BTreeSet ℕ) (b : Bool)
    → AreSaid l is s → IsOf is i → given_by i ≡ None
    → (IsTrue b ↔ ((x g : ℕ) × IsIn entered x × NamesTarget i g x × HasBoth s.pairs g 41))
    → IsTrue b ↔ ((x : ℕ) × IsIn entered x × HasAt is (Gives 41) x i)
links_by_group l is s i entered b a o n t = (
  λ y. let p = t.0 y in (p.0, p.2, HasAt.by_group p.1 p.3 (kept_said l is s p.1 41 a p.4)),
  λ h. let q = by_group_only is i h.0 41 n h.2 in
      t.1 (h.0, q.0, h.1, q.1, target_kept l is s i q.0 h.0 41 a o q.1 known_41 q.2),
)
