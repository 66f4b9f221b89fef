-- Conditions that are decided by the types at hand.
use Rattle.std.proofs.Common.{◌≡◌, ◌&&◌, ◌+◌, ◌-◌, zero, suc, refl, sym, subst, ℕ, List, [], ◌∷◌, ◌++◌, Option, Some, None, Bool, true, false}
use Rattle.std.specs.Prelude.{IsSomeAnd}
use Rattle.std.specs.List.{AllByRecursion}
use Rattle.spv_module.specs.Operand.{PlainInst}
use Rattle.spv_type_kinds.specs.declared.kinds.Relation.{Relation}
use Rattle.spv_type_kinds.specs.declared.kinds.Relation.TheVariants as relation
use Rattle.spv_conditions.specs.declared.asked.Asked.{Asked}
use Rattle.spv_conditions.specs.declared.asked.Asked.TheVariants as asked
use Rattle.spv_conditions.specs.declared.asked.Asks.{Asks}
use Rattle.spv_conditions.specs.declared.asked.Asks.TheVariants as asks
use Rattle.spv_conditions.specs.declared.asked.Each.{Each}
use Rattle.spv_conditions.specs.declared.asked.Each.TheVariants as each
use Rattle.spv_conditions.specs.Asks.{HoldsOf, each_from, indexes_from, conditions_in}
use Rattle.spv_conditions.specs.declared.seat.Seat.{Seat}
use Rattle.spv_conditions.specs.Chain.{first_index}
use Rattle.spv_conditions.specs.Condition.{Agrees, FailsFirst}
use Rattle.spv_conditions.specs.Values.{type_at}
use Rattle.spv_conditions.specs.inner.Direct.{AgreesDirectly, HoldsDirectly, is_direct, are_direct}
use Rattle.spv_conditions.proofs.lemmas.Listing.{all_both}

some_agree : (o : Option ℕ) (P Q : ℕ → Type 0) → ((u : ℕ) → P u → Q u) → IsSomeAnd o P → IsSomeAnd o Q
some_agree None P Q f h = h
some_agree (Some u) P Q f h = f u h

agreed : (is : List PlainInst) (q : Relation) (t u : ℕ) → AgreesDirectly is q t u → Agrees is q t u
agreed is relation.Matches t u h = absurd h
agreed is q t u h = h

agrees : (is : List PlainInst) (q : Relation) (s t : ℕ) → (q ≡ relation.Matches → ⊥) → Agrees is q s t
    → AgreesDirectly is q s t
agrees is relation.Matches s t never h = absurd (never refl)
agrees is q s t never h = h

-- what is told directly holds
pub directly : (is : List PlainInst) (n : ℕ) (i : PlainInst) (r : Option ℕ) (types : List ℕ) (a : Asked)
    → HoldsDirectly is n i r types a → HoldsOf is n i r types a
directly is n i r types (asked.Relation q s t) h =
    some_agree (type_at r types s) (λ u. IsSomeAnd (type_at r types t) (AgreesDirectly is q u))
    (λ u. IsSomeAnd (type_at r types t) (Agrees is q u))
    (λ u. some_agree (type_at r types t) (AgreesDirectly is q u) (Agrees is q u) (λ v. agreed is q u v)) h
directly is n i r types a h = h

never_matches : (q : Relation) (s t : Seat) → is_direct (asked.Relation q s t) ≡ true → q ≡ relation.Matches → ⊥
never_matches q s t h e = let no : false ≡ true = subst (λ p. is_direct (asked.Relation p s t) ≡ true) e h in cc

-- and what holds is told directly, if it is one of such conditions
pub by_direct : (is : List PlainInst) (n : ℕ) (i : PlainInst) (r : Option ℕ) (types : List ℕ) (a : Asked)
    → is_direct a ≡ true → HoldsOf is n i r types a → HoldsDirectly is n i r types a
by_direct is n i r types (asked.Relation q s t) d h =
    some_agree (type_at r types s) (λ u. IsSomeAnd (type_at r types t) (Agrees is q u))
    (λ u. IsSomeAnd (type_at r types t) (AgreesDirectly is q u))
    (λ u. some_agree (type_at r types t) (Agrees is q u) (AgreesDirectly is q u)
    (λ v. agrees is q u v (never_matches q s t d))) h
by_direct is n i r types a d h = h

-- the same of several, and of a line

pub all_directly : (is : List PlainInst) (n : ℕ) (i : PlainInst) (r : Option ℕ) (types : List ℕ) (qs : List Asked)
    → AllByRecursion (HoldsDirectly is n i r types) qs → AllByRecursion (HoldsOf is n i r types) qs
all_directly is n i r types [] h = tt
all_directly is n i r types (a ∷ qs) h = (directly is n i r types a h.0, all_directly is n i r types qs h.1)

abbrev IsDirect : Asked → Type 0
IsDirect q = is_direct q ≡ true

each_are : (e : Each) (k m : ℕ) → AllByRecursion IsDirect (each_from e k m)
each_are e k zero = tt
each_are each.Same k (suc m) = (refl, each_are each.Same (k + 1) m)
each_are each.Share k (suc m) = (refl, each_are each.Share (k + 1) m)
each_are each.Part k (suc m) = (refl, each_are each.Part (k + 1) m)

indexes_are : (b : Bool) (k m : ℕ) → AllByRecursion IsDirect (indexes_from b k m)
indexes_are b k zero = tt
indexes_are b k (suc m) = (refl, (refl, indexes_are b (k + 1) m))

two_true : (a b : Bool) → a && b ≡ true → (a ≡ true) × (b ≡ true)
two_true true b h = (refl, h)
two_true false b h = absurd (let no : false ≡ true = h in cc)

all_are : (line : List Asks) (m : ℕ) → are_direct line ≡ true → AllByRecursion IsDirect (conditions_in line m)
all_are [] m d = tt
all_are (asks.Once a ∷ line) m d =
    let two = two_true (is_direct a) (are_direct line) d in (two.0, all_are line m two.1)
all_are (asks.Each e ∷ line) m d =
    all_both IsDirect (each_from e 0 m) (conditions_in line m) (each_are e 0 m) (all_are line m d)
all_are (asks.Indexes b ∷ line) m d =
    all_both IsDirect (indexes_from b (first_index b) (m - first_index b)) (conditions_in line m)
    (indexes_are b (first_index b) (m - first_index b)) (all_are line m d)

by_each : (is : List PlainInst) (n : ℕ) (i : PlainInst) (r : Option ℕ) (types : List ℕ) (qs : List Asked)
    → AllByRecursion IsDirect qs → AllByRecursion (HoldsOf is n i r types) qs
    → AllByRecursion (HoldsDirectly is n i r types) qs
by_each is n i r types [] d h = tt
by_each is n i r types (a ∷ qs) d h = (by_direct is n i r types a d.0 h.0, by_each is n i r types qs d.1 h.1)

pub all_direct : (is : List PlainInst) (n : ℕ) (i : PlainInst) (r : Option ℕ) (types : List ℕ) (line : List Asks) (m : ℕ)
    → are_direct line ≡ true → AllByRecursion (HoldsOf is n i r types) (conditions_in line m)
    → AllByRecursion (HoldsDirectly is n i r types) (conditions_in line m)
all_direct is n i r types line m d h = by_each is n i r types (conditions_in line m) (all_are line m d) h

-- one of several
at_seam : (P : Asked → Type 0) (before : List Asked) (a : Asked) (after : List Asked)
    → AllByRecursion P (before ++ a ∷ after) → P a
at_seam P [] a after h = h.0
at_seam P (q ∷ before) a after h = at_seam P before a after h.1

-- the first that fails directly is the first that fails, if it does
pub fails_first : (is : List PlainInst) (n : ℕ) (i : PlainInst) (r : Option ℕ) (types : List ℕ) (qs : List Asked)
    (a : Asked) → FailsFirst (HoldsDirectly is n i r types) qs a → (HoldsOf is n i r types a → ⊥)
    → FailsFirst (HoldsOf is n i r types) qs a
fails_first is n i r types qs a f never = record {
  before = f.before;
  after = f.after;
  all = f.all;
  hold = all_directly is n i r types f.before f.hold;
  fails = never;
}

-- it does, in a line of such conditions
pub fails_of_line : (is : List PlainInst) (n : ℕ) (i : PlainInst) (r : Option ℕ) (types : List ℕ) (line : List Asks)
    (m : ℕ) (a : Asked) → are_direct line ≡ true → FailsFirst (HoldsDirectly is n i r types) (conditions_in line m) a
    → FailsFirst (HoldsOf is n i r types) (conditions_in line m) a
fails_of_line is n i r types line m a d f =
    let direct = at_seam IsDirect f.before a f.after
    (subst (AllByRecursion IsDirect) f.all (all_are line m d)) in
    fails_first is n i r types (conditions_in line m) a f (λ h. f.fails (by_direct is n i r types a direct h))

-- and where it is the last of all, which do not all hold
pub fails_at_last : (is : List PlainInst) (n : ℕ) (i : PlainInst) (r : Option ℕ) (types : List ℕ) (p q a : Asked)
    → is_direct p ≡ true → (AllByRecursion (HoldsOf is n i r types) (p ∷ q ∷ []) → ⊥)
    → FailsFirst (HoldsDirectly is n i r types) (p ∷ q ∷ []) a → FailsFirst (HoldsOf is n i r types) (p ∷ q ∷ []) a
fails_at_last is n i r types p q a d never f =
    fails_first is n i r types (p ∷ q ∷ []) a f (by f.before f.after f.all f.hold)
  where
    by : (before after : List Asked) → p ∷ q ∷ [] ≡ before ++ a ∷ after
        → AllByRecursion (HoldsDirectly is n i r types) before → HoldsOf is n i r types a → ⊥
    by [] after e hold h =
        let same : p ≡ a = cc in
        f.fails (by_direct is n i r types a (subst IsDirect same d) h)
    by (x ∷ []) after e hold h =
        let one : p ≡ x = cc in
        let two : q ≡ a = cc in
        never (
          subst (HoldsOf is n i r types) (sym one) (directly is n i r types x hold.0),
          (subst (HoldsOf is n i r types) (sym two) h, tt),
        )
    by (x ∷ y ∷ before) after e hold h = absurd (no_more before e)
      where
        no_more : (before : List Asked) → p ∷ q ∷ [] ≡ x ∷ y ∷ (before ++ a ∷ after) → ⊥
        no_more [] e = cc
        no_more (z ∷ zs) e = cc
