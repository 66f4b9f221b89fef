-- Whether a use is in order and in scope, by what is kept of definitions.
use Rattle.std.proofs.Common.{◌≡◌, ◌∙◌, ◌<◌, ◌≤◌, ℕ, List, refl, sym, ap, inl, inr, Bool, true, false, Option, Some}
use Rattle.std.proofs.Common.{None, length, arith, nat_eq}
use Rattle.std.specs.Prelude.{MatchOption, MatchBool, IfSome, not, ◌&&◌, ◌||◌}
use Rattle.std.specs.Option.{is_some}
use Rattle.std.proofs.lemmas.Bool.{cases_lt}
use Rattle.spv_module.specs.Operand.{PlainInst}
use Rattle.spv_module.specs.declared.fault.Rule.{Rule}
use Rattle.spv_module.specs.declared.fault.Rule.TheVariants.{D1, D3, D4, D5}
use Rattle.spv_module.specs.declared.opcode.TheConstants as opcode
use Rattle.spv_layout.specs.First.{rank_of}
use Rattle.spv_layout.specs.Place.{IsOfSection, IsOfFunction}
use Rattle.spv_layout.proofs.Places.{section_same, function_same}
use Rattle.spv_ids.specs.declared.notes.Notes.{Notes}
use Rattle.spv_ids.specs.declared.survey.Survey.{Survey}
use Rattle.spv_ids.specs.declared.survey.Site.{Site}
use Rattle.spv_ids.specs.Definition.{IsDefinedAt, IsLocal}
use Rattle.spv_ids.specs.Order.{HasOpcode, Announces, IsInOrder, IsInScope, IsOrdered, IsScoped}
use Rattle.spv_ids.specs.Broken.{IsOutOfRange}
use Rattle.spv_ids.specs.inner.Notes.{kept}
use Rattle.spv_ids.specs.inner.Known.{IsHome, IsHomeOf, IsFunctionOf, IsOneBefore, IsLaterOne, IsAnnouncedBefore}
use Rattle.spv_ids.specs.inner.Known.{AreAnnounced}
use Rattle.spv_ids.specs.inner.Test.{lower_test, early_test, home_test, scope_test}
use Rattle.spv_ids.specs.inner.Faulty.{IsBadUse, IsBadMention, IsLeast}
use Rattle.spv_ids.specs.inner.Survey.{IsSurvey, IsSite, insts_of}
use Rattle.spv_ids.proofs.Bools.{and_first, and_second, and_both, or_either, or_first, or_second, eq_tells, ne_tells}
use Rattle.spv_ids.proofs.Bools.{eq_yes, lt_tells, ge_tells, some_tells, none_tells, holds}
use Rattle.spv_ids.proofs.Defining.{same_inst, defined_within}
use Rattle.spv_ids.proofs.Homes.{home_same, home_of_local, local_to, between, home_within, home_of_function}

-- a definition before the end is the first that is kept
pub first_is : (is : List PlainInst) (e x k : ℕ) (o : Option ℕ) → IsOneBefore is e x o → k < e → IsDefinedAt is x k
    → o ≡ Some k
first_is is e x k None f l d = absurd (f k l d)
first_is is e x k (Some m) f l d = ap Some (sym (f.only k l d))

pub first_there : (is : List PlainInst) (e x m : ℕ) (o : Option ℕ) → IsOneBefore is e x o → o ≡ Some m
    → IsDefinedAt is x m
first_there is e x m None f h = cc
first_there is e x m (Some l) f h = let s : l ≡ m = cc in let d = f.there in rw s at d

pub first_below : (is : List PlainInst) (e x m : ℕ) (o : Option ℕ) → IsOneBefore is e x o → o ≡ Some m → m < e
first_below is e x m None f h = cc
first_below is e x m (Some l) f h = let s : l ≡ m = cc in let d = f.below in omega arith

pub later_there : (is : List PlainInst) (e to x m : ℕ) (o : Option ℕ) → IsLaterOne is e to x o → o ≡ Some m
    → IsDefinedAt is x m
later_there is e to x m None f h = cc
later_there is e to x m (Some l) f h = let s : l ≡ m = cc in let d = f.there in rw s at d

-- In order.

pub order_lower : (s : Survey) (n x m : ℕ) → IsSurvey s → kept s.firsts.now x ≡ Some m → m < n
    → IsInOrder (insts_of s) n x
order_lower s n x m v e l =
    IsInOrder.lower m l (first_there (insts_of s) s.end x m (kept s.firsts.now x) (v.firsts.one x) e)

announced_there : (is : List PlainInst) (n x m : ℕ) (o : Option ℕ) → IsAnnouncedBefore is n x o → o ≡ Some m
    → (m < n) × Announces is m x
announced_there is n x m None f h = cc
announced_there is n x m (Some l) f h = let s : l ≡ m = cc in let a = f.there in let b = f.below in
    (omega arith, rw s at a)

pub order_member : (s : Survey) (site : Site) (d : Notes) (x m : ℕ) → IsSite s site
    → AreAnnounced (insts_of s) site.inst d → site.section ≡ 11 → site.opcode ≡ opcode.TYPE_STRUCT → kept d x ≡ Some m
    → IsInOrder (insts_of s) site.inst x
order_member s site d x m i a e f h =
    let g = i.section in
    let g' : IsOfSection (insts_of s) site.inst 11 = rw e at g in
    let p = i.opcode in
    let p' : HasOpcode (insts_of s) site.inst opcode.TYPE_STRUCT = rw f at p in
    let t = announced_there (insts_of s) site.inst x m (kept d x) (a.each x) h in
    IsInOrder.member m g' p' t.0 t.1

pub order_announced : (s : Survey) (site : Site) (x : ℕ) → IsSite s site → site.section ≡ 11
    → site.opcode ≡ opcode.TYPE_FORWARD_POINTER → IsInOrder (insts_of s) site.inst x
order_announced s site x i e f =
    let g = i.section in
    let g' : IsOfSection (insts_of s) site.inst 11 = rw e at g in
    let p = i.opcode in
    let p' : HasOpcode (insts_of s) site.inst opcode.TYPE_FORWARD_POINTER = rw f at p in
    IsInOrder.announced g' p'

opcode_same : (is : List PlainInst) (n a b : ℕ) → HasOpcode is n a → HasOpcode is n b → a ≡ b
opcode_same is n a b h g =
    let e : h.inst ≡ g.inst = same_inst is n h.inst g.inst h.there g.there in
    let r = rw e at h.same in
    sym r ∙ g.same

not_announced : (is : List PlainInst) (n x m : ℕ) (o : Option ℕ) → IsAnnouncedBefore is n x o → o ≡ None → m < n
    → ¬ (Announces is m x)
not_announced is n x m None f e l = f m l
not_announced is n x m (Some k) f e l = cc

pub not_in_order : (s : Survey) (site : Site) (d : Notes) (x : ℕ) → IsSurvey s → IsSite s site
    → AreAnnounced (insts_of s) site.inst d → ((m : ℕ) → kept s.firsts.now x ≡ Some m → m < site.inst → ⊥)
    → (site.section ≡ 11 → site.opcode ≡ opcode.TYPE_FORWARD_POINTER → ⊥)
    → (site.section ≡ 11 → site.opcode ≡ opcode.TYPE_STRUCT → kept d x ≡ None)
    → ¬ (IsInOrder (insts_of s) site.inst x)
not_in_order s site d x v i a h f g (IsInOrder.lower m l e) = let b = i.below in
    h m (first_is (insts_of s) s.end x m (kept s.firsts.now x) (v.firsts.one x) (omega arith) e) l
not_in_order s site d x v i a h f g (IsInOrder.announced c o) =
    f (section_same (insts_of s) site.inst site.section 11 i.section c)
    (opcode_same (insts_of s) site.inst site.opcode opcode.TYPE_FORWARD_POINTER i.opcode o)
not_in_order s site d x v i a h f g (IsInOrder.member m c o l e) =
    not_announced (insts_of s) site.inst x m (kept d x) (a.each x)
    (g (section_same (insts_of s) site.inst site.section 11 i.section c)
    (opcode_same (insts_of s) site.inst site.opcode opcode.TYPE_STRUCT i.opcode o)) l e

-- In scope.

-- whether a definition that is kept is of the function
abbrev pub HasNoHome : List PlainInst → Option ℕ → ℕ → Type 0
HasNoHome is o f = (m : ℕ) → o ≡ Some m → ¬ (IsHome is m f)

later_home : (is : List PlainInst) (e to x p f : ℕ) (o : Option ℕ) → IsLaterOne is e to x o → e ≤ p → p < to
    → IsDefinedAt is x p → IsHome is p f → ((g : ℕ) → HasNoHome is o g) → ⊥
later_home is e to x p f None k a b d h n = k p a b d
later_home is e to x p f (Some m) k a b d h n = let g = (k.most p a b d).home f h in n g.0 m refl g.1

later_here : (is : List PlainInst) (e to x p f : ℕ) (o : Option ℕ) → IsLaterOne is e to x o → e ≤ p → p < to
    → IsDefinedAt is x p → IsHome is p f → IsOfFunction is e f → HasNoHome is o f → ⊥
later_here is e to x p f None k a b d h q n = k p a b d
later_here is e to x p f (Some m) k a b d h q n = n m refl ((k.most p a b d).here f q h)

pub not_local : (s : Survey) (x : ℕ) → IsSurvey s → ((f : ℕ) → HasNoHome (insts_of s) (kept s.firsts.now x) f)
    → ((f : ℕ) → HasNoHome (insts_of s) (kept s.later.now x) f) → ¬ (IsLocal (insts_of s) x)
not_local s x v a b (f, l) =
    let is = insts_of s in
    let w = defined_within is x l.place l.defined in
    elim (cases_lt l.place s.end) [
      | inl h ↦ a f l.place (first_is is s.end x l.place (kept s.firsts.now x) (v.firsts.one x) h l.defined)
          (home_of_local is x f l)
      | inr h ↦ later_home is s.end (length is) x l.place f (kept s.later.now x) (v.later.each x) h w l.defined
          (home_of_local is x f l) b
    ]

pub not_in_scope : (s : Survey) (n x : ℕ) → IsSurvey s → n < s.end
    → ((f : ℕ) → IsOfFunction (insts_of s) n f → HasNoHome (insts_of s) (kept s.firsts.now x) f)
    → ((f : ℕ) → IsOfFunction (insts_of s) n f → HasNoHome (insts_of s) (kept s.later.now x) f)
    → ¬ (IsInScope (insts_of s) n x)
not_in_scope s n x v b a c i =
    let is = insts_of s in
    let l = i.local in
    let f = i.function in
    let w = defined_within is x l.place l.defined in
    let h = home_of_local is x f l in
    elim (cases_lt l.place s.end) [
      | inl g ↦ a f i.of l.place (first_is is s.end x l.place (kept s.firsts.now x) (v.firsts.one x) g l.defined) h
      | inr g ↦ later_here is s.end (length is) x l.place f (kept s.later.now x) (v.later.each x) g w l.defined h
          (between is n s.end l.place f (omega arith) g i.of l.of) (c f i.of)
    ]

pub in_scope : (is : List PlainInst) (n x m f : ℕ) → IsDefinedAt is x m → IsHome is m f → IsOfFunction is n f
    → IsInScope is n x
in_scope is n x m f d h o = record { function = f; of = o; local = local_to is x m f d h }

-- Which rules a use breaks.

pub no_bad : (bound : ℕ) (is : List PlainInst) (n x : ℕ) → (IsOutOfRange bound x → ⊥) → (m : ℕ) → IsDefinedAt is x m
    → (IsOrdered is n → IsInOrder is n x) → (IsScoped is n → IsLocal is x → IsInScope is n x) → (q : Rule)
    → ¬ (IsBadUse bound is n x q)
no_bad bound is n x r m d o s _ (IsBadUse.out_of_range h) = r h
no_bad bound is n x r m d o s _ (IsBadUse.undefined h) = h m d
no_bad bound is n x r m d o s _ (IsBadUse.not_in_order h g) = g (o h)
no_bad bound is n x r m d o s _ (IsBadUse.not_in_scope h g k) = k (s h g)

pub least_range : (bound : ℕ) (is : List PlainInst) (n x : ℕ) (q : Rule) → IsBadUse bound is n x q
    → rank_of D1 ≤ rank_of q
least_range bound is n x _ (IsBadUse.out_of_range h) = omega arith
least_range bound is n x _ (IsBadUse.undefined h) = omega arith
least_range bound is n x _ (IsBadUse.not_in_order h g) = omega arith
least_range bound is n x _ (IsBadUse.not_in_scope h g k) = omega arith

pub least_undefined : (bound : ℕ) (is : List PlainInst) (n x : ℕ) (q : Rule) → (IsOutOfRange bound x → ⊥)
    → IsBadUse bound is n x q → rank_of D3 ≤ rank_of q
least_undefined bound is n x _ r (IsBadUse.out_of_range h) = absurd (r h)
least_undefined bound is n x _ r (IsBadUse.undefined h) = omega arith
least_undefined bound is n x _ r (IsBadUse.not_in_order h g) = omega arith
least_undefined bound is n x _ r (IsBadUse.not_in_scope h g k) = omega arith

pub least_order : (bound : ℕ) (is : List PlainInst) (n x m : ℕ) (q : Rule) → (IsOutOfRange bound x → ⊥)
    → IsDefinedAt is x m → IsBadUse bound is n x q → rank_of D4 ≤ rank_of q
least_order bound is n x m _ r d (IsBadUse.out_of_range h) = absurd (r h)
least_order bound is n x m _ r d (IsBadUse.undefined h) = absurd (h m d)
least_order bound is n x m _ r d (IsBadUse.not_in_order h g) = omega arith
least_order bound is n x m _ r d (IsBadUse.not_in_scope h g k) = omega arith

pub least_scope : (bound : ℕ) (is : List PlainInst) (n x m : ℕ) (q : Rule) → (IsOutOfRange bound x → ⊥)
    → IsDefinedAt is x m → (IsOrdered is n → IsInOrder is n x) → IsBadUse bound is n x q → rank_of D5 ≤ rank_of q
least_scope bound is n x m _ r d o (IsBadUse.out_of_range h) = absurd (r h)
least_scope bound is n x m _ r d o (IsBadUse.undefined h) = absurd (h m d)
least_scope bound is n x m _ r d o (IsBadUse.not_in_order h g) = absurd (g (o h))
least_scope bound is n x m _ r d o (IsBadUse.not_in_scope h g k) = omega arith

pub none_defined : (s : Survey) (x : ℕ) → IsSurvey s → kept s.firsts.now x ≡ None → kept s.later.now x ≡ None → (m : ℕ)
    → ¬ (IsDefinedAt (insts_of s) x m)
none_defined s x v a b m d =
    let is = insts_of s in
    let w = defined_within is x m d in
    let f = rw a at (v.firsts.one x) in
    let l = rw b at (v.later.each x) in
    elim (cases_lt m s.end) [ inl h ↦ f m h d | inr h ↦ l m h w d ]

-- some definition that is kept
pub record IsSome (is : List PlainInst) (x : ℕ) : Type 0 where
  pub place : ℕ
  pub there : IsDefinedAt is x place

some_later : (is : List PlainInst) (e to x : ℕ) (o : Option ℕ) → IsLaterOne is e to x o → (o ≡ None → ⊥) → IsSome is x
some_later is e to x None f h = absurd (h refl)
some_later is e to x (Some m) f h = record { place = m; there = f.there }

some_first : (is : List PlainInst) (e x : ℕ) (o : Option ℕ) → IsOneBefore is e x o → (o ≡ None → ⊥) → IsSome is x
some_first is e x None f h = absurd (h refl)
some_first is e x (Some m) f h = record { place = m; there = f.there }

pub some_by_first : (s : Survey) (x : ℕ) → IsSurvey s → (kept s.firsts.now x ≡ None → ⊥) → IsSome (insts_of s) x
some_by_first s x v h = some_first (insts_of s) s.end x (kept s.firsts.now x) (v.firsts.one x) h

pub some_by_later : (s : Survey) (x : ℕ) → IsSurvey s → (kept s.later.now x ≡ None → ⊥) → IsSome (insts_of s) x
some_by_later s x v h = some_later (insts_of s) s.end (length (insts_of s)) x (kept s.later.now x) (v.later.each x) h

-- A use whose definition is lower, and local to no function or of the same one.

plain_use : (s : Survey) (n x m : ℕ) → IsSurvey s → kept s.firsts.now x ≡ Some m → m < n
    → (IsLocal (insts_of s) x → IsInScope (insts_of s) n x) → (q : Rule) → ¬ (IsBadUse s.bound (insts_of s) n x q)
plain_use s n x m v e l c =
    let is = insts_of s in
    let d = first_there is s.end x m (kept s.firsts.now x) (v.firsts.one x) e in
    let b = first_below is s.end x m (kept s.firsts.now x) (v.firsts.one x) e in
    no_bad s.bound is n x (v.firsts.range m x b d) m d (λ o. IsInOrder.lower m l d) (λ o. c)

pub plain_global : (s : Survey) (n x m : ℕ) → IsSurvey s → kept s.firsts.now x ≡ Some m → m < n → m < s.globals
    → (q : Rule) → ¬ (IsBadUse s.bound (insts_of s) n x q)
plain_global s n x m v e l g =
    let is = insts_of s in
    let d = first_there is s.end x m (kept s.firsts.now x) (v.firsts.one x) e in
    plain_use s n x m v e l (λ c. absurd (v.globals.none m x g d c))

pub plain_function : (s : Survey) (n x m f : ℕ) → IsSurvey s → kept s.firsts.now x ≡ Some m → m < n → f < m
    → IsOfFunction (insts_of s) n f → (q : Rule) → ¬ (IsBadUse s.bound (insts_of s) n x q)
plain_function s n x m f v e l g o =
    let is = insts_of s in
    let d = first_there is s.end x m (kept s.firsts.now x) (v.firsts.one x) e in
    plain_use s n x m v e l (λ c. in_scope is n x m f d (home_within is m n f g l o) o)

-- the rule of a use by the same instruction
pub least_use_at : (bound : ℕ) (is : List PlainInst) (m n x : ℕ) (o : Option Rule) → m ≡ n
    → IsLeast (IsBadUse bound is m x) o → IsLeast (IsBadUse bound is n x) o
least_use_at bound is m n x o e h = rw (← e) h

-- Tests of order.

pub order_early : (s : Survey) (site : Site) (d : Notes) (x : ℕ) → IsSite s site → AreAnnounced (insts_of s) site.inst d
    → early_test site.section site.opcode (kept d x) ≡ true → IsInOrder (insts_of s) site.inst x
order_early s site d x i a h =
    let late = nat_eq site.opcode opcode.TYPE_FORWARD_POINTER
    || (nat_eq site.opcode opcode.TYPE_STRUCT && is_some (kept d x)) in
    let c = eq_tells site.section 11 (and_first (nat_eq site.section 11) late h) in
    let o = and_second (nat_eq site.section 11) late h in
    elim (or_either (nat_eq site.opcode opcode.TYPE_FORWARD_POINTER)
    (nat_eq site.opcode opcode.TYPE_STRUCT && is_some (kept d x)) o) [
      | inl e ↦ order_announced s site x i c (eq_tells site.opcode opcode.TYPE_FORWARD_POINTER e)
      | inr e ↦
          let m = holds (kept d x) (and_second (nat_eq site.opcode opcode.TYPE_STRUCT) (is_some (kept d x)) e) in
          order_member s site d x m.value i a c
          (eq_tells site.opcode opcode.TYPE_STRUCT
          (and_first (nat_eq site.opcode opcode.TYPE_STRUCT) (is_some (kept d x)) e)) m.is
    ]

lower_none : (o : Option ℕ) (n m : ℕ) → lower_test o n ≡ false → o ≡ Some m → m < n → ⊥
lower_none None n m h e l = cc
lower_none (Some k) n m h e l = let s : k ≡ m = cc in let g = ge_tells k n h in absurd (omega arith)

pub order_late : (s : Survey) (site : Site) (d : Notes) (x : ℕ) → IsSurvey s → IsSite s site
    → AreAnnounced (insts_of s) site.inst d → lower_test (kept s.firsts.now x) site.inst ≡ false
    → early_test site.section site.opcode (kept d x) ≡ false → ¬ (IsInOrder (insts_of s) site.inst x)
order_late s site d x v i a l h =
    let late = nat_eq site.opcode opcode.TYPE_FORWARD_POINTER
    || (nat_eq site.opcode opcode.TYPE_STRUCT && is_some (kept d x)) in
    not_in_order s site d x v i a (λ m e g. lower_none (kept s.firsts.now x) site.inst m l e g)
    (λ c o. let f = and_both (nat_eq site.section 11) late h (eq_yes site.section 11 c) in
    ne_tells site.opcode opcode.TYPE_FORWARD_POINTER
    (or_first (nat_eq site.opcode opcode.TYPE_FORWARD_POINTER)
    (nat_eq site.opcode opcode.TYPE_STRUCT && is_some (kept d x)) f) o)
    (λ c o.
    let f = and_both (nat_eq site.section 11) late h (eq_yes site.section 11 c) in
    let g = or_second (nat_eq site.opcode opcode.TYPE_FORWARD_POINTER)
    (nat_eq site.opcode opcode.TYPE_STRUCT && is_some (kept d x)) f in
    none_tells (kept d x) (and_both (nat_eq site.opcode opcode.TYPE_STRUCT) (is_some (kept d x)) g
    (eq_yes site.opcode opcode.TYPE_STRUCT o)))

pub lower_holds : (s : Survey) (n x : ℕ) → IsSurvey s → lower_test (kept s.firsts.now x) n ≡ true
    → IsInOrder (insts_of s) n x
lower_holds s n x v h = by_kept (kept s.firsts.now x) refl h where
  by_kept : (o : Option ℕ) → kept s.firsts.now x ≡ o → lower_test o n ≡ true → IsInOrder (insts_of s) n x
  by_kept None e g = cc
  by_kept (Some m) e g = order_lower s n x m v e (lt_tells m n g)

-- Tests of scope.

pub home_some : (is : List PlainInst) (m : ℕ) (o : Option ℕ)
    → MatchOption o ((f : ℕ) → ¬ (IsHome is m f)) (λ f. IsHome is m f) → IsHomeOf is (Some m) o
home_some is m None h = λ f g. let e : g.place ≡ m = (let k = g.kept in cc) in let a = rw e at g.home in h f a
home_some is m (Some g) h = record { place = m; kept = refl; home = h }

pub home_none : (is : List PlainInst) → IsHomeOf is None None
home_none is f g = let k = g.kept in cc

no_home_none : (is : List PlainInst) (o : Option ℕ) (f : ℕ) → IsHomeOf is o None → HasNoHome is o f
no_home_none is o f a m e h = a f (record { place = m; kept = e; home = h })

no_home_other : (is : List PlainInst) (o a : Option ℕ) (f : ℕ) → IsHomeOf is o a → home_test a f ≡ false
    → HasNoHome is o f
no_home_other is o None f h t = no_home_none is o f h
no_home_other is o (Some g) f h t = λ m e k.
    let p : h.place ≡ m = (let q = h.kept in cc) in
    let b = rw p at h.home in
    absurd (ne_tells g f t (home_same is m g f b k))

no_home_by : (is : List PlainInst) (o a : Option ℕ) (f : ℕ) → IsHomeOf is o a → is_some a ≡ false → HasNoHome is o f
no_home_by is o None f h t = no_home_none is o f h
no_home_by is o (Some g) f h t = cc

local_by : (is : List PlainInst) (x : ℕ) (o a : Option ℕ) → IsHomeOf is o a
    → ((m : ℕ) → o ≡ Some m → IsDefinedAt is x m) → is_some a ≡ true → IsLocal is x
local_by is x o None h d t = cc
local_by is x o (Some g) h d t = (g, local_to is x h.place g (d h.place h.kept) h.home)

scope_by : (is : List PlainInst) (n x f : ℕ) (o a : Option ℕ) → IsHomeOf is o a
    → ((m : ℕ) → o ≡ Some m → IsDefinedAt is x m) → home_test a f ≡ true → IsOfFunction is n f → IsInScope is n x
scope_by is n x f o None h d t q = cc
scope_by is n x f o (Some g) h d t q = let e = eq_tells g f t in let k = h.home in
    let k' : IsHome is h.place f = rw e at k in in_scope is n x h.place f (d h.place h.kept) k' q

defined_first : (s : Survey) (x m : ℕ) → IsSurvey s → kept s.firsts.now x ≡ Some m → IsDefinedAt (insts_of s) x m
defined_first s x m v e = first_there (insts_of s) s.end x m (kept s.firsts.now x) (v.firsts.one x) e

defined_later : (s : Survey) (x m : ℕ) → IsSurvey s → kept s.later.now x ≡ Some m → IsDefinedAt (insts_of s) x m
defined_later s x m v e =
    later_there (insts_of s) s.end (length (insts_of s)) x m (kept s.later.now x) (v.later.each x) e

-- where some definition is local, and where none is
local_some : (s : Survey) (x : ℕ) (a b : Option ℕ) → IsSurvey s → IsHomeOf (insts_of s) (kept s.firsts.now x) a
    → IsHomeOf (insts_of s) (kept s.later.now x) b → is_some a || is_some b ≡ true → IsLocal (insts_of s) x
local_some s x a b v h k t = elim (or_either (is_some a) (is_some b) t) [
  | inl e ↦ local_by (insts_of s) x (kept s.firsts.now x) a h (λ m q. defined_first s x m v q) e
  | inr e ↦ local_by (insts_of s) x (kept s.later.now x) b k (λ m q. defined_later s x m v q) e
]

local_none : (s : Survey) (x : ℕ) (a b : Option ℕ) → IsSurvey s → IsHomeOf (insts_of s) (kept s.firsts.now x) a
    → IsHomeOf (insts_of s) (kept s.later.now x) b → is_some a || is_some b ≡ false → ¬ (IsLocal (insts_of s) x)
local_none s x a b v h k t =
    not_local s x v (λ f. no_home_by (insts_of s) (kept s.firsts.now x) a f h (or_first (is_some a) (is_some b) t))
    (λ f. no_home_by (insts_of s) (kept s.later.now x) b f k (or_second (is_some a) (is_some b) t))

-- what the test says
abbrev Scope : Survey → ℕ → ℕ → Bool → Type 0
Scope s n x r = MatchBool r (IsLocal (insts_of s) x → IsInScope (insts_of s) n x)
    (IsLocal (insts_of s) x × ¬ (IsInScope (insts_of s) n x))

scope_outside : (s : Survey) (n x : ℕ) (a b : Option ℕ) (t : Bool) → IsSurvey s
    → IsHomeOf (insts_of s) (kept s.firsts.now x) a → IsHomeOf (insts_of s) (kept s.later.now x) b
    → is_some a || is_some b ≡ t
    → ((f : ℕ) → ¬ (IsOfFunction (insts_of s) n f)) → Scope s n x (not t)
scope_outside s n x a b true v h k t o = (local_some s x a b v h k t, λ i. o i.function i.of)
scope_outside s n x a b false v h k t o = λ l. absurd (local_none s x a b v h k t l)

scope_inside : (s : Survey) (n x f : ℕ) (a b : Option ℕ) (p q t : Bool) → IsSurvey s → n < s.end
    → IsHomeOf (insts_of s) (kept s.firsts.now x) a → IsHomeOf (insts_of s) (kept s.later.now x) b
    → home_test a f ≡ p → home_test b f ≡ q → is_some a || is_some b ≡ t → IsOfFunction (insts_of s) n f
    → Scope s n x (p || q || not t)
scope_inside s n x f a b true q t v l h k c d e o =
    λ w. scope_by (insts_of s) n x f (kept s.firsts.now x) a h (λ m g. defined_first s x m v g) c o
scope_inside s n x f a b false true t v l h k c d e o =
    λ w. scope_by (insts_of s) n x f (kept s.later.now x) b k (λ m g. defined_later s x m v g) d o
scope_inside s n x f a b false false true v l h k c d e o = (
  local_some s x a b v h k e,
  not_in_scope s n x v l (λ g w. let r = function_same (insts_of s) n f g o w in
      no_home_other (insts_of s) (kept s.firsts.now x) a g h (rw r at c))
      (λ g w. let r = function_same (insts_of s) n f g o w in
      no_home_other (insts_of s) (kept s.later.now x) b g k (rw r at d)),
)
scope_inside s n x f a b false false false v l h k c d e o = λ w. absurd (local_none s x a b v h k e w)

scope_by_function : (s : Survey) (n x : ℕ) (o a b : Option ℕ) → IsSurvey s → n < s.end → IsFunctionOf (insts_of s) n o
    → IsHomeOf (insts_of s) (kept s.firsts.now x) a → IsHomeOf (insts_of s) (kept s.later.now x) b
    → Scope s n x (scope_test o a b)
scope_by_function s n x None a b v l o h k = scope_outside s n x a b (is_some a || is_some b) v h k refl o
scope_by_function s n x (Some f) a b v l o h k =
    scope_inside s n x f a b (home_test a f) (home_test b f) (is_some a || is_some b) v l h k refl refl refl o

-- the same where uses come in scope
scoped_by : (s : Survey) (n x : ℕ) (r : Bool) → IsScoped (insts_of s) n → Scope s n x r
    → MatchBool r (IsScoped (insts_of s) n → IsLocal (insts_of s) x → IsInScope (insts_of s) n x)
    (IsScoped (insts_of s) n × IsLocal (insts_of s) x × ¬ (IsInScope (insts_of s) n x))
scoped_by s n x true c h = λ d. h
scoped_by s n x false c h = (c, h.0, h.1)

pub scope_tells : (s : Survey) (site : Site) (x : ℕ) (a b : Option ℕ) (r : Bool) → IsSurvey s → IsSite s site
    → IsHomeOf (insts_of s) (kept s.firsts.now x) a → IsHomeOf (insts_of s) (kept s.later.now x) b
    → r ≡ scope_test site.function a b → IsScoped (insts_of s) site.inst
    → MatchBool r (IsScoped (insts_of s) site.inst → IsLocal (insts_of s) x → IsInScope (insts_of s) site.inst x)
    (IsScoped (insts_of s) site.inst × IsLocal (insts_of s) x × ¬ (IsInScope (insts_of s) site.inst x))
scope_tells s site x a b r v i h k e c =
    let t = scope_by_function s site.inst x site.function a b v i.below i.function h k in
    scoped_by s site.inst x r c (rw e t)

-- the premise of `home_of`
pub if_first : (s : Survey) (x : ℕ) (o : Option ℕ) → IsSurvey s → o ≡ kept s.firsts.now x
    → IfSome o (λ m. IsDefinedAt (insts_of s) x m)
if_first s x None v e = tt
if_first s x (Some m) v e = defined_first s x m v (sym e)

pub if_later : (s : Survey) (x : ℕ) (o : Option ℕ) → IsSurvey s → o ≡ kept s.later.now x
    → IfSome o (λ m. IsDefinedAt (insts_of s) x m)
if_later s x None v e = tt
if_later s x (Some m) v e = defined_later s x m v (sym e)

-- definitions that are kept, and that are not
pub undefined_by : (s : Survey) (x : ℕ) → IsSurvey s
    → is_some (kept s.firsts.now x) || is_some (kept s.later.now x) ≡ false → (m : ℕ) → ¬ (IsDefinedAt (insts_of s) x m)
undefined_by s x v h =
    let a = is_some (kept s.firsts.now x) in
    let b = is_some (kept s.later.now x) in
    none_defined s x v (none_tells (kept s.firsts.now x) (or_first a b h))
    (none_tells (kept s.later.now x) (or_second a b h))

pub defined_by : (s : Survey) (x : ℕ) → IsSurvey s
    → is_some (kept s.firsts.now x) || is_some (kept s.later.now x) ≡ true → IsSome (insts_of s) x
defined_by s x v h = elim (or_either (is_some (kept s.firsts.now x)) (is_some (kept s.later.now x)) h) [
  | inl e ↦ some_by_first s x v (some_tells (kept s.firsts.now x) e)
  | inr e ↦ some_by_later s x v (some_tells (kept s.later.now x) e)
]

-- the answer where a use is not lower
pub order_by : (s : Survey) (site : Site) (d : Notes) (x : ℕ) (b : Bool) → IsSurvey s → IsSite s site
    → AreAnnounced (insts_of s) site.inst d → IsOrdered (insts_of s) site.inst
    → lower_test (kept s.firsts.now x) site.inst ≡ false
    → b ≡ early_test site.section site.opcode (kept d x)
    → MatchBool b (IsOrdered (insts_of s) site.inst → IsInOrder (insts_of s) site.inst x)
    (IsOrdered (insts_of s) site.inst × ¬ (IsInOrder (insts_of s) site.inst x))
order_by s site d x true v i a o l e = λ c. order_early s site d x i a (sym e)
order_by s site d x false v i a o l e = (o, order_late s site d x v i a l (sym e))

-- A use that is sound by the function of its only definition.

pub sound_use : (s : Survey) (n x m : ℕ) → IsSurvey s → kept s.firsts.now x ≡ Some m → (IsOrdered (insts_of s) n → ⊥)
    → (IsScoped (insts_of s) n → IsLocal (insts_of s) x → IsInScope (insts_of s) n x)
    → (q : Rule) → ¬ (IsBadUse s.bound (insts_of s) n x q)
sound_use s n x m v e o c =
    let is = insts_of s in
    let d = first_there is s.end x m (kept s.firsts.now x) (v.firsts.one x) e in
    let b = first_below is s.end x m (kept s.firsts.now x) (v.firsts.one x) e in
    no_bad s.bound is n x (v.firsts.range m x b d) m d (λ h. absurd (o h)) c

pub sound_place : (s : Survey) (x m : ℕ) → IsSurvey s → kept s.firsts.now x ≡ Some m → IsDefinedAt (insts_of s) x m
sound_place s x m v e = defined_first s x m v e

none_later : (is : List PlainInst) (e to x : ℕ) (o : Option ℕ) → to ≤ e → IsLaterOne is e to x o → o ≡ None
none_later is e to x None l f = refl
none_later is e to x (Some m) l f = let a = f.above in let b = f.below in absurd (omega arith)

-- an id whose only definition is in no function, and one whose definition is in the function of the use
pub sound_nowhere : (s : Survey) (x m : ℕ) → IsSurvey s → kept s.firsts.now x ≡ Some m → length (insts_of s) ≤ s.end
    → ((f : ℕ) → ¬ (IsHome (insts_of s) m f)) → ¬ (IsLocal (insts_of s) x)
sound_nowhere s x m v e l h =
    let is = insts_of s in
    let k : kept s.later.now x ≡ None = none_later is s.end (length is) x (kept s.later.now x) l (v.later.each x) in
    not_local s x v (λ f p q g. let t : p ≡ m = cc in h f (rw t at g)) (λ f p q g. cc)

pub sound_here : (s : Survey) (n x m f : ℕ) → IsSurvey s → kept s.firsts.now x ≡ Some m → f < m
    → IsOfFunction (insts_of s) m f → IsOfFunction (insts_of s) n f → IsInScope (insts_of s) n x
sound_here s n x m f v e l o q =
    let is = insts_of s in
    let d = defined_first s x m v e in
    in_scope is n x m f d (home_of_function is s.plan.now x m f v.places d o (λ w. omega (arith, w))) q

-- a mention whose definition is kept
pub mention_sound : (bound : ℕ) (is : List PlainInst) (x m : ℕ) (q : Rule) → (IsOutOfRange bound x → ⊥)
    → IsDefinedAt is x m → ¬ (IsBadMention bound is x q)
mention_sound bound is x m _ r d (IsBadMention.out_of_range h) = r h
mention_sound bound is x m _ r d (IsBadMention.undefined h) = h m d

pub mention_kept : (s : Survey) (x m : ℕ) → IsSurvey s → kept s.firsts.now x ≡ Some m → (q : Rule)
    → ¬ (IsBadMention s.bound (insts_of s) x q)
mention_kept s x m v e q =
    let is = insts_of s in
    let d = first_there is s.end x m (kept s.firsts.now x) (v.firsts.one x) e in
    let b = first_below is s.end x m (kept s.firsts.now x) (v.firsts.one x) e in
    mention_sound s.bound is x m q (v.firsts.range m x b d) d

pub bad_use_at : (bound : ℕ) (is : List PlainInst) (m n x : ℕ) (q : Rule) → m ≡ n → IsBadUse bound is n x q
    → IsBadUse bound is m x q
bad_use_at bound is m n x q e b = rw e b
