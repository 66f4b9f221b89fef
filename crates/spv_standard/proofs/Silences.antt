-- An instruction whose row asks for no text, no value and no mask has none, and so none by which it breaks a rule.
use Rattle.std.proofs.Common.{◌≡◌, ◌⊎◌, ◌++◌, ◌&&◌, ◌<◌, ◌+◌, if◌then◌else◌, Bool, false, ℕ, zero, suc, List, [], ◌∷◌, inl, inr, refl, sym, subst, true}
use Rattle.std.proofs.Common.{Some, length, take, drop, get_or, arith}
use Rattle.std.specs.List.{AllByRecursion}
use Rattle.spv_table.specs.Table.{Table}
use Rattle.spv_module.specs.Operand.{Plain, PlainInst}
use Rattle.spv_module.specs.Operand as operand
use Rattle.spv_layout.specs.declared.form.Form.{Form}
use Rattle.spv_layout.specs.declared.form.Form.TheVariants as form
use Rattle.spv_layout.specs.Row.{PlainRow, RowEnding, repeated}
use Rattle.spv_layout.specs.Rows.{row_of}
use Rattle.spv_layout.specs.Shape.{is_of, AreOf, Ends, FitsShape}
use Rattle.spv_layout.proofs.Derivatives.{both_hold, both_true}
use Rattle.spv_limits.specs.inner.Alone.{AreLong}
use Rattle.spv_versions.specs.declared.late.Late.{Late}
use Rattle.spv_versions.specs.inner.Late.{AreHitIn}
use Rattle.spv_standard.specs.inner.Silent.{IsSilent, are_silent, is_silent, is_silent_ending, silent_front}
use Rattle.spv_standard.specs.inner.Told.{AreTold}

one_silent : (G : Table) (f : Form) (o : Plain) → is_silent f ≡ true → is_of G f o ≡ true → IsSilent o
one_silent G form.Text o h k = cc
one_silent G form.Other o h k = cc
one_silent G (form.Kind name) o h k = cc
one_silent G f (operand.Text t) h k = cc
one_silent G f (operand.Value kind x) h k = cc
one_silent G f (operand.Mask kind x) h k = cc
one_silent G f o h k = tt

each_silent : (G : Table) (fs : List Form) (os : List Plain) → are_silent fs ≡ true → AreOf G fs os
    → AllByRecursion IsSilent os
each_silent G _ _ h AreOf.none = tt
each_silent G _ _ h (AreOf.more f o fs os k r) =
    let p = both_hold (is_silent f) (are_silent fs) h in
    (one_silent G f o p.0 k, each_silent G fs os p.1 r)

silent_joined : (fs gs : List Form) → are_silent fs ≡ true → are_silent gs ≡ true → are_silent (fs ++ gs) ≡ true
silent_joined [] gs h g = g
silent_joined (f ∷ fs) gs h g =
    let p = both_hold (is_silent f) (are_silent fs) h in
    both_true (is_silent f) (are_silent (fs ++ gs)) p.0 (silent_joined fs gs p.1 g)

silent_ends : (e : RowEnding) (fs : List Form) → Ends e fs → is_silent_ending e ≡ true → are_silent fs ≡ true
silent_ends _ _ Ends.nothing h = refl
silent_ends _ _ (Ends.absent f) h = refl
silent_ends _ _ (Ends.present f) h = both_true (is_silent f) true h refl
silent_ends _ _ (Ends.done fs) h = refl
silent_ends _ _ (Ends.again fs gs r) h = silent_joined fs gs h (silent_ends (repeated fs) gs r h)
silent_ends _ _ (Ends.no_first f g) h = refl
silent_ends _ _ (Ends.first f g gs r) h =
    let p = both_hold (is_silent f) (is_silent g) h in
    both_true (is_silent f) (are_silent gs) p.0
    (silent_ends (repeated (g ∷ [])) gs r (both_true (is_silent g) true p.1 refl))
silent_ends _ _ _ h = cc

-- of operands none of which is one the first ones are none
pub silent_taken : (n : ℕ) (os : List Plain) → AllByRecursion IsSilent os → AllByRecursion IsSilent (take n os)
silent_taken zero os h = tt
silent_taken (suc n) [] h = tt
silent_taken (suc n) (o ∷ os) h = (h.0, silent_taken n os h.1)

-- the operands of the first forms, which others follow
front_by : (b : Bool) (o : Plain) (os : List Plain) (n : ℕ) → (b ≡ true → IsSilent o)
    → AllByRecursion IsSilent (take n os) → AllByRecursion IsSilent (take (if b then suc n else 0) (o ∷ os))
front_by true o os n own rest = (own refl, rest)
front_by false o os n own rest = tt

front_silent : (G : Table) (fs gs : List Form) (os : List Plain) → AreOf G (fs ++ gs) os
    → AllByRecursion IsSilent (take (silent_front fs) os)
front_silent G [] gs os a = tt
front_silent G (f ∷ fs) gs _ (AreOf.more _ o _ os k r) =
    front_by (is_silent f) o os (silent_front fs) (λ h. one_silent G f o h k) (front_silent G fs gs os r)

-- how many first ones there are, by the one at a place
pub front_ends : (fs : List Form) (n : ℕ) (d : Form) → n < length fs → is_silent (get_or fs n d) ≡ false
    → silent_front (drop n fs) ≡ 0
front_ends [] n d l e = absurd (omega (arith, l))
front_ends (f ∷ fs) zero d l e = rw e refl
front_ends (f ∷ fs) (suc n) d l e = front_ends fs n d (omega (arith, l)) e

pub front_goes_on : (fs : List Form) (n m : ℕ) (d : Form) → n < length fs → m ≡ n + 1
    → is_silent (get_or fs n d) ≡ true → silent_front (drop n fs) ≡ suc (silent_front (drop m fs))
front_goes_on [] n m d l q e = absurd (omega (arith, l))
front_goes_on (f ∷ fs) zero zero d l q e = absurd (omega (arith, q))
front_goes_on (f ∷ fs) zero (suc m) d l q e = let z : m ≡ 0 = omega (arith, q) in rw (e, z) refl
front_goes_on (f ∷ fs) (suc n) zero d l q e = absurd (omega (arith, q))
front_goes_on (f ∷ fs) (suc n) (suc m) d l q e = front_goes_on fs n m d (omega (arith, l)) (omega (arith, q)) e

-- where all forms are first ones
all_by : (b c : Bool) (n m : ℕ) → (if b then suc n else 0) ≡ suc m → (n ≡ m → c ≡ true) → (b && c) ≡ true
all_by true c n m e rest = rest (omega arith)
all_by false c n m e rest = cc

pub all_silent : (fs : List Form) → silent_front fs ≡ length fs → are_silent fs ≡ true
all_silent [] e = refl
all_silent (f ∷ fs) e =
    all_by (is_silent f) (are_silent fs) (silent_front fs) (length fs) e (all_silent fs)

-- the operands of an instruction that fits such a row, and those of the fixed forms of a row
pub silent_operands : (G : Table) (i : PlainInst) (r : PlainRow) → row_of i.opcode ≡ Some r
    → are_silent r.fixed ≡ true → is_silent_ending r.ending ≡ true → FitsShape G i → AllByRecursion IsSilent i.operands
silent_operands G i r k a b f =
    let x = f.has in
    let e : x.row ≡ r = (let known = x.known in cc) in
    let a' : are_silent x.row.fixed ≡ true = rw e a in
    let b' : is_silent_ending x.row.ending ≡ true = rw e b in
    let s = silent_joined x.row.fixed x.rest a' (silent_ends x.row.ending x.rest x.ending b') in
    let s' : are_silent f.forms ≡ true = rw x.forms s in
    each_silent G f.forms i.operands s' x.each

pub silent_fixed : (G : Table) (i : PlainInst) (r : PlainRow) → row_of i.opcode ≡ Some r → FitsShape G i
    → AllByRecursion IsSilent (take (silent_front r.fixed) i.operands)
silent_fixed G i r k f =
    let x = f.has in
    let e : x.row ≡ r = (let known = x.known in cc) in
    let each : AreOf G (x.row.fixed ++ x.rest) i.operands = rw (sym x.forms) x.each in
    subst (λ (q : PlainRow). AllByRecursion IsSilent (take (silent_front q.fixed) i.operands)) e
    (front_silent G x.row.fixed x.rest i.operands each)

-- none of them breaks a rule by itself
pub never_told : (l : Late) (os : List Plain) → AllByRecursion IsSilent os → ¬ (AreTold l os)
never_told l [] h a = a
never_told l (operand.Text t ∷ os) h a = h.0
never_told l (operand.Value k v ∷ os) h a = h.0
never_told l (operand.Mask k m ∷ os) h a = h.0
never_told l (o ∷ os) h a = elim a [
  | inl own ↦ elim own [ inl long ↦ absurd long | inr hit ↦ absurd hit ]
  | inr more ↦ never_told l os h.1 more
]

-- what a crate finds among operands is found among them
pub hit_told : (l : Late) (os : List Plain) → AreHitIn l os → AreTold l os
hit_told l [] h = h
hit_told l (o ∷ os) h = elim h [ inl own ↦ inl (inr own) | inr more ↦ inr (hit_told l os more) ]

pub long_told : (l : Late) (os : List Plain) → AreLong os → AreTold l os
long_told l [] h = h
long_told l (o ∷ os) h = elim h [ inl own ↦ inl (inl own) | inr more ↦ inr (long_told l os more) ]

-- one of some operands is among the first ones or among the others
told_apart : (l : Late) (n : ℕ) (os : List Plain) → AreTold l os → AreTold l (take n os) ⊎ AreTold l (drop n os)
told_apart l zero os h = inr h
told_apart l (suc n) [] h = absurd h
told_apart l (suc n) (o ∷ os) h = elim h [
  | inl own ↦ inl (inl own)
  | inr more ↦ elim (told_apart l n os more) [ inl first ↦ inl (inr first) | inr other ↦ inr other ]
]

-- none is where the first ones break no rule and none of the others is
pub none_told : (l : Late) (n : ℕ) (os : List Plain) → AllByRecursion IsSilent (take n os)
    → ¬ (AreTold l (drop n os)) → ¬ (AreTold l os)
none_told l n os h none a = elim (told_apart l n os a) [
  | inl first ↦ never_told l (take n os) h first
  | inr other ↦ none other
]
