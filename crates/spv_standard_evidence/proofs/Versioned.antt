-- What a version does not have, and what shows it.
use Rattle.std.proofs.Common.{◌≡◌, ◌≢◌, ◌<◌, ◌≤◌, ◌⊎◌, ◌∙◌, ℕ, suc, List, [], ◌∷◌, Bool, true, false, Option, Some, None}
use Rattle.std.proofs.Common.{◌+◌, Contains, get_or, length, option_map, refl, sym, ap, subst, inl, inr, arith}
use Rattle.std.specs.Prelude.{MatchOption, count_by, slice_get}
use Rattle.std.proofs.lemmas.Bool.{cases_lt}
use Rattle.std.proofs.lemmas.Option.{get_or_from_slice_get, same_Some, slice_get-get_or, slice_get-map, slice_get_within}
use Rattle.spv_table.specs.Table.{Table}
use Rattle.spv_module.specs.declared.opcode.TheConstants as opcode
use Rattle.spv_module.specs.declared.operand.Operand.{Operand as Read}
use Rattle.spv_module.specs.Module.{plain_operand, plain_operands}
use Rattle.spv_module.specs.Operand.{Plain, PlainInst, Mask, Value}
use Rattle.spv_module.specs.declared.fault.Rule.{Rule}
use Rattle.spv_module.specs.declared.fault.Rule.TheVariants.{O21}
use Rattle.spv_versions.specs.Broken.{Broken}
use Rattle.spv_versions.specs.declared.table.Kind.{Kind}
use Rattle.spv_versions.specs.declared.table.Kind.TheVariants as kind
use Rattle.spv_versions.specs.Missing.{IsLate, IsLateAt, is_mask}
use Rattle.spv_versions.specs.Missing as late
use Rattle.spv_versions.specs.Named.{HasNumber}
use Rattle.spv_versions.specs.Named as named
use Rattle.spv_versions.specs.Table.{Line, lines}
use Rattle.spv_versions.specs.inner.Hits.{IsAnyHitBy}
use Rattle.spv_versions.specs.inner.Lines.{IsListed, IsListedAt}
use Rattle.spv_versions.specs.inner.Told.{AreHit, AreNumbers, AreTold, IsInstHit, IsOperandHit}
use Rattle.spv_versions.proofs.Lateness.{known, late_inst, number_hit}
use Rattle.spv_evidence.specs.declared.evidence.Evidence.{Evidence}
use Rattle.spv_evidence.specs.declared.evidence.Evidence.TheVariants.{Late, Opcode, Operand}
use Rattle.spv_evidence.specs.declared.evidence.Lister.{Lister}
use Rattle.spv_evidence.specs.declared.evidence.Lister.TheVariants as lister
use Rattle.spv_standard_evidence.specs.Versions.{HasNumberBy, IsEvidence, IsMissingBy, Shows}
use Rattle.spv_standard_evidence.specs.inner.Versions.{IsForm, IsGone, IsLackOf, IsMaskAt, IsOdd, mask_at}

-- a line that is told to be missing
missing_by : (minor : ℕ) (is : List PlainInst) (flags : List Bool) (b : Bool) (k : Kind) (v l : ℕ)
    → AreTold minor is flags b → IsListedAt lines flags k v l → IsMissingBy minor is k v l
missing_by minor is flags b k v l told h =
    let m = (told.each l h.0 h.1).0 h.2 in
    record { line = h.0; there = h.1; of = h.3; before = m.0; undeclared = m.1 }

-- what an instruction has that is missing
pub lack_shown : (G : Table) (minor : ℕ) (is : List PlainInst) (flags : List Bool) (b : Bool) (ns : List (Option ℕ))
    (i : PlainInst) (l : Lister) (n : ℕ) → AreTold minor is flags b → AreNumbers G ns → IsLackOf flags ns i l n
    → Shows G minor is i (Late l n)
lack_shown G minor is flags b ns i lister.Entry n told numbers h =
    Shows.number lister.Entry _ i.opcode n HasNumberBy.of_opcode (missing_by minor is flags b _ i.opcode n told h)
lack_shown G minor is flags b ns i (lister.Value q) n told numbers h =
    let j = h.0 in
    let v = h.1 in
    let hit = h.3.1 in
    let k = hit.0 in
    let name = known G k j (sym (numbers h.3.0 k hit.1) ∙ hit.2) in
    Shows.number (lister.Value q) k v n (HasNumberBy.of_value k q j v name.name h.2 name.of name.number)
    (missing_by minor is flags b k v n told hit.3.1)
lack_shown G minor is flags b ns i (lister.Bit q v) n told numbers h =
    let j = h.0 in
    let m = h.1 in
    let hit = h.3.1 in
    let k = hit.0 in
    let name = known G k j (sym (numbers h.3.0 k hit.1) ∙ hit.2) in
    Shows.number (lister.Bit q v) k v n (HasNumberBy.of_bit k q j m v name.name h.2 name.of name.number hit.3.0)
    (missing_by minor is flags b k v n told hit.3.1)
lack_shown G minor is flags b ns i lister.Width n told numbers h = absurd h
lack_shown G minor is flags b ns i lister.Type n told numbers h = absurd h
lack_shown G minor is flags b ns i lister.Access n told numbers h = absurd h

-- where it has nothing that is missing, it has a form that came later
pub form_by : (G : Table) (minor : ℕ) (is : List PlainInst) (flags : List Bool) (b : Bool) (ns : List (Option ℕ))
    (i : PlainInst) → AreTold minor is flags b → AreNumbers G ns → ¬ (IsInstHit flags ns i) → IsLate G minor is i
    → IsOdd minor is i
form_by G minor is flags b ns i told numbers none (late.number k n has m) =
    absurd (none (number_hit G minor is flags b ns i k n told numbers has m))
form_by G minor is flags b ns i told numbers none (late.two_masks l o m) = inr (IsForm.two_masks l o m)
form_by G minor is flags b ns i told numbers none (late.whole t x c os l o e h) = inr (IsForm.whole t x c os l o e h)
form_by G minor is flags b ns i told numbers none (late.no_either l o) = inl (IsGone.no_either l o)
form_by G minor is flags b ns i told numbers none (late.no_weak l o) = inl (IsGone.no_weak l o)
form_by G minor is flags b ns i told numbers none (late.no_meaning x name os l o e h d) =
    inr (IsForm.no_meaning x name os l o e h d)

-- what went, by its opcode
abbrev pub IsGoneCode : ℕ → Type 0
IsGoneCode c = (c ≡ opcode.LESS_OR_GREATER) ⊎ (c ≡ opcode.ATOMIC_COMPARE_EXCHANGE_WEAK)

gone_code : (minor : ℕ) (i : PlainInst) → IsGone minor i → IsGoneCode i.opcode
gone_code minor i (IsGone.no_either l o) = inl o
gone_code minor i (IsGone.no_weak l o) = inr o

not_gone : (c d : ℕ) → c ≡ d → IsGoneCode c → d ≢ opcode.LESS_OR_GREATER → d ≢ opcode.ATOMIC_COMPARE_EXCHANGE_WEAK → ⊥
not_gone c d e g a b = elim g [ inl x ↦ a (sym e ∙ x) | inr y ↦ b (sym e ∙ y) ]

form_stays : (minor : ℕ) (is : List PlainInst) (i : PlainInst) → IsForm minor is i → ¬ (IsGoneCode i.opcode)
form_stays minor is i (IsForm.two_masks l o m) g = elim o [
  | inl e ↦ not_gone i.opcode opcode.COPY_MEMORY e g (λ x. omega (arith, x)) (λ x. omega (arith, x))
  | inr e ↦ not_gone i.opcode opcode.COPY_MEMORY_SIZED e g (λ x. omega (arith, x)) (λ x. omega (arith, x))
]
form_stays minor is i (IsForm.whole t x c os l o e h) g =
    not_gone i.opcode opcode.SELECT o g (λ x. omega (arith, x)) (λ x. omega (arith, x))
form_stays minor is i (IsForm.no_meaning x name os l o e h d) g =
    not_gone i.opcode opcode.EXT_INST_IMPORT o g (λ x. omega (arith, x)) (λ x. omega (arith, x))

pub odd_form : (minor : ℕ) (is : List PlainInst) (i : PlainInst) → ¬ (IsGoneCode i.opcode) → IsOdd minor is i
    → IsForm minor is i
odd_form minor is i not h = elim h [ inl g ↦ absurd (not (gone_code minor i g)) | inr f ↦ f ]

gone_shown : (minor : ℕ) (is : List PlainInst) (i : PlainInst) → IsGone minor i → (G : Table)
    → Shows G minor is i (Opcode i.opcode)
gone_shown minor is i (IsGone.no_either l o) G = Shows.no_either l o
gone_shown minor is i (IsGone.no_weak l o) G = Shows.no_weak l o

pub odd_shown : (minor : ℕ) (is : List PlainInst) (i : PlainInst) → IsGoneCode i.opcode → IsOdd minor is i
    → (G : Table) → Shows G minor is i (Opcode i.opcode)
odd_shown minor is i gone h G =
    elim h [ inl g ↦ gone_shown minor is i g G | inr f ↦ absurd (form_stays minor is i f gone) ]

-- forms, by the opcode
abbrev pub IsCopy : ℕ → Type 0
IsCopy c = (c ≡ opcode.COPY_MEMORY) ⊎ (c ≡ opcode.COPY_MEMORY_SIZED)

not_select : (c : ℕ) → IsCopy c → c ≢ opcode.SELECT
not_select c (inl a) e = let no : opcode.COPY_MEMORY ≡ opcode.SELECT = sym a ∙ e in absurd (omega (arith, no))
not_select c (inr a) e = let no : opcode.COPY_MEMORY_SIZED ≡ opcode.SELECT = sym a ∙ e in absurd (omega (arith, no))

not_import : (c : ℕ) → IsCopy c → c ≢ opcode.EXT_INST_IMPORT
not_import c (inl a) e =
    let no : opcode.COPY_MEMORY ≡ opcode.EXT_INST_IMPORT = sym a ∙ e in absurd (omega (arith, no))
not_import c (inr a) e =
    let no : opcode.COPY_MEMORY_SIZED ≡ opcode.EXT_INST_IMPORT = sym a ∙ e in absurd (omega (arith, no))

pub copy_masks : (minor : ℕ) (is : List PlainInst) (i : PlainInst) → IsCopy i.opcode → IsForm minor is i
    → 2 ≤ count_by is_mask i.operands
copy_masks minor is i c (IsForm.two_masks l o m) = m
copy_masks minor is i c (IsForm.whole t x k os l o e h) = absurd (not_select i.opcode c o)
copy_masks minor is i c (IsForm.no_meaning x name os l o e h d) = absurd (not_import i.opcode c o)

pub copy_shown : (minor : ℕ) (is : List PlainInst) (i : PlainInst) (k : ℕ) → IsCopy i.opcode → IsForm minor is i
    → IsMaskAt i.operands k → (G : Table) → Shows G minor is i (Operand k)
copy_shown minor is i k c (IsForm.two_masks l o m) at G = Shows.two_masks k at.0 l o m at.1 at.2
copy_shown minor is i k c (IsForm.whole t x p os l o e h) at G = absurd (not_select i.opcode c o)
copy_shown minor is i k c (IsForm.no_meaning x name os l o e h d) at G = absurd (not_import i.opcode c o)

pub select_shown : (minor : ℕ) (is : List PlainInst) (i : PlainInst) → i.opcode ≡ opcode.SELECT → IsForm minor is i
    → (G : Table) → Shows G minor is i (Operand 0)
select_shown minor is i c (IsForm.two_masks l o m) G = absurd (not_select i.opcode o c)
select_shown minor is i c (IsForm.whole t x k os l o e h) G = Shows.whole t x k os l o e h
select_shown minor is i c (IsForm.no_meaning x name os l o e h d) G =
    absurd (let no : opcode.SELECT ≡ opcode.EXT_INST_IMPORT = sym c ∙ o in omega (arith, no))

pub import_shown : (minor : ℕ) (is : List PlainInst) (i : PlainInst) → i.opcode ≢ opcode.COPY_MEMORY
    → i.opcode ≢ opcode.COPY_MEMORY_SIZED → i.opcode ≢ opcode.SELECT → IsForm minor is i → (G : Table)
    → Shows G minor is i (Operand 1)
import_shown minor is i a b c (IsForm.two_masks l o m) G = absurd (elim o [ inl e ↦ a e | inr e ↦ b e ])
import_shown minor is i a b c (IsForm.whole t x k os l o e h) G = absurd (c o)
import_shown minor is i a b c (IsForm.no_meaning x name os l o e h d) G = Shows.no_meaning x name os l o e h d

-- where no operand is a mask, none is counted
none_counted : (o : Plain) (os : List Plain) (m : Bool) → is_mask o ≡ m → m ≡ false
    → count_by is_mask os ≡ 0 → count_by is_mask (o ∷ os) ≡ 0
none_counted o os m e f none = rw (e ∙ f) none

masks_front : (o : Plain) (os : List Plain) (m : Bool) → is_mask o ≡ m → ¬ (IsMaskAt (o ∷ os) 0)
    → count_by is_mask os ≡ 0 → count_by is_mask (o ∷ os) ≡ 0
masks_front o os true e not none = absurd (not (o, refl, e))
masks_front o os false e not none = none_counted o os false e refl none

pub no_masks : (os : List Plain) → ((k : ℕ) → ¬ (IsMaskAt os k)) → count_by is_mask os ≡ 0
no_masks [] none = refl
no_masks (o ∷ os) none = masks_front o os (is_mask o) refl (none 0) (no_masks os (λ k at. none (suc k) at))

pub mask_there : (os : List Plain) (n : ℕ) → length os ≤ n → 2 ≤ count_by is_mask os
    → ((k : ℕ) → k < n → ¬ (IsMaskAt os k)) → ⊥
mask_there os n all two none =
    let zero_of = no_masks os (λ k at.
    let w = slice_get_within os k at.0 at.1 in none k (omega (arith, w, all)) at) in
    absurd (omega (arith, two, zero_of))

-- operands that have nothing that is missing
hit_place : (flags : List Bool) (ns : List (Option ℕ)) (os : List Plain) → AreHit flags ns os
    → (q : ℕ) × (o : Plain) × (slice_get os q ≡ Some o) × IsOperandHit flags ns o
hit_place flags ns [] h = absurd h
hit_place flags ns (o ∷ os) h = elim h [
  | inl a ↦ (0, o, refl, a)
  | inr b ↦ let r = hit_place flags ns os b in (suc r.0, r.1, r.2, r.3)
]

pub none_hit : (flags : List Bool) (ns : List (Option ℕ)) (os : List Plain) (n : ℕ) → length os ≤ n
    → ((k : ℕ) (o : Plain) → k < n → slice_get os k ≡ Some o → ¬ (IsOperandHit flags ns o)) → ¬ (AreHit flags ns os)
none_hit flags ns os n all none h =
    let r = hit_place flags ns os h in
    let w = slice_get_within os r.0 r.1 r.2 in
    none r.0 r.1 (omega (arith, w, all)) r.2 r.3

pub inst_hit : (flags : List Bool) (ns : List (Option ℕ)) (i : PlainInst) → ¬ (IsListed lines flags kind.Opcode i.opcode)
    → ¬ (AreHit flags ns i.operands) → ¬ (IsInstHit flags ns i)
inst_hit flags ns i a b h = elim h [ inl x ↦ a x | inr y ↦ b y ]

-- the instruction at which it is broken
pub late_by : (G : Table) (minor : ℕ) (is : List PlainInst) (n : ℕ) (i : PlainInst) → slice_get is n ≡ Some i
    → Broken G minor is O21 n → IsLate G minor is i
late_by G minor is _ i there (Broken.late n h) = late_inst G minor is n i there h

pub late_within : (G : Table) (minor : ℕ) (is : List PlainInst) (n : ℕ) → Broken G minor is O21 n → n < length is
late_within G minor is _ (Broken.late n h) = slice_get_within is n h.0 h.1

-- evidence suffices
contains_at : (l : ℕ) (line : Line) → slice_get lines l ≡ Some line → Contains lines line
contains_at l line e = (l, slice_get_within lines l line e, get_or_from_slice_get lines l line line e)

missing_of : (minor : ℕ) (is : List PlainInst) (k : Kind) (v l : ℕ) → IsMissingBy minor is k v l
    → late.IsMissing minor is k v
missing_of minor is k v l m = record {
  line = m.line;
  listed = contains_at l m.line m.there;
  of = m.of;
  before = m.before;
  undeclared = m.undeclared;
}

number_of : (G : Table) (i : PlainInst) (l : Lister) (k : Kind) (v : ℕ) → HasNumberBy G i l k v → HasNumber G i k v
number_of G i _ _ _ HasNumberBy.of_opcode = named.of_opcode
number_of G i _ _ _ (HasNumberBy.of_value k place j v name e n m) = named.of_value k place j v name e n m
number_of G i _ _ _ (HasNumberBy.of_bit k place j m v name e n o s) = named.of_bit k place j m v name e n o s

shows_late : (G : Table) (minor : ℕ) (is : List PlainInst) (i : PlainInst) (e : Evidence) → Shows G minor is i e
    → IsLate G minor is i
shows_late G minor is i _ (Shows.number b k v l has m) =
    late.number k v (number_of G i b k v has) (missing_of minor is k v l m)
shows_late G minor is i _ (Shows.two_masks place o l c m e t) = late.two_masks l c m
shows_late G minor is i _ (Shows.whole t x c os l o e h) = late.whole t x c os l o e h
shows_late G minor is i _ (Shows.no_either l o) = late.no_either l o
shows_late G minor is i _ (Shows.no_weak l o) = late.no_weak l o
shows_late G minor is i _ (Shows.no_meaning x name os l o e h d) = late.no_meaning x name os l o e h d

pub versions_suffice : (G : Table) (minor : ℕ) (is : List PlainInst) (r : Rule) (n : ℕ) (e : Evidence)
    → IsEvidence G minor is r n e → Broken G minor is r n
versions_suffice G minor is _ _ _ (IsEvidence.late n i e t s) =
    Broken.late n (i, t, shows_late G minor is i e s)

pub none_more : (flags : List Bool) (ns : List (Option ℕ)) (os : List Plain) (k : ℕ) (o : Plain)
    → slice_get os k ≡ Some o → ¬ (IsOperandHit flags ns o)
    → ((j : ℕ) (p : Plain) → j < k → slice_get os j ≡ Some p → ¬ (IsOperandHit flags ns p))
    → (j : ℕ) (p : Plain) → j < k + 1 → slice_get os j ≡ Some p → ¬ (IsOperandHit flags ns p)
none_more flags ns os k o there not before j p lt e = elim (cases_lt j k) [
  | inl less ↦ before j p less e
  | inr more ↦
      let same : j ≡ k = omega (arith, lt, more) in
      let at : slice_get os k ≡ Some p = subst (λ (n : ℕ). slice_get os n ≡ Some p) same e in
      subst (λ (q : Plain). ¬ (IsOperandHit flags ns q)) (same_Some o p (sym there ∙ at)) not
]

-- an operand as it is read
pub operand_there : (os : List Read) (k : ℕ) (d : Read) → k < length os
    → slice_get (plain_operands os) k ≡ Some (plain_operand (get_or os k d))
operand_there os k d lt = slice_get-map plain_operand os k ∙ ap (option_map plain_operand) (slice_get-get_or os k d lt)

-- a value or a bit that is missing, of an operand
pub lack_value : (flags : List Bool) (ns : List (Option ℕ)) (i : PlainInst) (k j v w l : ℕ)
    → slice_get i.operands k ≡ Some (Value j v) → IsAnyHitBy flags ns j false v w l
    → IsLackOf flags ns i (lister.Value k) l
lack_value flags ns i k j v w l e (p, (q, at, n, (same, li))) =
    (j, v, e, (p, (q, at, n, (refl, subst (λ (x : ℕ). IsListedAt lines flags q x l) same li))))

pub lack_bit : (flags : List Bool) (ns : List (Option ℕ)) (i : PlainInst) (k j m b l : ℕ)
    → slice_get i.operands k ≡ Some (Mask j m) → IsAnyHitBy flags ns j true m b l
    → IsLackOf flags ns i (lister.Bit k b) l
lack_bit flags ns i k j m b l e h = (j, m, e, h)

-- what an instruction has beside its opcode
pub lack_or : (flags : List Bool) (ns : List (Option ℕ)) (i : PlainInst) (o : Option (Lister × ℕ))
    → ¬ (IsListed lines flags kind.Opcode i.opcode)
    → MatchOption o (¬ (AreHit flags ns i.operands)) (λ p. IsLackOf flags ns i p.0 p.1)
    → MatchOption o (¬ (IsInstHit flags ns i)) (λ p. IsLackOf flags ns i p.0 p.1)
lack_or flags ns i None not h = inst_hit flags ns i not h
lack_or flags ns i (Some p) not h = h

pub lack_in : (os ps : List Plain) (k : ℕ) (o : Plain) → os ≡ ps → slice_get os k ≡ Some o → slice_get ps k ≡ Some o
lack_in os ps k o same e = subst (λ (xs : List Plain). slice_get xs k ≡ Some o) same e

-- whether the operand of a number is a mask
pub mask_tells : (os : List Plain) (k : ℕ) → IsMaskAt os k → mask_at os k ≡ true
mask_tells os k (o, there, e) = rw there e

mask_by : (os : List Plain) (k : ℕ) (o : Option Plain) → slice_get os k ≡ o → mask_at os k ≡ true → IsMaskAt os k
mask_by os k None there t = absurd (let no : false ≡ true = rw there at t in cc)
mask_by os k (Some o) there t = let e : is_mask o ≡ true = rw there at t in (o, there, e)

pub mask_from : (os : List Plain) (k : ℕ) → mask_at os k ≡ true → IsMaskAt os k
mask_from os k t = mask_by os k (slice_get os k) refl t
