-- What is told of an instruction, and what the version does not have.
use Rattle.std.proofs.Common.{◌≡◌, ◌≤◌, ◌+◌, ◌∙◌, ◌++◌, ◌⊎◌, ℕ, zero, suc, List, [], ◌∷◌, Bool}
use Rattle.std.proofs.Common.{Option, Some, None, option_and_then, length, take, refl, sym, ap, subst, inl, inr, arith}
use Rattle.std.specs.Prelude.{slice_get, slice_index_or}
use Rattle.std.proofs.lemmas.List.{take_more}
use Rattle.std.proofs.lemmas.Option.{get_or_from_slice_get, none-some, same_Some, slice_get-get_or}
use Rattle.std.proofs.lemmas.Option.{slice_get_within}
use Rattle.spv_table.specs.Table.{Table}
use Rattle.spv_table.specs.Lookups.{number_named}
use Rattle.spv_module.specs.Operand.{Plain, OfType, Result, Id, Text, Value, Mask, PlainInst}
use Rattle.spv_versions.specs.declared.table.Kind.{Kind}
use Rattle.spv_versions.specs.Missing.{IsLate, IsLateAt, IsMissing, SelectsWhole, number, two_masks, whole}
use Rattle.spv_versions.specs.Missing.{no_either, no_weak, no_meaning}
use Rattle.spv_versions.specs.Named.{HasNumber, of_opcode, of_value, of_bit}
use Rattle.spv_versions.specs.Table.{lines, name_of}
use Rattle.spv_versions.specs.inner.Lines.{IsListed}
use Rattle.spv_versions.specs.inner.Shapes.{AreOfNoMeaning, AreWhole, HasLateForm}
use Rattle.spv_versions.specs.inner.Shapes as form
use Rattle.spv_versions.specs.inner.Told.{AreHit, AreKnown, AreNumbers, AreTold, IsInstHit, IsOperandHit}
use Rattle.spv_versions.specs.inner.Told.{kinds, number_of}
use Rattle.spv_versions.proofs.Numbering.{kind_place}

listed_missing : (minor : ℕ) (is : List PlainInst) (flags : List Bool) (b : Bool) (k : Kind) (n : ℕ)
    → AreTold minor is flags b → IsListed lines flags k n → IsMissing minor is k n
listed_missing minor is flags b k n told h =
    let l = h.1.0 in
    let m = (told.each h.0 l h.1.1).0 h.1.2 in
    record {
      line = l;
      listed = (h.0, slice_get_within lines h.0 l h.1.1, get_or_from_slice_get lines h.0 l l h.1.1);
      of = h.1.3;
      before = m.0;
      undeclared = m.1;
    }

missing_listed : (minor : ℕ) (is : List PlainInst) (flags : List Bool) (b : Bool) (k : Kind) (n : ℕ)
    → AreTold minor is flags b → IsMissing minor is k n → IsListed lines flags k n
missing_listed minor is flags b k n told m =
    let at : slice_get lines m.listed.0 ≡ Some m.line =
    slice_get-get_or lines m.listed.0 m.line m.listed.1 ∙ ap Some m.listed.2 in
    (m.listed.0, (m.line, at, (told.each m.listed.0 m.line at).1 (m.before, m.undeclared), m.of))

-- the operand that is one
hit_place : (flags : List Bool) (ns : List (Option ℕ)) (os : List Plain) → AreHit flags ns os
    → (q : ℕ) × (o : Plain) × (slice_get os q ≡ Some o) × IsOperandHit flags ns o
hit_place flags ns [] h = absurd h
hit_place flags ns (o ∷ os) h = elim h [
  | inl a ↦ (0, o, refl, a)
  | inr b ↦ let r = hit_place flags ns os b in (suc r.0, r.1, r.2, r.3)
]

place_hit : (flags : List Bool) (ns : List (Option ℕ)) (os : List Plain) (q : ℕ) (o : Plain) → slice_get os q ≡ Some o
    → IsOperandHit flags ns o → AreHit flags ns os
place_hit flags ns [] q o e h = absurd (none-some o e)
place_hit flags ns (p ∷ os) zero o e h = inl (subst (IsOperandHit flags ns) (sym (same_Some p o e)) h)
place_hit flags ns (p ∷ os) (suc q) o e h = inr (place_hit flags ns os q o e h)

-- a kind of a number has a name
pub record Known (G : Table) (k : Kind) (j : ℕ) : Type 0 where
  pub name : List ℕ
  pub of : name_of k ≡ Some name
  pub number : number_named G name ≡ Some j

pub known : (G : Table) (k : Kind) (j : ℕ) → number_of G k ≡ Some j → Known G k j
known G k j e = by (name_of k) refl e
  where
    by : (o : Option (List ℕ)) → name_of k ≡ o → option_and_then (number_named G) o ≡ Some j → Known G k j
    by None f h = absurd (none-some j h)
    by (Some name) f h = record { name = name; of = f; number = h }

known_number : (G : Table) (flags : List Bool) (ns : List (Option ℕ)) (p : ℕ) (k : Kind) (j : ℕ) → AreKnown G flags ns
    → slice_get kinds p ≡ Some k → slice_index_or ns p None ≡ Some j → number_of G k ≡ Some j
known_number G flags ns p k j numbers at n = elim (numbers p k at) [
  | inl e ↦ sym e ∙ n
  | inr e ↦ absurd (none-some j (sym e.0 ∙ n))
]

operand_late : (G : Table) (minor : ℕ) (is : List PlainInst) (flags : List Bool) (b : Bool) (ns : List (Option ℕ))
    (i : PlainInst) (q : ℕ) (o : Plain) → AreTold minor is flags b → AreKnown G flags ns → slice_get i.operands q ≡ Some o
    → IsOperandHit flags ns o → IsLate G minor is i
operand_late G minor is flags b ns i q (Value j v) told numbers e h =
    let k = h.1.0 in
    let n = known G k j (known_number G flags ns h.0 k j numbers h.1.1 h.1.2) in
    number k v (of_value k q j v n.name e n.of n.number) (listed_missing minor is flags b k v told h.1.3)
operand_late G minor is flags b ns i q (Mask j m) told numbers e h =
    let k = h.1.0 in
    let n = known G k j (known_number G flags ns h.0 k j numbers h.1.1 h.1.2) in
    let v = h.1.3.0 in
    number k v (of_bit k q j m v n.name e n.of n.number h.1.3.1) (listed_missing minor is flags b k v told h.1.3.2)
operand_late G minor is flags b ns i q _ told numbers e h = absurd h

-- the number that a kind of a name has, if something of the kind is missing
num : (G : Table) (flags : List Bool) (ns : List (Option ℕ)) (k : Kind) (j v : ℕ) (name : List ℕ) → AreKnown G flags ns
    → name_of k ≡ Some name → number_named G name ≡ Some j → IsListed lines flags k v
    → (p : ℕ) × (slice_get kinds p ≡ Some k) × (slice_index_or ns p None ≡ Some j)
num G flags ns k j v name numbers e n listed = let p = kind_place k name e in elim (numbers p.0 k p.1) [
  | inl same ↦ (p.0, p.1, same ∙ ap (option_and_then (number_named G)) e ∙ n)
  | inr none ↦ absurd (none.1 v listed)
]

-- the operands of forms
whole_parts : (is : List PlainInst) (os : List Plain) → AreWhole is os
    → (t : ℕ) × (x : ℕ) × (c : ℕ) × (ps : List Plain) × (os ≡ OfType t ∷ Result x ∷ Id c ∷ ps) × SelectsWhole is t c
whole_parts is (OfType t ∷ Result x ∷ Id c ∷ ps) h = (t, x, c, ps, refl, h)
whole_parts is _ h = absurd h

record NamesSet (os : List Plain) : Type 0 where
  pub x : ℕ
  pub name : List ℕ
  pub rest : List Plain
  pub all : os ≡ Result x ∷ Text name ∷ rest
  pub begins : AreOfNoMeaning (Result x ∷ Text name ∷ [])

name_parts : (os : List Plain) → AreOfNoMeaning os → NamesSet os
name_parts (Result x ∷ Text name ∷ ps) h = record { x = x; name = name; rest = ps; all = refl; begins = h }
name_parts _ h = absurd h

form_late : (G : Table) (minor : ℕ) (is : List PlainInst) (flags : List Bool) (b : Bool) (i : PlainInst)
    → AreTold minor is flags b → HasLateForm is minor b i → IsLate G minor is i
form_late G minor is flags b i told (form.two_masks l o m) = two_masks l o m
form_late G minor is flags b i told (form.whole l o h) =
    let p = whole_parts is i.operands h in
    whole p.0 p.1 p.2 p.3 l o p.4 p.5
form_late G minor is flags b i told (form.no_either l o) = no_either l o
form_late G minor is flags b i told (form.no_weak l o) = no_weak l o
form_late G minor is flags b i told (form.no_meaning t o h) =
    let p = name_parts i.operands h in
    let m = told.meaning.0 t in
    no_meaning p.x p.name p.rest m.0 o p.all p.begins m.1

pub hit_late : (G : Table) (minor : ℕ) (is : List PlainInst) (flags : List Bool) (b : Bool) (ns : List (Option ℕ))
    (i : PlainInst) → AreTold minor is flags b → AreKnown G flags ns → IsInstHit flags ns i ⊎ HasLateForm is minor b i
    → IsLate G minor is i
hit_late G minor is flags b ns i told numbers h = elim h [
  | inl a ↦ elim a [
    | inl o ↦ number _ i.opcode of_opcode (listed_missing minor is flags b _ i.opcode told o)
    | inr os ↦
        let r = hit_place flags ns i.operands os in
        operand_late G minor is flags b ns i r.0 r.1 told numbers r.2 r.3
  ]
  | inr f ↦ form_late G minor is flags b i told f
]

known_hit : (G : Table) (minor : ℕ) (is : List PlainInst) (flags : List Bool) (b : Bool) (ns : List (Option ℕ))
    (i : PlainInst) (k : Kind) (n : ℕ) → AreTold minor is flags b → AreKnown G flags ns → HasNumber G i k n
    → IsMissing minor is k n → IsInstHit flags ns i
known_hit G minor is flags b ns i _ _ told numbers of_opcode m =
    inl (missing_listed minor is flags b _ i.opcode told m)
known_hit G minor is flags b ns i _ _ told numbers (of_value k q j v name e nk nj) m =
    let listed = missing_listed minor is flags b k v told m in
    let p = num G flags ns k j v name numbers nk nj listed in
    inr (place_hit flags ns i.operands q (Value j v) e (p.0, (k, p.1, p.2, listed)))
known_hit G minor is flags b ns i _ _ told numbers (of_bit k q j mask v name e nk nj set) m =
    let listed = missing_listed minor is flags b k v told m in
    let p = num G flags ns k j v name numbers nk nj listed in
    inr (place_hit flags ns i.operands q (Mask j mask) e (p.0, (k, p.1, p.2, (v, set, listed))))

pub number_hit : (G : Table) (minor : ℕ) (is : List PlainInst) (flags : List Bool) (b : Bool) (ns : List (Option ℕ))
    (i : PlainInst) (k : Kind) (n : ℕ) → AreTold minor is flags b → AreNumbers G ns → HasNumber G i k n
    → IsMissing minor is k n → IsInstHit flags ns i
number_hit G minor is flags b ns i k n told numbers has m =
    known_hit G minor is flags b ns i k n told (λ p q at. inl (numbers p q at)) has m

pub late_hit : (G : Table) (minor : ℕ) (is : List PlainInst) (flags : List Bool) (b : Bool) (ns : List (Option ℕ))
    (i : PlainInst) → AreTold minor is flags b → AreKnown G flags ns → IsLate G minor is i
    → IsInstHit flags ns i ⊎ HasLateForm is minor b i
late_hit G minor is flags b ns i told numbers (number k n has m) =
    inl (known_hit G minor is flags b ns i k n told numbers has m)
late_hit G minor is flags b ns i told numbers (two_masks l o m) = inr (form.two_masks l o m)
late_hit G minor is flags b ns i told numbers (whole t x c os l o e h) =
    inr (form.whole l o (subst (AreWhole is) (sym e) h))
late_hit G minor is flags b ns i told numbers (no_either l o) = inr (form.no_either l o)
late_hit G minor is flags b ns i told numbers (no_weak l o) = inr (form.no_weak l o)
late_hit G minor is flags b ns i told numbers (no_meaning x name os l o e h d) =
    inr (form.no_meaning (told.meaning.1 (l, d)) o (subst AreOfNoMeaning (sym e) h))

-- the instruction of a number
pub late_at : (G : Table) (minor : ℕ) (is : List PlainInst) (n : ℕ) (i : PlainInst) → slice_get is n ≡ Some i
    → IsLate G minor is i → IsLateAt G minor is n
late_at G minor is n i e h = (i, e, h)

pub late_inst : (G : Table) (minor : ℕ) (is : List PlainInst) (n : ℕ) (i : PlainInst) → slice_get is n ≡ Some i
    → IsLateAt G minor is n → IsLate G minor is i
late_inst G minor is n i e h =
    subst (λ (j : PlainInst). IsLate G minor is j) (same_Some h.0 i (sym h.1 ∙ e)) h.2

-- of equal instructions the same is told
pub told_same : (minor : ℕ) (is js : List PlainInst) (flags : List Bool) (b : Bool) → is ≡ js
    → AreTold minor is flags b → AreTold minor js flags b
told_same minor is js flags b e told = subst (λ (ks : List PlainInst). AreTold minor ks flags b) e told

-- the instructions up to one
pub none_taken : (is : List PlainInst) → take 0 is ≡ []
none_taken [] = refl
none_taken (i ∷ is) = refl

pub one_taken : (is : List PlainInst) (n : ℕ) (i : PlainInst) → slice_get is n ≡ Some i
    → take (n + 1) is ≡ take n is ++ (i ∷ [])
one_taken is n i e = take_more is n i (slice_get_within is n i e)
    ∙ ap (λ (j : PlainInst). take n is ++ (j ∷ [])) (get_or_from_slice_get is n i i e)

pub all_taken : (is : List PlainInst) (n : ℕ) → length is ≤ n → take n is ≡ is
all_taken [] zero l = refl
all_taken [] (suc n) l = refl
all_taken (i ∷ is) zero l = absurd (let m : suc (length is) ≤ 0 = l in omega (arith, m))
all_taken (i ∷ is) (suc n) l =
    ap (λ (js : List PlainInst). i ∷ js) (all_taken is n (let m : suc (length is) ≤ suc n = l in omega (arith, m)))
