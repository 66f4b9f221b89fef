-- Evidence of a rule at a word is one alone.
use Rattle.std.proofs.Common.{◌≡◌, ◌++◌, ◌+◌, ◌*◌, ◌<◌, ◌∙◌, ℕ, List, [], ◌∷◌, Option, Some, None, Bool, true}
use Rattle.std.proofs.Common.{false, length, refl, sym, ap, arith, append_assoc}
use Rattle.spv_table.specs.declared.table.Entry.{Entry}
use Rattle.spv_table.specs.Table.{Table, entry_of, pattern_of}
use Rattle.spv_module.specs.Operand.{PlainInst, start}
use Rattle.spv_module.specs.Shape.{Shape}
use Rattle.spv_module.specs.Instruction.{Listing, first_word}
use Rattle.spv_module.specs.Refusal.{ShapeRefuses}
use Rattle.spv_module.specs.declared.fault.Rule.{Rule}
use Rattle.spv_module.specs.declared.fault.Rule.TheVariants.{I1, I2, I3, I5}
use Rattle.spv_inst.specs.Flat.{due}
use Rattle.spv_inst.proofs.Lists.{instruction_same}
use Rattle.spv_evidence.specs.declared.evidence.Evidence.{Evidence}
use Rattle.spv_evidence.specs.declared.evidence.Evidence.TheVariants as evidence
use Rattle.spv_form_evidence.specs.words.Evidence.{Shows, IsEvidence}
use Rattle.spv_form_evidence.proofs.lemmas.words.Halting.{Halts, halts_same, reached_halts}

-- a shape does not refuse words by the rules that are told of an instruction's first word, or of words left over
abbrev is_refusal : Rule → Bool
is_refusal I1 = false
is_refusal I2 = false
is_refusal I3 = false
is_refusal I5 = false
is_refusal _ = true

refusal : (sh : Shape) (us : List ℕ) (r : Rule) (n : ℕ) → ShapeRefuses sh us r n → is_refusal r ≡ true
refusal _ _ _ _ (ShapeRefuses.missing sh h) = refl
refusal _ _ _ _ _ = refl

no_refusal : (sh : Shape) (us : List ℕ) (r q : Rule) (n : ℕ) → ShapeRefuses sh us r n → r ≡ q → is_refusal q ≡ false → ⊥
no_refusal sh us r q n h e f = let t = refusal sh us r n h in let t' : is_refusal q ≡ true = rw e at t in cc

record SameParts (us xs vs ys : List ℕ) : Type 0 where
  pub first : us ≡ xs
  pub second : vs ≡ ys

parts_same : (us vs xs ys : List ℕ) → length us ≡ length xs → us ++ vs ≡ xs ++ ys → SameParts us xs vs ys
parts_same [] vs [] ys l e = record { first = refl; second = e }
parts_same [] vs (x ∷ xs) ys l e = absurd (omega (arith, l))
parts_same (u ∷ us) vs [] ys l e = absurd (omega (arith, l))
parts_same (u ∷ us) vs (x ∷ xs) ys l e =
    let f : us ++ vs ≡ xs ++ ys = cc in
    let h : u ≡ x = cc in
    let m : length us ≡ length xs = omega (arith, l) in
    let r = parts_same us vs xs ys m f in
    let a = r.first in
    record { first = cc; second = r.second }

-- the opcode and the further words, by the first word
record SameHead (p q : ℕ) (us xs : List ℕ) : Type 0 where
  pub opcode : p ≡ q
  pub further : us ≡ xs

head_same : (p q : ℕ) (us vs xs ys : List ℕ) → p < 65536 → q < 65536
    → first_word p us ∷ (us ++ vs) ≡ first_word q xs ∷ (xs ++ ys) → SameHead p q us xs
head_same p q us vs xs ys h g e =
    let w : 65536 * (length us + 1) + p ≡ 65536 * (length xs + 1) + q = cc in
    let o : p ≡ q = omega (arith, w, h, g) in
    let l : length us ≡ length xs = omega (arith, w, h, g) in
    let f : us ++ vs ≡ xs ++ ys = cc in
    record { opcode = o; further = (parts_same us vs xs ys l f).first }

entry_same : (G : Table) (p q : ℕ) (a b : Entry) → p ≡ q → entry_of G p ≡ Some a → entry_of G q ≡ Some b → a ≡ b
entry_same G p q a b e h g = let h' : entry_of G q ≡ Some a = rw e at h in cc

-- what is due there
halts_moved : (G : Table) (before : List PlainInst) (p q : ℕ) (a b : Entry) (us vs : List ℕ) (k : ℕ) (t : Option ℕ) →
    p ≡ q → a ≡ b → us ≡ vs
    → Halts G (start before q) (Rattle.std.specs.Prelude.map due (pattern_of b)) vs k t
    → Halts G (start before p) (Rattle.std.specs.Prelude.map due (pattern_of a)) us k t
halts_moved G before p q a b us vs k t e f g m = rw (e, f, g) m

due_same : (G : Table) (before : List PlainInst) (p q : ℕ) (us vs xs ys : List ℕ) (a b : Entry) (k l : ℕ) (t u :
    Option ℕ) → p < 65536 → q < 65536 → entry_of G p ≡ Some a → entry_of G q ≡ Some b
    → Halts G (start before p) (Rattle.std.specs.Prelude.map due (pattern_of a)) us (k + 0) t
    → Halts G (start before q) (Rattle.std.specs.Prelude.map due (pattern_of b)) xs (l + 0) u
    → first_word p us ∷ (us ++ vs) ≡ first_word q xs ∷ (xs ++ ys) → evidence.Due p k t ≡ evidence.Due q l u
due_same G before p q us vs xs ys a b k l t u h g x y m n e =
    let r = head_same p q us vs xs ys h g e in
    let f = entry_same G p q a b r.opcode x y in
    let n' = halts_moved G before p q a b us xs (l + 0) u r.opcode f r.further n in
    let s = halts_same G (start before p) (Rattle.std.specs.Prelude.map due (pattern_of a)) us us (k + 0) (l + 0) t u
    m n' refl in
    let c = s.count in
    let d : k ≡ l = omega (arith, c) in
    let o = r.opcode in
    let z = s.kind in
    cc

pub shows_same : (G : Table) (before : List PlainInst) (us vs : List ℕ) (r q : Rule) (n m : ℕ) (e f : Evidence)
    → Shows G before us r n e → Shows G before vs q m f → us ≡ vs → r ≡ q → e ≡ f
shows_same G before _ _ _ _ _ _ _ _ (Shows.no_count p us h) (Shows.no_count q vs g) e s = let o : p ≡ q = cc in ap (λ
    k. evidence.Opcode k) o
shows_same G before _ _ _ _ _ _ _ _ (Shows.no_count p us h) (Shows.past_end c q vs g l) e s = cc
shows_same G before _ _ _ _ _ _ _ _ (Shows.no_count p us h) (Shows.no_entry q vs ys g k) e s = cc
shows_same G before _ _ _ _ _ _ _ _ (Shows.no_count p us h) (Shows.left_over q vs ys b os front x left g k r) e s = cc
shows_same G before _ _ _ _ _ _ _ _ (Shows.no_count p us h) (Shows.refused q vs ys b os front z ds left code n g k r
    f) e s = absurd (no_refusal _ left code I1 n f (sym s) refl)
shows_same G before _ _ _ _ _ _ _ _ (Shows.past_end c p us h l) (Shows.no_count q vs g) e s = cc
shows_same G before _ _ _ _ _ _ _ _ (Shows.past_end c p us h l) (Shows.past_end d q vs g m) e s =
    let w : 65536 * c + p ≡ 65536 * d + q = cc in
    let o : p ≡ q = omega (arith, w, h, g) in
    ap (λ k. evidence.Opcode k) o
shows_same G before _ _ _ _ _ _ _ _ (Shows.past_end c p us h l) (Shows.no_entry q vs ys g k) e s = cc
shows_same G before _ _ _ _ _ _ _ _ (Shows.past_end c p us h l) (Shows.left_over q vs ys b os front x left g k r) e s
    = cc
shows_same G before _ _ _ _ _ _ _ _ (Shows.past_end c p us h l) (Shows.refused q vs ys b os front z ds left code n g k
    r f) e s = absurd (no_refusal _ left code I2 n f (sym s) refl)
shows_same G before _ _ _ _ _ _ _ _ (Shows.no_entry p us xs h y) (Shows.no_count q vs g) e s = cc
shows_same G before _ _ _ _ _ _ _ _ (Shows.no_entry p us xs h y) (Shows.past_end d q vs g m) e s = cc
shows_same G before _ _ _ _ _ _ _ _ (Shows.no_entry p us xs h y) (Shows.no_entry q vs ys g k) e s = ap (λ k.
    evidence.Opcode k) (head_same p q us xs vs ys h g e).opcode
shows_same G before _ _ _ _ _ _ _ _ (Shows.no_entry p us xs h y) (Shows.left_over q vs ys b os front x left g k r) e s
    = cc
shows_same G before _ _ _ _ _ _ _ _ (Shows.no_entry p us xs h y) (Shows.refused q vs ys b os front z ds left code n g
    k r f) e s = absurd (no_refusal _ left code I3 n f (sym s) refl)
shows_same G before _ _ _ _ _ _ _ _ (Shows.left_over p us xs a ps fore w rest h y i) (Shows.no_count q vs g) e s = cc
shows_same G before _ _ _ _ _ _ _ _ (Shows.left_over p us xs a ps fore w rest h y i) (Shows.past_end d q vs g m) e s =
    cc
shows_same G before _ _ _ _ _ _ _ _ (Shows.left_over p us xs a ps fore w rest h y i) (Shows.no_entry q vs ys g k) e s
    = cc
shows_same G before _ _ _ _ _ _ _ _ (Shows.left_over p us xs a ps fore w rest h y i) (Shows.left_over q vs ys b os
    front x left g k r) e s =
    due_same G before p q us xs vs ys a b (length ps) (length os) None None h g y k
    (reached_halts G (start before p) (pattern_of a) us ps fore [] (w ∷ rest) i 0 None (Halts.left _ w rest))
    (reached_halts G (start before q) (pattern_of b) vs os front [] (x ∷ left) r 0 None (Halts.left _ x left)) e
shows_same G before _ _ _ _ _ _ _ _ (Shows.left_over p us xs a ps fore w rest h y i) (Shows.refused q vs ys b os front
    z ds left code n g k r f) e s = absurd (no_refusal _ left code I5 n f (sym s) refl)
shows_same G before _ _ _ _ _ _ _ _ (Shows.refused p us xs a ps fore w es rest c m h y i j) (Shows.no_count q vs g) e
    s = absurd (no_refusal _ rest c I1 m j s refl)
shows_same G before _ _ _ _ _ _ _ _ (Shows.refused p us xs a ps fore w es rest c m h y i j) (Shows.past_end d q vs g
    l) e s = absurd (no_refusal _ rest c I2 m j s refl)
shows_same G before _ _ _ _ _ _ _ _ (Shows.refused p us xs a ps fore w es rest c m h y i j) (Shows.no_entry q vs ys g
    k) e s = absurd (no_refusal _ rest c I3 m j s refl)
shows_same G before _ _ _ _ _ _ _ _ (Shows.refused p us xs a ps fore w es rest c m h y i j) (Shows.left_over q vs ys b
    os front x left g k r) e s = absurd (no_refusal _ rest c I5 m j s refl)
shows_same G before _ _ _ _ _ _ _ _ (Shows.refused p us xs a ps fore w es rest c m h y i j) (Shows.refused q vs ys b
    os front z ds left code n g k r f) e s =
    due_same G before p q us xs vs ys a b (length ps) (length os) (Some w.kind) (Some z.kind) h g y k
    (reached_halts G (start before p) (pattern_of a) us ps fore _ rest i 0 (Some w.kind) (Halts.refused _ w es rest c
    m j))
    (reached_halts G (start before q) (pattern_of b) vs os front _ left r 0 (Some z.kind) (Halts.refused _ z ds left
    code n f)) e

-- two lists of one length that begin the same words are one
record SameFront (is js : List PlainInst) (us xs : List ℕ) : Type 0 where
  pub insts : is ≡ js
  pub rest : us ≡ xs

listing_moved : (G : Table) (before : List PlainInst) (i j : PlainInst) (is : List PlainInst) (us : List ℕ) → i ≡ j
    → Listing G (before ++ (j ∷ [])) is us → Listing G (before ++ (i ∷ [])) is us
listing_moved G before i j is us e m = rw e m

fronts_same : (G : Table) (b is js : List PlainInst) (ws vs us xs : List ℕ) → Listing G b is ws
    → Listing G b js vs → ws ++ us ≡ vs ++ xs → length is ≡ length js → SameFront is js us xs
fronts_same G _ _ _ _ _ us xs (Listing.end b) (Listing.end _) e l = record { insts = refl; rest = e }
fronts_same G _ _ _ _ _ us xs (Listing.end b) (Listing.more _ j js vs ys g m) e l = absurd (omega (arith, l))
fronts_same G _ _ _ _ _ us xs (Listing.more b i is ws zs h k) (Listing.end _) e l = absurd (omega (arith, l))
fronts_same G _ _ _ _ _ us xs (Listing.more b i is ws zs h k) (Listing.more _ j js vs ys g m) e l =
    let f : ws ++ (zs ++ us) ≡ vs ++ (ys ++ xs) = sym (append_assoc ws zs us) ∙ (e ∙ append_assoc vs ys xs) in
    let s = instruction_same G b i j ws vs (zs ++ us) (ys ++ xs) h g f in
    let n : length is ≡ length js = omega (arith, l) in
    let r = fronts_same G (b ++ (i ∷ [])) is js zs ys us xs k (listing_moved G b i j js ys s.inst m) s.rest n in
    let p = s.inst in
    let q = r.insts in
    record { insts = cc; rest = r.rest }

shows_moved : (G : Table) (b c : List PlainInst) (us : List ℕ) (r : Rule) (n : ℕ) (e : Evidence) → b ≡ c
    → Shows G c us r n e → Shows G b us r n e
shows_moved G b c us r n e f s = rw f s

pub one : (G : Table) (words : List ℕ) (r : Rule) (k n : ℕ) (e f : Evidence) → IsEvidence G words r k n e
    → IsEvidence G words r k n f → e ≡ f
one G words r k n e f a b =
    let l : length a.before ≡ length b.before = a.number ∙ sym b.number in
    let s = fronts_same G [] a.before b.before a.front b.front a.left b.left a.spelled b.spelled (sym a.all ∙ b.all) l
    in
    shows_same G a.before a.left b.left r r a.place b.place e f a.shows (shows_moved G a.before b.before b.left r
    b.place f s.insts b.shows) s.rest refl
