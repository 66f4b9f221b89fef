-- Texts in which no comment begins, and where they end.
use Rattle.std.proofs.Common.{◌≡◌, ◌≢◌, ◌++◌, ◌<◌, ◌/◌, ◌%◌, ◌∙◌, ℕ, List, [], ◌∷◌, Bool, true, false, refl, sym, ap}
use Rattle.std.proofs.Common.{arith, subst}
use Rattle.std.specs.Prelude.{nat_eq, if◌then◌else◌}
use Rattle.std.proofs.lemmas.Bool.Decides.{nat_tests}
use Rattle.spv_lines.specs.Digits.{hex_digit}
use Rattle.spv_lines.specs.Operand.{escaped, quoted}
use Rattle.spv_lines.specs.Plain as plain
use Rattle.spv_lines.specs.Plain.{is_control, is_late_control, plain_byte, plain_of}
use Rattle.spv_annotate.specs.Bare.{Quoting, Outside, Within, Behind, before_comment, begins_comment, next_of}
use Rattle.spv_annotate.proofs.Inks.{IsInk, AreInk, hex_digit_ink}

-- From one standing to another, no comment begins.
pub data IsClean : Quoting → Quoting → List ℕ → Type 0 where
  end : (q : Quoting) → IsClean q q []
  more : (q r : Quoting) (b : ℕ) (t : List ℕ) → begins_comment q b ≡ false → IsClean (next_of q b) r t
      → IsClean q r (b ∷ t)

append_nothing : (xs : List ℕ) → xs ++ [] ≡ xs
append_nothing [] = refl
append_nothing (x ∷ xs) = ap (λ ys. x ∷ ys) (append_nothing xs)

pub clean-append : (q r s : Quoting) (a b : List ℕ) → IsClean q r a → IsClean r s b → IsClean q s (a ++ b)
clean-append _ _ s _ b (IsClean.end q) g = g
clean-append _ _ s _ b (IsClean.more q r x t e h) g =
    IsClean.more q s x (t ++ b) e (clean-append (next_of q x) r s t b h g)

-- what stands before a comment that begins behind a clean text
pub before_clean : (q r : Quoting) (a b : List ℕ) → IsClean q r a → before_comment q (a ++ b) ≡ a ++ before_comment r b
before_clean _ _ _ b (IsClean.end q) = refl
before_clean _ _ _ b (IsClean.more q r x t e h) =
    ap (λ z. if z then [] else x ∷ before_comment (next_of q x) (t ++ b)) e
    ∙ ap (λ z. x ∷ z) (before_clean (next_of q x) r t b h)

-- an octet that is none of those that quoting asks for
pub record IsOrdinary (b : ℕ) : Type 0 where
  pub no_comment : b ≢ 59
  pub no_quote : b ≢ 34
  pub no_mark : b ≢ 92

-- where one stands behind such an octet
abbrev pub behind : Quoting → Quoting
behind Outside = Outside
behind Within = Within
behind Behind = Within

ordinary_next : (q : Quoting) (b : ℕ) → IsOrdinary b → next_of q b ≡ behind q
ordinary_next Outside b h = let n = h.no_quote in grind (arith, nat_tests)
ordinary_next Within b h = let n = h.no_quote in let m = h.no_mark in grind (arith, nat_tests)
ordinary_next Behind b h = refl

ordinary_none : (q : Quoting) (b : ℕ) → IsOrdinary b → begins_comment q b ≡ false
ordinary_none Outside b h = let n = h.no_comment in grind (arith, nat_tests)
ordinary_none Within b h = refl
ordinary_none Behind b h = refl

pub ordinary_more : (q r : Quoting) (b : ℕ) (t : List ℕ) → IsOrdinary b → IsClean (behind q) r t → IsClean q r (b ∷ t)
ordinary_more q r b t h g =
    IsClean.more q r b t (ordinary_none q b h) (subst (λ (p : Quoting). IsClean p r t) (sym (ordinary_next q b h)) g)

-- ink outside of quotes
pub ink_clean : (t : List ℕ) → AreInk t → IsClean Outside Outside t
ink_clean [] h = IsClean.end Outside
ink_clean (b ∷ t) h =
    let i = h.0 in
    let e : nat_eq b 59 ≡ false = (let n = i.no_comment in grind (arith, nat_tests)) in
    let f : nat_eq b 34 ≡ false = (let n = i.no_quote in grind (arith, nat_tests)) in
    IsClean.more Outside Outside b t e (subst (λ (z : Bool). IsClean (if z then Within else Outside) Outside t) (sym f)
    (ink_clean t h.1))

pub space_clean : IsClean Outside Outside (32 ∷ [])
space_clean = IsClean.more Outside Outside 32 [] refl (IsClean.end Outside)

-- a text in quotes
escaped_clean : (t : List ℕ) → IsClean Within Within (escaped t)
escaped_clean [] = IsClean.end Within
escaped_clean (b ∷ t) = split b t (nat_eq b 34) (nat_eq b 92) (nat_eq b 10) refl refl refl (escaped_clean t)
  where
    two : (c : ℕ) (u : List ℕ) → IsClean Within Within u → IsClean Within Within (92 ∷ c ∷ u)
    two c u h = IsClean.more Within Within 92 (c ∷ u) refl (IsClean.more Behind Within c u refl h)

    split : (b : ℕ) (t : List ℕ) (p q r : Bool) → nat_eq b 34 ≡ p → nat_eq b 92 ≡ q → nat_eq b 10 ≡ r
        → IsClean Within Within (escaped t) → IsClean Within Within (escaped (b ∷ t))
    split b t true q r e f g h = rw e (two 34 (escaped t) h)
    split b t false true r e f g h = rw (e, f) (two 92 (escaped t) h)
    split b t false false true e f g h = rw (e, f, g) (two 110 (escaped t) h)
    split b t false false false e f g h =
        rw (e, f, g) (IsClean.more Within Within b (escaped t) refl (rw (e, f) h))

pub quoted_clean : (t : List ℕ) → IsClean Outside Outside (quoted t)
quoted_clean t =
    IsClean.more Outside Outside 34 (escaped t ++ (34 ∷ [])) refl
    (clean-append Within Within Outside (escaped t) (34 ∷ []) (escaped_clean t)
    (IsClean.more Within Outside 34 [] refl (IsClean.end Outside)))

-- Control characters as `\xNN` begin no comment, and end where they did.

ink_ordinary : (b : ℕ) → IsInk b → b ≢ 92 → IsOrdinary b
ink_ordinary b h n = record { no_comment = h.no_comment; no_quote = h.no_quote; no_mark = n }

digit_ordinary : (d : ℕ) → d < 16 → IsOrdinary (hex_digit d)
digit_ordinary d l = ink_ordinary (hex_digit d) (hex_digit_ink d l) (λ e. grind (arith, nat_tests))

letter_x : IsOrdinary 120
letter_x = record { no_comment = λ e. omega arith; no_quote = λ e. omega arith; no_mark = λ e. omega arith }

-- where one stands behind a `\`, and an ordinary octet
mark_next : (q : Quoting) → behind (next_of q 92) ≡ behind q
mark_next Outside = refl
mark_next Within = refl
mark_next Behind = refl

behind_twice : (q : Quoting) → behind (behind q) ≡ behind q
behind_twice Outside = refl
behind_twice Within = refl
behind_twice Behind = refl

mark_none : (q : Quoting) → begins_comment q 92 ≡ false
mark_none Outside = refl
mark_none Within = refl
mark_none Behind = refl

escape_more : (q r : Quoting) (b : ℕ) (t : List ℕ) → b < 256 → IsClean (behind q) r t
    → IsClean q r (plain.escaped b ++ t)
escape_more q r b t l h =
    let n = next_of q 92 in
    let e : behind (behind (behind n)) ≡ behind q = ap (λ z. behind (behind z)) (mark_next q)
    ∙ (ap behind (behind_twice q) ∙ behind_twice q) in
    IsClean.more q r 92 (120 ∷ hex_digit (b / 16) ∷ hex_digit (b % 16) ∷ t) (mark_none q)
    (ordinary_more n r 120 (hex_digit (b / 16) ∷ hex_digit (b % 16) ∷ t) letter_x
    (ordinary_more (behind n) r (hex_digit (b / 16)) (hex_digit (b % 16) ∷ t) (digit_ordinary (b / 16) (omega arith))
    (ordinary_more (behind (behind n)) r (hex_digit (b % 16)) t (digit_ordinary (b % 16) (omega arith))
    (subst (λ (p : Quoting). IsClean p r t) (sym e) h))))

control_ordinary : (b : ℕ) → is_control b ≡ true → IsOrdinary b
control_ordinary b h = record {
  no_comment = λ e. grind (arith, nat_tests);
  no_quote = λ e. grind (arith, nat_tests);
  no_mark = λ e. grind (arith, nat_tests);
}

control_small : (b : ℕ) → is_control b ≡ true → b < 256
control_small b h = grind (arith, nat_tests)

-- a byte, and what stands behind it
byte_clean : (q r : Quoting) (a : ℕ) (u : List ℕ) → begins_comment q a ≡ false → IsClean (next_of q a) r u
    → IsClean q r (plain_byte a ++ u)
byte_clean q r a u e h = split (is_control a) refl
  where
    split : (c : Bool) → is_control a ≡ c → IsClean q r (plain_byte a ++ u)
    split true f =
        rw f (escape_more q r a u (control_small a f)
        (subst (λ (p : Quoting). IsClean p r u) (ordinary_next q a (control_ordinary a f)) h))
    split false f = rw f (IsClean.more q r a u e h)

late_ordinary : (a b : ℕ) → is_late_control a b ≡ true → (IsOrdinary a × IsOrdinary b) × ((a < 256) × (b < 256))
late_ordinary a b h = (
  (
    record {
      no_comment = λ e. grind (arith, nat_tests);
      no_quote = λ e. grind (arith, nat_tests);
      no_mark = λ e. grind (arith, nat_tests);
    },
    record {
      no_comment = λ e. grind (arith, nat_tests);
      no_quote = λ e. grind (arith, nat_tests);
      no_mark = λ e. grind (arith, nat_tests);
    },
  ),
  (grind (arith, nat_tests), grind (arith, nat_tests)),
)

-- the rest of a clean text behind its first octet
rest_clean : (q r : Quoting) (a : ℕ) (t : List ℕ) → IsClean q r (a ∷ t)
    → (begins_comment q a ≡ false) × IsClean (next_of q a) r t
rest_clean q r a t (IsClean.more _ _ _ _ e h) = (e, h)

pub plain_clean : (q r : Quoting) (t : List ℕ) → IsClean q r t → IsClean q r (plain_of t)
plain_clean q r [] h = h
plain_clean q r (a ∷ []) h =
    let s = rest_clean q r a [] h in
    subst (λ (t : List ℕ). IsClean q r t) (append_nothing (plain_byte a)) (byte_clean q r a [] s.0 s.1)
plain_clean q r (a ∷ b ∷ text) h =
    let s = rest_clean q r a (b ∷ text) h in
    split (is_late_control a b) refl (λ p m. plain_clean p r text m) (plain_clean (next_of q a) r (b ∷ text) s.1)
  where
    split : (l : Bool) → is_late_control a b ≡ l → ((p : Quoting) → IsClean p r text → IsClean p r (plain_of text))
        → IsClean (next_of q a) r (plain_of (b ∷ text))
        → IsClean q r (plain_of (a ∷ b ∷ text))
    split true e ih next =
        let o = late_ordinary a b e in
        let s = rest_clean q r a (b ∷ text) h in
        let u = rest_clean (next_of q a) r b text s.1 in
        let m : IsClean (behind (behind q)) r text =
        subst (λ (p : Quoting). IsClean p r text)
        (ordinary_next (next_of q a) b o.0.1 ∙ ap behind (ordinary_next q a o.0.0)) u.1 in
        rw e (escape_more q r a (plain.escaped b ++ plain_of text) o.1.0
        (escape_more (behind q) r b (plain_of text) o.1.1 (ih (behind (behind q)) m)))
    split false e ih next =
        let s = rest_clean q r a (b ∷ text) h in
        rw e (byte_clean q r a (plain_of (b ∷ text)) s.0 next)
