-- Texts that do not end in a space.
use Rattle.std.proofs.Common.{◌≡◌, ◌≢◌, ◌++◌, ◌%◌, ℕ, List, [], ◌∷◌, Bool, true, false, ◌&&◌, refl, arith}
use Rattle.std.specs.Prelude.{nat_eq, if◌then◌else◌}
use Rattle.std.proofs.lemmas.Bool.Decides.{nat_tests}
use Rattle.spv_lines.specs.Plain as plain
use Rattle.spv_lines.specs.Plain.{is_control, is_late_control, plain_byte, plain_of}
use Rattle.spv_annotate.specs.Bare.{trimmed}
use Rattle.spv_annotate.proofs.Inks.{AreInk, hex_digit_ink}

-- the last octet of a text behind another octet
abbrev pub last_of : ℕ → List ℕ → ℕ
last_of d [] = d
last_of d (b ∷ t) = last_of b t

pub last-append : (d : ℕ) (a b : List ℕ) → last_of d (a ++ b) ≡ last_of (last_of d a) b
last-append d [] b = refl
last-append d (x ∷ a) b = last-append x a b

-- where nothing is left of what stands behind, nothing is trimmed before it
pub trimmed_before : (t s : List ℕ) → last_of 33 t ≢ 32 → trimmed s ≡ [] → trimmed (t ++ s) ≡ t
trimmed_before [] s n e = e
trimmed_before (b ∷ []) s n e = let f : nat_eq b 32 ≡ false = grind (arith, nat_tests) in rw (e, f) refl
trimmed_before (b ∷ c ∷ t) s n e =
    let h = trimmed_before (c ∷ t) s n e in
    rw h (none (nat_eq b 32))
  where
    none : (z : Bool) → (if z && false then [] else b ∷ c ∷ t) ≡ b ∷ c ∷ t
    none true = refl
    none false = refl

pub ink_last : (d : ℕ) (t : List ℕ) → d ≢ 32 → AreInk t → last_of d t ≢ 32
ink_last d [] n h = n
ink_last d (b ∷ t) n h = let i = h.0 in let l = i.dark in ink_last b t (λ e. omega arith) h.1

-- of a text behind a space, the same holds where it is not empty
pub ink_last_some : (d : ℕ) (t : List ℕ) → t ≢ [] → AreInk t → last_of d t ≢ 32
ink_last_some d [] n h = absurd (n refl)
ink_last_some d (b ∷ t) n h = let i = h.0 in let l = i.dark in ink_last b t (λ e. omega arith) h.1

hex_last : (d b : ℕ) → last_of d (plain.escaped b) ≢ 32
hex_last d b = let i = hex_digit_ink (b % 16) (omega arith) in let m = i.dark in λ e. omega arith

byte_last : (d a : ℕ) → a ≢ 32 → last_of d (plain_byte a) ≢ 32
byte_last d a n = split (is_control a) refl
  where
    split : (c : Bool) → is_control a ≡ c → last_of d (plain_byte a) ≢ 32
    split true f = rw f (hex_last d a)
    split false f = rw f n

-- control characters as `\xNN` end in no space either
plain_cons_last : (d a : ℕ) (t : List ℕ) → last_of a t ≢ 32 → last_of d (plain_of (a ∷ t)) ≢ 32
plain_cons_last d a [] n = byte_last d a n
plain_cons_last d a (b ∷ []) n = split (is_late_control a b) refl (λ e. plain_cons_last e b [] n)
  where
    split : (l : Bool) → is_late_control a b ≡ l → ((e : ℕ) → last_of e (plain_of (b ∷ [])) ≢ 32)
        → last_of d (plain_of (a ∷ b ∷ [])) ≢ 32
    split true e next = rw e (hex_last (last_of d (plain.escaped a)) b)
    split false e next = rw e (rw (last-append d (plain_byte a) (plain_of (b ∷ []))) (next (last_of d (plain_byte a))))
plain_cons_last d a (b ∷ c ∷ text) n =
    split (is_late_control a b) refl (λ e. plain_cons_last e c text n) (λ e. plain_cons_last e b (c ∷ text) n)
  where
    split : (l : Bool) → is_late_control a b ≡ l → ((e : ℕ) → last_of e (plain_of (c ∷ text)) ≢ 32)
        → ((e : ℕ) → last_of e (plain_of (b ∷ c ∷ text)) ≢ 32)
        → last_of d (plain_of (a ∷ b ∷ c ∷ text)) ≢ 32
    split true e later next =
        rw e (rw (last-append d (plain.escaped a) (plain.escaped b ++ plain_of (c ∷ text)))
        (rw (last-append (last_of d (plain.escaped a)) (plain.escaped b) (plain_of (c ∷ text)))
        (later (last_of (last_of d (plain.escaped a)) (plain.escaped b)))))
    split false e later next =
        rw e (rw (last-append d (plain_byte a) (plain_of (b ∷ c ∷ text))) (next (last_of d (plain_byte a))))

pub plain_last : (d : ℕ) (t : List ℕ) → d ≢ 32 → last_of d t ≢ 32 → last_of d (plain_of t) ≢ 32
plain_last d [] m n = n
plain_last d (a ∷ t) m n = plain_cons_last d a t n
