-- Texts of ASCII without control characters.
use Rattle.std.proofs.Common.{◌≡◌, ◌≤◌, ◌+◌, ◌++◌, ◌∙◌, ℕ, List, [], ◌∷◌, Bool, true, false, ◌&&◌, refl, ap, arith}
use Rattle.std.proofs.Common.{length, nat_eq}
use Rattle.std.specs.Prelude.{codes, if◌then◌else◌, nat_le, not, take}
use Rattle.std.specs.List.{list_all, onto_first}
use Rattle.std.proofs.lemmas.Bool.Decides.{nat_tests}
use Rattle.spv_lines.specs.Plain.{is_control, is_late_control, plain_of}
use Rattle.spv_lines.specs.Text.{lines_of}
use Rattle.spv_annotate.specs.Html.{escaped_byte, is_marked}
use Rattle.spv_annotate.specs.Notes.{beginning_of, cut_at, fits, octet_room, room, short_by, short_name, told_most}
use Rattle.spv_annotate.specs.inner.Tame.{are_tame_lines, is_line_octet, is_single, is_tame_octet}
use Rattle.spv_annotate.proofs.Escapes.{plain_byte}

both : (a b : Bool) → (a && b) ≡ true → (a ≡ true) × (b ≡ true)
both true b h = (refl, h)
both false b h = cc

no_control : (b : ℕ) → is_tame_octet b ≡ true → is_control b ≡ false
no_control b e = grind (arith, nat_tests)

no_late : (a b : ℕ) → is_tame_octet a ≡ true → is_late_control a b ≡ false
no_late a b e = grind (arith, nat_tests)

-- these stand as they are
pub plain_same : (t : List ℕ) → list_all is_tame_octet t ≡ true → plain_of t ≡ t
plain_same [] h = refl
plain_same (a ∷ []) h = let e = no_control a (both (is_tame_octet a) true h).0 in rw e refl
plain_same (a ∷ b ∷ t) h =
    let r = both (is_tame_octet a) (list_all is_tame_octet (b ∷ t)) h in
    let e = no_control a r.0 in
    let f = no_late a b r.0 in
    rw (f, e) (ap (λ z. a ∷ z) (plain_same (b ∷ t) r.1))

-- lines of such a text

tame_by : (b : ℕ) → nat_eq b 10 ≡ false → is_line_octet b ≡ true → is_tame_octet b ≡ true
tame_by b e h = rw e at h

onto_tame : (b : ℕ) (ls : List (List ℕ)) → is_tame_octet b ≡ true → are_tame_lines ls ≡ true
    → are_tame_lines (onto_first b ls) ≡ true
onto_tame b [] e h = rw e refl
onto_tame b (l ∷ ls) e h = rw e h

pub tame_lines : (t : List ℕ) → list_all is_line_octet t ≡ true → are_tame_lines (lines_of t) ≡ true
tame_lines [] h = refl
tame_lines (b ∷ t) h = let r = both (is_line_octet b) (list_all is_line_octet t) h in
    split (nat_eq b 10) refl r.0 (tame_lines t r.1)
  where
    split : (z : Bool) → nat_eq b 10 ≡ z → is_line_octet b ≡ true → are_tame_lines (lines_of t) ≡ true
        → are_tame_lines (lines_of (b ∷ t)) ≡ true
    split true e o k = rw e k
    split false e o k = rw e (onto_tame b (lines_of t) (tame_by b e o) k)

pub first_tame : (line : List ℕ) (lines rest : List (List ℕ)) → rest ≡ line ∷ lines → are_tame_lines rest ≡ true
    → (list_all is_tame_octet line ≡ true) × (are_tame_lines lines ≡ true)
first_tame line lines rest e h = both (list_all is_tame_octet line) (are_tame_lines lines) (rw e at h)

-- names of octets that take one octet in a page

single_tame : (b : ℕ) → is_single b ≡ true → is_tame_octet b ≡ true
single_tame b h = (both (is_tame_octet b) (not (is_marked b)) h).0

all_tame : (t : List ℕ) → list_all is_single t ≡ true → list_all is_tame_octet t ≡ true
all_tame [] h = refl
all_tame (b ∷ t) h =
    let r = both (is_single b) (list_all is_single t) h in
    rw (single_tame b r.0) (all_tame t r.1)

unmarked : (x : Bool) → not x ≡ true → x ≡ true → ⊥
unmarked true h e = cc
unmarked false h e = cc

one_octet : (b : ℕ) → is_single b ≡ true → octet_room b ≡ 1
one_octet b h =
    let r = both (is_tame_octet b) (not (is_marked b)) h in
    ap (λ (z : Bool). if z then 4 else length (escaped_byte b)) (no_control b r.0)
    ∙ ap length (plain_byte b (unmarked (is_marked b) r.1))

single_room : (t : List ℕ) → list_all is_single t ≡ true → room t ≡ length t
single_room [] h = refl
single_room (a ∷ []) h = one_octet a (both (is_single a) true h).0
single_room (a ∷ b ∷ t) h =
    let r = both (is_single a) (list_all is_single (b ∷ t)) h in
    let e = one_octet a r.0 in
    let f = no_late a b (single_tame a r.0) in
    let m = single_room (b ∷ t) r.1 in
    ap (λ (z : Bool). if z then 8 + room t else octet_room a + room (b ∷ t)) f ∙ omega (arith, e, m)

-- such a name is told as it is, if it is not long
pub single_same : (t : List ℕ) → length t ≤ 40 → list_all is_single t ≡ true → short_name t ≡ t
single_same t l h =
    let n : nat_le (length t) 40 ≡ true = grind (arith, nat_tests) in
    let b : beginning_of 40 t ≡ t = ap (λ (z : Bool). if z then t else take (cut_at t 40) t) n in
    let f : fits t 40 ≡ true = ap (λ z. nat_le (room z) 40) b ∙ (ap (λ z. nat_le z 40) (single_room t h) ∙ n) in
    let m : told_most t ≡ 40 =
    ap (λ (z : Bool). if z then 40 else (if fits t 20 then 20 else (if fits t 10 then 10 else 6))) f in
    ap (λ k. short_by k t) m
    ∙ (ap (λ (z : Bool). if z then plain_of t else (plain_of (take (cut_at t 40) t) ++ codes "..")) n
    ∙ plain_same t (all_tame t h))
