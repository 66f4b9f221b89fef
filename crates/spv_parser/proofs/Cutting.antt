-- Where the first ` = ` stands in a line.
use Rattle.std.proofs.Common.{◌≡◌, ◌≢◌, ◌++◌, ◌∙◌, ◌<◌, ◌≤◌, ℕ, zero, suc, List, [], ◌∷◌, Option, Some, None, Bool}
use Rattle.std.proofs.Common.{true, false, ◌&&◌, nat_eq, length, take, drop, option_map, refl, sym, ap, arith}
use Rattle.std.specs.Prelude.{codes}
use Rattle.std.proofs.lemmas.Bool.Decides.{nat_tests}
use Rattle.std.specs.Str.Pattern.{FindsText, SplitsAroundMatch}
use Rattle.spv_lines.specs.Line.{Halves, begins_equals, begins_percent, behind_equals, cut_at_equals, parts_behind}
use Rattle.spv_lines.specs.Line.{parts_of}

abbrev pub equals_text : List ℕ
equals_text = codes " = "

both : (a b : Bool) → (a && b) ≡ true → (a ≡ true) × (b ≡ true)
both true true e = (refl, refl)
both true false e = cc
both false b e = cc

same : (a b : ℕ) → nat_eq a b ≡ true → a ≡ b
same a b e = grind (arith, nat_tests)

-- a text that begins with ` = `
equals_here : (t : List ℕ) → begins_equals t ≡ true → t ≡ equals_text ++ behind_equals t
equals_here [] e = cc
equals_here (a ∷ []) e = cc
equals_here (a ∷ b ∷ []) e = cc
equals_here (a ∷ b ∷ c ∷ t) e =
    let x = both (nat_eq a 32) (nat_eq b 61 && nat_eq c 32) e in
    let y = both (nat_eq b 61) (nat_eq c 32) x.1 in
    rw (same a 32 x.0, same b 61 y.0, same c 32 y.1) refl

-- and one that does not
no_equals : (t : List ℕ) → ((rest : List ℕ) → t ≢ equals_text ++ rest) → begins_equals t ≡ false
no_equals t n = by (begins_equals t) refl
  where
    by : (b : Bool) → begins_equals t ≡ b → b ≡ false
    by true e = absurd (n (behind_equals t) (equals_here t e))
    by false e = refl

abbrev cut : List ℕ → List ℕ → Option Halves
cut front back = Some (record { front = front; back = back })

one_cut : (b : ℕ) (t : List ℕ) → begins_equals (b ∷ t) ≡ false
    → cut_at_equals (b ∷ t) ≡ option_map (λ h. record { front = b ∷ h.front; back = h.back }) (cut_at_equals t)
one_cut b t e = rw e refl

-- none stands at any place
pub uncut : (t : List ℕ) → ((i : ℕ) → i ≤ length t → (rest : List ℕ) → drop i t ≢ equals_text ++ rest)
    → cut_at_equals t ≡ None
uncut [] n = refl
uncut (b ∷ t) n =
    let l : 0 ≤ length (b ∷ t) = omega arith in
    let e = no_equals (b ∷ t) (n 0 l) in
    let k = uncut t (λ i m rest. let m' : suc i ≤ length (b ∷ t) = omega arith in n (suc i) m' rest) in
    one_cut b t e ∙ ap (option_map (λ h. record { front = b ∷ h.front; back = h.back })) k

-- the first stands at a place
pub cut_at : (t : List ℕ) (i : ℕ) (back : List ℕ) → ((j : ℕ) → j < i → (rest : List ℕ) → drop j t ≢ equals_text ++ rest)
    → drop i t ≡ equals_text ++ back → cut_at_equals t ≡ cut (take i t) back
cut_at [] zero back n e = cc
cut_at [] (suc i) back n e = cc
cut_at (b ∷ t) zero back n e = here (b ∷ t) e
  where
    here : (u : List ℕ) → u ≡ equals_text ++ back → cut_at_equals u ≡ cut [] back
    here u f = rw f refl
cut_at (b ∷ t) (suc i) back n e =
    let l : 0 < suc i = omega arith in
    let f = no_equals (b ∷ t) (n 0 l) in
    let k = cut_at t i back (λ j m rest. let m' : suc j < suc i = omega arith in n (suc j) m' rest) e in
    one_cut b t f ∙ ap (option_map (λ h. record { front = b ∷ h.front; back = h.back })) k

-- the parts of a line that does not begin with `%`, and of one that does
pub front_none : (line : List ℕ) → ((u : List ℕ) → line ≡ 37 ∷ u → ⊥) → Some (parts_behind None line) ≡ parts_of line
front_none [] n = refl
front_none (b ∷ t) n = by (nat_eq b 37) refl
  where
    by : (x : Bool) → nat_eq b 37 ≡ x → Some (parts_behind None (b ∷ t)) ≡ parts_of (b ∷ t)
    by true e = absurd (n t (ap (λ z. z ∷ t) (same b 37 e)))
    by false e = rw e refl

abbrev parts_cut : Option Halves → Option Rattle.spv_lines.specs.Line.Parts
parts_cut o = option_map (λ h. parts_behind (Some h.front) h.back) o

percent_parts : (line u : List ℕ) → line ≡ 37 ∷ u → parts_cut (cut_at_equals line) ≡ parts_of line
percent_parts line u e = rw e refl

pub front_uncut : (line u : List ℕ) → line ≡ 37 ∷ u → FindsText equals_text line None → None ≡ parts_of line
front_uncut line u e n = sym (ap parts_cut (uncut line n)) ∙ percent_parts line u e

pub front_cut : (line u front back : List ℕ) → line ≡ 37 ∷ u → SplitsAroundMatch (FindsText equals_text) line front back
    → Some (parts_behind (Some front) back) ≡ parts_of line
front_cut line u front back e h =
    let f = h.2 in
    let k : cut_at_equals line ≡ cut (take h.0 line) (drop h.1 line) = cut_at line h.0 (drop h.1 line) f.0 f.1.split in
    let k' : cut_at_equals line ≡ cut front back = rw (h.3, h.4) k in
    sym (ap parts_cut k') ∙ percent_parts line u e
