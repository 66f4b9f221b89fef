-- A name from its front on.
use Rattle.std.proofs.Common.{◌≡◌, ◌≢◌, ◌≤◌, ◌<◌, ◌+◌, ◌-◌, ◌∙◌, ◌++◌, ◌∷◌, [], ℕ, List, Bool, false, Option}
use Rattle.std.proofs.Common.{length, take, drop, get_or, ap, sym, refl, arith, append_assoc, append-nil, inl, inr}
use Rattle.std.specs.Prelude.{◌==◌, ◌&&◌, nat_le, nat_lt}
use Rattle.std.proofs.lemmas.Bool.{cases_Bool, cases_lt, eqb-true}
use Rattle.std.proofs.lemmas.List.{drop-drop, drop_more, length-drop, take_all, take_more}
use Rattle.std.proofs.Math.ListN.{drop_of_length-le}
use Rattle.spv_lines.specs.Plain.{escaped, is_late_control}
use Rattle.spv_commands.specs.Name.{shown_byte, shown_name}
use Rattle.spv_commands.specs.inner.Late.{IsLate, IsOther}
use Rattle.spv_commands.specs.inner.Progress.{WritesOn}
use Rattle.spv_commands.proofs.Parts.{nothing_on, on_and_on}

not_late : (a b : ℕ) → a ≢ 194 → is_late_control a b ≡ false
not_late a b n = elim (cases_Bool (a == 194)) [
  | inl e ↦ absurd (n (eqb-true a 194 e))
  | inr e ↦ ap (λ (c : Bool). c && (nat_le 128 b && nat_lt b 160)) e
]

plain_front : (a : ℕ) (name : List ℕ) → shown_byte a ≡ a ∷ [] → a ≢ 194 → shown_name (a ∷ name) ≡ a ∷ shown_name name
plain_front a [] e n = e
plain_front a (b ∷ name) e n =
    let l : shown_name (a ∷ b ∷ name) ≡ shown_byte a ++ shown_name (b ∷ name) = rw (not_late a b n) refl in
    l ∙ ap (λ (front : List ℕ). front ++ shown_name (b ∷ name)) e

-- one byte more that stands as it is
pub plain_more : (name : List ℕ) (at : ℕ) → at < length name → shown_byte (get_or name at 0) ≡ get_or name at 0 ∷ []
    → get_or name at 0 ≢ 194 → shown_name name ≡ take at name ++ shown_name (drop at name)
    → shown_name name ≡ take (at + 1) name ++ shown_name (drop (at + 1) name)
plain_more name at h e n s =
    let a = get_or name at 0 in
    let f : shown_name (drop at name) ≡ a ∷ shown_name (drop (at + 1) name) =
    ap shown_name (drop_more name at 0 h) ∙ plain_front a (drop (at + 1) name) e n in
    s ∙ (ap (λ (back : List ℕ). take at name ++ back) f
    ∙ (sym (append_assoc (take at name) (a ∷ []) (shown_name (drop (at + 1) name)))
    ∙ ap (λ (front : List ℕ). front ++ shown_name (drop (at + 1) name)) (sym (take_more name at 0 h))))

-- What stands for a name up to a place was written.
pub record IsOn (name : List ℕ) (at : ℕ) (sound heard : Bool) (here there : Option (List ℕ))
    (failed fails : ℕ) : Type 0 where
  pub text : List ℕ
  pub all : text ++ shown_name (drop at name) ≡ shown_name name
  pub written : WritesOn sound text heard here there failed fails

pub begun_on : (name : List ℕ) (sound : Bool) (here : Option (List ℕ)) (failed : ℕ)
    → IsOn name 0 sound sound here here failed failed
begun_on name sound here failed = record { text = []; all = refl; written = nothing_on sound here failed }

step_on : (name part : List ℕ) (at next : ℕ) (sound between heard : Bool) (here middle there : Option (List ℕ))
    (failed fails failing : ℕ) → shown_name (drop at name) ≡ part ++ shown_name (drop next name)
    → IsOn name at sound between here middle failed fails
    → WritesOn between part heard middle there fails failing
    → IsOn name next sound heard here there failed failing
step_on name part at next sound between heard here middle there failed fails failing e v w = record {
  text = v.text ++ part;
  all = append_assoc v.text part (shown_name (drop next name))
      ∙ (ap (λ (z : List ℕ). v.text ++ z) (sym e) ∙ v.all);
  written = on_and_on sound between heard v.text part here middle there failed fails failing v.written w;
}

-- a run of bytes that stand as they are
pub part_on : (name rest part : List ℕ) (at size : ℕ) (sound between heard : Bool)
    (here middle there : Option (List ℕ)) (failed fails failing : ℕ)
    → rest ≡ take (length name - at) (drop at name) → shown_name rest ≡ part ++ shown_name (drop size rest)
    → IsOn name at sound between here middle failed fails
    → WritesOn between part heard middle there fails failing
    → IsOn name (at + size) sound heard here there failed failing
part_on name rest part at size sound between heard here middle there failed fails failing r p v w =
    let all : rest ≡ drop at name = r ∙ take_all (length name - at) (drop at name)
    (rw (length-drop at name) (omega arith)) in
    let back : drop size rest ≡ drop (at + size) name = ap (drop size) all ∙ drop-drop size at name in
    let e : shown_name (drop at name) ≡ part ++ shown_name (drop (at + size) name) =
    ap shown_name (sym all) ∙ (p ∙ ap (λ (z : List ℕ). part ++ shown_name z) back) in
    step_on name part at (at + size) sound between heard here middle there failed fails failing e v w

late_front : (name : List ℕ) (at : ℕ) → IsLate name at → shown_name (drop at name)
    ≡ (escaped (get_or name at 0) ++ escaped (get_or name (at + 1) 0)) ++ shown_name (drop (at + 2) name)
late_front name at l =
    let h : at + 1 < length name = l.0 in
    let a = get_or name at 0 in
    let b = get_or name (at + 1) 0 in
    let rest = drop (at + 1 + 1) name in
    let d : drop at name ≡ a ∷ b ∷ rest = drop_more name at 0 (omega (arith, h))
    ∙ ap (λ (z : List ℕ). a ∷ z) (drop_more name (at + 1) 0 h) in
    let f : shown_name (a ∷ b ∷ rest) ≡ escaped a ++ (escaped b ++ shown_name rest) = rw l.1 refl in
    let two : at + 1 + 1 ≡ at + 2 = omega arith in
    ap shown_name d ∙ (f ∙ (sym (append_assoc (escaped a) (escaped b) (shown_name rest))
    ∙ ap (λ (n : ℕ). (escaped a ++ escaped b) ++ shown_name (drop n name)) two))

last_front : (name : List ℕ) (at : ℕ) → at < length name → length name ≤ at + 1
    → shown_name (drop at name) ≡ shown_byte (get_or name at 0) ++ shown_name (drop (at + 1) name)
last_front name at h s =
    let a = get_or name at 0 in
    let none : drop (at + 1) name ≡ [] = drop_of_length-le name s in
    ap shown_name (drop_more name at 0 h ∙ ap (λ (z : List ℕ). a ∷ z) none)
    ∙ (sym (append-nil (shown_byte a)) ∙ ap (λ (z : List ℕ). shown_byte a ++ shown_name z) (sym none))

byte_front : (name : List ℕ) (at : ℕ) → at < length name → IsOther name at
    → shown_name (drop at name) ≡ shown_byte (get_or name at 0) ++ shown_name (drop (at + 1) name)
byte_front name at h (inl s) = last_front name at h s
byte_front name at h (inr l) = elim (cases_lt (at + 1) (length name)) [
  | inl more ↦ (
      let a = get_or name at 0 in
      let b = get_or name (at + 1) 0 in
      let rest = drop (at + 1 + 1) name in
      let e : drop (at + 1) name ≡ b ∷ rest = drop_more name (at + 1) 0 more in
      let f : shown_name (a ∷ b ∷ rest) ≡ shown_byte a ++ shown_name (b ∷ rest) = rw l refl in
      ap shown_name (drop_more name at 0 h ∙ ap (λ (z : List ℕ). a ∷ z) e)
      ∙ (f ∙ ap (λ (z : List ℕ). shown_byte a ++ shown_name z) (sym e)))
  | inr s ↦ last_front name at h s
]

-- a control character of two octets, and any other octet
pub late_on : (name : List ℕ) (at : ℕ) (sound between heard : Bool) (here middle there : Option (List ℕ))
    (failed fails failing : ℕ) → IsLate name at → IsOn name at sound between here middle failed fails
    → WritesOn between (escaped (get_or name at 0) ++ escaped (get_or name (at + 1) 0)) heard middle there fails failing
    → IsOn name (at + 2) sound heard here there failed failing
late_on name at sound between heard here middle there failed fails failing l v w =
    step_on name (escaped (get_or name at 0) ++ escaped (get_or name (at + 1) 0)) at (at + 2) sound between heard here
    middle there failed fails failing (late_front name at l) v w

pub byte_on : (name : List ℕ) (at : ℕ) (sound between heard : Bool) (here middle there : Option (List ℕ))
    (failed fails failing : ℕ) → at < length name → IsOther name at
    → IsOn name at sound between here middle failed fails
    → WritesOn between (shown_byte (get_or name at 0)) heard middle there fails failing
    → IsOn name (at + 1) sound heard here there failed failing
byte_on name at sound between heard here middle there failed fails failing h o v w =
    step_on name (shown_byte (get_or name at 0)) at (at + 1) sound between heard here middle there failed fails failing
    (byte_front name at h o) v w

pub whole_on : (name : List ℕ) (at : ℕ) (sound heard : Bool) (here there : Option (List ℕ)) (failed fails : ℕ)
    → length name ≤ at → IsOn name at sound heard here there failed fails
    → WritesOn sound (shown_name name) heard here there failed fails
whole_on name at sound heard here there failed fails h v =
    let e : v.text ≡ shown_name name = sym (append-nil v.text)
    ∙ (ap (λ (z : List ℕ). v.text ++ shown_name z) (sym (drop_of_length-le name h)) ∙ v.all) in
    rw e at v.written
