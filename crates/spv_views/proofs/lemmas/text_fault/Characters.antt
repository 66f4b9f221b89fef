-- The first characters of a text, octet by octet.
use Rattle.std.proofs.Common.{◌≡◌, ◌++◌, ◌∙◌, ◌<◌, ◌≤◌, ◌+◌, ◌-◌, ℕ, zero, suc, List, [], ◌∷◌, true, false, nat_eq}
use Rattle.std.proofs.Common.{length, take, drop, get_or, refl, sym, ap, arith, append_assoc, append-nil}
use Rattle.std.specs.Prelude.{IsCharBoundary, slice_index}
use Rattle.std.proofs.lemmas.Bool.Decides.{nat_tests}
use Rattle.spv_views.specs.text_fault.Lines.{first_of, is_begin}

-- the octet at a place, and what comes after it
record Split (t : List ℕ) (at : ℕ) : Type 0 where
  pub octet : ℕ
  pub is : get_or t at 0 ≡ octet
  pub left : drop at t ≡ octet ∷ drop (suc at) t
  pub front : take (suc at) t ≡ take at t ++ (octet ∷ [])

split : (t : List ℕ) (at : ℕ) → at < length t → Split t at
split [] at h = absurd (omega arith)
split (b ∷ t) zero h = record { octet = b; is = refl; left = refl; front = refl }
split (b ∷ t) (suc at) h =
    let k = split t at (omega arith) in
    record { octet = k.octet; is = k.is; left = k.left; front = ap (λ z. b ∷ z) k.front }

begin_step : (left b : ℕ) (t : List ℕ) → is_begin b ≡ true → nat_eq left 0 ≡ false
    → first_of left (b ∷ t) ≡ b ∷ first_of (left - 1) t
begin_step left b t e f = rw (e, f) refl

other_step : (left b : ℕ) (t : List ℕ) → is_begin b ≡ false → first_of left (b ∷ t) ≡ b ∷ first_of left t
other_step left b t e = rw e refl

no_step : (b : ℕ) (t : List ℕ) → is_begin b ≡ true → first_of 0 (b ∷ t) ≡ []
no_step b t e = rw e refl

pub first_begins : (n left at : ℕ) (t : List ℕ) → at < length t → first_of n t ≡ take at t ++ first_of left (drop at t)
    → is_begin (get_or t at 0) ≡ true → nat_eq left 0 ≡ false
    → first_of n t ≡ take (at + 1) t ++ first_of (left - 1) (drop (at + 1) t)
first_begins n left at t h e b f =
    let k = split t at h in
    let b' : is_begin k.octet ≡ true = rw k.is at b in
    let z : at + 1 ≡ suc at = omega arith in
    let s = ap (first_of left) k.left ∙ begin_step left k.octet (drop (suc at) t) b' f in
    rw z (e ∙ (ap (λ y. take at t ++ y) s ∙
    (sym (append_assoc (take at t) (k.octet ∷ []) (first_of (left - 1) (drop (suc at) t)))
    ∙ ap (λ y. y ++ first_of (left - 1) (drop (suc at) t)) (sym k.front))))

pub first_goes : (n left at : ℕ) (t : List ℕ) → at < length t → first_of n t ≡ take at t ++ first_of left (drop at t)
    → is_begin (get_or t at 0) ≡ false → first_of n t ≡ take (at + 1) t ++ first_of left (drop (at + 1) t)
first_goes n left at t h e b =
    let k = split t at h in
    let b' : is_begin k.octet ≡ false = rw k.is at b in
    let z : at + 1 ≡ suc at = omega arith in
    let s = ap (first_of left) k.left ∙ other_step left k.octet (drop (suc at) t) b' in
    rw z (e ∙ (ap (λ y. take at t ++ y) s ∙
    (sym (append_assoc (take at t) (k.octet ∷ []) (first_of left (drop (suc at) t)))
    ∙ ap (λ y. y ++ first_of left (drop (suc at) t)) (sym k.front))))

pub first_full : (n left at : ℕ) (t : List ℕ) → at < length t → first_of n t ≡ take at t ++ first_of left (drop at t)
    → is_begin (get_or t at 0) ≡ true → left ≡ 0 → take at t ≡ first_of n t
first_full n left at t h e b f =
    let k = split t at h in
    let b' : is_begin k.octet ≡ true = rw k.is at b in
    let s : first_of left (drop at t) ≡ [] = rw f (ap (first_of 0) k.left ∙ no_step k.octet (drop (suc at) t) b') in
    sym (e ∙ (ap (λ y. take at t ++ y) s ∙ append-nil (take at t)))

drop_all : (t : List ℕ) (at : ℕ) → length t ≤ at → drop at t ≡ []
drop_all [] zero h = refl
drop_all [] (suc at) h = refl
drop_all (b ∷ t) zero h = absurd (omega arith)
drop_all (b ∷ t) (suc at) h = drop_all t at (omega arith)

pub first_ends : (n left at : ℕ) (t : List ℕ) → length t ≤ at → first_of n t ≡ take at t ++ first_of left (drop at t)
    → take at t ≡ first_of n t
first_ends n left at t h e =
    sym (e ∙ (ap (λ y. take at t ++ first_of left y) (drop_all t at h) ∙ append-nil (take at t)))

pub begins_boundary : (t : List ℕ) (at : ℕ) → at ≤ length t → is_begin (slice_index t at) ≡ true → IsCharBoundary t at
begins_boundary t at h b = (h, λ i l. by_begin (slice_index t at) b l)
  where
    by_begin : (b : ℕ) → is_begin b ≡ true → 128 ≤ b → 192 ≤ b
    by_begin b e l = grind (arith, nat_tests)
