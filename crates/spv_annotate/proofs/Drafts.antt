-- Texts that are put together in a buffer, from the front.
use Rattle.std.proofs.Common.{◌≡◌, ◌++◌, ◌∙◌, ◌<◌, ◌≤◌, ◌+◌, ℕ, List, [], ◌∷◌, Bool, true, false, ◌&&◌, length, take}
use Rattle.std.proofs.Common.{set, get_or, refl, sym, ap, subst, arith, append_assoc, append-nil, length-take-le}
use Rattle.std.specs.Prelude.{IfOk, IsUtf8, Result as Answer, Ok, Err, nat_lt, ◌==◌}
use Rattle.std.specs.List.{AllByRecursion, list_all}
use Rattle.std.proofs.Math.Seq.{take-length}
use Rattle.std.proofs.lemmas.Bool.Decides.{nat_tests}
use Rattle.std.proofs.lemmas.List.{take_more}
use Rattle.std.proofs.lemmas.Str.{IsUtf8-append, IsUtf8-nil}
use Rattle.spv_printer.proofs.Drafts.{front_copied}
use Rattle.spv_printer.proofs.Shorts.{all_snoc, copied_next}
use Rattle.spv_module.specs.declared.opcode.TheConstants.{FUNCTION, LABEL}
use Rattle.spv_annotate.specs.declared.draft.TheConstants.{FULL}
use Rattle.spv_annotate.specs.Page.{headed}
use Rattle.spv_annotate.specs.inner.Draft.{IsAdded, IsCopied, IsDrafted, heading_begin, heading_end, is_plain}
use Rattle.spv_annotate.specs.inner.Linked.{is_bare_byte}

-- a text of characters behind another
pub added_by : (text : List ℕ) (at end : ℕ) (old new : List ℕ) → take end new ≡ take at old ++ text → IsUtf8 text
    → IsAdded text at end old new
added_by text at end old new e u =
    record { all = e; utf8 = λ v. subst IsUtf8 (sym e) (IsUtf8-append (take at old) text v u) }

-- a text that is copied
pub copied_text : (old octets text rest : List ℕ) (at : ℕ) → at ≤ length old → octets ≡ text
    → take (at + length octets) (take at old ++ (octets ++ rest)) ≡ take at old ++ text
copied_text old octets text rest at h e =
    front_copied old octets rest at (length octets) h (omega arith)
    ∙ (ap (λ z. take at old ++ z) (take-length octets) ∙ ap (λ z. take at old ++ z) e)

-- one text more
pub added_more : (p q : List ℕ) (at mid end : ℕ) (old one new : List ℕ) → IsAdded p at mid old one
    → IsAdded q mid end one new → IsAdded (p ++ q) at end old new
added_more p q at mid end old one new a b = record {
  all = b.all ∙ (ap (λ z. z ++ q) a.all ∙ append_assoc (take at old) p q);
  utf8 = λ u. b.utf8 (a.utf8 u);
}

-- plain octets

both : (a b : Bool) → (a && b) ≡ true → (a ≡ true) × (b ≡ true)
both true b h = (refl, h)
both false b h = cc

below : (b : ℕ) → nat_lt b 128 ≡ true → b < 128
below b h = grind (arith, nat_tests)

pub plain_ascii : (b : ℕ) → is_plain b ≡ true → b < 128
plain_ascii b h = below b (both (nat_lt b 128) (is_bare_byte b) h).0

pub plain_bare : (b : ℕ) → is_plain b ≡ true → is_bare_byte b ≡ true
plain_bare b h = (both (nat_lt b 128) (is_bare_byte b) h).1

pub all_ascii : (xs : List ℕ) → AllByRecursion (λ b. is_plain b ≡ true) xs → AllByRecursion (λ b. b < 128) xs
all_ascii [] h = tt
all_ascii (b ∷ xs) h = (plain_ascii b h.0, all_ascii xs h.1)

-- headings
pub headed_parts : (code : ℕ) (html : List ℕ) → heading_begin code ++ (html ++ heading_end code) ≡ headed code html
headed_parts code html = by (code == FUNCTION) (code == LABEL) refl refl
  where
    by : (x y : Bool) → (code == FUNCTION) ≡ x → (code == LABEL) ≡ y
        → heading_begin code ++ (html ++ heading_end code) ≡ headed code html
    by true y e f = rw e refl
    by false true e f = rw (e, f) refl
    by false false e f = rw (e, f) (append-nil html)

-- octets that are copied one by one

pub copied_none : (octets : List ℕ) (at : ℕ) (old : List ℕ) → IsCopied octets at 0 old old
copied_none octets at old =
    let z : at + 0 ≡ at = omega arith in
    record { within = omega arith; plain = tt; all = rw z (sym (append-nil (take at old))) }

pub copied_more : (old buffer octets : List ℕ) (at count : ℕ) → at + count < length buffer → count < length octets
    → is_plain (get_or octets count 0) ≡ true
    → IsCopied octets at count old buffer
    → IsCopied octets at (count + 1) old (set buffer (at + count) (get_or octets count 0))
copied_more old buffer octets at count h l p c =
    let m = take_more octets count 0 l in
    record {
      within = omega (arith, l);
      plain = rw m (all_snoc (λ b. is_plain b ≡ true) _ _ c.plain p);
      all = copied_next old buffer octets at count h l c.all;
    }

-- octets that are copied at once

all_plain : (xs : List ℕ) → list_all is_plain xs ≡ true → AllByRecursion (λ b. is_plain b ≡ true) xs
all_plain [] h = tt
all_plain (x ∷ xs) h = let r = both (is_plain x) (list_all is_plain xs) h in (r.0, all_plain xs r.1)

pub copied_lead : (old new octets lead : List ℕ) (at count : ℕ) → count ≤ length octets
    → lead ≡ take count octets → list_all is_plain lead ≡ true
    → take (at + length lead) new ≡ take at old ++ lead → IsCopied octets at count old new
copied_lead old new octets lead at count l s p e =
    let k : length lead ≡ count = ap length s ∙ length-take-le count octets l in
    record {
      within = l;
      plain = subst (λ (z : List ℕ). AllByRecursion (λ b. is_plain b ≡ true) z) s (all_plain lead p);
      all = ap (λ n. take (at + n) new) (sym k) ∙ (e ∙ ap (λ z. take at old ++ z) s);
    }

-- texts that are put together partly in a page, and partly in a buffer

pub settled : {E : Type 0} (r : Answer ℕ E) (text out : List ℕ) (at : ℕ) (old more new all : List ℕ)
    → IfOk r (λ end. end ≤ FULL) → IfOk r (λ end. IsUtf8 (take end new))
    → IfOk r (λ end. more ++ take end new ≡ all) → all ≡ (out ++ take at old) ++ text
    → IfOk r (λ end. IsDrafted text out at old more end new)
settled (Ok end) text out at old more new all h u e f = record { high = h; utf8 = u; all = e ∙ f }
settled (Err x) text out at old more new all h u e f = tt

pub added_apart : (text out : List ℕ) (at mid : ℕ) (old new : List ℕ) → IsAdded text at mid old new
    → out ++ take mid new ≡ (out ++ take at old) ++ text
added_apart text out at mid old new a = ap (λ z. out ++ z) a.all ∙ sym (append_assoc out (take at old) text)

-- what is added to the page at once
pub drafted_at_once : (text out : List ℕ) (at : ℕ) (old more new : List ℕ) → more ≡ (out ++ take at old) ++ text
    → IsDrafted text out at old more 0 new
drafted_at_once text out at old more new e = record { high = omega arith; utf8 = IsUtf8-nil; all = append-nil more ∙ e }

pub line_drafted : (opening heading html ending uses out one t0 t1 t2 t3 t4 t5 : List ℕ) → t1 ≡ t0 ++ opening
    → t2 ≡ t1 ++ heading → one ++ t3 ≡ out ++ (t2 ++ html) → t4 ≡ t3 ++ ending
    → t5 ≡ t4 ++ uses → one ++ t5 ≡ (out ++ t0) ++ (opening ++ ((heading ++ (html ++ ending)) ++ uses))
line_drafted opening heading html ending uses out one t0 t1 t2 t3 t4 t5 a b c d e =
    let g : one ++ t5 ≡ one ++ ((t3 ++ ending) ++ uses) = ap (λ z. one ++ z) (e ∙ ap (λ z. z ++ uses) d) in
    let h : one ++ ((t3 ++ ending) ++ uses) ≡ ((one ++ t3) ++ ending) ++ uses = simp append_assoc in
    let i : one ++ t3 ≡ out ++ (((t0 ++ opening) ++ heading) ++ html) = c
    ∙ ap (λ z. out ++ (z ++ html)) (b ∙ ap (λ z. z ++ heading) a) in
    let j : ((out ++ (((t0 ++ opening) ++ heading) ++ html)) ++ ending) ++ uses ≡ (out ++ t0)
    ++ (opening ++ ((heading ++ (html ++ ending)) ++ uses)) = simp append_assoc in
    g ∙ (h ∙ (ap (λ z. (z ++ ending) ++ uses) i ∙ j))

pub opening_apart : (front number class rest : List ℕ)
    → (front ++ (number ++ (class ++ (62 ∷ [])))) ++ rest ≡ front ++ (number ++ (class ++ (62 ∷ rest)))
opening_apart front number class rest =
    append_assoc front (number ++ (class ++ (62 ∷ []))) rest
    ∙ ap (λ z. front ++ z) (append_assoc number (class ++ (62 ∷ [])) rest
    ∙ ap (λ z. number ++ z) (append_assoc class (62 ∷ []) rest))

pub between_drafted : (begin html ending out one t0 t1 t2 t3 : List ℕ) → t1 ≡ t0 ++ begin
    → one ++ t2 ≡ out ++ (t1 ++ html) → t3 ≡ t2 ++ ending
    → one ++ t3 ≡ (out ++ t0) ++ (begin ++ (html ++ ending))
between_drafted begin html ending out one t0 t1 t2 t3 a b c =
    let i : one ++ t2 ≡ out ++ ((t0 ++ begin) ++ html) = b ∙ ap (λ z. out ++ (z ++ html)) a in
    let j : (out ++ ((t0 ++ begin) ++ html)) ++ ending ≡ (out ++ t0)
    ++ (begin ++ (html ++ ending)) = simp append_assoc in
    ap (λ z. one ++ z) c ∙ (sym (append_assoc one t2 ending) ∙ (ap (λ z. z ++ ending) i ∙ j))
