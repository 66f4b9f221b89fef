-- A token stands for one operand.
use Rattle.std.proofs.Common.{◌≡◌, ◌≢◌, ◌++◌, ◌∙◌, ◌<◌, ◌/◌, ◌%◌, ◌^◌, ℕ, zero, suc, List, [], ◌∷◌, Option, Some, Bool}
use Rattle.std.proofs.Common.{true, false, ◌&&◌, nat_eq, length, refl, sym, ap, arith, append_assoc, length-append}
use Rattle.std.specs.Prelude.{decimal}
use Rattle.std.specs.List.{AllByRecursion, list_all}
use Rattle.std.proofs.Math.Nat.{pow-succ'}
use Rattle.std.proofs.lemmas.Fmt.{decimal_injective}
use Rattle.std.proofs.lemmas.Bool.Decides.{nat_tests}
use Rattle.spv_lines.specs.Digits.{hex_digit, hex_digits}
use Rattle.spv_lines.specs.Name.{is_plain, is_name_octet, AreNamesOf, Names, NamesMask, joined, mask_values}
use Rattle.spv_lines.specs.Operand.{escaped, quoted}
use Rattle.spv_lines.proofs.Tame.{Both}
use Rattle.spv_lines.proofs.Bits.{mask_same}
use Rattle.spv_inst.proofs.Texts.{parts_same}

eq_by : (a b : ℕ) → nat_eq a b ≡ true → a ≡ b
eq_by a b e = grind (arith, nat_tests)

ne_by : (a b : ℕ) → nat_eq a b ≡ false → a ≢ b
ne_by a b e = grind (arith, nat_tests)

-- how an octet is escaped
pub data Escape (b : ℕ) (t out : List ℕ) : Type 0 where
  quote : b ≡ 34 → out ≡ 92 ∷ 34 ∷ escaped t → Escape b t out
  slash : b ≡ 92 → out ≡ 92 ∷ 92 ∷ escaped t → Escape b t out
  feed : b ≡ 10 → out ≡ 92 ∷ 110 ∷ escaped t → Escape b t out
  plain : b ≢ 34 → b ≢ 92 → b ≢ 10 → out ≡ b ∷ escaped t → Escape b t out

pub escape_of : (b : ℕ) (t : List ℕ) → Escape b t (escaped (b ∷ t))
escape_of b t = first (nat_eq b 34) refl
  where
    third : (z : Bool) → nat_eq b 10 ≡ z → nat_eq b 34 ≡ false → nat_eq b 92 ≡ false → Escape b t (escaped (b ∷ t))
    third true e f g = Escape.feed (eq_by b 10 e) (rw (f, g, e) refl)
    third false e f g = Escape.plain (ne_by b 34 f) (ne_by b 92 g) (ne_by b 10 e) (rw (f, g, e) refl)

    second : (y : Bool) → nat_eq b 92 ≡ y → nat_eq b 34 ≡ false → Escape b t (escaped (b ∷ t))
    second true e f = Escape.slash (eq_by b 92 e) (rw (f, e) refl)
    second false e f = third (nat_eq b 10) refl f e

    first : (x : Bool) → nat_eq b 34 ≡ x → Escape b t (escaped (b ∷ t))
    first true e = Escape.quote (eq_by b 34 e) (rw e refl)
    first false e = second (nat_eq b 92) refl e

pub first_same : (a b : ℕ) (x y : List ℕ) → a ∷ x ≡ b ∷ y → Both (a ≡ b) (x ≡ y)
first_same a b x y e = record { first = cc; second = cc }

-- an escaped octet at the front, behind the first of its octets
escape_first : (b : ℕ) (t out v : List ℕ) → Escape b t out
    → Both (out ≢ []) ((w : ℕ) (rest : List ℕ) → out ++ v ≡ w ∷ rest → w ≢ 34)
escape_first b t out v (Escape.quote e f) = record {
  first = λ g. let h : 92 ∷ 34 ∷ escaped t ≡ [] = sym f ∙ g in cc;
  second = λ w rest g. let h : 92 ∷ (34 ∷ escaped t ++ v) ≡ w ∷ rest = sym (ap (λ o. o ++ v) f) ∙ g in
      let r = first_same 92 w (34 ∷ escaped t ++ v) rest h in let k = r.first in λ z. omega arith;
}
escape_first b t out v (Escape.slash e f) = record {
  first = λ g. let h : 92 ∷ 92 ∷ escaped t ≡ [] = sym f ∙ g in cc;
  second = λ w rest g. let h : 92 ∷ (92 ∷ escaped t ++ v) ≡ w ∷ rest = sym (ap (λ o. o ++ v) f) ∙ g in
      let r = first_same 92 w (92 ∷ escaped t ++ v) rest h in let k = r.first in λ z. omega arith;
}
escape_first b t out v (Escape.feed e f) = record {
  first = λ g. let h : 92 ∷ 110 ∷ escaped t ≡ [] = sym f ∙ g in cc;
  second = λ w rest g. let h : 92 ∷ (110 ∷ escaped t ++ v) ≡ w ∷ rest = sym (ap (λ o. o ++ v) f) ∙ g in
      let r = first_same 92 w (110 ∷ escaped t ++ v) rest h in let k = r.first in λ z. omega arith;
}
escape_first b t out v (Escape.plain n m k f) = record {
  first = λ g. let h : b ∷ escaped t ≡ [] = sym f ∙ g in cc;
  second = λ w rest g. let h : b ∷ (escaped t ++ v) ≡ w ∷ rest = sym (ap (λ o. o ++ v) f) ∙ g in
      let r = first_same b w (escaped t ++ v) rest h in let j = r.first in λ z. n (j ∙ z);
}

-- no escaped octet begins as the closing quote
no_end : (b : ℕ) (t out u v : List ℕ) → Escape b t out → 34 ∷ u ≡ out ++ (34 ∷ v) → ⊥
no_end b t out u v h g = (escape_first b t out (34 ∷ v) h).second 34 u (sym g) refl

-- two escaped octets of two that begin the same text: what is behind them
pair_same : (a b c d : ℕ) (t s out end u v : List ℕ) → out ≡ a ∷ b ∷ escaped t → end ≡ c ∷ d ∷ escaped s
    → out ++ (34 ∷ u) ≡ end ++ (34 ∷ v)
    → Both (b ≡ d) (escaped t ++ (34 ∷ u) ≡ escaped s ++ (34 ∷ v))
pair_same a b c d t s out end u v f g e =
    let h : a ∷ (b ∷ (escaped t ++ (34 ∷ u))) ≡ c ∷ (d ∷ (escaped s ++ (34 ∷ v))) = sym (ap (λ o. o ++ (34 ∷ u)) f)
    ∙ (e ∙ ap (λ o. o ++ (34 ∷ v)) g) in
    let r = first_same a c (b ∷ (escaped t ++ (34 ∷ u))) (d ∷ (escaped s ++ (34 ∷ v))) h in
    first_same b d (escaped t ++ (34 ∷ u)) (escaped s ++ (34 ∷ v)) r.second

-- one of two octets, and one of one
mixed : (b d : ℕ) (t s out end u v : List ℕ) → out ≡ 92 ∷ b ∷ escaped t → end ≡ d ∷ escaped s → d ≢ 92
    → out ++ (34 ∷ u) ≡ end ++ (34 ∷ v) → ⊥
mixed b d t s out end u v f g n e =
    let h : 92 ∷ (b ∷ (escaped t ++ (34 ∷ u))) ≡ d ∷ (escaped s ++ (34 ∷ v)) = sym (ap (λ o. o ++ (34 ∷ u)) f)
    ∙ (e ∙ ap (λ o. o ++ (34 ∷ v)) g) in
    let r = first_same 92 d (b ∷ (escaped t ++ (34 ∷ u))) (escaped s ++ (34 ∷ v)) h in
    n (sym r.first)

single : (b d : ℕ) (t s out end u v : List ℕ) → out ≡ b ∷ escaped t → end ≡ d ∷ escaped s
    → out ++ (34 ∷ u) ≡ end ++ (34 ∷ v) → Both (b ≡ d) (escaped t ++ (34 ∷ u) ≡ escaped s ++ (34 ∷ v))
single b d t s out end u v f g e =
    let h : b ∷ (escaped t ++ (34 ∷ u)) ≡ d ∷ (escaped s ++ (34 ∷ v)) = sym (ap (λ o. o ++ (34 ∷ u)) f)
    ∙ (e ∙ ap (λ o. o ++ (34 ∷ v)) g) in
    first_same b d (escaped t ++ (34 ∷ u)) (escaped s ++ (34 ∷ v)) h

-- two escaped octets that begin the same text
heads : (a b : ℕ) (t s out end u v : List ℕ) → Escape a t out → Escape b s end → out ++ (34 ∷ u) ≡ end ++ (34 ∷ v)
    → Both (a ≡ b) (escaped t ++ (34 ∷ u) ≡ escaped s ++ (34 ∷ v))
heads a b t s out end u v (Escape.quote e f) (Escape.quote g h) i =
    record { first = e ∙ sym g; second = (pair_same 92 34 92 34 t s out end u v f h i).second }
heads a b t s out end u v (Escape.quote e f) (Escape.slash g h) i =
    let r = pair_same 92 34 92 92 t s out end u v f h i in let z = r.first in absurd (omega arith)
heads a b t s out end u v (Escape.quote e f) (Escape.feed g h) i =
    let r = pair_same 92 34 92 110 t s out end u v f h i in let z = r.first in absurd (omega arith)
heads a b t s out end u v (Escape.quote e f) (Escape.plain n m k h) i = absurd (mixed 34 b t s out end u v f h m i)
heads a b t s out end u v (Escape.slash e f) (Escape.quote g h) i =
    let r = pair_same 92 92 92 34 t s out end u v f h i in let z = r.first in absurd (omega arith)
heads a b t s out end u v (Escape.slash e f) (Escape.slash g h) i =
    record { first = e ∙ sym g; second = (pair_same 92 92 92 92 t s out end u v f h i).second }
heads a b t s out end u v (Escape.slash e f) (Escape.feed g h) i =
    let r = pair_same 92 92 92 110 t s out end u v f h i in let z = r.first in absurd (omega arith)
heads a b t s out end u v (Escape.slash e f) (Escape.plain n m k h) i = absurd (mixed 92 b t s out end u v f h m i)
heads a b t s out end u v (Escape.feed e f) (Escape.quote g h) i =
    let r = pair_same 92 110 92 34 t s out end u v f h i in let z = r.first in absurd (omega arith)
heads a b t s out end u v (Escape.feed e f) (Escape.slash g h) i =
    let r = pair_same 92 110 92 92 t s out end u v f h i in let z = r.first in absurd (omega arith)
heads a b t s out end u v (Escape.feed e f) (Escape.feed g h) i =
    record { first = e ∙ sym g; second = (pair_same 92 110 92 110 t s out end u v f h i).second }
heads a b t s out end u v (Escape.feed e f) (Escape.plain n m k h) i = absurd (mixed 110 b t s out end u v f h m i)
heads a b t s out end u v (Escape.plain n m k f) (Escape.quote g h) i =
    absurd (mixed 34 a s t end out v u h f m (sym i))
heads a b t s out end u v (Escape.plain n m k f) (Escape.slash g h) i =
    absurd (mixed 92 a s t end out v u h f m (sym i))
heads a b t s out end u v (Escape.plain n m k f) (Escape.feed g h) i =
    absurd (mixed 110 a s t end out v u h f m (sym i))
heads a b t s out end u v (Escape.plain n m k f) (Escape.plain x y z h) i = single a b t s out end u v f h i

escaped_same : (t s u v : List ℕ) → escaped t ++ (34 ∷ u) ≡ escaped s ++ (34 ∷ v) → Both (t ≡ s) (u ≡ v)
escaped_same [] [] u v e = record { first = refl; second = cc }
escaped_same [] (b ∷ s) u v e = absurd (no_end b s (escaped (b ∷ s)) u v (escape_of b s) e)
escaped_same (a ∷ t) [] u v e = absurd (no_end a t (escaped (a ∷ t)) v u (escape_of a t) (sym e))
escaped_same (a ∷ t) (b ∷ s) u v e =
    let r = heads a b t s (escaped (a ∷ t)) (escaped (b ∷ s)) u v (escape_of a t) (escape_of b s) e in
    let q = escaped_same t s u v r.second in
    let x = r.first in
    let y = q.first in
    record { first = cc; second = q.second }

-- a text in quotes ends at its closing quote
pub quoted_same : (t s u v : List ℕ) → quoted t ++ u ≡ quoted s ++ v → Both (t ≡ s) (u ≡ v)
quoted_same t s u v e =
    let f : (escaped t ++ (34 ∷ [])) ++ u ≡ (escaped s ++ (34 ∷ [])) ++ v = cc in
    let g : escaped t ++ (34 ∷ u) ≡ escaped s ++ (34 ∷ v) = simp append_assoc at f in
    escaped_same t s u v g

-- hexadecimal digits
hex_digit_same : (d e : ℕ) → d < 16 → e < 16 → hex_digit d ≡ hex_digit e → d ≡ e
hex_digit_same d e h g i = grind (arith, nat_tests)

pub length-hex : (n x : ℕ) → length (hex_digits n x) ≡ n
unfolding hex_digits
length-hex zero x = refl
length-hex (suc n) x = let l = length-append (hex_digits n (x / 16)) (hex_digit (x % 16) ∷ []) in
    let i = length-hex n (x / 16) in omega (arith, l, i)

hex_below : (n x : ℕ) → x < 16 ^ suc n → x / 16 < 16 ^ n
hex_below n x h = let e = pow-succ' 16 n in omega (arith, e)

pub hex_same : (n x y : ℕ) → x < 16 ^ n → y < 16 ^ n → hex_digits n x ≡ hex_digits n y → x ≡ y
unfolding hex_digits
hex_same zero x y h g e = omega arith
hex_same (suc n) x y h g e =
    let l : length (hex_digits n (x / 16)) ≡ length (hex_digits n (y / 16)) = length-hex n (x / 16)
    ∙ sym (length-hex n (y / 16)) in
    let r = parts_same (hex_digits n (x / 16)) (hex_digits n (y / 16)) (hex_digit (x % 16) ∷ [])
    (hex_digit (y % 16) ∷ []) l e in
    let f = r.second in
    let d : hex_digit (x % 16) ≡ hex_digit (y % 16) = cc in
    let a : x % 16 < 16 = omega arith in
    let b : y % 16 < 16 = omega arith in
    let m = hex_digit_same (x % 16) (y % 16) a b d in
    let q = hex_same n (x / 16) (y / 16) (hex_below n x h) (hex_below n y g) r.first in
    omega arith

-- names
pub names_same : (lookup : List ℕ → Option ℕ) (x y : ℕ) (t u : List ℕ) → x < 2 ^ 64 → y < 2 ^ 64 → Names lookup x t
    → Names lookup y u → t ≡ u → x ≡ y
names_same lookup x y _ _ h g (Names.named t n) (Names.named u m) e =
    let a = n.found in
    let b = m.found in
    let c : lookup u ≡ Some x = rw e at a in
    cc
names_same lookup x y _ _ h g (Names.named t n) Names.numbered e = let q = n.plain in
    let p : false ≡ true = rw e at q in cc
names_same lookup x y _ _ h g Names.numbered (Names.named u m) e = let q = m.plain in
    let p : false ≡ true = rw (← e) at q in cc
names_same lookup x y _ _ h g Names.numbered Names.numbered e =
    let f : decimal x ≡ decimal y = cc in
    decimal_injective x y h g f

pub found_same : (lookup : List ℕ → Option ℕ) (xs ys : List ℕ) (ts us : List (List ℕ)) → AreNamesOf lookup xs ts
    → AreNamesOf lookup ys us → ts ≡ us → xs ≡ ys
found_same lookup [] [] [] us h g e = refl
found_same lookup [] [] (t ∷ ts) us h g e = refl
found_same lookup [] (y ∷ ys) [] [] h g e = absurd g
found_same lookup [] (y ∷ ys) [] (u ∷ us) h g e = cc
found_same lookup [] (y ∷ ys) (t ∷ ts) us h g e = absurd h
found_same lookup (x ∷ xs) ys [] us h g e = absurd h
found_same lookup (x ∷ xs) [] (t ∷ ts) [] h g e = cc
found_same lookup (x ∷ xs) [] (t ∷ ts) (u ∷ us) h g e = absurd g
found_same lookup (x ∷ xs) (y ∷ ys) (t ∷ ts) [] h g e = absurd g
found_same lookup (x ∷ xs) (y ∷ ys) (t ∷ ts) (u ∷ us) h g e =
    let a = h.0.found in
    let b = g.0.found in
    let i : t ≡ u = cc in
    let j : ts ≡ us = cc in
    let c : lookup u ≡ Some x = rw i at a in
    let z : x ≡ y = cc in
    let w = found_same lookup xs ys ts us h.1 g.1 j in
    cc

-- no `|` in a name
no_bar : (b : ℕ) → is_name_octet b ≡ true → b ≢ 124
no_bar b h = grind (arith, nat_tests)

not_hash : (b : ℕ) → is_name_octet b ≡ true → b ≢ 35
not_hash b h = grind (arith, nat_tests)

and_both : (a b : Bool) → (a && b) ≡ true → Both (a ≡ true) (b ≡ true)
and_both true b h = record { first = refl; second = h }
and_both false b h = cc

-- no octet is `|`, and there is one
pub record IsCell (t : List ℕ) : Type 0 where
  pub some : t ≢ []
  pub no_bar : AllByRecursion (λ b. b ≢ 124) t

bars : (t : List ℕ) → list_all is_name_octet t ≡ true → AllByRecursion (λ b. b ≢ 124) t
bars [] h = tt
bars (b ∷ t) h = let r = and_both (is_name_octet b) (list_all is_name_octet t) h in (no_bar b r.first, bars t r.second)

pub plain_cell : (t : List ℕ) → is_plain t ≡ true → IsCell t
plain_cell [] h = cc
plain_cell (b ∷ t) h = record { some = λ e. cc; no_bar = bars (b ∷ t) h }

-- the first mark is at one place
before_mark : (m : ℕ) (t s p q : List ℕ) → AllByRecursion (λ b. b ≢ m) t → AllByRecursion (λ b. b ≢ m) s
    → t ++ (m ∷ p) ≡ s ++ (m ∷ q) → Both (t ≡ s) (p ≡ q)
before_mark m [] [] p q h g e = record { first = refl; second = cc }
before_mark m [] (y ∷ s) p q h g e = let z : y ≡ m = cc in absurd (g.0 z)
before_mark m (x ∷ t) [] p q h g e = let z : x ≡ m = cc in absurd (h.0 z)
before_mark m (x ∷ t) (y ∷ s) p q h g e =
    let z : x ≡ y = cc in
    let f : t ++ (m ∷ p) ≡ s ++ (m ∷ q) = cc in
    let r = before_mark m t s p q h.1 g.1 f in
    let k = r.first in
    record { first = cc; second = r.second }

no_mark : (m : ℕ) (t s q : List ℕ) → AllByRecursion (λ b. b ≢ m) t → t ≡ s ++ (m ∷ q) → ⊥
no_mark m [] [] q h e = cc
no_mark m [] (y ∷ s) q h e = cc
no_mark m (x ∷ t) [] q h e = let z : x ≡ m = cc in h.0 z
no_mark m (x ∷ t) (y ∷ s) q h e = let f : t ≡ s ++ (m ∷ q) = cc in no_mark m t s q h.1 f

joined_some : (t : List ℕ) (ts : List (List ℕ)) → t ≢ [] → joined (t ∷ ts) ≡ [] → ⊥
joined_some [] ts n e = n refl
joined_some (b ∷ t) [] n e = cc
joined_some (b ∷ t) (u ∷ us) n e = cc

pub joined_same : (lookup : List ℕ → Option ℕ) (xs ys : List ℕ) (ts us : List (List ℕ)) → AreNamesOf lookup xs ts
    → AreNamesOf lookup ys us → joined ts ≡ joined us → ts ≡ us
joined_same lookup xs ys [] [] h g e = refl
joined_same lookup xs [] [] (u ∷ us) h g e = absurd g
joined_same lookup xs (y ∷ ys) [] (u ∷ us) h g e = absurd (joined_some u us (plain_cell u g.0.plain).some (sym e))
joined_same lookup [] ys (t ∷ ts) us h g e = absurd h
joined_same lookup (x ∷ xs) ys (t ∷ ts) [] h g e = absurd (joined_some t ts (plain_cell t h.0.plain).some e)
joined_same lookup (x ∷ xs) [] (t ∷ ts) (u ∷ us) h g e = absurd g
joined_same lookup (x ∷ xs) (y ∷ ys) (t ∷ []) (u ∷ []) h g e = let f : t ≡ u = e in cc
joined_same lookup (x ∷ xs) (y ∷ ys) (t ∷ []) (u ∷ w ∷ us) h g e =
    absurd (no_mark 124 t u (joined (w ∷ us)) (plain_cell t h.0.plain).no_bar e)
joined_same lookup (x ∷ xs) (y ∷ ys) (t ∷ w ∷ ts) (u ∷ []) h g e =
    absurd (no_mark 124 u t (joined (w ∷ ts)) (plain_cell u g.0.plain).no_bar (sym e))
joined_same lookup (x ∷ xs) (y ∷ ys) (t ∷ v ∷ ts) (u ∷ w ∷ us) h g e =
    let r = before_mark 124 t u (joined (v ∷ ts)) (joined (w ∷ us)) (plain_cell t h.0.plain).no_bar
    (plain_cell u g.0.plain).no_bar e in
    let q = joined_same lookup xs ys (v ∷ ts) (w ∷ us) h.1 g.1 r.second in
    let f = r.first in
    cc

-- joined names do not begin with `#`
pub no_number : (lookup : List ℕ → Option ℕ) (xs : List ℕ) (ts : List (List ℕ)) (u : List ℕ) → AreNamesOf lookup xs ts
    → joined ts ≡ 35 ∷ u → ⊥
no_number lookup xs [] u h e = cc
no_number lookup [] (t ∷ ts) u h e = h
no_number lookup (x ∷ xs) ([] ∷ ts) u h e = let p = h.0.plain in cc
no_number lookup (x ∷ xs) ((b ∷ t) ∷ []) u h e =
    let r = and_both (is_name_octet b) (list_all is_name_octet t) h.0.plain in
    let z : b ≡ 35 = cc in
    not_hash b r.first z
no_number lookup (x ∷ xs) ((b ∷ t) ∷ w ∷ ts) u h e =
    let r = and_both (is_name_octet b) (list_all is_name_octet t) h.0.plain in
    let z : b ≡ 35 = cc in
    not_hash b r.first z

pub masks_same : (lookup : List ℕ → Option ℕ) (x y : ℕ) (t u : List ℕ) → x < 4294967296 → y < 4294967296
    → NamesMask lookup x t → NamesMask lookup y u → t ≡ u → x ≡ y
masks_same lookup x y _ _ h g (NamesMask.named ts n) (NamesMask.named us m) e =
    mask_same x y h g (found_same lookup (mask_values x) (mask_values y) ts us n m
    (joined_same lookup (mask_values x) (mask_values y) ts us n m e))
masks_same lookup x y _ _ h g (NamesMask.named ts n) NamesMask.numbered e =
    absurd (no_number lookup (mask_values x) ts (decimal y) n e)
masks_same lookup x y _ _ h g NamesMask.numbered (NamesMask.named us m) e =
    absurd (no_number lookup (mask_values y) us (decimal x) m (sym e))
masks_same lookup x y _ _ h g NamesMask.numbered NamesMask.numbered e =
    let f : decimal x ≡ decimal y = cc in
    decimal_injective x y (omega arith) (omega arith) f
