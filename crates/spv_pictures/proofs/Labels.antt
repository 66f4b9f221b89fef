-- Labels are read back, and no text of a label ends it.
use Rattle.std.proofs.Common.{◌≡◌, ◌++◌, ◌<◌, ◌≤◌, ◌+◌, ◌/◌, ◌%◌, ◌∙◌, ℕ, zero, suc, Bool, true, false, not, cond, List}
use Rattle.std.proofs.Common.{[], ◌∷◌, flat_map, nat_lt, nat_le, refl, ap, arith}
use Rattle.std.specs.Prelude.{◌==◌, ◌&&◌, ◌||◌, codes, if◌then◌else◌}
use Rattle.std.specs.List.{list_all}
use Rattle.std.proofs.lemmas.Bool.Decides.{nat_tests}
use Rattle.std.proofs.lemmas.List.Concat.{flat_map-append}
use Rattle.std.proofs.lemmas.Str.{chars-IsAscii, encode_ascii}
use Rattle.std.specs.Str.{IsAscii}
use lib.Dec.{ltb}
use lib.Utf8.{encode, next}
use Rattle.spv_lines.specs.Digits.{hex_digit}
use Rattle.spv_lines.specs.Plain.{escaped}
use Rattle.spv_pictures.specs.Label.{drawn, drawn_text, is_hidden, label_text, marked}
use Rattle.spv_pictures.specs.Reading.{InText, is_mark, read_back, read_in}
use Rattle.spv_pictures.specs.inner.Free.{is_free, is_plain}

-- All bytes stand in a label as they are.
pub record AreFree (t : List ℕ) : Type 0 where
  pub all : list_all is_free t ≡ true

both : (a b : Bool) → (a && b) ≡ true → (a ≡ true) × (b ≡ true)
both true b h = (refl, h)
both false b h = cc

join : (a b : Bool) → a ≡ true → b ≡ true → (a && b) ≡ true
join a b h g = rw (h, g) refl

no_bytes : AreFree []
no_bytes = record { all = refl }

one_more : (b : ℕ) (t : List ℕ) → is_free b ≡ true → AreFree t → AreFree (b ∷ t)
one_more b t h g = record { all = join (is_free b) (list_all is_free t) h g.all }

late_free : (b : ℕ) → 128 ≤ b → is_free b ≡ true
late_free b h = grind (arith, nat_tests)

next_free : (c : ℕ) → is_free (next c) ≡ true
next_free c = late_free (next c) (omega arith)

pub encode_free : (c : ℕ) → is_free c ≡ true → AreFree (encode c)
unfolding encode
encode_free c h = by (ltb c 128) (ltb c 2048) (ltb c 65536)
  where
    by : (x y z : Bool)
        → AreFree (cond x (c ∷ []) (cond y ((192 + c / 64) ∷ next c ∷ [])
        (cond z ((224 + c / 4096) ∷ next (c / 64) ∷ next c ∷ [])
        ((240 + c / 262144) ∷ next (c / 4096) ∷ next (c / 64) ∷ next c ∷ []))))
    by true y z = one_more c [] h no_bytes
    by false true z = one_more _ _ (late_free (192 + c / 64) (omega arith)) (one_more _ _ (next_free c) no_bytes)
    by false false true =
        one_more _ _ (late_free (224 + c / 4096) (omega arith))
        (one_more _ _ (next_free (c / 64)) (one_more _ _ (next_free c) no_bytes))
    by false false false =
        one_more _ _ (late_free (240 + c / 262144) (omega arith))
        (one_more _ _ (next_free (c / 4096))
        (one_more _ _ (next_free (c / 64)) (one_more _ _ (next_free c) no_bytes)))

-- which of the six a byte is, if it is one
pub data Kind (c : ℕ) : Type 0 where
  and_sign : c ≡ 38 → Kind c
  less : c ≡ 60 → Kind c
  greater : c ≡ 62 → Kind c
  quote : c ≡ 34 → Kind c
  tick : c ≡ 39 → Kind c
  slash : c ≡ 92 → Kind c
  other : is_free c ≡ true → Kind c

kind_of : (c : ℕ) → Kind c
kind_of c = by (c == 38) (c == 60) (c == 62) (c == 34) (c == 39) (c == 92) refl refl refl refl refl refl
  where
    by : (u v w x y z : Bool) → (c == 38) ≡ u → (c == 60) ≡ v → (c == 62) ≡ w → (c == 34) ≡ x → (c == 39) ≡ y
        → (c == 92) ≡ z → Kind c
    by true v w x y z a b d e f g = Kind.and_sign (grind (arith, nat_tests))
    by false true w x y z a b d e f g = Kind.less (grind (arith, nat_tests))
    by false false true x y z a b d e f g = Kind.greater (grind (arith, nat_tests))
    by false false false true y z a b d e f g = Kind.quote (grind (arith, nat_tests))
    by false false false false true z a b d e f g = Kind.tick (grind (arith, nat_tests))
    by false false false false false true a b d e f g = Kind.slash (grind (arith, nat_tests))
    by false false false false false false a b d e f g = Kind.other (rw (a, b, d, e, f, g) refl)

pub marked_as_is : (c : ℕ) → is_free c ≡ true → marked c ≡ c ∷ []
marked_as_is c h = by (c == 38) (c == 60) (c == 62) (c == 34) (c == 39) (c == 92) h
  where
    by : (u v w x y z : Bool) → not (u || (v || (w || (x || (y || z))))) ≡ true
        → (if u then codes "&amp;" else (if v
        then codes "&lt;" else (if w then codes "&gt;" else (if x
        then codes "&quot;" else (if y then codes "&#39;" else (if z then codes "\\\\" else c ∷ [])))))) ≡ c ∷ []
    by true v w x y z h = cc
    by false true w x y z h = cc
    by false false true x y z h = cc
    by false false false true y z h = cc
    by false false false false true z h = cc
    by false false false false false true h = cc
    by false false false false false false h = refl

pub all_as_is : (t : List ℕ) → AreFree t → flat_map marked t ≡ t
all_as_is [] h = refl
all_as_is (b ∷ t) h =
    let r = both (is_free b) (list_all is_free t) h.all in
    ap (λ z. z ++ flat_map marked t) (marked_as_is b r.0) ∙ ap (λ z. b ∷ z) (all_as_is t (record { all = r.1 }))

hex_as_is : (d : ℕ) → marked (hex_digit d) ≡ hex_digit d ∷ []
hex_as_is d = marked_as_is (hex_digit d) (grind (arith, nat_tests))

-- a byte as `\xNN` in a label
pub escaped_marked : (b : ℕ)
    → flat_map marked (escaped b) ≡ 92 ∷ 92 ∷ 120 ∷ hex_digit (b / 16) ∷ hex_digit (b % 16) ∷ []
escaped_marked b =
    let x = hex_as_is (b / 16) in
    let y = hex_as_is (b % 16) in
    rw (x, y) refl

-- a byte in a label is read as itself
read_marked : (b : ℕ) (t : List ℕ) → read_in InText (marked b ++ t) ≡ b ∷ read_in InText t
read_marked b t = by (kind_of b)
  where
    not_and : is_free b ≡ true → (b == 38) ≡ false
    not_and h = grind (arith, nat_tests)

    not_slash : is_free b ≡ true → (b == 92) ≡ false
    not_slash h = grind (arith, nat_tests)

    by : Kind b → read_in InText (marked b ++ t) ≡ b ∷ read_in InText t
    by (Kind.and_sign e) = rw e refl
    by (Kind.less e) = rw e refl
    by (Kind.greater e) = rw e refl
    by (Kind.quote e) = rw e refl
    by (Kind.tick e) = rw e refl
    by (Kind.slash e) = rw e refl
    by (Kind.other f) =
        (let x = not_and f in
        let y = not_slash f in
        ap (λ z. read_in InText (z ++ t)) (marked_as_is b f) ∙ rw (x, y) refl)

read_all : (bs : List ℕ) → read_in InText (flat_map marked bs) ≡ bs
read_all [] = refl
read_all (b ∷ bs) = read_marked b (flat_map marked bs) ∙ ap (λ z. b ∷ z) (read_all bs)

pub label_read : (t : List ℕ) → read_back (label_text t) ≡ drawn_text t
label_read t = read_all (drawn_text t)

-- A text has no mark.
pub record HasNoMark (t : List ℕ) : Type 0 where
  pub all : list_all (λ b. not (is_mark b)) t ≡ true

pub unmarked-append : (s t : List ℕ) → HasNoMark s → HasNoMark t → HasNoMark (s ++ t)
unmarked-append [] t h g = g
unmarked-append (b ∷ s) t h g =
    let r = both (not (is_mark b)) (list_all (λ b. not (is_mark b)) s) h.all in
    record {
      all = join (not (is_mark b)) (list_all (λ b. not (is_mark b)) (s ++ t)) r.0
          (unmarked-append s t (record { all = r.1 }) g).all;
    }

one_unmarked : (b : ℕ) → is_free b ≡ true → HasNoMark (b ∷ [])
one_unmarked b h =
    let e : not (is_mark b) ≡ true = grind (arith, nat_tests) in
    record { all = join (not (is_mark b)) true e refl }

marked_unmarked : (b : ℕ) → HasNoMark (marked b)
marked_unmarked b = by (kind_of b)
  where
    by : Kind b → HasNoMark (marked b)
    by (Kind.and_sign e) = rw e (record { all = refl })
    by (Kind.less e) = rw e (record { all = refl })
    by (Kind.greater e) = rw e (record { all = refl })
    by (Kind.quote e) = rw e (record { all = refl })
    by (Kind.tick e) = rw e (record { all = refl })
    by (Kind.slash e) = rw e (record { all = refl })
    by (Kind.other f) = (let e = marked_as_is b f in rw e (one_unmarked b f))

all_unmarked : (bs : List ℕ) → HasNoMark (flat_map marked bs)
all_unmarked [] = record { all = refl }
all_unmarked (b ∷ bs) = unmarked-append (marked b) (flat_map marked bs) (marked_unmarked b) (all_unmarked bs)

pub label_unmarked : (t : List ℕ) → HasNoMark (label_text t)
label_unmarked t = all_unmarked (drawn_text t)

-- a label character by character
pub by_character : (cs : List ℕ) → flat_map marked (flat_map drawn cs) ≡ flat_map (λ c. flat_map marked (drawn c)) cs
by_character [] = refl
by_character (c ∷ cs) =
    flat_map-append marked (drawn c) (flat_map drawn cs) ∙ ap (λ z. flat_map marked (drawn c) ++ z) (by_character cs)

-- a text that stands in a label as it is
plain_parts : (b : ℕ) → is_plain b ≡ true → (b < 128) × (is_hidden b ≡ false) × (is_free b ≡ true)
plain_parts b h = (grind (arith, nat_tests), grind (arith, nat_tests), free b h)
  where
    free : (b : ℕ) → is_plain b ≡ true → is_free b ≡ true
    free b h = (both (nat_lt b 127) (is_free b) (both (nat_le 32 b) (nat_lt b 127 && is_free b) h).1).1

plain_free : (t : List ℕ) → list_all is_plain t ≡ true → AreFree t
plain_free [] h = no_bytes
plain_free (b ∷ t) h =
    let r = both (is_plain b) (list_all is_plain t) h in
    one_more b t (plain_parts b r.0).2 (plain_free t r.1)

plain_ascii : (t : List ℕ) → list_all is_plain t ≡ true → IsAscii t
plain_ascii [] h i = omega arith
plain_ascii (b ∷ t) h zero = (plain_parts b (both (is_plain b) (list_all is_plain t) h).0).0
plain_ascii (b ∷ t) h (suc i) = plain_ascii t (both (is_plain b) (list_all is_plain t) h).1 i

plain_drawn : (t : List ℕ) → list_all is_plain t ≡ true → flat_map drawn t ≡ t
plain_drawn [] h = refl
plain_drawn (b ∷ t) h =
    let r = both (is_plain b) (list_all is_plain t) h in
    let q = plain_parts b r.0 in
    let e : drawn b ≡ b ∷ [] = ap (λ c. if c then flat_map escaped (encode b) else encode b) q.1 ∙ encode_ascii b q.0 in
    ap (λ z. z ++ flat_map drawn t) e ∙ ap (λ z. b ∷ z) (plain_drawn t r.1)

pub plain_label : (t : List ℕ) → list_all is_plain t ≡ true → label_text t ≡ t
plain_label t h = ap (λ z. flat_map marked (flat_map drawn z)) (chars-IsAscii t (plain_ascii t h))
    ∙ (ap (flat_map marked) (plain_drawn t h) ∙ all_as_is t (plain_free t h))
