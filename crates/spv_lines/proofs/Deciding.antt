-- A token is an operand of a shape, a number too large for it, or nothing.
use Rattle.std.proofs.Common.{◌≡◌, ◌≢◌, ◌++◌, ◌∙◌, ◌⊎◌, inl, inr, ◌<◌, ◌≤◌, ◌+◌, ◌*◌, ◌/◌, ◌%◌, ◌^◌, ℕ, List, [], ◌∷◌}
use Rattle.std.proofs.Common.{Option, Some, None, Bool, true, false, nat_le, length, take, drop, map, refl, sym, ap}
use Rattle.std.proofs.Common.{arith}
use Rattle.std.specs.Prelude.{decimal, codes}
use Rattle.std.proofs.lemmas.List.{append_cancel_left}
use Rattle.spv_table.specs.declared.table.Enumerant.{Enumerant}
use Rattle.spv_table.specs.Table.{Table, kind_of}
use Rattle.spv_table.specs.Lookups.{value_named}
use Rattle.spv_module.specs.Operand.{Plain, OfType, Result, Id, Word, Number, Value, Mask}
use Rattle.spv_module.specs.Shape.{Slot, Shape, alone, AsType, AsResult, AsId, AsWord, AsNumber, AsText, AsValue}
use Rattle.spv_module.specs.Shape.{AsMask, AsParts, AsNothing}
use Rattle.spv_module.specs.Spelling.{Takes, parameters_of, mask_parameters}
use Rattle.spv_inst.specs.Reading.{enumerants_at}
use Rattle.spv_lines.specs.Digits.{is_number, hex_digits, IsLarge}
use Rattle.spv_lines.specs.Name.{IsNameOf, Names, NamesMask, by_number, mask_values, joined}
use Rattle.spv_lines.specs.Operand.{IsRead, id_text, number_text}
use Rattle.spv_lines.specs.Line.{AreWords}
use Rattle.spv_lines.specs.Refusal.{Place, place_of}
use Rattle.spv_lines.proofs.Tame.{AreTame, tame-append, decimal_tame}
use Rattle.spv_lines.proofs.Pieces.{id_tame, names_tame, masks_tame, narrow_tame, wide_tame}
use Rattle.spv_lines.proofs.Tokens.{first_same, names_same, masks_same, no_number, length-hex}
use Rattle.spv_lines.proofs.Numbers.{decimal_number, not_large, well_formed_tame}
use Rattle.spv_lines.proofs.Large.{place, same_place, no_place, narrow_limit, wide_limit}
use Rattle.spv_lines.proofs.Marked.{NoSpace, tame_spaceless, Marked, marked, Decimals, decimals, below_or_not}
use Rattle.spv_lines.proofs.Marked.{same_or_not}
use Rattle.spv_lines.proofs.Hex.{eight}
use Rattle.spv_lines.proofs.Naming.{Named, named, MaskNamed, mask_named}

pub data Decision (G : Table) (hex : Bool) (k : ℕ) (sh : Shape) (a : List ℕ) : Type 0 where
  taken : (o : Plain) (ws : List ℕ) (ss : List Slot) → Takes k sh o ws ss → AreWords ws → IsRead G hex o a
      → Decision G hex k sh a
  large : (P : Place) (ds : List ℕ) → place_of hex sh ≡ Some P → IsLarge P.limit ds → a ≡ P.mark ++ ds
      → Decision G hex k sh a
  none : ((o : Plain) (ws : List ℕ) (ss : List Slot) → Takes k sh o ws ss → AreWords ws → IsRead G hex o a → ⊥)
      → ((P : Place) (ds : List ℕ) → place_of hex sh ≡ Some P → IsLarge P.limit ds → a ≡ P.mark ++ ds → ⊥)
      → Decision G hex k sh a

-- no number behind a mark
no_mark : (mark : ℕ) (a : List ℕ) → ((ds : List ℕ) → a ≡ mark ∷ ds → is_number ds ≡ true → ⊥)
    → (P : Place) (ds : List ℕ) → Some (place (mark ∷ []) (2 ^ 32)) ≡ Some P → IsLarge P.limit ds → a ≡ P.mark ++ ds → ⊥
no_mark mark a n P ds p l e =
    let s = same_place (place (mark ∷ []) (2 ^ 32)) P p in
    let f : a ≡ mark ∷ ds = rw (← s) at e in
    n ds f l.number

no_id : (a : List ℕ) (x : ℕ) → ((ds : List ℕ) → a ≡ 37 ∷ ds → is_number ds ≡ true → ⊥) → x < 4294967296 → a ≡ id_text x
    → ⊥
no_id a x n h e = n (decimal x) e (decimal_number x (omega arith))

decide_type : (G : Table) (hex : Bool) (k : ℕ) (a : List ℕ) → Marked 37 (2 ^ 32) a → Decision G hex k AsType a
decide_type G hex k a (Marked.fits x l e) =
    Decision.taken (OfType x) (x ∷ []) [] (Takes.result_type x) (omega arith, tt) e
decide_type G hex k a (Marked.large ds e l) = Decision.large (place (37 ∷ []) (2 ^ 32)) ds refl l e
decide_type G hex k a (Marked.none n) = Decision.none (λ o ws ss t h r. wrong o ws ss t h r) (no_mark 37 a n)
  where
    wrong : (o : Plain) (ws : List ℕ) (ss : List Slot) → Takes k AsType o ws ss → AreWords ws → IsRead G hex o a → ⊥
    wrong _ _ _ (Takes.result_type x) h r = no_id a x n h.0 r

decide_result : (G : Table) (hex : Bool) (k : ℕ) (a : List ℕ) → Marked 37 (2 ^ 32) a → Decision G hex k AsResult a
decide_result G hex k a (Marked.fits x l e) = Decision.taken (Result x) (x ∷ []) [] (Takes.result x) (omega arith, tt) e
decide_result G hex k a (Marked.large ds e l) = Decision.large (place (37 ∷ []) (2 ^ 32)) ds refl l e
decide_result G hex k a (Marked.none n) = Decision.none (λ o ws ss t h r. wrong o ws ss t h r) (no_mark 37 a n)
  where
    wrong : (o : Plain) (ws : List ℕ) (ss : List Slot) → Takes k AsResult o ws ss → AreWords ws → IsRead G hex o a → ⊥
    wrong _ _ _ (Takes.result x) h r = no_id a x n h.0 r

decide_id : (G : Table) (hex : Bool) (k : ℕ) (a : List ℕ) → Marked 37 (2 ^ 32) a → Decision G hex k AsId a
decide_id G hex k a (Marked.fits x l e) = Decision.taken (Id x) (x ∷ []) [] (Takes.id x) (omega arith, tt) e
decide_id G hex k a (Marked.large ds e l) = Decision.large (place (37 ∷ []) (2 ^ 32)) ds refl l e
decide_id G hex k a (Marked.none n) = Decision.none (λ o ws ss t h r. wrong o ws ss t h r) (no_mark 37 a n)
  where
    wrong : (o : Plain) (ws : List ℕ) (ss : List Slot) → Takes k AsId o ws ss → AreWords ws → IsRead G hex o a → ⊥
    wrong _ _ _ (Takes.id x) h r = no_id a x n h.0 r

-- a decimal number, and no number of that place
no_decimal : (limit : ℕ) (a : List ℕ) → (is_number a ≡ true → ⊥) → (P : Place) (ds : List ℕ)
    → Some (place [] limit) ≡ Some P → IsLarge P.limit ds → a ≡ P.mark ++ ds → ⊥
no_decimal limit a n P ds p l e =
    let s = same_place (place [] limit) P p in
    let f : a ≡ ds = rw (← s) at e in
    let g = l.number in
    n (ap is_number f ∙ g)

is_decimal : (a : List ℕ) (x : ℕ) → (is_number a ≡ true → ⊥) → x < 2 ^ 64 → a ≡ decimal x → ⊥
is_decimal a x n h e = n (ap is_number e ∙ decimal_number x h)

decide_word : (G : Table) (hex : Bool) (k : ℕ) (a : List ℕ) → Decimals (2 ^ 32) a → Decision G hex k AsWord a
decide_word G hex k a (Decimals.fits x l e) = Decision.taken (Word x) (x ∷ []) [] (Takes.word x) (omega arith, tt) e
decide_word G hex k a (Decimals.large l) = Decision.large (place [] (2 ^ 32)) a refl l refl
decide_word G hex k a (Decimals.none n) = Decision.none (λ o ws ss t h r. wrong o ws ss t h r) (no_decimal (2 ^ 32) a n)
  where
    wrong : (o : Plain) (ws : List ℕ) (ss : List Slot) → Takes k AsWord o ws ss → AreWords ws → IsRead G hex o a → ⊥
    wrong _ _ _ (Takes.word x) h r = let l = h.0 in is_decimal a x n (omega arith) r

narrow_place : (w : ℕ) → w ≤ 32 → place_of false (AsNumber (Some w)) ≡ Some (place [] (2 ^ 32))
narrow_place w h = let e = narrow_limit w h in rw e refl

wide_place : (w : ℕ) → 32 < w → place_of false (AsNumber (Some w)) ≡ Some (place [] (2 ^ 64))
wide_place w h = let e = wide_limit w h in rw e refl

decide_narrow : (G : Table) (k w : ℕ) (a : List ℕ) → w ≤ 32 → Decimals (2 ^ 32) a
    → Decision G false k (AsNumber (Some w)) a
decide_narrow G k w a n (Decimals.fits x l e) =
    Decision.taken (Number x 0 1) (x ∷ []) [] (Takes.narrow w x n) (omega arith, tt)
    (let z : x ≡ x + 4294967296 * 0 = omega arith in e ∙ ap decimal z)
decide_narrow G k w a n (Decimals.large l) = Decision.large (place [] (2 ^ 32)) a (narrow_place w n) l refl
decide_narrow G k w a n (Decimals.none m) =
    Decision.none (λ o ws ss t h r. wrong o ws ss t h r)
    (λ P ds p. no_decimal (2 ^ 32) a m P ds (sym (narrow_place w n) ∙ p))
  where
    wrong : (o : Plain) (ws : List ℕ) (ss : List Slot) → Takes k (AsNumber (Some w)) o ws ss → AreWords ws
        → IsRead G false o a → ⊥
    wrong _ _ _ (Takes.narrow _ x f) h r = let l = h.0 in is_decimal a (x + 4294967296 * 0) m (omega arith) r
    wrong _ _ _ (Takes.wide _ x y f) h r = omega arith

decide_wide : (G : Table) (k w : ℕ) (a : List ℕ) → 32 < w → Decimals (2 ^ 64) a
    → Decision G false k (AsNumber (Some w)) a
decide_wide G k w a n (Decimals.fits x l e) =
    let low : x % 4294967296 < 4294967296 = omega arith in
    let high : x / 4294967296 < 4294967296 = omega arith in
    let z : x ≡ x % 4294967296 + 4294967296 * (x / 4294967296) = omega arith in
    Decision.taken (Number (x % 4294967296) (x / 4294967296) 2) (x % 4294967296 ∷ x / 4294967296 ∷ []) []
    (Takes.wide w (x % 4294967296) (x / 4294967296) n) (low, (high, tt)) (e ∙ ap decimal z)
decide_wide G k w a n (Decimals.large l) = Decision.large (place [] (2 ^ 64)) a (wide_place w n) l refl
decide_wide G k w a n (Decimals.none m) =
    Decision.none (λ o ws ss t h r. wrong o ws ss t h r)
    (λ P ds p. no_decimal (2 ^ 64) a m P ds (sym (wide_place w n) ∙ p))
  where
    wrong : (o : Plain) (ws : List ℕ) (ss : List Slot) → Takes k (AsNumber (Some w)) o ws ss → AreWords ws
        → IsRead G false o a → ⊥
    wrong _ _ _ (Takes.narrow _ x f) h r = omega arith
    wrong _ _ _ (Takes.wide _ x y f) h r = let l = h.0 in let g = h.1.0 in
        is_decimal a (x + 4294967296 * y) m (omega arith) r

-- hexadecimal
pub data Zeroed (a : List ℕ) : Type 0 where
  found : (ds : List ℕ) → a ≡ 48 ∷ 120 ∷ ds → Zeroed a
  none : ((ds : List ℕ) → a ≡ 48 ∷ 120 ∷ ds → ⊥) → Zeroed a

zeroed : (a : List ℕ) → Zeroed a
zeroed [] = Zeroed.none (λ ds e. cc)
zeroed (b ∷ []) = Zeroed.none (λ ds e. cc)
zeroed (b ∷ c ∷ a) = step (same_or_not b 48) (same_or_not c 120)
  where
    step : (b ≡ 48) ⊎ (b ≢ 48) → (c ≡ 120) ⊎ (c ≢ 120) → Zeroed (b ∷ c ∷ a)
    step (inl e) (inl f) = Zeroed.found a cc
    step (inl e) (inr n) = Zeroed.none (λ ds g. let z : c ≡ 120 = cc in n z)
    step (inr n) f = Zeroed.none (λ ds g. let z : b ≡ 48 = cc in n z)

abbrev Eight : List ℕ → Type 0
Eight ds = ((x : ℕ) × (x < 4294967296) × (ds ≡ hex_digits 8 x)) ⊎ ((x : ℕ) → x < 4294967296 → ds ≡ hex_digits 8 x → ⊥)

decide_hex : (G : Table) (k w : ℕ) (a ds : List ℕ) → w ≤ 32 → a ≡ 48 ∷ 120 ∷ ds → Eight ds
    → Decision G true k (AsNumber (Some w)) a
decide_hex G k w a ds n e (inl r) =
    Decision.taken (Number r.0 0 1) (r.0 ∷ []) [] (Takes.narrow w r.0 n) (r.1, tt) (e ∙ ap (λ z. 48 ∷ 120 ∷ z) r.2)
decide_hex G k w a ds n e (inr d) = Decision.none (λ o ws ss t h r. wrong o ws ss t h r) (λ P xs p l f. no_place P p)
  where
    wrong : (o : Plain) (ws : List ℕ) (ss : List Slot) → Takes k (AsNumber (Some w)) o ws ss → AreWords ws
        → IsRead G true o a → ⊥
    wrong _ _ _ (Takes.narrow _ x f) h r = d x h.0 (append_cancel_left (codes "0x") ds (hex_digits 8 x) (sym e ∙ r))
    wrong _ _ _ (Takes.wide _ x y f) h r = omega arith

front_of : (ds xs ys : List ℕ) → ds ≡ xs ++ ys → length xs ≡ 8 → (take 8 ds ≡ xs) × (drop 8 ds ≡ ys)
front_of ds xs ys e l = (
  ap (take 8) e ∙ (ap (λ n. take n (xs ++ ys)) (sym l) ∙ Rattle.std.proofs.Math.Seq.take-append_seam xs ys),
  ap (drop 8) e ∙ (ap (λ n. drop n (xs ++ ys)) (sym l) ∙ Rattle.std.proofs.Math.Seq.drop-append_seam xs ys),
)

joined_again : (ds : List ℕ) → take 8 ds ++ drop 8 ds ≡ ds
joined_again ds = Rattle.std.proofs.lemmas.List.take-append-drop 8 ds

decide_hexes : (G : Table) (k w : ℕ) (a ds : List ℕ) → 32 < w → a ≡ 48 ∷ 120 ∷ ds → Eight (take 8 ds)
    → Eight (drop 8 ds) → Decision G true k (AsNumber (Some w)) a
decide_hexes G k w a ds n e (inl r) (inl s) =
    Decision.taken (Number s.0 r.0 2) (s.0 ∷ r.0 ∷ []) [] (Takes.wide w s.0 r.0 n) (s.1, (r.1, tt))
    (let g : ds ≡ hex_digits 8 r.0 ++ hex_digits 8 s.0 = sym (joined_again ds)
    ∙ (ap (λ z. z ++ drop 8 ds) r.2 ∙ ap (λ z. hex_digits 8 r.0 ++ z) s.2) in e ∙ ap (λ z. 48 ∷ 120 ∷ z) g)
decide_hexes G k w a ds n e (inl r) (inr d) =
    Decision.none (λ o ws ss t h q. wrong o ws ss t h q) (λ P xs p l f. no_place P p)
  where
    wrong : (o : Plain) (ws : List ℕ) (ss : List Slot) → Takes k (AsNumber (Some w)) o ws ss → AreWords ws
        → IsRead G true o a → ⊥
    wrong _ _ _ (Takes.narrow _ x f) h r = omega arith
    wrong _ _ _ (Takes.wide _ x y f) h r =
        let g = append_cancel_left (codes "0x") ds (hex_digits 8 y ++ hex_digits 8 x) (sym e ∙ r) in
        d x h.0 (front_of ds (hex_digits 8 y) (hex_digits 8 x) g (length-hex 8 y)).1
decide_hexes G k w a ds n e (inr d) s =
    Decision.none (λ o ws ss t h q. wrong o ws ss t h q) (λ P xs p l f. no_place P p)
  where
    wrong : (o : Plain) (ws : List ℕ) (ss : List Slot) → Takes k (AsNumber (Some w)) o ws ss → AreWords ws
        → IsRead G true o a → ⊥
    wrong _ _ _ (Takes.narrow _ x f) h r = omega arith
    wrong _ _ _ (Takes.wide _ x y f) h r =
        let g = append_cancel_left (codes "0x") ds (hex_digits 8 y ++ hex_digits 8 x) (sym e ∙ r) in
        d y h.1.0 (front_of ds (hex_digits 8 y) (hex_digits 8 x) g (length-hex 8 y)).0

no_zero_x : (G : Table) (k w : ℕ) (a : List ℕ) → ((ds : List ℕ) → a ≡ 48 ∷ 120 ∷ ds → ⊥)
    → Decision G true k (AsNumber (Some w)) a
no_zero_x G k w a n = Decision.none (λ o ws ss t h q. wrong o ws ss t h q) (λ P xs p l f. no_place P p)
  where
    wrong : (o : Plain) (ws : List ℕ) (ss : List Slot) → Takes k (AsNumber (Some w)) o ws ss → AreWords ws
        → IsRead G true o a → ⊥
    wrong _ _ _ (Takes.narrow _ x f) h r = n (hex_digits 8 x) r
    wrong _ _ _ (Takes.wide _ x y f) h r = n (hex_digits 8 y ++ hex_digits 8 x) r

decide_number : (G : Table) (hex : Bool) (k w : ℕ) (a : List ℕ) → (32 < w) ⊎ (w ≤ 32) → Zeroed a
    → Decision G hex k (AsNumber (Some w)) a
decide_number G false k w a (inl h) z = decide_wide G k w a h (decimals (2 ^ 64) a (omega arith))
decide_number G false k w a (inr h) z = decide_narrow G k w a h (decimals (2 ^ 32) a (omega arith))
decide_number G true k w a (inl h) (Zeroed.found ds e) =
    decide_hexes G k w a ds h e (eight (take 8 ds)) (eight (drop 8 ds))
decide_number G true k w a (inr h) (Zeroed.found ds e) = decide_hex G k w a ds h e (eight ds)
decide_number G true k w a h (Zeroed.none n) = no_zero_x G k w a n

-- a value
decide_value : (G : Table) (hex : Bool) (k : ℕ) (es : List Enumerant) (a : List ℕ)
    → Named (value_named (enumerants_at (kind_of G k))) a → Marked 35 (2 ^ 32) a → Decision G hex k (AsValue es) a
decide_value G hex k es a (Named.found x n) m = step (below_or_not x 4294967296) (parameters_of es x) refl
  where
    lookup : List ℕ → Option ℕ
    lookup = value_named (enumerants_at (kind_of G k))

    no_large : (P : Place) (ds : List ℕ) → place_of hex (AsValue es) ≡ Some P → IsLarge P.limit ds → a ≡ P.mark ++ ds
        → ⊥
    no_large P ds p l e =
        let s = same_place (place (35 ∷ []) (2 ^ 32)) P p in
        let f : a ≡ 35 ∷ ds = rw (← s) at e in
        let q = n.plain in
        let g : false ≡ true = rw f at q in
        cc

    only : (y : ℕ) → Names (value_named (enumerants_at (kind_of G k))) y a → y ≡ x
    only y h = found_only y a h n
      where
        found_only : (y : ℕ) (t : List ℕ) → Names (value_named (enumerants_at (kind_of G k))) y t
            → IsNameOf (value_named (enumerants_at (kind_of G k))) x t → y ≡ x
        found_only y _ (Names.named t i) j = let u = i.found in let v = j.found in cc
        found_only y _ Names.numbered j = let q = j.plain in let g : false ≡ true = q in cc

    wrong_range : (4294967296 ≤ x) → (o : Plain) (ws : List ℕ) (ss : List Slot) → Takes k (AsValue es) o ws ss
        → AreWords ws → IsRead G hex o a → ⊥
    wrong_range l _ _ _ (Takes.value _ y ks f) h r = let e = only y r in let g = h.0 in omega arith

    wrong_parameters : parameters_of es x ≡ None → (o : Plain) (ws : List ℕ) (ss : List Slot)
        → Takes k (AsValue es) o ws ss → AreWords ws → IsRead G hex o a → ⊥
    wrong_parameters l _ _ _ (Takes.value _ y ks f) h r = let e = only y r in
        let g : parameters_of es x ≡ Some ks = rw e at f in cc

    step : (x < 4294967296) ⊎ (4294967296 ≤ x) → (o : Option (List ℕ)) → parameters_of es x ≡ o
        → Decision G hex k (AsValue es) a
    step (inl l) (Some ks) e =
        Decision.taken (Value k x) (x ∷ []) (map alone ks) (Takes.value es x ks e) (l, tt) (Names.named a n)
    step (inl l) None e = Decision.none (wrong_parameters e) no_large
    step (inr l) o e = Decision.none (wrong_range l) no_large
decide_value G hex k es a (Named.none d) (Marked.fits x l e) = step (parameters_of es x) refl
  where
    named_so : (t u : List ℕ) (y : ℕ) → t ≡ u → Names (value_named (enumerants_at (kind_of G k))) y u
        → Names (value_named (enumerants_at (kind_of G k))) y t
    named_so t u y f h = rw f h

    only : (y : ℕ) → y < 4294967296 → Names (value_named (enumerants_at (kind_of G k))) y a → y ≡ x
    only y h f = names_same (value_named (enumerants_at (kind_of G k))) y x a (by_number x) (omega arith)
        (omega arith) f Names.numbered e

    no_large : (P : Place) (ds : List ℕ) → place_of hex (AsValue es) ≡ Some P → IsLarge P.limit ds → a ≡ P.mark ++ ds
        → ⊥
    no_large P ds p g f =
        let s = same_place (place (35 ∷ []) (2 ^ 32)) P p in
        let f' : a ≡ 35 ∷ ds = rw (← s) at f in
        let g' : IsLarge (2 ^ 32) ds = rw (← s) at g in
        not_large (2 ^ 32) x ds l (omega arith) g' (first_same 35 35 (decimal x) ds (sym e ∙ f')).second

    wrong : parameters_of es x ≡ None → (o : Plain) (ws : List ℕ) (ss : List Slot) → Takes k (AsValue es) o ws ss
        → AreWords ws → IsRead G hex o a → ⊥
    wrong f _ _ _ (Takes.value _ y ks g) h r = let i = only y h.0 r in
        let j : parameters_of es x ≡ Some ks = rw i at g in cc

    step : (o : Option (List ℕ)) → parameters_of es x ≡ o → Decision G hex k (AsValue es) a
    step (Some ks) f = Decision.taken (Value k x) (x ∷ []) (map alone ks) (Takes.value es x ks f) (omega arith, tt)
        (named_so a (by_number x) x e Names.numbered)
    step None f = Decision.none (wrong f) no_large
decide_value G hex k es a (Named.none d) (Marked.large ds e l) = Decision.large (place (35 ∷ []) (2 ^ 32)) ds refl l e
decide_value G hex k es a (Named.none d) (Marked.none n) =
    Decision.none (λ o ws ss t h r. wrong o ws ss t h r) (no_mark 35 a n)
  where
    no_name : (y : ℕ) (t : List ℕ) → t ≡ a → y < 4294967296 → Names (value_named (enumerants_at (kind_of G k))) y t → ⊥
    no_name y _ e h (Names.named t i) = let i' : IsNameOf (value_named (enumerants_at (kind_of G k))) y a = rw e at i in
        d y i'
    no_name y _ e h Names.numbered = n (decimal y) (sym e) (decimal_number y (omega arith))

    wrong : (o : Plain) (ws : List ℕ) (ss : List Slot) → Takes k (AsValue es) o ws ss → AreWords ws → IsRead G hex o a
        → ⊥
    wrong _ _ _ (Takes.value _ y ks f) h r = no_name y a refl h.0 r

-- a mask
decide_mask : (G : Table) (hex : Bool) (k : ℕ) (es : List Enumerant) (a : List ℕ)
    → MaskNamed (value_named (enumerants_at (kind_of G k))) a → Marked 35 (2 ^ 32) a → Decision G hex k (AsMask es) a
decide_mask G hex k es a (MaskNamed.found x l ts n e) m = step (mask_parameters es x) refl
  where
    named_so : (t u : List ℕ) (y : ℕ) → t ≡ u → NamesMask (value_named (enumerants_at (kind_of G k))) y u
        → NamesMask (value_named (enumerants_at (kind_of G k))) y t
    named_so t u y f h = rw f h

    no_large : (P : Place) (ds : List ℕ) → place_of hex (AsMask es) ≡ Some P → IsLarge P.limit ds → a ≡ P.mark ++ ds → ⊥
    no_large P ds p g f =
        let s = same_place (place (35 ∷ []) (2 ^ 32)) P p in
        let f' : a ≡ 35 ∷ ds = rw (← s) at f in
        no_number (value_named (enumerants_at (kind_of G k))) (mask_values x) ts ds n (sym e ∙ f')

    wrong : mask_parameters es x ≡ None → (o : Plain) (ws : List ℕ) (ss : List Slot) → Takes k (AsMask es) o ws ss
        → AreWords ws → IsRead G hex o a → ⊥
    wrong f _ _ _ (Takes.mask _ y ks g) h r =
        let i = masks_same (value_named (enumerants_at (kind_of G k))) y x a (joined ts) h.0 l r
        (NamesMask.named ts n) e in
        let j : mask_parameters es x ≡ Some ks = rw i at g in
        cc

    step : (o : Option (List ℕ)) → mask_parameters es x ≡ o → Decision G hex k (AsMask es) a
    step (Some ks) f = Decision.taken (Mask k x) (x ∷ []) (map alone ks) (Takes.mask es x ks f) (l, tt)
        (named_so a (joined ts) x e (NamesMask.named ts n))
    step None f = Decision.none (wrong f) no_large
decide_mask G hex k es a (MaskNamed.none d) (Marked.fits x l e) = step (mask_parameters es x) refl
  where
    named_so : (t u : List ℕ) (y : ℕ) → t ≡ u → NamesMask (value_named (enumerants_at (kind_of G k))) y u
        → NamesMask (value_named (enumerants_at (kind_of G k))) y t
    named_so t u y f h = rw f h

    no_large : (P : Place) (ds : List ℕ) → place_of hex (AsMask es) ≡ Some P → IsLarge P.limit ds → a ≡ P.mark ++ ds → ⊥
    no_large P ds p g f =
        let s = same_place (place (35 ∷ []) (2 ^ 32)) P p in
        let f' : a ≡ 35 ∷ ds = rw (← s) at f in
        let g' : IsLarge (2 ^ 32) ds = rw (← s) at g in
        not_large (2 ^ 32) x ds l (omega arith) g' (first_same 35 35 (decimal x) ds (sym e ∙ f')).second

    wrong : mask_parameters es x ≡ None → (o : Plain) (ws : List ℕ) (ss : List Slot) → Takes k (AsMask es) o ws ss
        → AreWords ws → IsRead G hex o a → ⊥
    wrong f _ _ _ (Takes.mask _ y ks g) h r =
        let i = masks_same (value_named (enumerants_at (kind_of G k))) y x a (by_number x) h.0
        (omega arith) r NamesMask.numbered e in
        let j : mask_parameters es x ≡ Some ks = rw i at g in
        cc

    step : (o : Option (List ℕ)) → mask_parameters es x ≡ o → Decision G hex k (AsMask es) a
    step (Some ks) f = Decision.taken (Mask k x) (x ∷ []) (map alone ks) (Takes.mask es x ks f) (omega arith, tt)
        (named_so a (by_number x) x e NamesMask.numbered)
    step None f = Decision.none (wrong f) no_large
decide_mask G hex k es a (MaskNamed.none d) (Marked.large ds e l) =
    Decision.large (place (35 ∷ []) (2 ^ 32)) ds refl l e
decide_mask G hex k es a (MaskNamed.none d) (Marked.none n) =
    Decision.none (λ o ws ss t h r. wrong o ws ss t h r) (no_mark 35 a n)
  where
    no_name : (y : ℕ) (t : List ℕ) → t ≡ a → y < 4294967296 → NamesMask (value_named (enumerants_at (kind_of G k))) y t
        → ⊥
    no_name y _ e h (NamesMask.named ts i) = d y h ts i (sym e)
    no_name y _ e h NamesMask.numbered = n (decimal y) (sym e) (decimal_number y (omega arith))

    wrong : (o : Plain) (ws : List ℕ) (ss : List Slot) → Takes k (AsMask es) o ws ss → AreWords ws → IsRead G hex o a
        → ⊥
    wrong _ _ _ (Takes.mask _ y ks f) h r = no_name y a refl h.0 r

-- a shape that is a token without spaces
abbrev pub IsTokenShape : Shape → Type 0
IsTokenShape AsText = ⊥
IsTokenShape (AsParts ss) = ⊥
IsTokenShape _ = Unit {0}

nothing_taken : (G : Table) (hex : Bool) (k : ℕ) (a : List ℕ) (o : Plain) (ws : List ℕ) (ss : List Slot)
    → Takes k AsNothing o ws ss → ⊥
nothing_taken G hex k a o ws ss t = elim t [ ]

no_width_taken : (k : ℕ) (o : Plain) (ws : List ℕ) (ss : List Slot) → Takes k (AsNumber None) o ws ss → ⊥
no_width_taken k o ws ss t = elim t [ ]

pub decide : (G : Table) (hex : Bool) (k : ℕ) (sh : Shape) (a : List ℕ) → IsTokenShape sh → Decision G hex k sh a
decide G hex k AsType a h = decide_type G hex k a (marked 37 (2 ^ 32) a (omega arith))
decide G hex k AsResult a h = decide_result G hex k a (marked 37 (2 ^ 32) a (omega arith))
decide G hex k AsId a h = decide_id G hex k a (marked 37 (2 ^ 32) a (omega arith))
decide G hex k AsWord a h = decide_word G hex k a (decimals (2 ^ 32) a (omega arith))
decide G hex k (AsNumber None) a h =
    Decision.none (λ o ws ss t w r. no_width_taken k o ws ss t) (λ P ds p l e. no_place P p)
decide G hex k (AsNumber (Some w)) a h = decide_number G hex k w a (below_or_not 32 w) (zeroed a)
decide G hex k AsText a h = absurd h
decide G hex k (AsValue es) a h =
    decide_value G hex k es a (named (value_named (enumerants_at (kind_of G k))) a) (marked 35 (2 ^ 32) a (omega arith))
decide G hex k (AsMask es) a h =
    decide_mask G hex k es a (mask_named (value_named (enumerants_at (kind_of G k))) a)
    (marked 35 (2 ^ 32) a (omega arith))
decide G hex k (AsParts ss) a h = absurd h
decide G hex k AsNothing a h =
    Decision.none (λ o ws ss t w r. nothing_taken G hex k a o ws ss t) (λ P ds p l e. no_place P p)

-- tokens have no space
pub token_spaceless : (G : Table) (hex : Bool) (k : ℕ) (sh : Shape) (o : Plain) (ws : List ℕ) (ss : List Slot)
    (a : List ℕ) → Takes k sh o ws ss → AreWords ws → IsRead G hex o a → IsTokenShape sh → NoSpace a
token_spaceless G hex k _ _ _ _ a (Takes.result_type x) h e t = rw e (tame_spaceless (id_text x) (id_tame x h.0))
token_spaceless G hex k _ _ _ _ a (Takes.result x) h e t = rw e (tame_spaceless (id_text x) (id_tame x h.0))
token_spaceless G hex k _ _ _ _ a (Takes.id x) h e t = rw e (tame_spaceless (id_text x) (id_tame x h.0))
token_spaceless G hex k _ _ _ _ a (Takes.word x) h e t = let l = h.0 in
    rw e (tame_spaceless (decimal x) (decimal_tame x (omega arith)))
token_spaceless G hex k _ _ _ _ a (Takes.narrow w x n) h e t =
    rw e (tame_spaceless (number_text hex x 0 1) (narrow_tame hex x h.0))
token_spaceless G hex k _ _ _ _ a (Takes.wide w x y n) h e t =
    rw e (tame_spaceless (number_text hex x y 2) (wide_tame hex x y h.0 h.1.0))
token_spaceless G hex k _ _ _ _ a (Takes.text s ws p n z v) h e t = absurd t
token_spaceless G hex k _ _ _ _ a (Takes.value es x ks n) h e t =
    tame_spaceless a (names_tame (value_named (enumerants_at (kind_of G k))) x a h.0 e)
token_spaceless G hex k _ _ _ _ a (Takes.mask es x ks n) h e t =
    tame_spaceless a (masks_tame (value_named (enumerants_at (kind_of G k))) x a h.0 e)

marked_tame : (m ds : List ℕ) (limit : ℕ) (P : Place) → AreTame m → Some (place m limit) ≡ Some P → is_number ds ≡ true
    → NoSpace (P.mark ++ ds)
marked_tame m ds limit P h p n =
    let s = same_place (place m limit) P p in
    let w : NoSpace (m ++ ds) = tame_spaceless (m ++ ds) (tame-append m ds h (well_formed_tame ds n)) in
    rw (← s) w

number_spaceless : (hex : Bool) (w : ℕ) (ds : List ℕ) (P : Place) → place_of hex (AsNumber (Some w)) ≡ Some P
    → is_number ds ≡ true → NoSpace (P.mark ++ ds)
number_spaceless true w ds P p n = absurd (no_place P p)
number_spaceless false w ds P p n =
    marked_tame [] ds (Rattle.std.specs.Prelude.if◌then◌else◌ (nat_le w 32) (2 ^ 32) (2 ^ 64)) P tt p n

pub mark_spaceless : (hex : Bool) (sh : Shape) (P : Place) (ds : List ℕ) → place_of hex sh ≡ Some P
    → is_number ds ≡ true → NoSpace (P.mark ++ ds)
mark_spaceless hex AsType P ds p n = marked_tame (37 ∷ []) ds (2 ^ 32) P (omega arith, tt) p n
mark_spaceless hex AsResult P ds p n = marked_tame (37 ∷ []) ds (2 ^ 32) P (omega arith, tt) p n
mark_spaceless hex AsId P ds p n = marked_tame (37 ∷ []) ds (2 ^ 32) P (omega arith, tt) p n
mark_spaceless hex AsWord P ds p n = marked_tame [] ds (2 ^ 32) P tt p n
mark_spaceless hex (AsNumber None) P ds p n = absurd (no_place P p)
mark_spaceless hex (AsNumber (Some w)) P ds p n = number_spaceless hex w ds P p n
mark_spaceless hex AsText P ds p n = absurd (no_place P p)
mark_spaceless hex (AsValue es) P ds p n = marked_tame (35 ∷ []) ds (2 ^ 32) P (omega arith, tt) p n
mark_spaceless hex (AsMask es) P ds p n = marked_tame (35 ∷ []) ds (2 ^ 32) P (omega arith, tt) p n
mark_spaceless hex (AsParts ss) P ds p n = absurd (no_place P p)
mark_spaceless hex AsNothing P ds p n = absurd (no_place P p)
