-- A number that is too large for its place is no operand there.
use Rattle.std.proofs.Common.{◌≡◌, ◌≢◌, ◌++◌, ◌∙◌, ◌<◌, ◌≤◌, ◌+◌, ◌*◌, ◌^◌, ℕ, List, [], ◌∷◌, Option, Some, None, Bool}
use Rattle.std.proofs.Common.{true, false, ◌&&◌, nat_le, refl, sym, ap, arith}
use Rattle.std.specs.Prelude.{decimal}
use Rattle.std.specs.List.{list_all}
use Rattle.std.proofs.lemmas.Bool.Decides.{nat_tests}
use Rattle.spv_table.specs.Table.{Table, kind_of}
use Rattle.spv_table.specs.Lookups.{value_named}
use Rattle.spv_module.specs.Operand.{Plain, Result, Context, result_in}
use Rattle.spv_module.specs.Shape.{Slot, Shape, AsNumber, shape_of}
use Rattle.spv_module.specs.Spelling.{Takes}
use Rattle.spv_inst.specs.Reading.{enumerants_at}
use Rattle.spv_lines.specs.Digits.{IsLarge}
use Rattle.spv_lines.specs.Name.{is_plain, is_name_octet, Names, NamesMask, by_number, mask_values, joined}
use Rattle.spv_lines.specs.Operand.{IsRead, id_text, is_float, number_text}
use Rattle.spv_lines.specs.Written.{Piece}
use Rattle.spv_lines.specs.Line.{AreWords}
use Rattle.spv_lines.specs.Refusal.{IsBreak, Place, place_of, is_front, IsTooLarge, StandsInLine}
use Rattle.spv_lines.proofs.Tame.{Both, AreTame, decimal_tame, run_same}
use Rattle.spv_lines.proofs.Tokens.{first_same}
use Rattle.spv_lines.proofs.Numbers.{well_formed_tame, not_large}

pub large_decimal : (limit n : ℕ) (a ds t u : List ℕ) → n < limit → n < 2 ^ 64 → a ≡ decimal n → IsLarge limit ds
    → IsBreak t → IsBreak u → a ++ t ≡ ds ++ u → ⊥
large_decimal limit n a ds t u h g f l i j e =
    let m : decimal n ++ t ≡ ds ++ u = rw f at e in
    let r = run_same (decimal n) ds t u (decimal_tame n g) (well_formed_tame ds l.number) i j m in
    not_large limit n ds h g l r.first

large_marked : (mark n : ℕ) (a ds t u : List ℕ) → n < 4294967296 → a ≡ mark ∷ decimal n → IsLarge (2 ^ 32) ds
    → IsBreak t → IsBreak u → a ++ t ≡ mark ∷ (ds ++ u) → ⊥
large_marked mark n a ds t u h f l i j e =
    let m : mark ∷ (decimal n ++ t) ≡ mark ∷ (ds ++ u) = sym (ap (λ z. z ++ t) f) ∙ e in
    large_decimal (2 ^ 32) n (decimal n) ds t u (omega arith) (omega arith) refl l i j
    (first_same mark mark (decimal n ++ t) (ds ++ u) m).second

and_first : (a b : Bool) → (a && b) ≡ true → a ≡ true
and_first true b h = refl
and_first false b h = cc

not_hash : (b : ℕ) → is_name_octet b ≡ true → b ≡ 35 → ⊥
not_hash b h e = grind (arith, nat_tests)

pub plain_hash : (a t u : List ℕ) → is_plain a ≡ true → a ++ t ≡ 35 ∷ u → ⊥
plain_hash [] t u h e = cc
plain_hash (b ∷ a) t u h e =
    not_hash b (and_first (is_name_octet b) (list_all is_name_octet a) h) (first_same b 35 (a ++ t) u e).first

joined_hash : (lookup : List ℕ → Option ℕ) (xs : List ℕ) (ts : List (List ℕ)) (a t u : List ℕ)
    → Rattle.spv_lines.specs.Name.AreNamesOf lookup xs ts → a ≡ joined ts → AreTame a → xs ≢ [] → a ++ t ≡ 35 ∷ u → ⊥
joined_hash lookup [] ts a t u h f w n e = n refl
joined_hash lookup (x ∷ xs) [] a t u h f w n e = h
joined_hash lookup (x ∷ xs) ([] ∷ ts) a t u h f w n e = let p = h.0.plain in cc
joined_hash lookup (x ∷ xs) ((b ∷ q) ∷ []) a t u h f w n e =
    let g : b ∷ (q ++ t) ≡ 35 ∷ u = sym (ap (λ z. z ++ t) f) ∙ e in
    not_hash b (and_first (is_name_octet b) (list_all is_name_octet q) h.0.plain) (first_same b 35 (q ++ t) u g).first
joined_hash lookup (x ∷ xs) ((b ∷ q) ∷ y ∷ ts) a t u h f w n e =
    let g : b ∷ ((q ++ (124 ∷ joined (y ∷ ts))) ++ t) ≡ 35 ∷ u = sym (ap (λ z. z ++ t) f) ∙ e in
    not_hash b (and_first (is_name_octet b) (list_all is_name_octet q) h.0.plain)
    (first_same b 35 ((q ++ (124 ∷ joined (y ∷ ts))) ++ t) u g).first

large_name : (lookup : List ℕ → Option ℕ) (x : ℕ) (a ds t u : List ℕ) → x < 4294967296 → Names lookup x a
    → IsLarge (2 ^ 32) ds → IsBreak t → IsBreak u → a ++ t ≡ 35 ∷ (ds ++ u) → ⊥
large_name lookup x _ ds t u h (Names.named a n) l i j e = plain_hash a t (ds ++ u) n.plain e
large_name lookup x _ ds t u h Names.numbered l i j e = large_marked 35 x (by_number x) ds t u h refl l i j e

pub mask_some : (x : ℕ) → x < 4294967296 → mask_values x ≡ [] → ⊥
mask_some x h e =
    let s = Rattle.spv_lines.proofs.Bits.mask_sum x h in
    let z : 0 ≡ x = rw e at s in
    let m : mask_values 0 ≡ [] = rw (← z) at e in
    cc

large_mask : (lookup : List ℕ → Option ℕ) (x : ℕ) (a ds t u : List ℕ) → x < 4294967296 → NamesMask lookup x a
    → IsLarge (2 ^ 32) ds → IsBreak t → IsBreak u → a ++ t ≡ 35 ∷ (ds ++ u) → ⊥
large_mask lookup x _ ds t u h (NamesMask.named ts n) l i j e =
    joined_hash lookup (mask_values x) ts (joined ts) t (ds ++ u) n refl
    (Rattle.spv_lines.proofs.Tame.joined_tame lookup (mask_values x) ts n) (mask_some x h) e
large_mask lookup x _ ds t u h NamesMask.numbered l i j e = large_marked 35 x (by_number x) ds t u h refl l i j e

abbrev pub place : List ℕ → ℕ → Place
place m l = record { mark = m; limit = l }

pub same_place : (P Q : Place) → Some P ≡ Some Q → P ≡ Q
same_place P Q e = cc

pub no_place : (Q : Place) → None ≡ Some Q → ⊥
no_place Q e = cc

pub narrow_limit : (w : ℕ) → w ≤ 32 → nat_le w 32 ≡ true
narrow_limit w h = grind (arith, nat_tests)

pub wide_limit : (w : ℕ) → 32 < w → nat_le w 32 ≡ false
wide_limit w h = grind (arith, nat_tests)

large_narrow : (hex : Bool) (w x : ℕ) (P : Place) (a ds t u : List ℕ) → w ≤ 32 → x < 4294967296
    → a ≡ number_text hex x 0 1 → place_of hex (AsNumber (Some w)) ≡ Some P → IsLarge P.limit ds
    → IsBreak t → IsBreak u → a ++ t ≡ P.mark ++ (ds ++ u) → ⊥
large_narrow true w x P a ds t u n h f p l i j e = no_place P p
large_narrow false w x P a ds t u n h f p l i j e =
    let b = narrow_limit w n in
    let q : Some (place [] (2 ^ 32)) ≡ Some P = rw b at p in
    let s = same_place (place [] (2 ^ 32)) P q in
    let l' : IsLarge (2 ^ 32) ds = rw (← s) at l in
    let e' : a ++ t ≡ ds ++ u = rw (← s) at e in
    large_decimal (2 ^ 32) (x + 4294967296 * 0) a ds t u (omega arith) (omega arith) f l' i j e'

large_wide : (hex : Bool) (w x y : ℕ) (P : Place) (a ds t u : List ℕ) → 32 < w → x < 4294967296 → y < 4294967296
    → a ≡ number_text hex x y 2 → place_of hex (AsNumber (Some w)) ≡ Some P → IsLarge P.limit ds
    → IsBreak t → IsBreak u → a ++ t ≡ P.mark ++ (ds ++ u) → ⊥
large_wide true w x y P a ds t u n h g f p l i j e = no_place P p
large_wide false w x y P a ds t u n h g f p l i j e =
    let b = wide_limit w n in
    let q : Some (place [] (2 ^ 64)) ≡ Some P = rw b at p in
    let s = same_place (place [] (2 ^ 64)) P q in
    let l' : IsLarge (2 ^ 64) ds = rw (← s) at l in
    let e' : a ++ t ≡ ds ++ u = rw (← s) at e in
    large_decimal (2 ^ 64) (x + 4294967296 * y) a ds t u (omega arith) (omega arith) f l' i j e'

large_percent : (x : ℕ) (P : Place) (a ds t u : List ℕ) → x < 4294967296 → a ≡ id_text x
    → Some (place (37 ∷ []) (2 ^ 32)) ≡ Some P → IsLarge P.limit ds → IsBreak t → IsBreak u
    → a ++ t ≡ P.mark ++ (ds ++ u) → ⊥
large_percent x P a ds t u h f p l i j e =
    let s = same_place (place (37 ∷ []) (2 ^ 32)) P p in
    let l' : IsLarge (2 ^ 32) ds = rw (← s) at l in
    let e' : a ++ t ≡ 37 ∷ (ds ++ u) = rw (← s) at e in
    large_marked 37 x a ds t u h f l' i j e'

large_token : (G : Table) (hex : Bool) (k : ℕ) (sh : Shape) (o : Plain) (ws : List ℕ) (ss : List Slot) (P : Place)
    (a ds t u : List ℕ)
    → Takes k sh o ws ss → AreWords ws → IsRead G hex o a → place_of hex sh ≡ Some P → IsLarge P.limit ds → IsBreak t
    → IsBreak u → a ++ t ≡ P.mark ++ (ds ++ u) → ⊥
large_token G hex k _ _ _ _ P a ds t u (Takes.result_type x) h f p l i j e = large_percent x P a ds t u h.0 f p l i j e
large_token G hex k _ _ _ _ P a ds t u (Takes.result x) h f p l i j e = large_percent x P a ds t u h.0 f p l i j e
large_token G hex k _ _ _ _ P a ds t u (Takes.id x) h f p l i j e = large_percent x P a ds t u h.0 f p l i j e
large_token G hex k _ _ _ _ P a ds t u (Takes.word x) h f p l i j e =
    let s = same_place (place [] (2 ^ 32)) P p in
    let l' : IsLarge (2 ^ 32) ds = rw (← s) at l in
    let e' : a ++ t ≡ ds ++ u = rw (← s) at e in
    let m = h.0 in
    large_decimal (2 ^ 32) x a ds t u (omega arith) (omega arith) f l' i j e'
large_token G hex k _ _ _ _ P a ds t u (Takes.narrow w x n) h f p l i j e =
    large_narrow hex w x P a ds t u n h.0 f p l i j e
large_token G hex k _ _ _ _ P a ds t u (Takes.wide w x y n) h f p l i j e =
    large_wide hex w x y P a ds t u n h.0 h.1.0 f p l i j e
large_token G hex k _ _ _ _ P a ds t u (Takes.text s ws q n z v) h f p l i j e = no_place P p
large_token G hex k _ _ _ _ P a ds t u (Takes.value es x ks n) h f p l i j e =
    let s = same_place (place (35 ∷ []) (2 ^ 32)) P p in
    let l' : IsLarge (2 ^ 32) ds = rw (← s) at l in
    let e' : a ++ t ≡ 35 ∷ (ds ++ u) = rw (← s) at e in
    large_name (value_named (enumerants_at (kind_of G k))) x a ds t u h.0 f l' i j e'
large_token G hex k _ _ _ _ P a ds t u (Takes.mask es x ks n) h f p l i j e =
    let s = same_place (place (35 ∷ []) (2 ^ 32)) P p in
    let l' : IsLarge (2 ^ 32) ds = rw (← s) at l in
    let e' : a ++ t ≡ 35 ∷ (ds ++ u) = rw (← s) at e in
    large_mask (value_named (enumerants_at (kind_of G k))) x a ds t u h.0 f l' i j e'

front_here : (k : ℕ) (sh : Shape) (c : Context) (o : Plain) (x : ℕ) (ws : List ℕ) (ss : List Slot) → Takes k sh o ws ss
    → o ≡ Result x → result_in c.operands ≡ None → is_front sh c ≡ true
front_here k _ c _ x _ _ (Takes.result_type y) e n = cc
front_here k _ c _ x _ _ (Takes.result y) e n = rw n refl
front_here k _ c _ x _ _ (Takes.id y) e n = cc
front_here k _ c _ x _ _ (Takes.word y) e n = cc
front_here k _ c _ x _ _ (Takes.narrow w y z) e n = cc
front_here k _ c _ x _ _ (Takes.wide w y z v) e n = cc
front_here k _ c _ x _ _ (Takes.text s ws p a z v) e n = cc
front_here k _ c _ x _ _ (Takes.value es y ks a) e n = cc
front_here k _ c _ x _ _ (Takes.mask es y ks a) e n = cc

large_piece : (G : Table) (r : Option ℕ) (c : Context) (s : Slot) (o : Plain) (ws : List ℕ) (ss : List Slot)
    (p t v : List ℕ)
    → Takes s.kind (shape_of G c s) o ws ss → AreWords ws → Piece (IsRead G) G r c s o p → IsBreak t → v ≡ p ++ t
    → IsTooLarge G c s v → ⊥
large_piece G r c s _ ws ss _ t v h w (Piece.result x n e) i f l =
    let a = front_here s.kind (shape_of G c s) c (Result x) x ws ss h refl n in
    let b = l.behind in
    cc
large_piece G r c s _ ws ss _ t v h w (Piece.other o a n e) i f l =
    let g : 32 ∷ (a ++ t) ≡ 32 ∷ (l.place.mark ++ (l.digits ++ l.rest)) = sym f ∙ l.all in
    large_token G (is_float G c s) s.kind (shape_of G c s) o ws ss l.place a l.digits t l.rest h w e l.placed l.large i
    l.broken (first_same 32 32 (a ++ t) (l.place.mark ++ (l.digits ++ l.rest)) g).second

pub stands_not_large : (G : Table) (r : Option ℕ) (c : Context) (s : Slot) (o : Plain) (ss : List Slot)
    (t rest : List ℕ) → StandsInLine G r c s o ss t rest → IsTooLarge G c s t → ⊥
stands_not_large G r c s o ss t rest h l =
    large_piece G r c s o h.words ss h.piece rest t h.takes h.small h.written h.broken h.all l
