-- What a token is for the shapes of values and masks.
use Rattle.std.proofs.Common.{◌≡◌, ◌∙◌, ◌<◌, ◌^◌, ℕ, List, [], ◌∷◌, Option, Some, None, Bool, true, false, ◌&&◌, nat_eq}
use Rattle.std.proofs.Common.{is_some, option_and_then, refl, sym, ap, arith}
use Rattle.std.specs.Prelude.{decimal, not, option_map, Result as Answer, Ok, Err}
use Rattle.std.proofs.lemmas.List.Splits.{join_with_byte-slice_split}
use Rattle.std.proofs.lemmas.Bool.Decides.{nat_tests}
use Rattle.spv_table.specs.declared.table.Enumerant.{Enumerant}
use Rattle.spv_table.specs.Table.{Table, Sort, kind_of}
use Rattle.spv_table.specs.Lookups.{value_named}
use Rattle.spv_module.specs.Operand.{Plain, Value, Mask}
use Rattle.spv_module.specs.Shape.{Slot, AsValue, AsMask}
use Rattle.spv_module.specs.Spelling.{Takes, parameters_of, mask_parameters, set_bits}
use Rattle.spv_inst.specs.Reading.{enumerants_at}
use Rattle.spv_lines.specs.Digits.{IsLarge}
use Rattle.spv_lines.specs.Name.{is_plain, IsNameOf, AreNamesOf, Names, NamesMask, by_number, mask_values, joined}
use Rattle.spv_lines.specs.Operand.{IsRead}
use Rattle.spv_lines.specs.Line.{AreWords}
use Rattle.spv_lines.proofs.Tokens.{first_same, names_same, masks_same, no_number}
use Rattle.spv_lines.proofs.Numbers.{decimal_number, not_large}
use Rattle.spv_lines.proofs.Naming.{cells_joined}
use Rattle.spv_lines.proofs.Large.{place, mask_some}
use Rattle.spv_lines.specs.declared.misread.Misread.{Misread}
use Rattle.spv_lines.specs.declared.misread.Misread.TheVariants.{IllFormed, TooLarge}
use Rattle.spv_lines.specs.inner.Answer.{IsBehind, IsNamed, IsNamedBits, IsNamedMask, IsValueText, IsMaskText, IsTaken}
use Rattle.spv_lines.specs.inner.Answer.{IsNone, cells, cells_left, names_in}
use Rattle.spv_lines.proofs.Taking.{Refused, over_marked}
use Rattle.spv_lines.proofs.CellNames.{no_first}

looked : (o : Option Sort) (t : List ℕ)
    → option_and_then (λ s. value_named s.enumerants t) o ≡ value_named (enumerants_at o) t
looked None t = refl
looked (Some s) t = refl

pub named_by : (G : Table) (k : ℕ) (t : List ℕ) (o : Option ℕ) → true ≡ is_plain t
    → o ≡ option_and_then (λ s. value_named s.enumerants t) (kind_of G k) → IsNamed (names_in G k) t o
named_by G k t o p e = step o (e ∙ looked (kind_of G k) t)
  where
    step : (o : Option ℕ) → o ≡ names_in G k t → IsNamed (names_in G k) t o
    step (Some x) e = record { plain = sym p; found = sym e }
    step None e = λ x n. let f = n.found in let g : None ≡ Some x = e ∙ f in cc

pub not_named : (lookup : List ℕ → Option ℕ) (t : List ℕ) → false ≡ is_plain t → IsNamed lookup t None
not_named lookup t p = λ x n. let q = n.plain in let g : false ≡ true = p ∙ q in cc

-- values
names_so : (lookup : List ℕ → Option ℕ) (x : ℕ) (t u : List ℕ) → t ≡ u → Names lookup x u → Names lookup x t
names_so lookup x t u e h = rw e h

only_hash : (lookup : List ℕ → Option ℕ) (x : ℕ) (t : List ℕ) → Names lookup x t → ((x : ℕ) → IsNameOf lookup x t → ⊥)
    → t ≡ by_number x
only_hash lookup x _ (Names.named t i) d = absurd (d x i)
only_hash lookup x _ Names.numbered d = refl

pub value_by_number : (lookup : List ℕ → Option ℕ) (t : List ℕ) (r : Answer ℕ Misread) → IsNamed lookup t None
    → IsBehind 35 t r → IsValueText lookup t r
value_by_number lookup t (Ok x) n b = names_so lookup x t (by_number x) b.1 Names.numbered
value_by_number lookup t (Err TooLarge) n b = b
value_by_number lookup t (Err IllFormed) n b =
    (λ x h m. b (decimal x) (only_hash lookup x t m n) (decimal_number x (omega arith)), b)

no_over_name : (lookup : List ℕ → Option ℕ) (x : ℕ) (t ds : List ℕ) → x < 2 ^ 32 → Names lookup x t → t ≡ 35 ∷ ds
    → IsLarge (2 ^ 32) ds → ⊥
no_over_name lookup x _ ds h (Names.named t n) e l = let q = n.plain in let g : false ≡ true = rw e at q in cc
no_over_name lookup x _ ds h Names.numbered e l =
    not_large (2 ^ 32) x ds h (omega arith) l (first_same 35 35 (decimal x) ds e).second

pub value_taken : (G : Table) (hex : Bool) (k x : ℕ) (t : List ℕ) → x < 2 ^ 32 → Names (names_in G k) x t
    → true ≡ is_some (parameters_of (enumerants_at (kind_of G k)) x)
    → IsTaken G hex k (AsValue (enumerants_at (kind_of G k))) t (Value k x)
value_taken G hex k x t h n e = record {
  fit = both (nat_eq k k) (is_some (parameters_of (enumerants_at (kind_of G k)) x)) (same k) (sym e);
  text = tt;
  small = (omega arith, tt);
  read = n;
}
  where
    same : (k : ℕ) → nat_eq k k ≡ true
    same k = grind (arith, nat_tests)

    both : (a b : Bool) → a ≡ true → b ≡ true → (a && b) ≡ true
    both a b e f = rw (e, f) refl

pub value_unknown : (G : Table) (hex : Bool) (k x : ℕ) (t : List ℕ) → x < 2 ^ 32 → Names (names_in G k) x t
    → false ≡ is_some (parameters_of (enumerants_at (kind_of G k)) x)
    → IsNone G hex k (AsValue (enumerants_at (kind_of G k))) t
value_unknown G hex k x t h n e = record {
  untaken = λ o ws ss a w r. wrong (enumerants_at (kind_of G k)) o ws ss a w r e;
  not_over = λ v. let d = over_marked hex (AsValue (enumerants_at (kind_of G k))) 35 t refl v in
      no_over_name (names_in G k) x t d.0 h n d.1 d.2;
}
  where
    wrong : (es : List Enumerant) (o : Plain) (ws : List ℕ) (ss : List Slot) → Takes k (AsValue es) o ws ss
        → AreWords ws → IsRead G hex o t → false ≡ is_some (parameters_of es x) → ⊥
    wrong es _ _ _ (Takes.value _ y ks f) w r e =
        let l = w.0 in
        let z : y ≡ x = names_same (names_in G k) y x t t (omega arith) (omega arith) r n refl in
        let g : parameters_of es x ≡ Some ks = rw z at f in
        let i : false ≡ true = e ∙ ap is_some g in
        cc

pub value_refused : (G : Table) (hex : Bool) (k : ℕ) (t : List ℕ) (why : Misread)
    → IsValueText (names_in G k) t (Err why) → Refused G hex k (AsValue (enumerants_at (kind_of G k))) t why
value_refused G hex k t TooLarge b =
    record { place = place (35 ∷ []) (2 ^ 32); digits = b.0; placed = refl; large = b.2; all = b.1 }
value_refused G hex k t IllFormed b = record {
  untaken = λ o ws ss a w r. wrong (enumerants_at (kind_of G k)) o ws ss a w r;
  not_over = λ v. let d = over_marked hex (AsValue (enumerants_at (kind_of G k))) 35 t refl v in b.1 d.0 d.1 d.2.number;
}
  where
    wrong : (es : List Enumerant) (o : Plain) (ws : List ℕ) (ss : List Slot) → Takes k (AsValue es) o ws ss
        → AreWords ws → IsRead G hex o t → ⊥
    wrong es _ _ _ (Takes.value _ y ks f) w r = let l = w.0 in b.0 y (omega arith) r

-- masks
masks_so : (lookup : List ℕ → Option ℕ) (x : ℕ) (t u : List ℕ) → t ≡ u → NamesMask lookup x u → NamesMask lookup x t
masks_so lookup x t u e h = rw e h

pub mask_by_names : (lookup : List ℕ → Option ℕ) (t : List ℕ) (x : ℕ) → IsNamedMask lookup t (Some x)
    → NamesMask lookup x t
mask_by_names lookup t x n = masks_so lookup x t (joined n.0) n.2 (NamesMask.named n.0 n.1)

mask_hash : (lookup : List ℕ → Option ℕ) (x : ℕ) (t : List ℕ) → x < 2 ^ 32 → NamesMask lookup x t
    → IsNamedMask lookup t None → t ≡ by_number x
mask_hash lookup x _ h (NamesMask.named ts i) d = absurd (d x h ts i refl)
mask_hash lookup x _ h NamesMask.numbered d = refl

pub mask_by_number : (lookup : List ℕ → Option ℕ) (t : List ℕ) (r : Answer ℕ Misread) → IsNamedMask lookup t None
    → IsBehind 35 t r → IsMaskText lookup t r
mask_by_number lookup t (Ok x) n b = masks_so lookup x t (by_number x) b.1 NamesMask.numbered
mask_by_number lookup t (Err TooLarge) n b = b
mask_by_number lookup t (Err IllFormed) n b =
    (λ x h m. b (decimal x) (mask_hash lookup x t h m n) (decimal_number x (omega arith)), b)

no_over_mask : (lookup : List ℕ → Option ℕ) (x : ℕ) (t ds : List ℕ) → x < 2 ^ 32 → NamesMask lookup x t → t ≡ 35 ∷ ds
    → IsLarge (2 ^ 32) ds → ⊥
no_over_mask lookup x _ ds h (NamesMask.named ts n) e l = no_number lookup (mask_values x) ts ds n e
no_over_mask lookup x _ ds h NamesMask.numbered e l =
    not_large (2 ^ 32) x ds h (omega arith) l (first_same 35 35 (decimal x) ds e).second

pub mask_taken : (G : Table) (hex : Bool) (k x : ℕ) (t : List ℕ) → x < 2 ^ 32 → NamesMask (names_in G k) x t
    → true ≡ is_some (mask_parameters (enumerants_at (kind_of G k)) x)
    → IsTaken G hex k (AsMask (enumerants_at (kind_of G k))) t (Mask k x)
mask_taken G hex k x t h n e = record {
  fit = both (nat_eq k k) (is_some (mask_parameters (enumerants_at (kind_of G k)) x)) (same k) (sym e);
  text = tt;
  small = (omega arith, tt);
  read = n;
}
  where
    same : (k : ℕ) → nat_eq k k ≡ true
    same k = grind (arith, nat_tests)

    both : (a b : Bool) → a ≡ true → b ≡ true → (a && b) ≡ true
    both a b e f = rw (e, f) refl

pub mask_unknown : (G : Table) (hex : Bool) (k x : ℕ) (t : List ℕ) → x < 2 ^ 32 → NamesMask (names_in G k) x t
    → false ≡ is_some (mask_parameters (enumerants_at (kind_of G k)) x)
    → IsNone G hex k (AsMask (enumerants_at (kind_of G k))) t
mask_unknown G hex k x t h n e = record {
  untaken = λ o ws ss a w r. wrong (enumerants_at (kind_of G k)) o ws ss a w r e;
  not_over = λ v. let d = over_marked hex (AsMask (enumerants_at (kind_of G k))) 35 t refl v in
      no_over_mask (names_in G k) x t d.0 h n d.1 d.2;
}
  where
    wrong : (es : List Enumerant) (o : Plain) (ws : List ℕ) (ss : List Slot) → Takes k (AsMask es) o ws ss → AreWords ws
        → IsRead G hex o t → false ≡ is_some (mask_parameters es x) → ⊥
    wrong es _ _ _ (Takes.mask _ y ks f) w r e =
        let l = w.0 in
        let z : y ≡ x = masks_same (names_in G k) y x t t l (omega arith) r n refl in
        let g : mask_parameters es x ≡ Some ks = rw z at f in
        let i : false ≡ true = e ∙ ap is_some g in
        cc

pub mask_refused : (G : Table) (hex : Bool) (k : ℕ) (t : List ℕ) (why : Misread) → IsMaskText (names_in G k) t (Err why)
    → Refused G hex k (AsMask (enumerants_at (kind_of G k))) t why
mask_refused G hex k t TooLarge b =
    record { place = place (35 ∷ []) (2 ^ 32); digits = b.0; placed = refl; large = b.2; all = b.1 }
mask_refused G hex k t IllFormed b = record {
  untaken = λ o ws ss a w r. wrong (enumerants_at (kind_of G k)) o ws ss a w r;
  not_over = λ v. let d = over_marked hex (AsMask (enumerants_at (kind_of G k))) 35 t refl v in b.1 d.0 d.1 d.2.number;
}
  where
    wrong : (es : List Enumerant) (o : Plain) (ws : List ℕ) (ss : List Slot) → Takes k (AsMask es) o ws ss → AreWords ws
        → IsRead G hex o t → ⊥
    wrong es _ _ _ (Takes.mask _ y ks f) w r = let l = w.0 in b.0 y (omega arith) r

-- the names of a mask, from those of its bits
bits_of : (x : ℕ) → 0 < x → mask_values x ≡ set_bits x
bits_of x n = let e : nat_eq x 0 ≡ false = grind (arith, nat_tests) in rw e refl

-- a text of one name
whole_cell : (lookup : List ℕ → Option ℕ) (t : List ℕ) (x : ℕ) → IsNameOf lookup x t → cells t ≡ t ∷ []
whole_cell lookup t x n = cells_joined lookup (x ∷ []) (t ∷ []) (n, tt) (λ e. cc)

some_cell : (t : List ℕ) → cells t ≡ [] → ⊥
some_cell t e =
    let f : t ≡ [] = sym (join_with_byte-slice_split 124 t) ∙ ap joined e in
    let g : cells [] ≡ [] = rw f at e in
    cc

pub nought_named : {X : Type 0} (f : X → List ℕ) (lookup : List ℕ → Option ℕ) (t name : List ℕ) (x : ℕ)
    (rest : Option X) (b : Bool) → cells t ≡ name ∷ cells_left (option_map f rest) → IsNamed lookup name (Some x)
    → x ≡ 0
    → is_some rest ≡ not b → b ≡ true → IsNamedMask lookup t (Some 0)
nought_named f lookup t name x None b c n e g h = let n' : IsNameOf lookup 0 name = rw e at n in
    (name ∷ [], (n', tt), sym (join_with_byte-slice_split 124 t) ∙ ap joined c)
nought_named f lookup t name x (Some u) b c n e g h = let k : true ≡ false = rw h at g in cc

pub not_alone : {X : Type 0} (rest : Option X) (b : Bool) → is_some rest ≡ not b → b ≡ false → rest ≡ None → ⊥
not_alone rest b g h e =
    let k : false ≡ not b = rw e at g in
    let m : false ≡ true = rw h at k in
    cc

pub bits_named : (lookup : List ℕ → Option ℕ) (t : List ℕ) (r : Option ℕ) → ((n : IsNameOf lookup 0 t) → ⊥)
    → IsNamedBits lookup t r → IsNamedMask lookup t r
bits_named lookup t (Some x) d b =
    let m = b.1 in
    let m' : AreNamesOf lookup (mask_values x) (cells t) = rw (bits_of x b.0) m in
    (cells t, m', sym (join_with_byte-slice_split 124 t))
bits_named lookup t None d b = λ x h ts n e. step x h ts n e (nat_eq x 0) refl
  where
    zero_names : (xs : List ℕ) (ts : List (List ℕ)) → xs ≡ 0 ∷ [] → AreNamesOf lookup xs ts → t ≡ joined ts → ⊥
    zero_names [] ts e n f = cc
    zero_names (x ∷ xs) [] e n f = n
    zero_names (x ∷ []) (u ∷ []) e n f =
        let z : x ≡ 0 = cc in
        let m = n.0 in
        let m' : IsNameOf lookup 0 u = rw z at m in
        let m'' : IsNameOf lookup 0 t = rw f m' in
        d m''
    zero_names (x ∷ []) (u ∷ v ∷ ts) e n f = n.1
    zero_names (x ∷ y ∷ xs) ts e n f = cc

    is_zero : (x : ℕ) → nat_eq x 0 ≡ true → x ≡ 0
    is_zero x e = grind (arith, nat_tests)

    is_some_bit : (x : ℕ) → nat_eq x 0 ≡ false → 0 < x
    is_some_bit x e = grind (arith, nat_tests)

    step : (x : ℕ) → x < 2 ^ 32 → (ts : List (List ℕ)) → AreNamesOf lookup (mask_values x) ts → t ≡ joined ts
        → (z : Bool) → nat_eq x 0 ≡ z → ⊥
    step x h ts n e true z = zero_names (mask_values x) ts (rw (is_zero x z) refl) n e
    step x h ts n e false z =
        let p = is_some_bit x z in
        let c : cells (joined ts) ≡ ts = cells_joined lookup (mask_values x) ts n (λ k. mask_some x (omega arith) k) in
        let c' : ts ≡ cells t = sym c ∙ ap cells (sym e) in
        let n' : AreNamesOf lookup (set_bits x) ts = rw (bits_of x p) at n in
        let n'' : AreNamesOf lookup (set_bits x) (cells t) = rw c' at n' in
        b x p h n''

-- the first name is none
pub no_first_named : (lookup : List ℕ → Option ℕ) (t name : List ℕ) (rest : Option (List ℕ))
    → cells t ≡ name ∷ cells_left rest → IsNamed lookup name None → IsNamedMask lookup t None
no_first_named lookup t name rest c n =
    bits_named lookup t None (λ z. let w = whole_cell lookup t 0 z in let e : t ≡ name = cc in
    let z' : IsNameOf lookup 0 name = rw e at z in n 0 z') (no_first lookup t name rest c n)

-- the first name is not that of 0, or another one stands behind it
pub first_named : {X : Type 0} (f : X → List ℕ) (lookup : List ℕ → Option ℕ) (t name : List ℕ) (x : ℕ) (rest : Option X)
    (r : Option ℕ) → cells t ≡ name ∷ cells_left (option_map f rest) → IsNamed lookup name (Some x)
    → (x ≡ 0 → rest ≡ None → ⊥) → IsNamedBits lookup t r
    → IsNamedMask lookup t r
first_named {X = X} f lookup t name x rest r c n d b = bits_named lookup t r (λ z. alone rest z c d) b
  where
    alone : (rest : Option X) → IsNameOf lookup 0 t → cells t ≡ name ∷ cells_left (option_map f rest)
        → (x ≡ 0 → rest ≡ None → ⊥) → ⊥
    alone None z c d =
        let w = whole_cell lookup t 0 z in
        let e : t ≡ name = cc in
        let z' : IsNameOf lookup 0 name = rw e at z in
        let p = z'.found in
        let q = n.found in
        let g : x ≡ 0 = cc in
        d g refl
    alone (Some u) z c d =
        let w = whole_cell lookup t 0 z in
        let g : cells (f u) ≡ [] = cc in
        some_cell (f u) g
