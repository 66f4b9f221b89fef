-- Names of values and masks: decided.
use Rattle.std.proofs.Common.{◌≡◌, ◌≢◌, ◌++◌, ◌∙◌, ◌⊎◌, inl, inr, ◌<◌, ◌≤◌, ℕ, List, [], ◌∷◌, Option, Some, None, true}
use Rattle.std.proofs.Common.{false, nat_eq, refl, sym, ap, arith}
use Rattle.std.specs.List.{AllByRecursion, slice_split}
use Rattle.std.proofs.lemmas.List.Splits.{join_with_byte-slice_split}
use Rattle.std.proofs.lemmas.Bool.Decides.{nat_tests}
use Rattle.spv_lines.specs.Name.{is_plain, IsNameOf, AreNamesOf, joined, mask_values}
use Rattle.spv_lines.proofs.Tokens.{plain_cell, found_same}
use Rattle.spv_lines.proofs.Bits.{total, mask_sum}
use Rattle.spv_lines.proofs.Large.{mask_some}
use Rattle.spv_lines.proofs.Marked.{below_or_not, true_or_false, true_not_false, lists_same_or_not}

-- a text is a plain name of some number, or of none
pub data Named (lookup : List ℕ → Option ℕ) (t : List ℕ) : Type 0 where
  found : (x : ℕ) → IsNameOf lookup x t → Named lookup t
  none : ((x : ℕ) → IsNameOf lookup x t → ⊥) → Named lookup t

pub named : (lookup : List ℕ → Option ℕ) (t : List ℕ) → Named lookup t
named lookup t = step (true_or_false (is_plain t)) (lookup t) refl
  where
    step : (is_plain t ≡ true) ⊎ (is_plain t ≡ false) → (o : Option ℕ) → lookup t ≡ o → Named lookup t
    step (inl e) (Some x) f = Named.found x (record { plain = e; found = f })
    step (inl e) None f = Named.none (λ x n. let g = n.found in cc)
    step (inr e) o f = Named.none (λ x n. true_not_false (is_plain t) n.plain e)

pub data AllNamed (lookup : List ℕ → Option ℕ) (ts : List (List ℕ)) : Type 0 where
  found : (xs : List ℕ) → AreNamesOf lookup xs ts → AllNamed lookup ts
  none : ((xs : List ℕ) → AreNamesOf lookup xs ts → ⊥) → AllNamed lookup ts

pub head_name : (lookup : List ℕ → Option ℕ) (xs t : List ℕ) (ts : List (List ℕ)) → AreNamesOf lookup xs (t ∷ ts)
    → (x : ℕ) × (ys : List ℕ) × IsNameOf lookup x t × AreNamesOf lookup ys ts
head_name lookup [] t ts h = absurd h
head_name lookup (x ∷ xs) t ts h = (x, xs, h.0, h.1)

no_more : (lookup : List ℕ → Option ℕ) (t : List ℕ) (ts : List (List ℕ)) → Named lookup t → AllNamed lookup ts
    → AllNamed lookup (t ∷ ts)
no_more lookup t ts (Named.found x n) (AllNamed.found xs m) = AllNamed.found (x ∷ xs) (n, m)
no_more lookup t ts (Named.found x n) (AllNamed.none f) =
    AllNamed.none (λ ys h. let r = head_name lookup ys t ts h in f r.1 r.3)
no_more lookup t ts (Named.none f) m = AllNamed.none (λ ys h. let r = head_name lookup ys t ts h in f r.0 r.2)

pub all_named : (lookup : List ℕ → Option ℕ) (ts : List (List ℕ)) → AllNamed lookup ts
all_named lookup [] = AllNamed.found [] tt
all_named lookup (t ∷ ts) = no_more lookup t ts (named lookup t) (all_named lookup ts)

abbrev cells : List ℕ → List (List ℕ)
cells a = slice_split (λ b. nat_eq b 124) a

not_bar : (b : ℕ) → b ≢ 124 → nat_eq b 124 ≡ false
not_bar b h = grind (arith, nat_tests)

cell_alone : (t : List ℕ) → AllByRecursion (λ b. b ≢ 124) t → cells t ≡ t ∷ []
cell_alone [] h = refl
cell_alone (b ∷ t) h = let e = not_bar b h.0 in rw (e, cell_alone t h.1) refl

cell_first : (t r : List ℕ) → AllByRecursion (λ b. b ≢ 124) t → cells (t ++ (124 ∷ r)) ≡ t ∷ cells r
cell_first [] r h = refl
cell_first (b ∷ t) r h = let e = not_bar b h.0 in rw (e, cell_first t r h.1) refl

pub cells_joined : (lookup : List ℕ → Option ℕ) (xs : List ℕ) (ts : List (List ℕ)) → AreNamesOf lookup xs ts → xs ≢ []
    → cells (joined ts) ≡ ts
cells_joined lookup [] ts h n = absurd (n refl)
cells_joined lookup (x ∷ xs) [] h n = absurd h
cells_joined lookup (x ∷ []) (t ∷ []) h n = cell_alone t (plain_cell t h.0.plain).no_bar
cells_joined lookup (x ∷ []) (t ∷ u ∷ ts) h n = absurd h.1
cells_joined lookup (x ∷ y ∷ xs) (t ∷ []) h n = absurd h.1
cells_joined lookup (x ∷ y ∷ xs) (t ∷ u ∷ ts) h n =
    cell_first t (joined (u ∷ ts)) (plain_cell t h.0.plain).no_bar
    ∙ ap (λ z. t ∷ z) (cells_joined lookup (y ∷ xs) (u ∷ ts) h.1 (λ e. cc))

-- a text names a mask, or none
pub data MaskNamed (lookup : List ℕ → Option ℕ) (a : List ℕ) : Type 0 where
  found : (x : ℕ) → x < 4294967296 → (ts : List (List ℕ)) → AreNamesOf lookup (mask_values x) ts → a ≡ joined ts
      → MaskNamed lookup a
  none : ((x : ℕ) → x < 4294967296 → (ts : List (List ℕ)) → AreNamesOf lookup (mask_values x) ts → a ≡ joined ts → ⊥)
      → MaskNamed lookup a

pub mask_named : (lookup : List ℕ → Option ℕ) (a : List ℕ) → MaskNamed lookup a
mask_named lookup a = step (all_named lookup (cells a))
  where
    only : (y : ℕ) → y < 4294967296 → (us : List (List ℕ)) → AreNamesOf lookup (mask_values y) us → a ≡ joined us
        → us ≡ cells a
    only y l us m f = sym (cells_joined lookup (mask_values y) us m (mask_some y l)) ∙ ap cells (sym f)

    named_so : (xs ys : List ℕ) (ts : List (List ℕ)) → xs ≡ ys → AreNamesOf lookup ys ts → AreNamesOf lookup xs ts
    named_so xs ys ts e h = rw e h

    again : (xs : List ℕ) → AreNamesOf lookup xs (cells a) → (total xs < 4294967296) ⊎ (4294967296 ≤ total xs)
        → (mask_values (total xs) ≡ xs) ⊎ (mask_values (total xs) ≢ xs) → MaskNamed lookup a
    again xs n (inl l) (inl e) =
        MaskNamed.found (total xs) l (cells a) (named_so (mask_values (total xs)) xs (cells a) e n)
        (sym (join_with_byte-slice_split 124 a))
    again xs n (inl l) (inr d) = MaskNamed.none (λ y h us m f.
        let g = found_same lookup (mask_values y) xs us (cells a) m n (only y h us m f) in
        let s : total xs ≡ y = ap total (sym g) ∙ mask_sum y h in
        d (ap mask_values s ∙ g))
    again xs n (inr l) e = MaskNamed.none (λ y h us m f.
        let g = found_same lookup (mask_values y) xs us (cells a) m n (only y h us m f) in
        let s : total xs ≡ y = ap total (sym g) ∙ mask_sum y h in
        omega arith)

    none_so : (us : List (List ℕ)) (ys : List ℕ) → us ≡ cells a → AreNamesOf lookup ys us
        → AreNamesOf lookup ys (cells a)
    none_so us ys e h = rw (← e) h

    step : AllNamed lookup (cells a) → MaskNamed lookup a
    step (AllNamed.found xs n) =
        again xs n (below_or_not (total xs) 4294967296) (lists_same_or_not (mask_values (total xs)) xs)
    step (AllNamed.none d) =
        MaskNamed.none (λ y h us m f. d (mask_values y) (none_so us (mask_values y) (only y h us m f) m))
