-- Lines that are told to be missing.
use Rattle.std.proofs.Common.{◌≡◌, ◌<◌, ◌≤◌, ◌∙◌, ℕ, List, Bool, true, false, Some, None, Option, length, map, option_map}
use Rattle.std.proofs.Common.{IsTrue, refl, sym, ap, subst, arith}
use Rattle.std.specs.Prelude.{slice_get, slice_index, slice_index_or}
use Rattle.std.proofs.lemmas.Option.{slice_get_within, slice_get-map, same_Some, none-some}
use Rattle.spv_versions.specs.declared.table.Kind.{Kind}
use Rattle.spv_versions.specs.Table.{IsOf, Line}
use Rattle.spv_versions.specs.inner.Lines.{IsListedAt, IsListed, Read, plain_line}
use Rattle.spv_versions.specs.inner.Told.{place_of}

-- a line as it is read, and as definitions read it
pub read_at : (ls : List Read) (m : ℕ) (x : Read) → slice_get ls m ≡ Some x
    → slice_get (map plain_line ls) m ≡ Some (plain_line x)
read_at ls m x e = slice_get-map plain_line ls m ∙ ap (option_map plain_line) e

pub unread : (ls : List Read) (m : ℕ) (l : Line) → slice_get (map plain_line ls) m ≡ Some l
    → (x : Read) × (slice_get ls m ≡ Some x) × (plain_line x ≡ l)
unread ls m l e = by (slice_get ls m) refl (sym (slice_get-map plain_line ls m) ∙ e)
  where
    by : (o : Option Read) → slice_get ls m ≡ o → option_map plain_line o ≡ Some l
        → (x : Read) × (slice_get ls m ≡ Some x) × (plain_line x ≡ l)
    by None f h = absurd (none-some l h)
    by (Some x) f h = (x, f, same_Some (plain_line x) l h)

-- the line at a place is one
pub line_at : (ls : List Read) (flags : List Bool) (k : Kind) (n m : ℕ) (x : Read) → slice_get ls m ≡ Some x
    → IsListedAt (map plain_line ls) flags k n m
    → (slice_index_or flags m false ≡ true) × IsOf (plain_line x) k n
line_at ls flags k n m x e h =
    (h.2, subst (λ (l : Line). IsOf l k n) (same_Some h.0 (plain_line x) (sym h.1 ∙ read_at ls m x e)) h.3)

pub within : (ls : List Read) (flags : List Bool) (k : Kind) (n m : ℕ) → IsListedAt (map plain_line ls) flags k n m
    → m < length ls
within ls flags k n m h = let u = unread ls m h.0 h.1 in slice_get_within ls m u.0 u.1

pub listed_here : (ls : List Read) (flags : List Bool) (k : Kind) (n m : ℕ) (x : Read) → slice_get ls m ≡ Some x
    → slice_index_or flags m false ≡ true → IsOf (plain_line x) k n → IsListed (map plain_line ls) flags k n
listed_here ls flags k n m x e t of = (m, (plain_line x, read_at ls m x e, t, of))

-- where none is so far, and these are all, there is none
pub none_listed : (ls : List Read) (flags : List Bool) (k : Kind) (n m : ℕ)
    → ((j : ℕ) → j < m → ¬ (IsListedAt (map plain_line ls) flags k n j)) → length ls ≤ m
    → ¬ (IsListed (map plain_line ls) flags k n)
none_listed ls flags k n m h l i =
    let w : i.0 < length ls = within ls flags k n i.0 i.1 in
    h i.0 (omega arith) i.1

-- a number that is lowered by a line, if that is missing, is not above any of its numbers
pub noted : (ls : List Read) (flags : List Bool) (least : List ℕ) (m : ℕ) (x : Read) → slice_get ls m ≡ Some x
    → (IsTrue (slice_index_or flags m false) → slice_index least (place_of x.0) ≤ x.1) → (k : Kind) (n : ℕ)
    → IsListedAt (map plain_line ls) flags k n m → slice_index least (place_of k) ≤ n
noted ls flags least m x e own k n h =
    let of = line_at ls flags k n m x e h in
    let low = subst (λ (q : Kind). slice_index least (place_of q) ≤ x.1) of.1.0 (own of.0) in
    let up = of.1.1 in omega (arith, low, up)
