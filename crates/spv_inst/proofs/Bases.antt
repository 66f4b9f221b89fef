-- Kinds that are Composites, and their bases.
use Rattle.std.proofs.Common.{◌≡◌, ◌++◌, ◌∙◌, ◌&&◌, ℕ, List, [], ◌∷◌, zero, suc, Option, Some, None, Bool, true, false}
use Rattle.std.proofs.Common.{bytes_eq, codes, map, option_map, refl, sym, ap, append_assoc}
use Rattle.std.specs.List.{list_all, slice_get}
use Rattle.spv_table.specs.declared.table.Category.{Category}
use Rattle.spv_table.specs.declared.table.Category.TheVariants as category
use Rattle.spv_table.specs.declared.table.Kind.{Kind}
use Rattle.spv_table.specs.Table.{Table, Sort, kind_of, is_simple, is_simple_category, are_bases, is_sound}
use Rattle.spv_table.specs.Table.{is_sound_category, IsWhole}
use Rattle.spv_table.specs.declared.form.Form.TheVariants.{Parts}
use Rattle.spv_table.specs.inner.Form.{category_form, form_of, form_at}
use Rattle.spv_module.specs.Operand.{Context}
use Rattle.spv_module.specs.Shape.{Slot, AsParts, category_shape, kind_shape, shape_of}
use Rattle.spv_inst.specs.Flat.{Due, OneOf}
use Rattle.spv_inst.specs.declared.reader.Slot as code
use Rattle.spv_inst.specs.inner.Pending.{plain_slot, slots_of, Opens}

parts_category : (c : Context) (q : Bool) (s : Sort) (cat : Category) (p : Bool)
    → category_form s.kind.name cat ≡ Parts p → category_shape c q s cat ≡ AsParts (slots_of p s.kind.bases)
parts_category c q s category.Id p h = cc
parts_category c q s category.Literal p h = cc
parts_category c q s category.ValueEnum p h = cc
parts_category c q s category.BitEnum p h = cc
parts_category c q s category.Composite p h = let e : bytes_eq s.kind.name (codes "PairLiteralIntegerIdRef") ≡ p = cc in
    ap (λ b. AsParts (slots_of b s.kind.bases)) e

parts_bases : (G : Table) (name ks : List ℕ) (cat : Category) (p : Bool) → category_form name cat ≡ Parts p
    → is_sound_category G ks cat ≡ true → are_bases G ks ≡ true
parts_bases G name ks category.Id p h g = cc
parts_bases G name ks category.Literal p h g = cc
parts_bases G name ks category.ValueEnum p h g = cc
parts_bases G name ks category.BitEnum p h g = cc
parts_bases G name ks category.Composite p h g = g

simple_category : (name : List ℕ) (cat : Category) (p : Bool) → is_simple_category cat ≡ true
    → category_form name cat ≡ Parts p → ⊥
simple_category name category.Id p h g = cc
simple_category name category.Literal p h g = cc
simple_category name category.ValueEnum p h g = cc
simple_category name category.BitEnum p h g = cc
simple_category name category.Composite p h g = cc

pub and_first : (a b : Bool) → a && b ≡ true → a ≡ true
and_first true b e = refl
and_first false b e = cc

pub and_second : (a b : Bool) → a && b ≡ true → b ≡ true
and_second true b e = e
and_second false b e = cc

-- what passes for all kinds passes for each
pub passes_at : (test : Sort → Bool) (ss : List Sort) (k : ℕ) (s : Sort) → list_all test ss ≡ true
    → slice_get ss k ≡ Some s → test s ≡ true
passes_at test [] k s h e = cc
passes_at test (x ∷ xs) zero s h e = let f : x ≡ s = cc in rw f at (and_first (test x) (list_all test xs) h)
passes_at test (x ∷ xs) (suc k) s h e = passes_at test xs k s (and_second (test x) (list_all test xs) h) e

-- a Composite: its shape, and its bases
pub record Composed (G : Table) (k : ℕ) (p : Bool) (ks : List ℕ) : Type 0 where
  pub shape : (c : Context) (q : Bool) → shape_of G c (record { kind = k; paired = q }) ≡ AsParts (slots_of p ks)
  pub bases : are_bases G ks ≡ true

shape_at : (G : Table) (k : ℕ) (p : Bool) (s : Sort) → kind_of G k ≡ Some s → form_of s ≡ Parts p
    → (c : Context) (q : Bool) → shape_of G c (record { kind = k; paired = q }) ≡ AsParts (slots_of p s.kind.bases)
unfolding shape_of
shape_at G k p s e f = λ c q. ap (λ o. kind_shape c q o) e ∙ parts_category c q s s.kind.category p f

composed_sort : (G : Table) → IsWhole G → (k : ℕ) (p : Bool) (o : Option Sort) (r : Kind) → kind_of G k ≡ o
    → Parts p ≡ form_at o → Some r ≡ option_map (λ s. s.kind) o
    → Composed G k p r.bases
composed_sort G w k p None r e f h = cc
composed_sort G w k p (Some s) r e f h =
    let i : r ≡ s.kind = cc in
    let g : is_sound G s ≡ true = passes_at (is_sound G) G.kinds k s w.sound e in
    rw i (record {
      shape = shape_at G k p s e (sym f);
      bases = parts_bases G s.kind.name s.kind.bases s.kind.category p (sym f) g;
    })

pub composed : (G : Table) → IsWhole G → (k : ℕ) (p : Bool) (r : Kind) (ks : List ℕ) → Parts p ≡ form_at (kind_of G k)
    → Some r ≡ option_map (λ s. s.kind) (kind_of G k) → ks ≡ r.bases
    → Composed G k p ks
composed G w k p r ks f h e = rw e (composed_sort G w k p (kind_of G k) r refl f h)

pub has_bases : (G : Table) (k : ℕ) (p q : Bool) (ks : List ℕ) → Composed G k p ks → map OneOf (slots_of q ks) ≡ [] → ⊥
has_bases G k p q [] h e = let b = h.bases in cc
has_bases G k p q (x ∷ xs) h e = cc

simple_form : (o : Option Sort) (p : Bool) → is_simple o ≡ true → Parts p ≡ form_at o → ⊥
simple_form None p h g = cc
simple_form (Some s) p h g = simple_category s.kind.name s.kind.category p h (sym g)

front_kind : List Due → ℕ
front_kind (OneOf s ∷ ds) = s.kind
front_kind _ = 0

-- a first base is no Composite
pub simple_base : (G : Table) (k : ℕ) (p q : Bool) (ks : List ℕ) (fs gs : List Due) (s : code.Slot) → Composed G k p ks
    → map OneOf (slots_of p ks) ++ fs ≡ OneOf (plain_slot s) ∷ gs → Parts q ≡ form_at (kind_of G s.kind) → ⊥
unfolding front_kind
simple_base G k p q [] fs gs s h e g = let b = h.bases in cc
simple_base G k p q (j ∷ ks) fs gs s h e g =
    let a : j ≡ s.kind = ap front_kind e in
    let f : Parts q ≡ form_at (kind_of G j) = rw a g in
    simple_form (kind_of G j) q (and_first (is_simple (kind_of G j))
    (list_all (λ b. is_simple (kind_of G b)) ks) h.bases) f

-- the bases of a Composite in its place
pub opens_parts : (G : Table) (s first : Slot) (ss : List Slot) (fs gs ds : List Due)
    → ((c : Context) → shape_of G c s ≡ AsParts ss)
    → map OneOf ss ++ fs ≡ OneOf first ∷ gs → Opens G s (fs ++ ds) (OneOf first ∷ (gs ++ ds))
opens_parts G s first ss fs gs ds h e =
    let f : map OneOf ss ++ (fs ++ ds) ≡ OneOf first ∷ (gs ++ ds) = sym (append_assoc (map OneOf ss) fs ds)
    ∙ ap (λ zs. zs ++ ds) e in
    let t : Opens G s (fs ++ ds) (map OneOf ss ++ (fs ++ ds)) = Opens.parts ss h in
    rw f at t
