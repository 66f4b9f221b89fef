-- What a kind asks for at its place, by its form.
use Rattle.std.proofs.Common.{◌≡◌, ◌∙◌, ℕ, List, Option, Some, None, Bool, true, false, [], map, refl, ap}
use Rattle.std.specs.Prelude.{bytes_eq, codes, ◌||◌, if◌then◌else◌}
use Rattle.spv_table.specs.declared.table.Enumerant.{Enumerant}
use Rattle.spv_table.specs.declared.table.Category.{Category}
use Rattle.spv_table.specs.declared.table.Category.TheVariants as category
use Rattle.spv_table.specs.Table.{Table, Sort, kind_of}
use Rattle.spv_table.specs.declared.form.Leaf as declared
use Rattle.spv_table.specs.declared.form.Leaf.TheVariants as leaf
use Rattle.spv_table.specs.declared.form.Form.{Form}
use Rattle.spv_table.specs.declared.form.Form.TheVariants.{Leaf, Parts}
use Rattle.spv_module.specs.Operand.{Context}
use Rattle.spv_module.specs.Width.{context_width, switch_width}
use Rattle.spv_table.specs.inner.Form.{category_form, form_at}
use Rattle.spv_module.specs.Shape.{Slot, Shape, AsType, AsResult, AsId, AsWord, AsNumber, AsText, AsValue, AsMask}
use Rattle.spv_module.specs.Shape.{AsParts, AsNothing, integer_shape, category_shape, kind_shape, shape_of}
use Rattle.spv_module.specs.Refusal.{IsLeaf}
use Rattle.spv_inst.specs.Reading.{enumerants_at}

-- what a leaf asks for
abbrev pub leaf_shape : Context → Bool → List Enumerant → declared.Leaf → Shape
leaf_shape c paired es leaf.ResultType = AsType
leaf_shape c paired es leaf.Result = AsResult
leaf_shape c paired es leaf.Id = AsId
leaf_shape c paired es leaf.Integer = integer_shape c paired
leaf_shape c paired es leaf.Word = AsWord
leaf_shape c paired es leaf.ContextNumber = AsNumber (context_width c)
leaf_shape c paired es leaf.Text = AsText
leaf_shape c paired es leaf.Value = AsValue es
leaf_shape c paired es leaf.Mask = AsMask es
leaf_shape c paired es leaf.Nothing = AsNothing

-- the bases of a kind
abbrev pub bases_at : Option Sort → List ℕ
bases_at None = []
bases_at (Some s) = s.kind.bases

-- what a form asks for
abbrev pub form_shape : Context → Bool → List Enumerant → List ℕ → Form → Shape
form_shape c paired es bases (Leaf l) = leaf_shape c paired es l
form_shape c paired es bases (Parts pairs) = AsParts (map (λ k. record { kind = k; paired = pairs }) bases)

id_cases : (c : Context) (paired : Bool) (es : List Enumerant) (a b : Bool)
    → (if a then AsType else (if b then AsResult else AsId)) ≡ leaf_shape c paired es
    (if a then leaf.ResultType else (if b then leaf.Result else leaf.Id))
id_cases c paired es true b = refl
id_cases c paired es false true = refl
id_cases c paired es false false = refl

literal_cases : (c : Context) (paired : Bool) (es : List Enumerant) (a b d e : Bool)
    → (if a then integer_shape c paired else (if b then AsWord
    else (if d then AsText else (if e then AsNumber (context_width c) else AsNothing))))
    ≡ leaf_shape c paired es (if a then leaf.Integer
    else (if b then leaf.Word else (if d then leaf.Text else (if e then leaf.ContextNumber else leaf.Nothing))))
literal_cases c paired es true b d e = refl
literal_cases c paired es false true d e = refl
literal_cases c paired es false false true e = refl
literal_cases c paired es false false false true = refl
literal_cases c paired es false false false false = refl

category_cases : (c : Context) (paired : Bool) (s : Sort) (k : Category)
    → category_shape c paired s k ≡ form_shape c paired s.enumerants s.kind.bases (category_form s.kind.name k)
category_cases c paired s category.Id =
    id_cases c paired s.enumerants (bytes_eq s.kind.name (codes "IdResultType"))
    (bytes_eq s.kind.name (codes "IdResult"))
category_cases c paired s category.Literal =
    literal_cases c paired s.enumerants (bytes_eq s.kind.name (codes "LiteralInteger"))
    (bytes_eq s.kind.name (codes "LiteralFloat") || bytes_eq s.kind.name (codes "LiteralExtInstInteger"))
    (bytes_eq s.kind.name (codes "LiteralString")) (bytes_eq s.kind.name (codes "LiteralContextDependentNumber"))
category_cases c paired s category.ValueEnum = refl
category_cases c paired s category.BitEnum = refl
category_cases c paired s category.Composite = refl

kind_cases : (c : Context) (paired : Bool) (o : Option Sort)
    → kind_shape c paired o ≡ form_shape c paired (enumerants_at o) (bases_at o) (form_at o)
kind_cases c paired None = refl
kind_cases c paired (Some s) = category_cases c paired s s.kind.category

pub shape_by_form : (G : Table) (c : Context) (s : Slot)
    → shape_of G c s ≡ form_shape c s.paired (enumerants_at (kind_of G s.kind)) (bases_at (kind_of G s.kind))
    (form_at (kind_of G s.kind))
unfolding shape_of
shape_by_form G c s = kind_cases c s.paired (kind_of G s.kind)

-- the shape of a kind that takes one operand
pub shape_leaf : (G : Table) (c : Context) (s : Slot) (l m : declared.Leaf) → form_at (kind_of G s.kind) ≡ Leaf l
    → l ≡ m → shape_of G c s ≡ leaf_shape c s.paired (enumerants_at (kind_of G s.kind)) m
shape_leaf G c s l m e f =
    shape_by_form G c s ∙ ap (λ g. form_shape c s.paired (enumerants_at (kind_of G s.kind))
    (bases_at (kind_of G s.kind)) g) (e ∙ ap Leaf f)

-- the shape of a Composite
pub shape_parts : (G : Table) (c : Context) (s : Slot) (pairs : Bool) → form_at (kind_of G s.kind) ≡ Parts pairs
    → shape_of G c s ≡ AsParts (map (λ k. record { kind = k; paired = pairs }) (bases_at (kind_of G s.kind)))
shape_parts G c s pairs e =
    shape_by_form G c s ∙ ap (λ g. form_shape c s.paired (enumerants_at (kind_of G s.kind))
    (bases_at (kind_of G s.kind)) g) e

integer_is_leaf : (w : Option ℕ) (b : Bool) → IsLeaf (if b then AsNumber w else AsWord)
integer_is_leaf w true = tt
integer_is_leaf w false = tt

leaf_is_leaf : (c : Context) (paired : Bool) (es : List Enumerant) (l : declared.Leaf)
    → IsLeaf (leaf_shape c paired es l)
leaf_is_leaf c paired es leaf.ResultType = tt
leaf_is_leaf c paired es leaf.Result = tt
leaf_is_leaf c paired es leaf.Id = tt
leaf_is_leaf c paired es leaf.Integer = integer_is_leaf (switch_width c) _
leaf_is_leaf c paired es leaf.Word = tt
leaf_is_leaf c paired es leaf.ContextNumber = tt
leaf_is_leaf c paired es leaf.Text = tt
leaf_is_leaf c paired es leaf.Value = tt
leaf_is_leaf c paired es leaf.Mask = tt
leaf_is_leaf c paired es leaf.Nothing = tt

-- a leaf takes one word at least
pub shape_is_leaf : (G : Table) (c : Context) (s : Slot) (l : declared.Leaf) → form_at (kind_of G s.kind) ≡ Leaf l
    → IsLeaf (shape_of G c s)
shape_is_leaf G c s l e =
    rw (shape_leaf G c s l l e refl) (leaf_is_leaf c s.paired (enumerants_at (kind_of G s.kind)) l)
