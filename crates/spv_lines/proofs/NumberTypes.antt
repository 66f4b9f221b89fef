-- What the form of a kind tells of the type of a number.
use Rattle.std.proofs.Common.{◌≡◌, ℕ, List, Option, Some, None, Bool, true, false, ◌||◌, cond, option_and_then, refl}
use Rattle.std.specs.Prelude.{bytes_eq, codes}
use Rattle.std.proofs.lemmas.Slice.Eq.{bytes_eq-Decides}
use Rattle.spv_table.specs.declared.table.Category.{Category}
use Rattle.spv_table.specs.declared.table.Category.TheVariants as category
use Rattle.spv_table.specs.Table.{Sort}
use Rattle.spv_table.specs.declared.form.Leaf as declared
use Rattle.spv_table.specs.declared.form.Leaf.TheVariants as leaf
use Rattle.spv_table.specs.declared.form.Form.TheVariants.{Leaf}
use Rattle.spv_table.specs.inner.Form.{form_at, category_form}
use Rattle.spv_module.specs.Operand.{Context, type_in}
use Rattle.spv_module.specs.Width.{type_of, first_id}
use Rattle.spv_lines.specs.Operand.{number_type}

id_no_context : (a b : Bool) → cond a leaf.ResultType (cond b leaf.Result leaf.Id) ≡ leaf.ContextNumber → ⊥
id_no_context true b h = cc
id_no_context false true h = cc
id_no_context false false h = cc

id_no_integer : (a b : Bool) → cond a leaf.ResultType (cond b leaf.Result leaf.Id) ≡ leaf.Integer → ⊥
id_no_integer true b h = cc
id_no_integer false true h = cc
id_no_integer false false h = cc

literal_context : (a b d e : Bool)
    → cond a leaf.Integer (cond b leaf.Word
    (cond d leaf.Text (cond e leaf.ContextNumber leaf.Nothing))) ≡ leaf.ContextNumber → e ≡ true
literal_context true b d e h = cc
literal_context false true d e h = cc
literal_context false false true e h = cc
literal_context false false false true h = refl
literal_context false false false false h = cc

literal_integer : (a b d e : Bool)
    → cond a leaf.Integer (cond b leaf.Word (cond d leaf.Text (cond e leaf.ContextNumber leaf.Nothing))) ≡ leaf.Integer
    → a ≡ true
literal_integer true b d e h = refl
literal_integer false true d e h = cc
literal_integer false false true e h = cc
literal_integer false false false true h = cc
literal_integer false false false false h = cc

leaf_same : (a b : declared.Leaf) → Leaf a ≡ Leaf b → a ≡ b
leaf_same a b h = cc

context_name : (s : Sort) (cat : Category) → category_form s.kind.name cat ≡ Leaf leaf.ContextNumber
    → bytes_eq s.kind.name (codes "LiteralContextDependentNumber") ≡ true
context_name s category.Id h =
    absurd (id_no_context (bytes_eq s.kind.name (codes "IdResultType")) (bytes_eq s.kind.name (codes "IdResult"))
    (leaf_same _ _ h))
context_name s category.Literal h =
    literal_context (bytes_eq s.kind.name (codes "LiteralInteger"))
    (bytes_eq s.kind.name (codes "LiteralFloat") || bytes_eq s.kind.name (codes "LiteralExtInstInteger"))
    (bytes_eq s.kind.name (codes "LiteralString")) (bytes_eq s.kind.name (codes "LiteralContextDependentNumber"))
    (leaf_same _ _ h)
context_name s category.ValueEnum h = cc
context_name s category.BitEnum h = cc
context_name s category.Composite h = cc

integer_name : (s : Sort) (cat : Category) → category_form s.kind.name cat ≡ Leaf leaf.Integer
    → bytes_eq s.kind.name (codes "LiteralInteger") ≡ true
integer_name s category.Id h =
    absurd (id_no_integer (bytes_eq s.kind.name (codes "IdResultType")) (bytes_eq s.kind.name (codes "IdResult"))
    (leaf_same _ _ h))
integer_name s category.Literal h =
    literal_integer (bytes_eq s.kind.name (codes "LiteralInteger"))
    (bytes_eq s.kind.name (codes "LiteralFloat") || bytes_eq s.kind.name (codes "LiteralExtInstInteger"))
    (bytes_eq s.kind.name (codes "LiteralString")) (bytes_eq s.kind.name (codes "LiteralContextDependentNumber"))
    (leaf_same _ _ h)
integer_name s category.ValueEnum h = cc
integer_name s category.BitEnum h = cc
integer_name s category.Composite h = cc

pub type_by_context : (c : Context) (o : Option Sort) → form_at o ≡ Leaf leaf.ContextNumber
    → number_type c o ≡ type_in c.operands
type_by_context c None e = cc
type_by_context c (Some s) e = let f = context_name s s.kind.category e in rw f refl

other_name : (t : List ℕ) → t ≡ codes "LiteralInteger" → bytes_eq t (codes "LiteralContextDependentNumber") ≡ false
other_name t e = rw e refl

same_by : (t u : List ℕ) → bytes_eq t u ≡ true → t ≡ u
same_by t u e = (bytes_eq-Decides t u).0 e

pub type_by_switch : (c : Context) (o : Option Sort) → form_at o ≡ Leaf leaf.Integer
    → number_type c o ≡ option_and_then (type_of c.before) (first_id c.operands)
type_by_switch c None e = cc
type_by_switch c (Some s) e =
    let f = other_name s.kind.name (same_by s.kind.name (codes "LiteralInteger") (integer_name s s.kind.category e)) in
    rw f refl
