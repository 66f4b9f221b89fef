-- What a kind asks for, as far as its category and name tell: what the decoder works out once for each kind. (For the
-- code alone.)
use Rattle.std.specs.Prelude.{ℕ, List, Option, Some, None, bytes_eq, codes, ◌||◌, if◌then◌else◌}
use Rattle.spv_table.specs.declared.table.Category.{Category}
use Rattle.spv_table.specs.declared.table.Category.TheVariants as category
use Rattle.spv_table.specs.Table.{Sort}
use Rattle.spv_table.specs.declared.form.Leaf as declared
use Rattle.spv_table.specs.declared.form.Leaf.TheVariants as leaf
use Rattle.spv_table.specs.declared.form.Form.{Form}
use Rattle.spv_table.specs.declared.form.Form.TheVariants.{Leaf, Parts}

abbrev pub id_leaf : List ℕ → declared.Leaf
id_leaf name =
    if bytes_eq name (codes "IdResultType") then leaf.ResultType
    else (if bytes_eq name (codes "IdResult") then leaf.Result else leaf.Id)

abbrev pub literal_leaf : List ℕ → declared.Leaf
literal_leaf name =
    if bytes_eq name (codes "LiteralInteger") then leaf.Integer
    else (if bytes_eq name (codes "LiteralFloat") || bytes_eq name (codes "LiteralExtInstInteger") then leaf.Word
    else (if bytes_eq name (codes "LiteralString") then leaf.Text
    else (if bytes_eq name (codes "LiteralContextDependentNumber") then leaf.ContextNumber
    else leaf.Nothing)))

abbrev pub category_form : List ℕ → Category → Form
category_form name category.Id = Leaf (id_leaf name)
category_form name category.Literal = Leaf (literal_leaf name)
category_form name category.ValueEnum = Leaf leaf.Value
category_form name category.BitEnum = Leaf leaf.Mask
category_form name category.Composite = Parts (bytes_eq name (codes "PairLiteralIntegerIdRef"))

abbrev pub form_of : Sort → Form
form_of s = category_form s.kind.name s.kind.category

-- what a kind asks for, if there is such a kind
abbrev pub form_at : Option Sort → Form
form_at None = Leaf leaf.Nothing
form_at (Some s) = form_of s
