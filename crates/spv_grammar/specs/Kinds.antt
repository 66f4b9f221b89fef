-- The kinds of a file, each name once, and their numbers. (Own.)
use Rattle.std.specs.Prelude.{ℕ, Bool, true, false, not, ◌&&◌, ◌||◌, List, [], ◌∷◌, Option, Some, None}
use Rattle.std.specs.Prelude.{filter, position, codes}
use Rattle.std.specs.List.{find}
use Rattle.std.specs.Str.{bytes_eq}
use Rattle.spv_grammar.specs.declared.file.FileKind.{FileKind}
use Rattle.spv_table.specs.declared.table.Category.{Category}
use Rattle.spv_table.specs.declared.table.Category.TheVariants as category

abbrev pub bears : List ℕ → FileKind → Bool
bears name k = bytes_eq name k.name

-- the kinds without those whose name an earlier one bears
abbrev pub first_kinds : List FileKind → List FileKind
first_kinds [] = []
first_kinds (k ∷ ks) = k ∷ filter (λ later. not (bears k.name later)) (first_kinds ks)

-- the number of a name: how many other names come before it; none if no kind bears it
abbrev pub number_in : List FileKind → List ℕ → Option ℕ
number_in firsts name = position (bears name) firsts

-- the kind that a name means
abbrev pub kind_named : List FileKind → List ℕ → Option FileKind
kind_named firsts name = find (bears name) firsts

abbrev pub is_id_category : Option Category → Bool
is_id_category (Some category.Id) = true
is_id_category _ = false

abbrev pub is_part_category : Option Category → Bool
is_part_category (Some category.Id) = true
is_part_category (Some category.Literal) = true
is_part_category _ = false

-- the kinds whose operands are one id or one literal
abbrev pub is_part : Option FileKind → Bool
is_part None = false
is_part (Some k) = is_part_category k.category

abbrev pub is_id : Option FileKind → Bool
is_id None = false
is_id (Some k) = is_id_category k.category

-- the result kinds are those of category Id named IdResultType and IdResult
abbrev pub is_result : List FileKind → List ℕ → Bool
is_result firsts name =
    (bytes_eq name (codes "IdResultType") || bytes_eq name (codes "IdResult")) && is_id (kind_named firsts name)
