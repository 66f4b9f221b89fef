-- What a file that was read has to keep, each rule by itself. A file breaks a code where its rule is false. (Own.)
use Rattle.std.specs.Prelude.{ℕ, Bool, true, false, ◌&&◌, List, [], ◌∷◌, Option, Some, is_some, not}
use Rattle.std.specs.Prelude.{◌||◌, nat_le, count_by, codes}
use Rattle.std.specs.List.{list_all}
use Rattle.std.specs.Str.{bytes_eq}
use Rattle.spv_table.specs.declared.table.Quantifier.{Quantifier}
use Rattle.spv_table.specs.declared.table.Quantifier.TheVariants as quantifier
use Rattle.spv_table.specs.declared.table.Category.{Category}
use Rattle.spv_table.specs.declared.table.Category.TheVariants as category
use Rattle.spv_grammar.specs.declared.file.FileOperand.{FileOperand}
use Rattle.spv_grammar.specs.declared.file.FileInstruction.{FileInstruction}
use Rattle.spv_grammar.specs.declared.file.FileEnumerant.{FileEnumerant}
use Rattle.spv_grammar.specs.declared.file.FileKind.{FileKind}
use Rattle.spv_grammar.specs.declared.file.File.{File}
use Rattle.spv_grammar.specs.Kinds.{number_in, kind_named, is_part, is_result}

-- J3: each opcode, and each value of the kinds' enumerants, is in its range and form
abbrev pub has_opcodes : List FileInstruction → Bool
has_opcodes is = list_all (λ i. is_some i.opcode) is

abbrev pub has_values : FileKind → Bool
has_values k = list_all (λ e. is_some e.value) k.enumerants

abbrev pub has_numbers : File → Bool
has_numbers file = has_opcodes file.instructions && list_all has_values file.kinds

-- J4: each kind that an operand, a parameter or a base names is one of the file's
abbrev pub are_named : List FileKind → List FileOperand → Bool
are_named firsts operands = list_all (λ o. is_some (number_in firsts o.kind)) operands

abbrev pub have_named : List FileKind → List FileEnumerant → Bool
have_named firsts es = list_all (λ e. are_named firsts e.parameters) es

abbrev pub are_kinds : List FileKind → List (List ℕ) → Bool
are_kinds firsts names = list_all (λ name. is_some (number_in firsts name)) names

abbrev pub names_kinds : List FileKind → FileKind → Bool
names_kinds firsts k = have_named firsts k.enumerants && are_kinds firsts k.bases

abbrev pub has_kinds : List FileKind → File → Bool
has_kinds firsts file =
    list_all (λ i. are_named firsts i.operands) file.instructions && list_all (names_kinds firsts) file.kinds

-- J5: each category and each quantifier is known
abbrev pub are_quantified : List FileOperand → Bool
are_quantified operands = list_all (λ o. is_some o.quantifier) operands

abbrev pub have_quantified : List FileEnumerant → Bool
have_quantified es = list_all (λ e. are_quantified e.parameters) es

abbrev pub is_known_kind : FileKind → Bool
is_known_kind k = is_some k.category && have_quantified k.enumerants

abbrev pub is_known : File → Bool
is_known file = list_all (λ i. are_quantified i.operands) file.instructions && list_all is_known_kind file.kinds

-- J6: a result kind stands at most once in an entry, not quantified, and neither in parameters nor in bases
abbrev pub is_one : Option Quantifier → Bool
is_one (Some quantifier.One) = true
is_one _ = false

abbrev pub is_result_named : List FileKind → List ℕ → FileOperand → Bool
is_result_named firsts name o = bytes_eq o.kind name && is_result firsts o.kind

abbrev pub comes_once : List FileKind → List ℕ → List FileOperand → Bool
comes_once firsts name operands = nat_le (count_by (is_result_named firsts name) operands) 1

abbrev pub is_plain : List FileKind → FileOperand → Bool
is_plain firsts o = not (is_result firsts o.kind) || is_one o.quantifier

abbrev pub places_results : List FileKind → List FileOperand → Bool
places_results firsts operands =
    comes_once firsts (codes "IdResultType") operands && comes_once firsts (codes "IdResult") operands && list_all
    (is_plain firsts) operands

abbrev pub are_no_results : List FileKind → List FileOperand → Bool
are_no_results firsts operands = list_all (λ o. not (is_result firsts o.kind)) operands

abbrev pub has_no_results : List FileKind → FileKind → Bool
has_no_results firsts k =
    list_all (λ e. are_no_results firsts e.parameters) k.enumerants && list_all
    (λ name. not (is_result firsts name)) k.bases

abbrev pub has_results : List FileKind → File → Bool
has_results firsts file =
    list_all (λ i. places_results firsts i.operands) file.instructions && list_all (has_no_results firsts) file.kinds

-- J7: a Composite has bases, each a kind of category Id or Literal
abbrev pub are_parts : List FileKind → List (List ℕ) → Bool
are_parts firsts [] = false
are_parts firsts (name ∷ names) = list_all (λ n. is_part (kind_named firsts n)) (name ∷ names)

abbrev pub composes : List FileKind → Option Category → List (List ℕ) → Bool
composes firsts (Some category.Composite) names = are_parts firsts names
composes firsts _ names = true

abbrev pub is_composed : List FileKind → FileKind → Bool
is_composed firsts k = composes firsts k.category k.bases

abbrev pub has_bases : List FileKind → File → Bool
has_bases firsts file = list_all (is_composed firsts) file.kinds
