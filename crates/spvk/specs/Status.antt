-- What a call comes to, as the C header lists it. (Own.)
use Rattle.std.specs.Prelude.{ℕ, List, Option, Some, None, nat_eq, codes, if◌then◌else◌}
use Rattle.spv_grammar.specs.declared.error.GrammarError.{GrammarError}
use Rattle.spv_grammar.specs.declared.error.GrammarError.TheVariants as grammar

-- J1 to J7: 101 to 107; J8, out of memory: 1
abbrev pub status_of : GrammarError → ℕ
status_of grammar.J1 = 101
status_of grammar.J2 = 102
status_of grammar.J3 = 103
status_of grammar.J4 = 104
status_of grammar.J5 = 105
status_of grammar.J6 = 106
status_of grammar.J7 = 107
status_of grammar.J8 = 1

-- what a status says; none where there is no such status
abbrev pub status_text : ℕ → Option (List ℕ)
status_text n =
    if nat_eq n 0 then Some (codes "success") else (
    if nat_eq n 1 then Some (codes "out of memory") else (
    if nat_eq n 2 then Some (codes "there is no grammar") else (
    if nat_eq n 3 then Some (codes "a pointer is null that must not be") else (
    if nat_eq n 4 then Some (codes "the text is no UTF-8") else (
    if nat_eq n 5 then Some (codes "there is no such flag") else (
    if nat_eq n 101 then Some (codes "the grammar file is no JSON, or nests deeper than 127 levels") else (
    if nat_eq n 102
    then Some (codes "a key of the grammar file is missing, or a value of it is of another sort than it must be") else (
    if nat_eq n 103 then Some (codes "an opcode or a value of the grammar file is out of its range or form") else (
    if nat_eq n 104 then Some (codes "the grammar file names a kind that it does not have") else (
    if nat_eq n 105 then Some (codes "the grammar file has an unknown category or quantifier") else (
    if nat_eq n 106 then Some (codes "a result kind of the grammar file stands where none may") else (
    if nat_eq n 107
    then Some (codes "a composite of the grammar file has no bases, or one that is neither an id nor a literal") else (
    None)))))))))))))
