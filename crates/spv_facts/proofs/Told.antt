-- The rows of the worked examples, in words, and lines of the table of versions.
use Rattle.std.proofs.Common.{◌≡◌, ◌∙◌, ℕ, List, [], ◌∷◌, None, Some, ap, arith, codes, refl, slice_index, sym, true}
use Rattle.std.proofs.lemmas.Fmt.{decimal_digit}
use Rattle.spv_module.specs.declared.opcode.TheConstants as opcode
use Rattle.spv_layout.specs.Rows.{rows}
use Rattle.spv_versions.specs.Table.{lines}
use Rattle.spv_facts.specs.Shapes.{row_text}
use Rattle.spv_facts.specs.Versions.{extensions_of, first_version, since_text}

pub load_told : row_text opcode.LOAD true ≡ codes "result type, result, value, MemoryAccess or nothing, any others"
unfolding rows
load_told = refl

pub phi_told : row_text opcode.PHI true ≡ codes "result type, result, any number of: value, label"
unfolding rows
phi_told = refl

pub bare_told : row_text opcode.RETURN true ≡ codes "no operands"
unfolding rows
bare_told = refl

pub unknown_told : row_text 24 true ≡ codes "none"
unfolding rows
unknown_told = refl

pub not_other_told : ¬ (row_text opcode.RETURN true ≡ codes "value")
not_other_told h = (let f : 110 ≡ 118 = ap (λ (t : List ℕ). slice_index t 0) (sym bare_told ∙ h) in
    absurd (omega (arith, f)))

pub since_told : first_version 5 ≡ Some 4
unfolding lines
since_told = refl

pub extensions_told : extensions_of 5
    ≡ codes "SPV_GOOGLE_decorate_string" ∷ codes "SPV_GOOGLE_hlsl_functionality1" ∷ []
unfolding lines
extensions_told = refl

pub no_version_told : first_version 95 ≡ None
unfolding lines
no_version_told = refl

some_extensions : extensions_of 95 ≡ codes "SPV_GOOGLE_user_type" ∷ []
unfolding lines
some_extensions = refl

pub no_extensions_told : ¬ (extensions_of 95 ≡ [])
no_extensions_told h =
    (let e : codes "SPV_GOOGLE_user_type" ∷ [] ≡ [] = sym some_extensions ∙ h in absurd cc)

pub written_told : since_text 4 ≡ codes "1.4"
written_told = rw (decimal_digit 4 (omega arith)) refl

pub not_number_told : ¬ (since_text 4 ≡ codes "4")
not_number_told h = (let f : 49 ≡ 52 = ap (λ (t : List ℕ). slice_index t 0) (sym written_told ∙ h) in
    absurd (omega (arith, f)))
