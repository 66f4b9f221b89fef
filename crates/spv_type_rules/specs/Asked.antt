-- Parts of what Y2 demands, by names of their own: evidence speaks of them. [3.49.6; widths and counts own]
use Rattle.std.specs.Prelude.{◌≡◌, ◌⊎◌, ℕ, List, Some}
use Rattle.spv_module.specs.Operand.{PlainInst}
use Rattle.spv_type_forms.specs.declared.form.Form.TheVariants as form
use Rattle.spv_type_forms.specs.Form.{form_of}
use Rattle.spv_type_forms.specs.Types.{IsData}

-- the widths of an OpTypeInt [3.49.6; own]
abbrev pub IsIntWidth : ℕ → Type 0
IsIntWidth w = (w ≡ 8) ⊎ (w ≡ 16) ⊎ (w ≡ 32) ⊎ (w ≡ 64)

-- the widths of an OpTypeFloat [3.49.6; own]
abbrev pub IsFloatWidth : ℕ → Type 0
IsFloatWidth w = (w ≡ 16) ⊎ (w ≡ 32) ⊎ (w ≡ 64)

-- how many components an OpTypeVector has [3.49.6]
abbrev pub IsVectorCount : ℕ → Type 0
IsVectorCount n = (n ≡ 2) ⊎ (n ≡ 3) ⊎ (n ≡ 4) ⊎ (n ≡ 8) ⊎ (n ≡ 16)

-- what a pointer points to: a data type or an opaque type [3.49.6]
abbrev pub IsPointee : List PlainInst → ℕ → Type 0
IsPointee is t = IsData is t ⊎ (form_of is t ≡ Some form.Opaque)

-- what a function returns: void or a data type [3.49.6]
abbrev pub IsReturned : List PlainInst → ℕ → Type 0
IsReturned is t = IsData is t ⊎ (form_of is t ≡ Some form.Void)
