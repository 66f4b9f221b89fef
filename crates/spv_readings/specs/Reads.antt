-- The types that are read where one is wanted and another found. [own]
use Rattle.std.specs.Prelude.{◌++◌, ℕ, List, Option, Some, None, option_and_then, option_to_list}
use Rattle.spv_module.specs.Operand.{PlainInst}
use Rattle.spv_type_forms.specs.declared.form.Form.{Form}
use Rattle.spv_type_forms.specs.declared.form.Form.TheVariants as form
use Rattle.spv_type_forms.specs.Form.{form_of}

-- the type within a type: what a pointer points to, the component of a vector, the element of an array, the image type
-- of a sampled image type [3.49.6]
abbrev pub inner_in : Form → Option ℕ
inner_in (form.Pointer class p) = Some p
inner_in (form.Vector c n) = Some c
inner_in (form.Array e l) = Some e
inner_in (form.SampledImage i) = Some i
inner_in _ = None

abbrev pub inner_of : List PlainInst → Option ℕ → Option ℕ
inner_of is o = option_and_then (λ t. option_and_then inner_in (form_of is t)) o

-- the types that are read where one is found and another wanted: these, and the types within them
abbrev pub reads : List PlainInst → Option ℕ → Option ℕ → List ℕ
reads is wanted found = option_to_list wanted ++ option_to_list found ++ option_to_list (inner_of is wanted)
    ++ option_to_list (inner_of is found)
