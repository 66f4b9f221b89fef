use Rattle.std.proofs.Common.{◌≡◌, ◌++◌, true, string_bytes, drop}
use Rattle.spv_facts.specs.Shapes.{forms_text}
use Rattle.spv_facts.proofs.shapes.push_forms.Given as goal

abbrev pub invariant-loop-form : goal.invariant-loop-form
invariant-loop-form l =
    string_bytes l.out ++ forms_text l.first (drop l.form-index l.fn.forms) ≡ string_bytes l.initial.out
    ++ forms_text true l.fn.forms
