-- The words of the command line (own): what `clap` is told of them, and which command they give. (For the code alone.)
use Rattle.std.specs.Prelude.{◌≡◌, List, Bool, true, false, Option, Some, None, codes, Result}
use Rattle.clap.specs.Words.{Row, Text}
use Rattle.spv_command_line.specs.declared.command_line.Command.{Command}
use Rattle.spv_command_line.specs.declared.command_line.Form.{Form}
use Rattle.spv_command_line.specs.declared.command_line.Form.TheVariants as forms
use Rattle.spv_command_line.specs.declared.command_line.Naming.{Naming}
use Rattle.spv_command_line.specs.declared.command_line.Naming.TheVariants.{OfSeveral, Always, Never}
use Rattle.spv_command_line.specs.declared.command_line.UseError.{UseError}
use Rattle.spv_command_line.specs.CommandLine.{IsAsked, IsCommandOf}
use Rattle.spv_scope.specs.declared.scope.Scope.{Scope}
use Rattle.spv_scope.specs.declared.scope.Scope.TheVariants.{Own, Extended, OpenCl}

-- a name that is not of a command without files
abbrev pub IsOfFiles : Text → Type 0
IsOfFiles name = ¬ (name ≡ codes "rules") × ¬ (name ≡ codes "grammar")

-- which verdicts have names, by two options of which one may be set
abbrev pub naming_of : Bool → Bool → Option Naming
naming_of false false = Some OfSeveral
naming_of true false = Some Always
naming_of false true = Some Never
naming_of true true = None

-- as which version a module is read, and how far it is looked at, by three options of which two may not be set together
abbrev pub scope_of : Bool → Bool → Bool → Option Scope
scope_of true extended true = None
scope_of false extended true = Some OpenCl
scope_of as_1_6 true false = Some (Extended as_1_6)
scope_of as_1_6 false false = Some (Own as_1_6)

-- what is written, by an option that may be set
abbrev pub form_of : Bool → Form
form_of false = forms.Text
form_of true = forms.Page

-- the result is what these rows behind a name give
abbrev pub IsGiven : Text → List Row → Result Command UseError → Type 0
IsGiven name rows result = (environment : Option Text) → IsCommandOf environment (Some (name, rows)) result

-- the result is what they give, where they ask for this grammar file, or for none, and these files
abbrev pub IsGivenFor : Text → List Row → Option Text → List Text → Result Command UseError → Type 0
IsGivenFor name rows grammar files result = (environment : Option Text)
    → IsAsked environment (Some (name, rows)) name grammar files → IsCommandOf environment (Some (name, rows)) result
