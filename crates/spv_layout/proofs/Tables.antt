-- The table of the automaton is its definition.
use Rattle.std.proofs.Common.{◌≡◌, ◌+◌, ◌*◌, List, [], ◌∷◌, refl, Option, Some, None}
use Rattle.std.specs.Prelude.{slice_get}
use Rattle.spv_layout.specs.declared.class.Class.{Class}
use Rattle.spv_layout.specs.declared.class.Class.TheVariants.{Capability}
use Rattle.spv_layout.specs.declared.state.State.{State}
use Rattle.spv_layout.specs.declared.state.State.TheVariants as at
use Rattle.spv_layout.specs.Class.{class_number}
use Rattle.spv_layout.specs.inner.State.{next_of, place_of, joined}

-- the table of the code
unfoldable pub table : List (Option State)
table = Some at.Capabilities ∷ Some at.Extensions ∷ Some at.Imports ∷ Some at.EntryPoints ∷ None ∷ None ∷ None ∷ None ∷ None ∷ None ∷ None ∷ None ∷ None ∷ None ∷ None ∷ None ∷ None ∷ None ∷ None ∷ None ∷ None ∷ None ∷ None ∷ None ∷ None ∷ None ∷ None ∷ None ∷ None ∷ Some at.Extensions ∷ Some at.Imports ∷ Some at.EntryPoints ∷ None ∷ None ∷ None ∷ None ∷ None ∷ None ∷ None ∷ None ∷ None ∷ None ∷ None ∷ None ∷ None ∷ None ∷ None ∷ None ∷ None ∷ None ∷ None ∷ None ∷ None ∷ None ∷ None ∷ None ∷ None ∷ None ∷ Some at.Imports ∷ Some at.EntryPoints ∷ None ∷ None ∷ None ∷ None ∷ None ∷ None ∷ None ∷ None ∷ None ∷ None ∷ None ∷ None ∷ None ∷ None ∷ None ∷ None ∷ None ∷ None ∷ None ∷ None ∷ None ∷ None ∷ None ∷ None ∷ None ∷ None ∷ None ∷ None ∷ Some at.EntryPoints ∷ Some at.ExecutionModes ∷ Some at.Sources ∷ Some at.Names ∷ Some at.Processed ∷ Some at.Decorations ∷ Some at.Declarations ∷ Some at.Declarations ∷ Some at.Declarations ∷ Some at.Function ∷ None ∷ None ∷ None ∷ None ∷ None ∷ None ∷ None ∷ None ∷ None ∷ None ∷ None ∷ Some at.Declarations ∷ Some at.Declarations ∷ None ∷ None ∷ None ∷ None ∷ None ∷ None ∷ Some at.ExecutionModes ∷ Some at.Sources ∷ Some at.Names ∷ Some at.Processed ∷ Some at.Decorations ∷ Some at.Declarations ∷ Some at.Declarations ∷ Some at.Declarations ∷ Some at.Function ∷ None ∷ None ∷ None ∷ None ∷ None ∷ None ∷ None ∷ None ∷ None ∷ None ∷ None ∷ Some at.Declarations ∷ Some at.Declarations ∷ None ∷ None ∷ None ∷ None ∷ None ∷ None ∷ None ∷ Some at.Sources ∷ Some at.Names ∷ Some at.Processed ∷ Some at.Decorations ∷ Some at.Declarations ∷ Some at.Declarations ∷ Some at.Declarations ∷ Some at.Function ∷ None ∷ None ∷ None ∷ None ∷ None ∷ None ∷ None ∷ None ∷ None ∷ None ∷ None ∷ Some at.Declarations ∷ Some at.Declarations ∷ None ∷ None ∷ None ∷ None ∷ None ∷ None ∷ None ∷ None ∷ Some at.Names ∷ Some at.Processed ∷ Some at.Decorations ∷ Some at.Declarations ∷ Some at.Declarations ∷ Some at.Declarations ∷ Some at.Function ∷ None ∷ None ∷ None ∷ None ∷ None ∷ None ∷ None ∷ None ∷ None ∷ None ∷ None ∷ Some at.Declarations ∷ Some at.Declarations ∷ None ∷ None ∷ None ∷ None ∷ None ∷ None ∷ None ∷ None ∷ None ∷ Some at.Processed ∷ Some at.Decorations ∷ Some at.Declarations ∷ Some at.Declarations ∷ Some at.Declarations ∷ Some at.Function ∷ None ∷ None ∷ None ∷ None ∷ None ∷ None ∷ None ∷ None ∷ None ∷ None ∷ None ∷ Some at.Declarations ∷ Some at.Declarations ∷ None ∷ None ∷ None ∷ None ∷ None ∷ None ∷ None ∷ None ∷ None ∷ None ∷ Some at.Decorations ∷ Some at.Declarations ∷ Some at.Declarations ∷ Some at.Declarations ∷ Some at.Function ∷ None ∷ None ∷ None ∷ None ∷ None ∷ None ∷ None ∷ None ∷ None ∷ None ∷ None ∷ Some at.Declarations ∷ Some at.Declarations ∷ None ∷ None ∷ None ∷ None ∷ None ∷ None ∷ None ∷ None ∷ None ∷ None ∷ None ∷ Some at.Declarations ∷ Some at.Declarations ∷ Some at.Declarations ∷ Some at.Function ∷ None ∷ None ∷ None ∷ None ∷ None ∷ None ∷ None ∷ None ∷ None ∷ None ∷ None ∷ Some at.Declarations ∷ Some at.Declarations ∷ None ∷ None ∷ None ∷ None ∷ None ∷ None ∷ None ∷ None ∷ None ∷ None ∷ None ∷ None ∷ None ∷ None ∷ None ∷ Some at.Function ∷ Some at.Declared ∷ Some at.Variables ∷ None ∷ None ∷ None ∷ None ∷ None ∷ None ∷ None ∷ None ∷ Some at.Function ∷ None ∷ None ∷ None ∷ None ∷ None ∷ None ∷ None ∷ None ∷ None ∷ None ∷ None ∷ None ∷ None ∷ None ∷ None ∷ Some at.Function ∷ None ∷ None ∷ None ∷ None ∷ None ∷ None ∷ None ∷ None ∷ None ∷ None ∷ None ∷ Some at.Declared ∷ Some at.Declared ∷ None ∷ None ∷ None ∷ None ∷ None ∷ None ∷ None ∷ None ∷ None ∷ None ∷ None ∷ None ∷ None ∷ None ∷ None ∷ Some at.Definition ∷ None ∷ Some at.Variables ∷ None ∷ None ∷ None ∷ None ∷ None ∷ None ∷ None ∷ None ∷ Some at.Definition ∷ None ∷ None ∷ None ∷ None ∷ None ∷ None ∷ None ∷ None ∷ None ∷ None ∷ None ∷ None ∷ None ∷ None ∷ None ∷ Some at.Definition ∷ None ∷ None ∷ None ∷ None ∷ None ∷ None ∷ None ∷ None ∷ None ∷ None ∷ None ∷ Some at.Defined ∷ Some at.Defined ∷ None ∷ None ∷ None ∷ None ∷ None ∷ None ∷ None ∷ None ∷ None ∷ None ∷ None ∷ None ∷ Some at.Variables ∷ Some at.Body ∷ None ∷ None ∷ None ∷ None ∷ None ∷ Some at.Body ∷ Some at.Block ∷ Some at.Block ∷ Some at.Block ∷ Some at.Block ∷ Some at.LoopMerge ∷ Some at.SelectionMerge ∷ Some at.Variables ∷ Some at.Variables ∷ None ∷ None ∷ None ∷ None ∷ None ∷ None ∷ None ∷ None ∷ None ∷ None ∷ None ∷ None ∷ None ∷ Some at.Body ∷ None ∷ None ∷ None ∷ None ∷ Some at.Phis ∷ Some at.Body ∷ Some at.Block ∷ Some at.Block ∷ Some at.Block ∷ Some at.Block ∷ Some at.LoopMerge ∷ Some at.SelectionMerge ∷ Some at.Phis ∷ Some at.Phis ∷ None ∷ None ∷ None ∷ None ∷ None ∷ None ∷ None ∷ None ∷ None ∷ None ∷ None ∷ None ∷ None ∷ Some at.Body ∷ None ∷ None ∷ None ∷ None ∷ None ∷ Some at.Body ∷ Some at.Block ∷ Some at.Block ∷ Some at.Block ∷ Some at.Block ∷ Some at.LoopMerge ∷ Some at.SelectionMerge ∷ Some at.Body ∷ Some at.Body ∷ None ∷ None ∷ None ∷ None ∷ None ∷ None ∷ None ∷ None ∷ None ∷ None ∷ None ∷ None ∷ None ∷ None ∷ None ∷ None ∷ None ∷ None ∷ None ∷ None ∷ Some at.Block ∷ Some at.Block ∷ None ∷ None ∷ None ∷ None ∷ None ∷ None ∷ None ∷ None ∷ None ∷ None ∷ None ∷ None ∷ None ∷ None ∷ None ∷ None ∷ None ∷ None ∷ None ∷ None ∷ None ∷ None ∷ None ∷ None ∷ None ∷ None ∷ None ∷ Some at.Block ∷ Some at.Block ∷ None ∷ None ∷ None ∷ None ∷ None ∷ None ∷ None ∷ None ∷ None ∷ None ∷ None ∷ None ∷ None ∷ None ∷ None ∷ None ∷ None ∷ None ∷ None ∷ None ∷ None ∷ Some at.Defined ∷ Some at.Phis ∷ None ∷ None ∷ None ∷ None ∷ None ∷ None ∷ None ∷ None ∷ Some at.Block ∷ None ∷ None ∷ []

pub table_tells : (s : State) (c : Class) → joined (slice_get table (28 * place_of s + class_number c)) ≡ next_of s c
unfolding table
table_tells at.Capabilities Capability = refl
table_tells at.Capabilities _ = refl
table_tells at.Extensions Capability = refl
table_tells at.Extensions _ = refl
table_tells at.Imports Capability = refl
table_tells at.Imports _ = refl
table_tells at.EntryPoints Capability = refl
table_tells at.EntryPoints _ = refl
table_tells at.ExecutionModes Capability = refl
table_tells at.ExecutionModes _ = refl
table_tells at.Sources Capability = refl
table_tells at.Sources _ = refl
table_tells at.Names Capability = refl
table_tells at.Names _ = refl
table_tells at.Processed Capability = refl
table_tells at.Processed _ = refl
table_tells at.Decorations Capability = refl
table_tells at.Decorations _ = refl
table_tells at.Declarations Capability = refl
table_tells at.Declarations _ = refl
table_tells at.Function Capability = refl
table_tells at.Function _ = refl
table_tells at.Declared Capability = refl
table_tells at.Declared _ = refl
table_tells at.Definition Capability = refl
table_tells at.Definition _ = refl
table_tells at.Defined Capability = refl
table_tells at.Defined _ = refl
table_tells at.Variables Capability = refl
table_tells at.Variables _ = refl
table_tells at.Phis Capability = refl
table_tells at.Phis _ = refl
table_tells at.Body Capability = refl
table_tells at.Body _ = refl
table_tells at.LoopMerge Capability = refl
table_tells at.LoopMerge _ = refl
table_tells at.SelectionMerge Capability = refl
table_tells at.SelectionMerge _ = refl
table_tells at.Block Capability = refl
table_tells at.Block _ = refl
