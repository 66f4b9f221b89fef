-- The automaton of the layout: its states, and what may still come at each. (Own; for the code alone.)
use Rattle.std.specs.Prelude.{◌≡◌, ◌++◌, ℕ, List, [], ◌∷◌, Bool, true, false, not, ◌&&◌, Option}
use Rattle.std.specs.Prelude.{Some, None, MatchBool}
use Rattle.spv_layout.specs.declared.class.Class.{Class}
use Rattle.spv_layout.specs.declared.class.Class.TheVariants.{Capability, Extension, Import, MemoryModel, EntryPoint}
use Rattle.spv_layout.specs.declared.class.Class.TheVariants.{ExecutionMode, Source, Name, Processed, Decoration}
use Rattle.spv_layout.specs.declared.class.Class.TheVariants.{Declaration, Variable, Undef, Function, Parameter}
use Rattle.spv_layout.specs.declared.class.Class.TheVariants.{FunctionEnd, Label, Phi, Body, Branch, BranchConditional}
use Rattle.spv_layout.specs.declared.class.Class.TheVariants.{Switch, Return, LoopMerge, SelectionMerge, Line, Extended}
use Rattle.spv_layout.specs.declared.state.State.{State}
use Rattle.spv_layout.specs.declared.state.State.TheVariants as at
use Rattle.spv_layout.specs.Expression.{Expression, one_of, ◌then◌, ◌or◌, many, one, mixed, any, SpellsClasses}
use Rattle.spv_layout.specs.Layout.{sections_1_to_8, sections_9_to_11, body, ending, declaration}
use Rattle.spv_layout.specs.inner.Layout.{other_block}
use Rattle.spv_layout.specs.Layout.{definition}
use Rattle.spv_layout.specs.inner.Layout.{is_merge, is_line, without_lines}

-- the rest of a definition after a block, and after its first parameters
abbrev pub after_block : Expression
after_block = many other_block then one FunctionEnd then any Extended then many definition

abbrev pub after_parameters : Expression
after_parameters = one Label then mixed (Variable ∷ Extended ∷ []) then body then ending then after_block

-- What a state leaves to come, lines aside; of a state of sections 1 to 8 the rest of these sections.
abbrev pub residual : State → Expression
residual at.Capabilities = sections_1_to_8
residual at.Extensions = any Extension then any Import then one MemoryModel then any EntryPoint then any ExecutionMode
    then any Source then any Name then any Processed then any Decoration
residual at.Imports = any Import then one MemoryModel then any EntryPoint then any ExecutionMode then any Source
    then any Name then any Processed then any Decoration
residual at.EntryPoints = any EntryPoint then any ExecutionMode then any Source then any Name then any Processed
    then any Decoration
residual at.ExecutionModes = any ExecutionMode then any Source then any Name then any Processed then any Decoration
residual at.Sources = any Source then any Name then any Processed then any Decoration
residual at.Names = any Name then any Processed then any Decoration
residual at.Processed = any Processed then any Decoration
residual at.Decorations = any Decoration
residual at.Declarations = sections_9_to_11
residual at.Function =
    (any Parameter then one FunctionEnd then any Extended then many declaration then many definition) or
    (any Parameter then after_parameters)
residual at.Declared = any Extended then many declaration then many definition
residual at.Definition = any Parameter then after_parameters
residual at.Defined = any Extended then many definition
residual at.Variables = mixed (Variable ∷ Extended ∷ []) then body then ending then after_block
residual at.Phis = mixed (Phi ∷ Extended ∷ []) then body then ending then after_block
residual at.Body = mixed (Body ∷ Undef ∷ Extended ∷ []) then ending then after_block
residual at.LoopMerge = one_of (Branch ∷ BranchConditional ∷ []) then after_block
residual at.SelectionMerge = one_of (BranchConditional ∷ Switch ∷ []) then after_block
residual at.Block = after_block

-- whether a state is of sections 1 to 8
abbrev pub is_first : State → Bool
is_first at.Capabilities = true
is_first at.Extensions = true
is_first at.Imports = true
is_first at.EntryPoints = true
is_first at.ExecutionModes = true
is_first at.Sources = true
is_first at.Names = true
is_first at.Processed = true
is_first at.Decorations = true
is_first _ = false

-- whether a state is directly after a merge
abbrev pub is_merged : State → Bool
is_merged at.LoopMerge = true
is_merged at.SelectionMerge = true
is_merged _ = false

-- the transition of section 9, which the last states of sections 1 to 8 have too
abbrev pub next_later : Class → Option State
next_later Declaration = Some at.Declarations
next_later Variable = Some at.Declarations
next_later Undef = Some at.Declarations
next_later Extended = Some at.Declarations
next_later Line = Some at.Declarations
next_later Function = Some at.Function
next_later _ = None

abbrev pub next_in_body : Class → Option State
next_in_body Body = Some at.Body
next_in_body Undef = Some at.Body
next_in_body Extended = Some at.Body
next_in_body Branch = Some at.Block
next_in_body BranchConditional = Some at.Block
next_in_body Switch = Some at.Block
next_in_body Return = Some at.Block
next_in_body LoopMerge = Some at.LoopMerge
next_in_body SelectionMerge = Some at.SelectionMerge
next_in_body Line = Some at.Body
next_in_body _ = None

-- The state after a class; none where no module goes on so.
abbrev pub next_of : State → Class → Option State
next_of at.Capabilities Capability = Some at.Capabilities
next_of at.Capabilities Extension = Some at.Extensions
next_of at.Capabilities Import = Some at.Imports
next_of at.Capabilities MemoryModel = Some at.EntryPoints
next_of at.Capabilities _ = None
next_of at.Extensions Extension = Some at.Extensions
next_of at.Extensions Import = Some at.Imports
next_of at.Extensions MemoryModel = Some at.EntryPoints
next_of at.Extensions _ = None
next_of at.Imports Import = Some at.Imports
next_of at.Imports MemoryModel = Some at.EntryPoints
next_of at.Imports _ = None
next_of at.EntryPoints EntryPoint = Some at.EntryPoints
next_of at.EntryPoints ExecutionMode = Some at.ExecutionModes
next_of at.EntryPoints Source = Some at.Sources
next_of at.EntryPoints Name = Some at.Names
next_of at.EntryPoints Processed = Some at.Processed
next_of at.EntryPoints Decoration = Some at.Decorations
next_of at.EntryPoints c = next_later c
next_of at.ExecutionModes ExecutionMode = Some at.ExecutionModes
next_of at.ExecutionModes Source = Some at.Sources
next_of at.ExecutionModes Name = Some at.Names
next_of at.ExecutionModes Processed = Some at.Processed
next_of at.ExecutionModes Decoration = Some at.Decorations
next_of at.ExecutionModes c = next_later c
next_of at.Sources Source = Some at.Sources
next_of at.Sources Name = Some at.Names
next_of at.Sources Processed = Some at.Processed
next_of at.Sources Decoration = Some at.Decorations
next_of at.Sources c = next_later c
next_of at.Names Name = Some at.Names
next_of at.Names Processed = Some at.Processed
next_of at.Names Decoration = Some at.Decorations
next_of at.Names c = next_later c
next_of at.Processed Processed = Some at.Processed
next_of at.Processed Decoration = Some at.Decorations
next_of at.Processed c = next_later c
next_of at.Decorations Decoration = Some at.Decorations
next_of at.Decorations c = next_later c
next_of at.Declarations c = next_later c
next_of at.Function Parameter = Some at.Function
next_of at.Function Line = Some at.Function
next_of at.Function FunctionEnd = Some at.Declared
next_of at.Function Label = Some at.Variables
next_of at.Function _ = None
next_of at.Declared Function = Some at.Function
next_of at.Declared Line = Some at.Declared
next_of at.Declared Extended = Some at.Declared
next_of at.Declared _ = None
next_of at.Definition Parameter = Some at.Definition
next_of at.Definition Line = Some at.Definition
next_of at.Definition Label = Some at.Variables
next_of at.Definition _ = None
next_of at.Defined Function = Some at.Definition
next_of at.Defined Line = Some at.Defined
next_of at.Defined Extended = Some at.Defined
next_of at.Defined _ = None
next_of at.Variables Variable = Some at.Variables
next_of at.Variables Line = Some at.Variables
next_of at.Variables Extended = Some at.Variables
next_of at.Variables c = next_in_body c
next_of at.Phis Phi = Some at.Phis
next_of at.Phis Line = Some at.Phis
next_of at.Phis Extended = Some at.Phis
next_of at.Phis c = next_in_body c
next_of at.Body c = next_in_body c
next_of at.LoopMerge Branch = Some at.Block
next_of at.LoopMerge BranchConditional = Some at.Block
next_of at.LoopMerge _ = None
next_of at.SelectionMerge BranchConditional = Some at.Block
next_of at.SelectionMerge Switch = Some at.Block
next_of at.SelectionMerge _ = None
next_of at.Block Label = Some at.Phis
next_of at.Block Line = Some at.Block
next_of at.Block FunctionEnd = Some at.Defined
next_of at.Block _ = None

-- a number for each state
abbrev pub place_of : State → ℕ
place_of at.Capabilities = 0
place_of at.Extensions = 1
place_of at.Imports = 2
place_of at.EntryPoints = 3
place_of at.ExecutionModes = 4
place_of at.Sources = 5
place_of at.Names = 6
place_of at.Processed = 7
place_of at.Decorations = 8
place_of at.Declarations = 9
place_of at.Function = 10
place_of at.Declared = 11
place_of at.Definition = 12
place_of at.Defined = 13
place_of at.Variables = 14
place_of at.Phis = 15
place_of at.Body = 16
place_of at.LoopMerge = 17
place_of at.SelectionMerge = 18
place_of at.Block = 19

-- what there is, if there is a place for it
abbrev pub joined : Option (Option State) → Option State
joined None = None
joined (Some o) = o

-- whether a module may stop at a state
abbrev pub may_stop : State → Bool
may_stop at.EntryPoints = true
may_stop at.ExecutionModes = true
may_stop at.Sources = true
may_stop at.Names = true
may_stop at.Processed = true
may_stop at.Decorations = true
may_stop at.Declarations = true
may_stop at.Declared = true
may_stop at.Defined = true
may_stop _ = false

-- no line stands first after a merge, and none directly after a merge later
abbrev pub are_lines_free : Bool → List Class → Bool
are_lines_free merged [] = true
are_lines_free merged (c ∷ cs) = not (merged && is_line c) && are_lines_free (is_merge c) cs

-- What is left of a list from section 9 on, perhaps directly after a merge, of which the expression spells the rest.
pub record Later (merged : Bool) (e : Expression) (cs : List Class) : Type 0 where
  pub lines : are_lines_free merged cs ≡ true
  pub spelled : SpellsClasses e (without_lines cs)

-- What is left of a list in sections 1 to 8.
pub record First (e : Expression) (cs : List Class) : Type 0 where
  pub front : List Class
  pub back : List Class
  pub all : front ++ back ≡ cs
  pub spelled : SpellsClasses e front
  pub later : Later false sections_9_to_11 back

-- What may still come at a state.
abbrev pub Remains : State → List Class → Type 0
Remains s cs = MatchBool (is_first s) (First (residual s) cs) (Later (is_merged s) (residual s) cs)
