-- What the pass over the instructions keeps, before each. (For the code alone.)
use Rattle.std.specs.Prelude.{◌≡◌, ◌<◌, ◌≤◌, ◌+◌, ◌++◌, ◌⊎◌, ℕ, List, [], ◌∷◌, Bool, true, false, Some, None, length}
use Rattle.std.specs.Prelude.{map, slice_get, take}
use Rattle.spv_table.specs.Table.{Table}
use Rattle.spv_module.specs.declared.module.Inst.{Inst}
use Rattle.spv_module.specs.declared.profile.Profile.{Profile}
use Rattle.spv_module.specs.Module.{plain_inst}
use Rattle.spv_module.specs.Operand.{PlainInst}
use Rattle.spv_layout.specs.declared.class.Class.{Class}
use Rattle.spv_layout.specs.declared.class.Class.TheVariants.{Function, FunctionEnd, Label}
use Rattle.spv_layout.specs.declared.place.Early.{Early}
use Rattle.spv_layout.specs.declared.place.Standing.{Standing}
use Rattle.spv_layout.specs.declared.plan.Reached.{Reached}
use Rattle.spv_layout.specs.declared.span.Spans.{Spans}
use Rattle.spv_layout.specs.declared.state.State.{State}
use Rattle.spv_layout.specs.declared.state.State.TheVariants as at
use Rattle.spv_layout.specs.Layout.{IsLayout, classes, seen_classes}
use Rattle.spv_layout.specs.Place.{IsAt, IsDefinition, first_word_of, section_of, terminators}
use Rattle.spv_layout.specs.Profile.{FitsProfile}
use Rattle.spv_layout.specs.inner.Span.{Before, Span, UpTo, inside, mark, no_number}
use Rattle.spv_layout.specs.inner.State.{Remains, is_first}

-- all instructions before n fit
pub record FitBelow (p : Profile) (G : Table) (is : List PlainInst) (n : ℕ) : Type 0 where
  pub fits : (k : ℕ) (i : PlainInst) → k < n → slice_get is k ≡ Some i → FitsProfile p G i

-- After a list of classes, what makes it a module is what the state leaves.
pub record Leads (cs : List Class) (s : State) : Type 0 where
  pub forth : (more : List Class) → IsLayout (cs ++ more) → Remains s more
  pub back : (more : List Class) → Remains s more → IsLayout (cs ++ more)

-- what is kept of a function or block before an instruction, and up to it
pub record Spanned (is : List PlainInst) (c : Class) (es : List Class) (n k : ℕ) : Type 0 where
  pub span : Span
  pub before : Before is c es n span
  pub kept : inside span ≡ mark k

pub record SpannedTo (is : List PlainInst) (c : Class) (es : List Class) (n k : ℕ) : Type 0 where
  pub span : Span
  pub up_to : UpTo is c es n span
  pub kept : inside span ≡ mark k

-- where section 10 begins: at the first OpFunction
pub record Begun (is : List PlainInst) (n first : ℕ) : Type 0 where
  pub below : (k : ℕ) → k < n → k < first → ¬ (IsAt is k (Function ∷ []))
  pub there : (first ≡ no_number) ⊎ ((first < n) × IsAt is first (Function ∷ []))

-- what a state tells of functions: one is open; none of the functions so far is a definition; one is a definition, and
-- its first label is to come
abbrev pub is_open : State → Bool
is_open at.Function = true
is_open at.Definition = true
is_open at.Variables = true
is_open at.Phis = true
is_open at.Body = true
is_open at.LoopMerge = true
is_open at.SelectionMerge = true
is_open at.Block = true
is_open _ = false

abbrev pub is_declaring : State → Bool
is_declaring at.Definition = false
is_declaring at.Defined = false
is_declaring at.Variables = false
is_declaring at.Phis = false
is_declaring at.Body = false
is_declaring at.LoopMerge = false
is_declaring at.SelectionMerge = false
is_declaring at.Block = false
is_declaring _ = true

abbrev pub is_definition : State → Bool
is_definition at.Definition = true
is_definition _ = false

-- which functions are definitions, as far as the labels before instruction n tell
pub record Defined (is : List PlainInst) (n : ℕ) (s : State) (function definitions : ℕ) : Type 0 where
  pub labels : (k : ℕ) → k < n → k < definitions → ¬ (IsAt is k (Label ∷ []))
  pub there : (definitions ≡ no_number) ⊎ ((definitions < n) × IsAt is definitions (Function ∷ []))
  pub declaring : is_declaring s ≡ true → definitions ≡ no_number
  pub defined : (f : ℕ) → definitions ≤ f → f < n → IsAt is f (Function ∷ [])
      → IsDefinition is f ⊎ ((is_definition s ≡ true) × (mark function ≡ Some f))
  pub current : is_open s ≡ true → (f : ℕ) × (mark function ≡ Some f)

-- all that the pass keeps before instruction n
pub record Follows (is : List PlainInst) (n : ℕ) (s : State) (x : Spans) : Type 0 where
  pub function : Spanned is Function (FunctionEnd ∷ []) n x.function
  pub block : Spanned is Label terminators n x.block
  pub functions : Begun is n x.functions
  pub definitions : Defined is n s x.function x.definitions

-- what is kept at instruction n
pub record Stands (is : List PlainInst) (n : ℕ) (function block : ℕ) : Type 0 where
  pub of_function : SpannedTo is Function (FunctionEnd ∷ []) n function
  pub of_block : SpannedTo is Label terminators n block

-- what is kept of instruction n of sections 1 to 8
pub record KeptEarly (is : List PlainInst) (n : ℕ) (e : Early) : Type 0 where
  pub class : Class
  pub there : slice_get (classes is) n ≡ Some class
  pub section : section_of class ≡ Some e.section
  pub word : e.word ≡ first_word_of is n

-- what is kept of instruction n of a later section
pub record KeptLate (is : List PlainInst) (n : ℕ) (s : Standing) : Type 0 where
  pub class : Class
  pub there : slice_get (classes is) n ≡ Some class
  pub section : section_of class ≡ None
  pub stands : Stands is n s.function s.block
  pub word : s.word ≡ first_word_of is n

pub record Kept (is : List PlainInst) (n : ℕ) (s : State) (early : List Early) (late : List Standing) : Type 0 where
  pub count : length early + length late ≡ n
  pub each_early : (k : ℕ) (e : Early) → slice_get early k ≡ Some e → KeptEarly is k e
  pub each_late : (k : ℕ) (x : Standing) → slice_get late k ≡ Some x → KeptLate is (length early + k) x
  pub split : (late ≡ []) ⊎ (is_first s ≡ false)

-- The pass has come to instruction n: those before it fit, and these are the state, the spans and the word.
pub record IsReached (p : Profile) (G : Table) (insts : List Inst) (n : ℕ) (r : Reached) : Type 0 where
  pub fit : FitBelow p G (map plain_inst insts) n
  pub leads : Leads (seen_classes p (map plain_inst (take n insts))) r.state
  pub follows : Follows (map plain_inst insts) n r.state r.spans
  pub word : r.word ≡ first_word_of (map plain_inst insts) n
