-- What is written, as the code keeps it. (For the code alone.)
use Rattle.std.specs.Prelude.{◌<◌, ◌≤◌, ◌^◌, All, length, ℕ, List, Option, Some, None, Bool, true, false, Result, Ok}
use Rattle.std.specs.Prelude.{Err, string_bytes}
use Rattle.spv_words.specs.declared.words.WordError.{WordError}
use Rattle.spv_words.specs.declared.words.WordError.TheVariants.{W1, W9}
use Rattle.spv_module.specs.declared.fault.Rule.{Rule}
use Rattle.spv_module.specs.declared.fault.Rule.TheVariants as rule
use Rattle.spv_check.specs.declared.verdict_line.Judgment.{Judgment}
use Rattle.spv_check.specs.declared.verdict_line.Judgment.TheVariants.{Refused}
use Rattle.spv_check.specs.Text.{line_of}
use Rattle.spv_table.specs.Table.{Table}
use Rattle.spv_words.specs.Header.{greatest_length}
use Rattle.spv_extended.specs.declared.reach.Reach.{Reach}
use Rattle.spv_facts.specs.declared.fact.Detail.TheVariants.{Short}
use Rattle.spv_explain.specs.Stream.{IsExplanation, IsModuleIn, IsWalk}
use Rattle.spv_explain.specs.declared.stream.Told.{Told}
use Rattle.spv_module.specs.declared.module.Module.{Module}
use Rattle.spv_explain.specs.declared.stream.Explanation.{Explanation}
use Rattle.spv_annotate.specs.declared.finding.Finding.{Finding}
use Rattle.spv_views.specs.Finding.{IsFindingOf}
use Rattle.spv_module.specs.Operand.{PlainInst}
use Rattle.spv_names.specs.declared.chosen.Chosen.{Chosen}
use Rattle.spv_views.specs.View.{AreParts, IsNoPart, IsWritten, KeepsLayout}
use Rattle.spv_views.specs.declared.view.View.{View}
use Rattle.spv_views.specs.declared.view.ViewError.{ViewError}
use Rattle.spv_views.specs.declared.view.ViewError.TheVariants.{Failed, Memory, NoFunction, SeveralFunctions}
use Rattle.spv_views.specs.declared.viewing.Viewed.{Viewed}
use Rattle.spv_views.specs.declared.viewing.Viewed.TheVariants.{Text, Beginning, Line}

-- The words are those of a module, of 32 bits each, and spell the one that was read, or none.
pub record IsReading (G : Table) (words : List ℕ) (t : Told) : Type 0 where
  pub small : All (λ w. w < 2 ^ 32) words
  pub size : length words ≤ greatest_length
  pub read : IsModuleIn G words t.«module»

-- What is told explains the verdict on the bytes, with the walk of its evidence.
pub record IsToldOf (G : Table) (reach : Reach) (bytes : List ℕ) (t : Told) : Type 0 where
  pub explains : IsExplanation Short G reach bytes t.explanation
  pub walks : IsWalk Short G reach bytes t.explanation t.walk.items

-- The text is written with what is told of the fault of this explanation, and with this walk.
pub record IsWrittenBy (how : View) (G : Table) (reach : Reach) (m : Module) (e : Explanation) (walk : List ℕ)
    (function : Option ℕ) (text : List ℕ) : Type 0 where
  pub finding : Option Finding
  pub of : IsFindingOf e walk finding
  pub written : IsWritten how G reach m finding function text

-- A function is asked for, and by the verdict functions cannot be told apart; or they can.
abbrev pub IsMislaid : Option Chosen → Judgment → Type 0
IsMislaid None j = ⊥
IsMislaid (Some chosen) j = ¬ (KeepsLayout j)

abbrev pub IsLaid : Option Chosen → Judgment → Type 0
IsLaid None j = Unit {0}
IsLaid (Some chosen) j = KeepsLayout j

-- why there is no function that is asked for
abbrev pub WhyNoPart : List PlainInst → Option Chosen → ViewError → Type 0
WhyNoPart is function NoFunction = IsNoPart is function
WhyNoPart is function SeveralFunctions = AreParts is function
WhyNoPart is function e = ⊥

-- the octets that are written
abbrev pub output_of : Viewed → List ℕ
output_of (Text t) = string_bytes t
output_of (Beginning t) = string_bytes t
output_of (Line j) = line_of j

-- is it the text of a module
abbrev pub is_text : Viewed → Bool
is_text (Text t) = true
is_text (Beginning t) = false
is_text (Line j) = false

-- a failed read and out of memory are errors, and of all other codes the line is written
abbrev pub viewed_refusal : WordError → Result Viewed ViewError
viewed_refusal W1 = Err Failed
viewed_refusal W9 = Err Memory
viewed_refusal code = Ok (Line (Refused code))

-- is a rule of a stage behind the layout
abbrev pub is_behind_layout : Rule → Bool
is_behind_layout rule.I1 = false
is_behind_layout rule.I2 = false
is_behind_layout rule.I3 = false
is_behind_layout rule.I4 = false
is_behind_layout rule.I5 = false
is_behind_layout rule.I6 = false
is_behind_layout rule.I7 = false
is_behind_layout rule.I8 = false
is_behind_layout rule.I9 = false
is_behind_layout rule.I10 = false
is_behind_layout rule.I11 = false
is_behind_layout rule.I12 = false
is_behind_layout rule.P1 = false
is_behind_layout rule.L1 = false
is_behind_layout rule.L2 = false
is_behind_layout _ = true
