-- What a writer gets behind what it holds, of what one that held nothing would get.
use Rattle.std.proofs.Common.{◌≡◌, ◌∙◌, ◌++◌, ℕ, List, [], Option, Some, None, Bool, ap}
use Rattle.spv_table.specs.Table.{Table}
use Rattle.spv_extended.specs.declared.reach.Reach.{Reach}
use Rattle.spv_check.specs.Stream.{TellsVerdict}
use Rattle.spv_facts.specs.declared.fact.Detail.{Detail}
use Rattle.spv_explain.specs.Stream.{Explains}
use Rattle.spv_command_line.specs.declared.command_line.Task.{Task}
use Rattle.spv_command_line.specs.declared.command_line.Task.TheVariants as tasks
use Rattle.spv_commands.specs.Output.{is_done, out_of}
use Rattle.spv_commands.specs.Task.{DoesTask, detail_of}
use Rattle.spv_commands.specs.inner.Answered.{Gives}
use Rattle.spv_commands.specs.declared.replying.Reply.{Reply}

-- What a writer that held nothing gets, one that held something gets behind that.
abbrev pub CarriesOne : (List ℕ → List ℕ → Option (List ℕ) → Bool → Type 0) → Type 0
CarriesOne W = (bytes o old : List ℕ) (new : Option (List ℕ)) (b : Bool) → W bytes [] (Some o) b
    → new ≡ Some (old ++ o) → W bytes old new b

-- the bytes that are known, or none
abbrev pub held_by : Option (List ℕ) → List ℕ
held_by None = []
held_by (Some xs) = xs

pub grown : (o line old : List ℕ) (new : Option (List ℕ)) → Some o ≡ Some line → new ≡ Some (old ++ o)
    → new ≡ Some (old ++ line)
grown o line old new e w = w ∙ ap (λ (s : Option (List ℕ)). Some (old ++ held_by s)) e

pub carry_verdict : (G : Table) (reach : Reach) → CarriesOne (TellsVerdict G reach)
carry_verdict G reach bytes o old new b h w = record {
  line = h.line;
  verdict = h.verdict;
  written = grown o h.line old new h.written w;
  answered = h.answered;
}

pub carry_explained : (d : Detail) (G : Table) (reach : Reach) → CarriesOne (Explains d G reach)
carry_explained d G reach bytes o old new b h w = record {
  line = h.line;
  lines = h.lines;
  verdict = h.verdict;
  explain = h.explain;
  dead = h.dead;
  others = h.others;
  written = grown o (h.line ++ h.lines) old new h.written w;
  answered = h.answered;
}

carry_task : (task : Task) (G : Table) (reach : Reach) → CarriesOne (DoesTask task G reach)
carry_task tasks.Check G reach = carry_verdict G reach
carry_task (tasks.Explain full) G reach = carry_explained (detail_of full) G reach

-- what a task writes behind a text
pub told_behind : (task : Task) (G : Table) (reach : Reach) (bytes : List ℕ) (a : Reply) (front text : List ℕ)
    (valid : Bool) → Gives (DoesTask task G reach) bytes a → valid ≡ is_done a → text ≡ front ++ out_of a
    → DoesTask task G reach bytes front (Some text) valid
told_behind task G reach bytes a front text valid g v t =
    rw v (carry_task task G reach bytes (out_of a) front (Some text) (is_done a) g.0 (ap Some t))
