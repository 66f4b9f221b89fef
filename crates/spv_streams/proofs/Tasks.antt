-- What a command begins to do with three bytes.
use Rattle.std.proofs.Common.{ℕ, List, [], ◌∷◌, Option, Some, None}
use Rattle.std.proofs.Common.{codes, refl, arith}
use Rattle.spv_table.specs.Table.{Table}
use Rattle.spv_extended.specs.declared.reach.Reach.{Reach}
use Rattle.spv_names.specs.declared.chosen.Chosen.{Chosen}
use Rattle.spv_command_line.specs.declared.command_line.Command.{Command}
use Rattle.spv_command_line.specs.declared.command_line.Command.TheVariants.{Judge, Show, Asm, Trace, Rules, Grammar}
use Rattle.spv_command_line.specs.declared.command_line.Command.TheVariants.{Annotate, Graph}
use Rattle.spv_command_line.specs.declared.command_line.Task.TheVariants as tasks
use Rattle.spv_commands.specs.Example.{empty_grammar}
use Rattle.spv_commands.specs.Show.{BeginsShowing}
use Rattle.spv_explain.specs.Stream.{BeginsExplaining}
use Rattle.spv_check.specs.Stream.{Begins}
use Rattle.spv_commands.specs.Task.{MakesNothing, ReadsNoFile, detail_of}
use Rattle.spv_commands.specs.Task.{view_of}
use Rattle.spv_views.specs.View.{BeginsViewing}
use Rattle.spv_views.specs.declared.view.View.{View}
use Rattle.spv_views.specs.declared.view.View.TheVariants as view
use Rattle.spv_facts.specs.declared.fact.Detail.{Detail}
use Rattle.spv_commands.specs.Trace.{BeginsTracing}
use Rattle.spv_builtin.specs.Source.{IsTableOf}
use Rattle.spv_builtin.specs.Text.{IsGrammarText}
use Rattle.spv_commands.proofs.Tasks.{as_taken, far}
use Rattle.spv_streams.specs.Begin.{BeginsByText, BeginsGrammar}

pub begins_short : (c : Command) (G : Table) → ¬ (ReadsNoFile c) → MakesNothing c → IsTableOf (Some empty_grammar) G
    → ((reach : Reach) → Begins G reach (1 ∷ 2 ∷ 3 ∷ []) (9 ∷ []) (Some (9 ∷ codes "fault")))
    → ((reach : Reach) (detail : Detail)
    → BeginsExplaining detail G reach (1 ∷ 2 ∷ 3 ∷ []) (9 ∷ []) (Some (9 ∷ codes "fault")))
    → ((reach : Reach) → BeginsShowing G reach (1 ∷ 2 ∷ 3 ∷ []) (9 ∷ []) (Some (9 ∷ codes "fault")))
    → ((reach : Reach) (function : Chosen) (choices : List ℕ) (limit : ℕ)
    → BeginsTracing G reach function choices limit (1 ∷ 2 ∷ 3 ∷ []) (9 ∷ []) (Some (9 ∷ codes "fault")))
    → ((how : View) (reach : Reach) (function : Option Chosen)
    → BeginsViewing how G reach function (1 ∷ 2 ∷ 3 ∷ []) (9 ∷ []) (Some (9 ∷ codes "fault")))
    → BeginsByText c (Some empty_grammar) (1 ∷ 2 ∷ 3 ∷ []) (Some (9 ∷ [])) (Some (9 ∷ codes "fault")) None None
begins_short (Judge tasks.Check g fs s p q j) G r n given begins explained shown traced viewed =
    record {
      table = G;
      given = given;
      begins = as_taken
          (λ bytes. Begins G (far s) bytes (9 ∷ []) (Some (9 ∷ codes "fault"))) s (begins (far s));
    }
begins_short (Judge (tasks.Explain full) g fs s p q j) G r n given begins explained shown traced viewed =
    record {
      table = G;
      given = given;
      begins = as_taken
          (λ bytes. BeginsExplaining (detail_of full) G (far s) bytes (9 ∷ []) (Some (9 ∷ codes "fault"))) s
          (explained (far s) (detail_of full));
    }
begins_short (Show g f s) G r n given begins explained shown traced viewed =
    record {
      table = G;
      given = given;
      begins = as_taken
          (λ bytes. BeginsShowing G (far s) bytes (9 ∷ []) (Some (9 ∷ codes "fault"))) s (shown (far s));
    }
begins_short (Asm g f o b x l) G r n given begins explained shown traced viewed = absurd n
begins_short (Trace g f function choices limit s) G r n given begins explained shown traced viewed = record {
  table = G;
  given = given;
  begins = as_taken (λ bytes. BeginsTracing G (far s) function choices.items limit bytes (9 ∷ [])
      (Some (9 ∷ codes "fault"))) s
      (traced (far s) function choices.items limit);
}
begins_short (Annotate g f s function form color) G r n given begins explained shown traced viewed = record {
  table = G;
  given = given;
  begins = as_taken
      (λ bytes. BeginsViewing (view_of form color f) G (far s) function bytes (9 ∷ []) (Some (9 ∷ codes "fault"))) s
      (viewed (view_of form color f) (far s) function);
}
begins_short (Graph g f s function) G r n given begins explained shown traced viewed = record {
  table = G;
  given = given;
  begins = as_taken (λ bytes. BeginsViewing view.Graph G (far s) function bytes (9 ∷ []) (Some (9 ∷ codes "fault"))) s
      (viewed view.Graph (far s) function);
}
begins_short (Rules code j) G r n given begins explained shown traced viewed = absurd (r tt)
begins_short (Grammar file) G r n given begins explained shown traced viewed = absurd (r tt)

-- ---- a grammar file

pub grammar_begun : (G : Table) (text : List ℕ) → IsGrammarText G text → BeginsGrammar G (Some (9 ∷ [])) (Some (9 ∷ []))
grammar_begun G text t =
    record { text = text; is_text = t; begun = record { count = 0; fits = omega arith; written = refl } }
