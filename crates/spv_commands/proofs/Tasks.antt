-- What a command does with three bytes.
use Rattle.std.proofs.Common.{ap, length, length-append, ◌≤◌, ◌+◌, ℕ, List, [], ◌∷◌, ◌++◌, Option, Some, None, Bool}
use Rattle.std.proofs.Common.{true, false, ◌≡◌, codes, refl, sym, subst, arith, lit≤}
use Rattle.spv_words.specs.Header.{IsFirstBroken, IsModule}
use Rattle.spv_words.specs.declared.words.Order.{Order}
use Rattle.spv_words.specs.declared.words.WordError.{WordError}
use Rattle.spv_words.specs.declared.words.WordError.TheVariants.{W2}
use Rattle.spv_table.specs.Table.{Table}
use Rattle.spv_extended.specs.declared.reach.Reach.{Reach}
use Rattle.spv_names.specs.declared.chosen.Chosen.{Chosen}
use Rattle.spv_command_line.specs.declared.command_line.Command.{Command}
use Rattle.spv_command_line.specs.declared.command_line.Command.TheVariants.{Judge, Show, Asm, Trace, Rules, Grammar}
use Rattle.spv_command_line.specs.declared.command_line.Command.TheVariants.{Annotate, Graph}
use Rattle.spv_command_line.specs.declared.command_line.Task.TheVariants as tasks
use Rattle.spv_commands.specs.Example.{answer_of, empty_grammar}
use Rattle.spv_commands.specs.Show.{BeginsShowing, IsShowing, Shows}
use Rattle.spv_explain.specs.Lines.{refused_text}
use Rattle.spv_explain.specs.Stream.{BeginsExplaining, Explains}
use Rattle.spv_check.specs.Stream.{TellsVerdict}
use Rattle.spv_check.specs.Verdict.{IsVerdict}
use Rattle.spv_check.proofs.Verdicts.{refused_is_not_valid}
use Rattle.spv_commands.specs.Task.{DoesByText, MakesNothing, ReadsNoFile, WritesGrammar, detail_of}
use Rattle.spv_scope.specs.Scope.{reach_of, taken}
use Rattle.spv_scope.specs.declared.scope.Scope.{Scope}
use Rattle.spv_scope.specs.declared.scope.Scope.TheVariants.{Own, Extended, OpenCl}
use Rattle.spv_commands.specs.Task.{view_of}
use Rattle.spv_views.specs.View.{Views}
use Rattle.spv_views.specs.declared.view.View.{View}
use Rattle.spv_views.specs.declared.view.View.TheVariants as view
use Rattle.spv_facts.specs.declared.fact.Detail.{Detail}
use Rattle.spv_commands.specs.Trace.{Traces}
use Rattle.spv_builtin.specs.Source.{IsTableOf}
use Rattle.spv_builtin.specs.Text.{IsGrammarText}
use Rattle.spv_check.specs.Verdict.{line_end, refused_line}

pub short_shown : (G : Table) (reach : Reach) → IsFirstBroken W2 (1 ∷ 2 ∷ 3 ∷ [])
    → Shows G reach (1 ∷ 2 ∷ 3 ∷ []) (9 ∷ []) (Some (9 ∷ codes "fault W2" ++ line_end)) false
short_shown G reach h = record { output = refused_line W2; showing = IsShowing.refused W2 h; written = refl }

pub short_begun_showing : (G : Table) (reach : Reach) → IsFirstBroken W2 (1 ∷ 2 ∷ 3 ∷ [])
    → BeginsShowing G reach (1 ∷ 2 ∷ 3 ∷ []) (9 ∷ []) (Some (9 ∷ codes "fault"))
short_begun_showing G reach h =
    record {
      output = refused_line W2;
      answer = false;
      showing = IsShowing.refused W2 h;
      count = 5;
      fits = lit≤ tt;
      written = refl;
    }

pub short_explained : (G : Table) (reach : Reach) (detail : Detail) → IsFirstBroken W2 (1 ∷ 2 ∷ 3 ∷ [])
    → ((o : Order) (ws : List ℕ) → ¬ (IsModule o (1 ∷ 2 ∷ 3 ∷ []) ws))
    → ((e : WordError) → IsFirstBroken e (1 ∷ 2 ∷ 3 ∷ []) → e ≡ W2)
    → Explains detail G reach (1 ∷ 2 ∷ 3 ∷ []) (9 ∷ [])
    (Some (9 ∷ codes "fault W2" ++ (line_end ++ refused_text W2 (1 ∷ 2 ∷ 3 ∷ [])))) false
short_explained G reach detail h never once = record {
  line = refused_line W2;
  lines = refused_text W2 (1 ∷ 2 ∷ 3 ∷ []);
  verdict = IsVerdict.refused W2 h;
  explain = λ words order is r n m listing first stage. absurd (never order words m);
  dead = λ words order r n word m d. absurd (never order words m);
  others = record {
    valid = λ e. absurd (refused_is_not_valid W2 e);
    refused = λ code f. ap (λ (c : WordError). refused_text c (1 ∷ 2 ∷ 3 ∷ [])) (sym (once code f));
  };
  written = refl;
  answered = (λ t. cc, λ e. absurd (refused_is_not_valid W2 e));
}

pub short_begun_explaining : (G : Table) (reach : Reach) (detail : Detail) → IsFirstBroken W2 (1 ∷ 2 ∷ 3 ∷ [])
    → ((o : Order) (ws : List ℕ) → ¬ (IsModule o (1 ∷ 2 ∷ 3 ∷ []) ws))
    → ((e : WordError) → IsFirstBroken e (1 ∷ 2 ∷ 3 ∷ []) → e ≡ W2)
    → BeginsExplaining detail G reach (1 ∷ 2 ∷ 3 ∷ []) (9 ∷ []) (Some (9 ∷ codes "fault"))
short_begun_explaining G reach detail h never once = record {
  line = refused_line W2;
  lines = refused_text W2 (1 ∷ 2 ∷ 3 ∷ []);
  verdict = IsVerdict.refused W2 h;
  explain = λ words order is r n m listing first stage. absurd (never order words m);
  dead = λ words order r n word m d. absurd (never order words m);
  others = record {
    valid = λ e. absurd (refused_is_not_valid W2 e);
    refused = λ code f. ap (λ (c : WordError). refused_text c (1 ∷ 2 ∷ 3 ∷ [])) (sym (once code f));
  };
  count = 5;
  fits =
      let l : length (refused_line W2 ++ refused_text W2 (1 ∷ 2 ∷ 3 ∷ [])) ≡ length (refused_line W2) + length
      (refused_text W2 (1 ∷ 2 ∷ 3 ∷ [])) = length-append (refused_line W2) (refused_text W2 (1 ∷ 2 ∷ 3 ∷ [])) in
      let f : 5 ≤ length (refused_line W2) = lit≤ tt in
      omega (arith, l, f);
  written = refl;
}

-- bytes that are no module have no text
pub no_text : (G : Table) (reach : Reach) (bytes output : List ℕ) (answer : Bool) → answer ≡ true
    → ((o : Order) (ws : List ℕ) → ¬ (IsModule o bytes ws)) → ¬ (IsShowing G reach bytes output answer)
no_text G reach bytes _ _ e never (IsShowing.refused code h) = cc
no_text G reach bytes _ _ e never (IsShowing.dead words order broken inst at h d) = cc
no_text G reach bytes _ _ e never (IsShowing.shown words order header is text h k l t) = never order words h

-- three bytes are taken as they are
pub short_taken : (s : Scope) → taken s (1 ∷ 2 ∷ 3 ∷ []) ≡ 1 ∷ 2 ∷ 3 ∷ []
short_taken (Own true) = refl
short_taken (Own false) = refl
short_taken (Extended true) = refl
short_taken (Extended false) = refl
short_taken OpenCl = refl

-- what a command does with three bytes, whichever they are taken as
module _ (P : List ℕ → Type 0) where
  pub as_taken : (s : Scope) → P (1 ∷ 2 ∷ 3 ∷ []) → P (taken s (1 ∷ 2 ∷ 3 ∷ []))
  as_taken s h = subst P (sym (short_taken s)) h

-- how far they are looked at
abbrev pub far : Scope → Reach
far s = reach_of s (1 ∷ 2 ∷ 3 ∷ [])

pub does_short : (c : Command) (G : Table) → ¬ (ReadsNoFile c) → MakesNothing c → IsTableOf (Some empty_grammar) G
    → ((reach : Reach) → TellsVerdict G reach (1 ∷ 2 ∷ 3 ∷ []) (9 ∷ []) (Some (9 ∷ codes "fault W2" ++ line_end)) false)
    → ((reach : Reach) (detail : Detail)
    → Explains detail G reach (1 ∷ 2 ∷ 3 ∷ []) (9 ∷ [])
    (Some (9 ∷ codes "fault W2" ++ (line_end ++ refused_text W2 (1 ∷ 2 ∷ 3 ∷ [])))) false)
    → ((reach : Reach) → Shows G reach (1 ∷ 2 ∷ 3 ∷ []) (9 ∷ []) (Some (9 ∷ codes "fault W2" ++ line_end)) false)
    → ((reach : Reach) (function : Chosen) (choices : List ℕ) (limit : ℕ)
    → Traces G reach function choices limit (1 ∷ 2 ∷ 3 ∷ []) (9 ∷ [])
    (Some (9 ∷ codes "fault W2" ++ line_end)) false)
    → ((how : View) (reach : Reach) (function : Option Chosen)
    → Views how G reach function (1 ∷ 2 ∷ 3 ∷ []) (9 ∷ []) (Some (9 ∷ codes "fault W2" ++ line_end)) false)
    → DoesByText c (Some empty_grammar) (1 ∷ 2 ∷ 3 ∷ []) (Some (9 ∷ [])) (Some (9 ∷ answer_of c)) None None false
does_short (Judge tasks.Check g fs s n q j) G r m given tells explains shows traces views =
    record {
      table = G;
      given = given;
      does = as_taken
          (λ bytes. TellsVerdict G (far s) bytes (9 ∷ []) (Some (9 ∷ codes "fault W2" ++ line_end)) false) s
          (tells (far s));
    }
does_short (Judge (tasks.Explain full) g fs s n q j) G r m given tells explains shows traces views =
    record {
      table = G;
      given = given;
      does = as_taken
          (λ bytes. Explains (detail_of full) G (far s) bytes (9 ∷ [])
          (Some (9 ∷ codes "fault W2" ++ (line_end ++ refused_text W2 (1 ∷ 2 ∷ 3 ∷ [])))) false) s
          (explains (far s) (detail_of full));
    }
does_short (Show g f s) G r m given tells explains shows traces views =
    record {
      table = G;
      given = given;
      does = as_taken
          (λ bytes. Shows G (far s) bytes (9 ∷ []) (Some (9 ∷ codes "fault W2" ++ line_end)) false) s (shows (far s));
    }
does_short (Asm g f o b x l) G r m given tells explains shows traces views = absurd m
does_short (Trace g f function choices limit s) G r m given tells explains shows traces views = record {
  table = G;
  given = given;
  does = as_taken (λ bytes. Traces G (far s) function choices.items limit bytes (9 ∷ [])
      (Some (9 ∷ codes "fault W2" ++ line_end)) false) s
      (traces (far s) function choices.items limit);
}
does_short (Annotate g f s function form color) G r m given tells explains shows traces views = record {
  table = G;
  given = given;
  does = as_taken (λ bytes. Views (view_of form color f) G (far s) function bytes (9 ∷ [])
      (Some (9 ∷ codes "fault W2" ++ line_end)) false) s
      (views (view_of form color f) (far s) function);
}
does_short (Graph g f s function) G r m given tells explains shows traces views = record {
  table = G;
  given = given;
  does = as_taken
      (λ bytes. Views view.Graph G (far s) function bytes (9 ∷ []) (Some (9 ∷ codes "fault W2" ++ line_end)) false) s
      (views view.Graph (far s) function);
}
does_short (Rules code j) G r m given tells explains shows traces views = absurd (r tt)
does_short (Grammar file) G r m given tells explains shows traces views = absurd (r tt)

-- ---- a grammar file

pub grammar_written : (G : Table) (text : List ℕ) → IsGrammarText G text
    → WritesGrammar G (Some (9 ∷ [])) (Some (9 ∷ text))
grammar_written G text t = record { text = text; is_text = t; written = refl }
