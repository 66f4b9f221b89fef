-- How the matches of `clap` lead to a command.
use Rattle.std.proofs.Common.{◌≡◌, ◌⊎◌, ◌↔◌, ◌∙◌, ◌≤◌, ◌<◌, inl, inr, refl, ap, sym, subst, sum, get_or, take, ◌+◌, arith, ◌∷◌, length, map, unwrap_or, true, false, Bool, IsTrue, ℕ, List, [], Option, Some, None, option_map, codes}
use Rattle.std.specs.Prelude.{Box, Result, Ok, Err, IfErr, IfOk, MatchOption, ok_or}
use Rattle.std.specs.Box.{box_value}
use Rattle.std.specs.Option.{option_or}
use Rattle.std.specs.Str.{bytes_eq}
use Rattle.std.proofs.lemmas.List.{get_or-map, length-map}
use Rattle.std.proofs.lemmas.List.Sums.{count_by_more_no, count_by_more_yes}
use Rattle.clap.specs.Words.{IsAmong, Row, Text, all_of, fault_of, first_of, is_simple, subcommand_of, subcommand_rows}
use Rattle.clap.specs.Faults.{is_simple_and_free}
use Rattle.clap.specs.declared.error.kind.ErrorKind.{ErrorKind}
use Rattle.clap.specs.declared.error.kind.ErrorKind.TheVariants.{DisplayHelp, DisplayVersion, OutOfMemory}
use Rattle.clap.specs.declared.parser.matches.SubCommand.{SubCommand}
use Rattle.clap.specs.declared.parser.matches.ArgMatches.TheViews.{out-SubCommand}
use Rattle.clap.proofs.OnLiterals.{clap_on_literals}
use Rattle.std.specs.Borrow.{Bor}
use Rattle.spv_command_line.specs.declared.command_line.Color.{Color}
use Rattle.spv_command_line.specs.declared.command_line.Color.TheVariants as colors
use Rattle.spv_command_line.specs.declared.command_line.Command.{Command}
use Rattle.spv_command_line.specs.declared.command_line.Command.TheVariants.{Judge, Show, Annotate, Graph, Asm, Trace, Rules, Grammar}
use Rattle.spv_command_line.specs.declared.command_line.Form.{Form}
use Rattle.spv_command_line.specs.declared.command_line.Naming.{Naming}
use Rattle.spv_command_line.specs.declared.command_line.Naming.TheVariants.{OfSeveral, Always, Never}
use Rattle.spv_command_line.specs.declared.command_line.Task.{Task}
use Rattle.spv_command_line.specs.declared.command_line.Task.TheVariants as tasks
use Rattle.spv_command_line.specs.declared.command_line.UseError.{UseError}
use Rattle.spv_command_line.specs.declared.command_line.UseError.TheVariants.{NoCommand, Memory, Help, Version}
use Rattle.spv_command_line.specs.CommandLine.{Answers, IsAsked, IsCodeOf, IsColor, IsCommand, IsCommandOf, IsDetailed, IsFlag, IsForm, IsJudge, IsNaming, IsNoCommand, IsScope, IsScopeOf, color_word, count_of, error_of, inputs_among, program, task_name}
use Rattle.spv_command_line.specs.inner.CommandLine.{IsGiven, IsGivenFor, IsOfFiles, form_of, naming_of, scope_of}
use Rattle.spv_rules.specs.Errors.{any_name}
use Rattle.spv_rules.specs.Rules.{IsNamed}
use Rattle.spv_rules.specs.declared.errors.AnyCode.{AnyCode}
use Rattle.spv_command_line.specs.Number.{AreNumbers, AreNumbersOf, IsChoice, IsChoiceIfAny, IsChoiceOf, IsNumber, IsNumberOf}
use Rattle.spv_names.specs.declared.chosen.Chosen.{Chosen}
use Rattle.spv_scope.specs.declared.scope.Scope.{Scope}
use Rattle.spv_scope.specs.declared.scope.Scope.TheVariants.{Own, Extended, OpenCl}

-- the command line is one of which `clap` tells the matches and the faults
pub is_simple_lem : is_simple program ≡ true
unfolding clap_on_literals
is_simple_lem = refl

pub is_free_lem : is_simple_and_free program ≡ true
unfolding clap_on_literals
is_free_lem = refl

-- a kind of error that `clap` gives, and the code for it
pub refused : (environment : Option Text) (words : List Text) (k : ErrorKind) → (k ≡ OutOfMemory) ⊎ IsAmong k (fault_of program words)
    → Answers environment words (Err (error_of k))
refused environment words OutOfMemory h = tt
refused environment words DisplayHelp (inl e) = cc
refused environment words DisplayHelp (inr m) = m
refused environment words DisplayVersion (inl e) = cc
refused environment words DisplayVersion (inr m) = m
refused environment words k (inl e) = cc
refused environment words k (inr m) = inl (k, m, λ e. cc, λ e. cc)

-- the subcommand's name and its rows, told one by one
pub met : {Z : Type 0} (o : Option (Box SubCommand Z)) (name : Text) (rows : List Row)
    → option_map (λ b. (out-SubCommand (box_value b)).name.now) o ≡ Some name → option_map (λ p. p.1) (subcommand_rows o) ≡ Some rows
    → subcommand_rows o ≡ Some (name, rows)
met None name rows e f = cc
met (Some b) name rows e f = cc

-- a command's name, its files, and the sum of the letters of its name, by which names are told apart
abbrev pub name_of : Command → Text
name_of (Judge task g fs s n q j) = task_name task
name_of (Show g f s) = codes "show"
name_of (Annotate g f s function form color) = codes "annotate"
name_of (Graph g f s function) = codes "graph"
name_of (Asm g f out big explain o) = codes "asm"
name_of (Trace g f function choices limit s) = codes "trace"
name_of (Rules code j) = codes "rules"
name_of (Grammar f) = codes "grammar"

abbrev files_of : Command → List Text
files_of (Judge task g fs s n q j) = map (λ f. f.now) fs.items
files_of (Show g f s) = f.now ∷ []
files_of (Annotate g f s function form color) = f.now ∷ []
files_of (Graph g f s function) = f.now ∷ []
files_of (Asm g f out big explain o) = f.now ∷ []
files_of (Trace g f function choices limit s) = f.now ∷ []
files_of (Rules code j) = []
files_of (Grammar f) = []

abbrev sum_of : Command → ℕ
sum_of (Judge tasks.Check g fs s n q j) = 510
sum_of (Judge (tasks.Explain full) g fs s n q j) = 753
sum_of (Show g f s) = 449
sum_of (Annotate g f s function form color) = 858
sum_of (Graph g f s function) = 530
sum_of (Asm g f out big explain o) = 321
sum_of (Trace g f function choices limit s) = 527
sum_of (Rules code j) = 555
sum_of (Grammar f) = 743

letters : (c : Command) → sum (name_of c) ≡ sum_of c
letters (Judge tasks.Check g fs s n q j) = refl
letters (Judge (tasks.Explain full) g fs s n q j) = refl
letters (Show g f s) = refl
letters (Annotate g f s function form color) = refl
letters (Graph g f s function) = refl
letters (Asm g f out big explain o) = refl
letters (Trace g f function choices limit s) = refl
letters (Rules code j) = refl
letters (Grammar f) = refl

-- the name of a command and what is asked for are the same
lone_name : (name m : Text) → Some name ≡ Some m → name ≡ m
lone_name name m h = ap (λ (o : Option Text). unwrap_or o []) h

module _ (environment : Option Text) (name : Text) (rows : List Row) where
  asked_name : (m : Text) (g : Option Text) (fs : List Text) → IsAsked environment (Some (name, rows)) m g fs → name ≡ m
  asked_name m g fs h = ap (λ (o : Option (Text × Option Text × Option (List Text))). unwrap_or (option_map (λ p. p.0) o) []) h

  asked_files : (m : Text) (g : Option Text) (fs : List Text) → IsAsked environment (Some (name, rows)) m g fs → all_of (codes "file") rows ≡ Some fs
  asked_files m g fs h = ap (λ (o : Option (Text × Option Text × Option (List Text))). unwrap_or (option_map (λ p. p.2) o) None) h

  pub named : (c : Command) → IsCommand environment (Some (name, rows)) c → name ≡ name_of c
  named (Judge task g fs s n q j) h = asked_name _ _ _ h.asked
  named (Show g f s) h = asked_name _ _ _ h.0
  named (Annotate g f s function form color) h = asked_name _ _ _ h.asked
  named (Graph g f s function) h = asked_name _ _ _ h.asked
  named (Asm g f out big explain o) h = asked_name _ _ _ h.0
  named (Trace g f function choices limit s) h = asked_name _ _ _ h.asked
  named (Rules code j) h = lone_name name _ h.asked
  named (Grammar f) h = lone_name name _ h.0

  filed : (c : Command) → IsOfFiles name → IsCommand environment (Some (name, rows)) c → all_of (codes "file") rows ≡ Some (files_of c)
  filed (Judge task g fs s n q j) takes h = asked_files _ _ _ h.asked
  filed (Show g f s) takes h = asked_files _ _ _ h.0
  filed (Annotate g f s function form color) takes h = asked_files _ _ _ h.asked
  filed (Graph g f s function) takes h = asked_files _ _ _ h.asked
  filed (Asm g f out big explain o) takes h = asked_files _ _ _ h.0
  filed (Trace g f function choices limit s) takes h = asked_files _ _ _ h.asked
  filed (Rules code j) takes h = absurd (takes.0 (lone_name name _ h.asked))
  filed (Grammar f) takes h = absurd (takes.1 (lone_name name _ h.0))

  -- the letters of the name are as many as those of the command's
  spelled : (c : Command) → IsCommand environment (Some (name, rows)) c → sum name ≡ sum_of c
  spelled c h = ap sum (named c h) ∙ letters c

  -- without files there is no command
  pub no_command_without_file : all_of (codes "file") rows ≡ None → IsOfFiles name → IsNoCommand environment (Some (name, rows))
  no_command_without_file none takes c h = let e = filed c takes h in cc

  -- of no file or several there is only a task
  pub no_command_of_several : (files : List Text) → ¬ (length files ≡ 1) → all_of (codes "file") rows ≡ Some files → IsOfFiles name
      → ((task : Task) → ¬ (name ≡ task_name task)) → IsNoCommand environment (Some (name, rows))
  no_command_of_several files several all takes none (Judge task g fs s n q j) h = none task (named (Judge task g fs s n q j) h)
  no_command_of_several files several all takes none (Rules code j) h = takes.0 (named (Rules code j) h)
  no_command_of_several files several all takes none (Grammar f) h = takes.1 (named (Grammar f) h)
  no_command_of_several files several all takes none c h =
      let one : length files ≡ 1 = ap (λ (o : Option (List Text)). length (unwrap_or o [])) (sym all ∙ filed c takes h) in
      several one

  -- of one file, with another name there is none
  pub no_command_of_name : IsOfFiles name → ((task : Task) → ¬ (name ≡ task_name task)) → ¬ (name ≡ codes "show") → ¬ (name ≡ codes "annotate")
      → ¬ (name ≡ codes "graph") → ¬ (name ≡ codes "asm") → ¬ (name ≡ codes "trace") → IsNoCommand environment (Some (name, rows))
  no_command_of_name takes none show annotate graph asm trace (Judge task g fs s n q j) h = none task (named (Judge task g fs s n q j) h)
  no_command_of_name takes none show annotate graph asm trace (Show g f s) h = show (named (Show g f s) h)
  no_command_of_name takes none show annotate graph asm trace (Annotate g f s function form color) h = annotate (named (Annotate g f s function form color) h)
  no_command_of_name takes none show annotate graph asm trace (Graph g f s function) h = graph (named (Graph g f s function) h)
  no_command_of_name takes none show annotate graph asm trace (Asm g f out big explain o) h = asm (named (Asm g f out big explain o) h)
  no_command_of_name takes none show annotate graph asm trace (Trace g f function choices limit s) h = trace (named (Trace g f function choices limit s) h)
  no_command_of_name takes none show annotate graph asm trace (Rules code j) h = takes.0 (named (Rules code j) h)
  no_command_of_name takes none show annotate graph asm trace (Grammar f) h = takes.1 (named (Grammar f) h)

  -- where what its options ask of a version is none
  pub not_scoped : ((scope : Scope) → ¬ (IsScopeOf rows scope)) → ¬ (name ≡ codes "asm") → ¬ (name ≡ codes "rules") → ¬ (name ≡ codes "grammar")
      → IsNoCommand environment (Some (name, rows))
  not_scoped none asm rules grammar (Judge task g fs s n q j) h = none s h.scope_is
  not_scoped none asm rules grammar (Show g f s) h = none s h.1
  not_scoped none asm rules grammar (Annotate g f s function form color) h = none s h.scope_is
  not_scoped none asm rules grammar (Graph g f s function) h = none s h.scope_is
  not_scoped none asm rules grammar (Asm g f out big explain o) h = asm (named (Asm g f out big explain o) h)
  not_scoped none asm rules grammar (Trace g f function choices limit s) h = none s h.scope_is
  not_scoped none asm rules grammar (Rules code j) h = rules (named (Rules code j) h)
  not_scoped none asm rules grammar (Grammar f) h = grammar (named (Grammar f) h)

never : ¬ (IsTrue false)
never e = cc

-- of a name there is no command, where there is none of its kind
module _ (environment : Option Text) (rows : List Row) where
  unjudged : (task : Task) → ((k : Task) (g : Option Text) (fs : List Text) (s : Scope) (n : Naming) (q j : Bool)
      → ¬ (IsJudge environment (Some (task_name task, rows)) k g fs s n q j)) → IsNoCommand environment (Some (task_name task, rows))
  unjudged task none (Judge k g fs s n q j) h = none _ _ _ _ _ _ _ h
  unjudged tasks.Check none c h = let e : 510 ≡ sum_of c = spelled environment (codes "check") rows c h in omega (arith, e)
  unjudged (tasks.Explain full) none c h = let e : 753 ≡ sum_of c = spelled environment (codes "explain") rows c h in omega (arith, e)

  -- of files that a task does not take
  pub not_judged : (task : Task) (g : Option Text) (all : List (Bor Text))
      → IsAsked environment (Some (task_name task, rows)) (task_name task) g (map (λ f. f.now) all)
      → IsTrue false ↔ ((1 ≤ length all) × (inputs_among (map (λ f. f.now) all) ≤ 1)) → IsNoCommand environment (Some (task_name task, rows))
  not_judged task g all e answer = unjudged task (λ k h fs s n q j i.
      let files : List Text = map (λ (f : Bor Text). f.now) all in
      let count = length-map all (λ (f : Bor Text). f.now) in
      let same : Some files ≡ Some fs = sym (asked_files environment (task_name task) rows _ _ _ e) ∙ asked_files environment (task_name task) rows _ _ _ i.asked in
      let equal : fs ≡ files = ap (λ (o : Option (List Text)). unwrap_or o []) (sym same) in
      let long : 1 ≤ length files = rw (← equal) i.some in
      never (answer.1 (omega (arith, count, long), rw (← equal) i.once)))

  -- where names are asked for and against
  pub not_named : (task : Task) → ((naming : Naming) → ¬ (IsNaming (first_of (codes "with-filename") rows) (first_of (codes "no-filename") rows) naming))
      → IsNoCommand environment (Some (task_name task, rows))
  not_named task none = unjudged task (λ k h fs s n q j i. none n i.names)

  -- where what its options ask for is none
  pub not_annotated : ((color : Color) → ¬ (IsColor (first_of (codes "color") rows) color))
      → IsNoCommand environment (Some (codes "annotate", rows))
  not_annotated none (Annotate g f s function form color) h = none color h.color_is
  not_annotated none (Judge tasks.Check g fs s n q j) h = let e : 858 ≡ 510 = spelled environment (codes "annotate") rows (Judge tasks.Check g fs s n q j) h in omega (arith, e)
  not_annotated none c h = let e : 858 ≡ sum_of c = spelled environment (codes "annotate") rows c h in omega (arith, e)

  pub not_assembled : first_of (codes "out") rows ≡ None → IsNoCommand environment (Some (codes "asm", rows))
  not_assembled none (Asm g f out big explain o) h = let o = h.1 in cc
  not_assembled none (Judge tasks.Check g fs s n q j) h = let e : 321 ≡ 510 = spelled environment (codes "asm") rows (Judge tasks.Check g fs s n q j) h in omega (arith, e)
  not_assembled none c h = let e : 321 ≡ sum_of c = spelled environment (codes "asm") rows c h in omega (arith, e)

  pub not_traced : ((function : Chosen) (choices : List ℕ) (limit : ℕ) → IsChoiceOf (first_of (codes "function") rows) function
      → AreNumbersOf (first_of (codes "choices") rows) choices → IsNumberOf (first_of (codes "limit") rows) limit → ⊥)
      → IsNoCommand environment (Some (codes "trace", rows))
  not_traced none (Trace g f function choices limit s) h = none function choices.items limit h.function_is h.choices_are h.limit_is
  not_traced none (Judge tasks.Check g fs s n q j) h = let e : 527 ≡ 510 = spelled environment (codes "trace") rows (Judge tasks.Check g fs s n q j) h in omega (arith, e)
  not_traced none c h = let e : 527 ≡ sum_of c = spelled environment (codes "trace") rows c h in omega (arith, e)

  pub not_ruled : ((code : Option AnyCode) → ¬ (IsCodeOf (first_of (codes "code") rows) code)) → IsNoCommand environment (Some (codes "rules", rows))
  not_ruled none (Rules code j) h = none code h.code_is
  not_ruled none (Judge tasks.Check g fs s n q j) h = let e : 555 ≡ 510 = spelled environment (codes "rules") rows (Judge tasks.Check g fs s n q j) h in omega (arith, e)
  not_ruled none c h = let e : 555 ≡ sum_of c = spelled environment (codes "rules") rows c h in omega (arith, e)

task_is_of_files : (task : Task) → IsOfFiles (task_name task)
task_is_of_files tasks.Check = (λ e. let s : 510 ≡ 555 = ap sum e in omega (arith, s), λ e. let s : 510 ≡ 743 = ap sum e in omega (arith, s))
task_is_of_files (tasks.Explain full) = (λ e. let s : 753 ≡ 555 = ap sum e in omega (arith, s), λ e. let s : 753 ≡ 743 = ap sum e in omega (arith, s))

-- a task whose options ask of a version for what is none
pub not_scoped_task : (environment : Option Text) (rows : List Row) (task : Task) → ((scope : Scope) → ¬ (IsScopeOf rows scope))
    → IsNoCommand environment (Some (task_name task, rows))
not_scoped_task environment rows tasks.Check none =
    not_scoped environment (codes "check") rows none (λ e. let s : 510 ≡ 321 = ap sum e in omega (arith, s)) (task_is_of_files tasks.Check).0 (task_is_of_files tasks.Check).1
not_scoped_task environment rows (tasks.Explain full) none =
    not_scoped environment (codes "explain") rows none (λ e. let s : 753 ≡ 321 = ap sum e in omega (arith, s)) (task_is_of_files (tasks.Explain full)).0 (task_is_of_files (tasks.Explain full)).1

-- the same of a command on one file, by the letters of its name
pub not_scoped_name : (environment : Option Text) (name : Text) (rows : List Row) → ¬ (sum name ≡ 321) → ¬ (sum name ≡ 555) → ¬ (sum name ≡ 743)
    → ((scope : Scope) → ¬ (IsScopeOf rows scope)) → IsNoCommand environment (Some (name, rows))
not_scoped_name environment name rows asm rules grammar none =
    not_scoped environment name rows none (λ e. asm (ap sum e)) (λ e. rules (ap sum e)) (λ e. grammar (ap sum e))

-- a task on its files
pub judge_met : (environment : Option Text) (rows : List Row) (task : Task) (g : Option Text) (all items : List (Bor Text)) (s : Scope) (n : Naming) (q j : Bool)
    → IsAsked environment (Some (task_name task, rows)) (task_name task) g (map (λ f. f.now) all) → items ≡ all
    → IsTrue true ↔ ((1 ≤ length all) × (inputs_among (map (λ f. f.now) all) ≤ 1))
    → IsDetailed (first_of (codes "full") rows) task
    → IsScopeOf rows s
    → IsNaming (first_of (codes "with-filename") rows) (first_of (codes "no-filename") rows) n
    → IsFlag (first_of (codes "quiet") rows) q
    → IsFlag (first_of (codes "json") rows) j
    → IsJudge environment (Some (task_name task, rows)) task g (map (λ f. f.now) items) s n q j
judge_met environment rows task g all items s n q j e i answer detail scope names quiet json =
    let count = length-map all (λ (f : Bor Text). f.now) in
    let long = (answer.0 refl).0 in
    rw i (record {
      asked = e;
      detail = detail;
      some = omega (arith, count, long);
      once = (answer.0 refl).1;
      scope_is = scope;
      names = names;
      quiet_is = quiet;
      json_is = json;
    })

no_rows : (found : Option (Text × List Row)) → option_map (λ p. p.1) found ≡ None → found ≡ None
no_rows None e = refl
no_rows (Some p) e = cc

-- without a command there is none
pub no_command_met : (environment : Option Text) (found : Option (Text × List Row)) → option_map (λ p. p.1) found ≡ None → IsNoCommand environment found
no_command_met environment found e = subst (λ (o : Option (Text × List Row)). IsNoCommand environment o) (sym (no_rows found e)) unnamed
  where
    unnamed : IsNoCommand environment None
    unnamed (Rules code j) h = let a = h.asked in cc
    unnamed (Grammar f) h = let a = h.0 in cc
    unnamed (Judge task g fs s n q j) h = let a = h.asked in cc
    unnamed (Show g f s) h = let a = h.0 in cc
    unnamed (Annotate g f s function form color) h = let a = h.asked in cc
    unnamed (Graph g f s function) h = let a = h.asked in cc
    unnamed (Asm g f out big explain o) h = let a = h.0 in cc
    unnamed (Trace g f function choices limit s) h = let a = h.asked in cc

-- what stands behind a name, by the name and its rows
pub given_for : (found : Option (Text × List Row)) (name m : Text) (rows : List Row) (r : Result Command UseError) (environment : Option Text)
    → found ≡ Some (name, rows) → name ≡ m → IsGiven m rows r → IsCommandOf environment found r
given_for found name m rows r environment e n h =
    subst (λ (o : Option (Text × List Row)). IsCommandOf environment o r) (sym (e ∙ ap (λ (t : Text). Some (t, rows)) n)) (h environment)

pub given_by : (name m : Text) (rows : List Row) (g : Option Text) (fs : List Text) (r : Result Command UseError) → name ≡ m → IsGivenFor m rows g fs r → IsGivenFor name rows g fs r
given_by name m rows g fs r n h = subst (λ (t : Text). IsGivenFor t rows g fs r) (sym n) h

-- a text that is no code's name
pub code_unknown : (text : Option Text) (name : Text) → text ≡ Some name → ((code : AnyCode) → ¬ (IsNamed name (any_name code)))
    → (code : Option AnyCode) → ¬ (IsCodeOf text code)
code_unknown None name e h code k = cc
code_unknown (Some text) name e h None k = k
code_unknown (Some text) name e h (Some code) k =
    let same : text ≡ name = ap (λ (o : Option Text). unwrap_or o []) e in
    h code (subst (λ (t : Text). IsNamed t (any_name code)) same k)

-- a text that is, and none where there is none
pub code_known : (text : Option Text) (name : Text) (code : AnyCode) → text ≡ Some name → IsNamed name (any_name code) → IsCodeOf text (Some code)
code_known text name code e h = subst (λ (t : Option Text). IsCodeOf t (Some code)) (sym e) h

pub no_code : (text : Option Text) → text ≡ None → IsCodeOf text None
no_code text e = subst (λ (t : Option Text). IsCodeOf t None) (sym e) tt

-- a function that may be chosen
pub choice_given : (text : Option Text) (t : Text) (x : Chosen) → text ≡ Some t → IsChoice t x → IsChoiceIfAny text (Some x)
choice_given text t x e h = subst (λ (o : Option Text). IsChoiceIfAny o (Some x)) (sym e) h

pub none_given : (text : Option Text) → text ≡ None → IsChoiceIfAny text None
none_given text e = subst (λ (o : Option Text). IsChoiceIfAny o None) (sym e) tt

-- a form by its flag
pub form_read : (text : Option Text) (html : Bool) (form : Form) → form ≡ form_of html → IsFlag text html → IsForm text form
form_read text false form e f = rw e (λ q. never (f.1 q))
form_read text true form e f = rw e (f.0 refl)

-- a use of colour by its word
pub color_given : (text : Option Text) (t : Text) (o : Option Color) → text ≡ Some t → MatchOption o ((c : Color) → ¬ (t ≡ color_word c)) (λ c. t ≡ color_word c)
    → MatchOption o ((c : Color) → ¬ (IsColor text c)) (λ c. IsColor text c)
color_given text t o e m = subst (λ (w : Option Text). MatchOption o ((c : Color) → ¬ (IsColor w c)) (λ c. IsColor w c)) (sym e) m

pub color_chosen : (o : Option Color) (r : Result Color UseError) (text : Option Text) → r ≡ ok_or o NoCommand
    → MatchOption o ((c : Color) → ¬ (IsColor text c)) (λ c. IsColor text c)
    → IfOk r (λ c. IsColor text c) × IfErr r (λ e. (e ≡ NoCommand) × ((c : Color) → ¬ (IsColor text c)))
color_chosen None r text e m = rw e (tt, (refl, m))
color_chosen (Some c) r text e m = rw e (m, tt)

pub no_color_given : (text : Option Text) → text ≡ None → IsColor text colors.Auto
no_color_given text e = subst (λ (o : Option Text). IsColor o colors.Auto) (sym e) refl

-- which verdicts have names by two flags
pub naming_read : (a b : Bool) (on off : Option Text) (o : Option Naming) → o ≡ naming_of a b → IsFlag on a → IsFlag off b
    → MatchOption o ((naming : Naming) → ¬ (IsNaming on off naming)) (λ naming. IsNaming on off naming)
naming_read false false on off o e x y = rw e (λ q. never (x.1 q), λ q. never (y.1 q))
naming_read true false on off o e x y = rw e (x.0 refl, λ q. never (y.1 q))
naming_read false true on off o e x y = rw e (λ q. never (x.1 q), y.0 refl)
naming_read true true on off o e x y = rw e unnamed
  where
    unnamed : (naming : Naming) → ¬ (IsNaming on off naming)
    unnamed OfSeveral h = h.0 (x.0 refl)
    unnamed Always h = h.1 (y.0 refl)
    unnamed Never h = h.0 (x.0 refl)

-- as which version a module is read, and how far it is looked at, by three flags
pub scope_read : (a b c : Bool) (newest extended opencl : Option Text) (o : Option Scope) → o ≡ scope_of a b c → IsFlag newest a → IsFlag extended b → IsFlag opencl c
    → MatchOption o ((scope : Scope) → ¬ (IsScope newest extended opencl scope)) (λ scope. IsScope newest extended opencl scope)
scope_read true b true newest extended opencl o e x y z = rw e none
  where
    none : (scope : Scope) → ¬ (IsScope newest extended opencl scope)
    none (Own as_1_6) h = h.2 (z.0 refl)
    none (Extended as_1_6) h = h.2 (z.0 refl)
    none OpenCl h = h.0 (x.0 refl)
scope_read false b true newest extended opencl o e x y z = rw e (λ q. never (x.1 q), z.0 refl)
scope_read a true false newest extended opencl o e x y z = rw e (x, y.0 refl, λ q. never (z.1 q))
scope_read a false false newest extended opencl o e x y z = rw e (x, λ q. never (y.1 q), λ q. never (z.1 q))

-- what an option is as a number
pub number_read : (r : Option (Bor Text)) (read text : Option Text) (s : Bor Text) (o : Option ℕ) → option_map (λ b. b.now) r ≡ read → read ≡ text → r ≡ Some s
    → MatchOption o ((n : ℕ) → ¬ (IsNumber s.now n)) (λ n. IsNumber s.now n) → MatchOption o ((n : ℕ) → ¬ (IsNumberOf text n)) (λ n. IsNumberOf text n)
number_read r read text s o e q h m =
    let v : Some s.now ≡ text = ap (option_map (λ (b : Bor Text). b.now)) (sym h) ∙ e ∙ q in
    subst (λ (t : Option Text). MatchOption o ((n : ℕ) → ¬ (IsNumberOf t n)) (λ n. IsNumberOf t n)) v m

pub number_none : (r : Option (Bor Text)) (read text : Option Text) (n : ℕ) → option_map (λ b. b.now) r ≡ read → read ≡ text → r ≡ None → ¬ (IsNumberOf text n)
number_none r read text n e q h =
    let v : None ≡ text = ap (option_map (λ (b : Bor Text). b.now)) (sym h) ∙ e ∙ q in
    subst (λ (t : Option Text). ¬ (IsNumberOf t n)) v (λ m. m)

-- which function an option chooses
text_read : (r : Option (Bor Text)) (read text : Option Text) (s : Bor Text) → option_map (λ b. b.now) r ≡ read → read ≡ text → r ≡ Some s → Some s.now ≡ text
text_read r read text s e q h = ap (option_map (λ (b : Bor Text). b.now)) (sym h) ∙ e ∙ q

text_none : (r : Option (Bor Text)) (read text : Option Text) → option_map (λ b. b.now) r ≡ read → read ≡ text → r ≡ None → None ≡ text
text_none r read text e q h = ap (option_map (λ (b : Bor Text). b.now)) (sym h) ∙ e ∙ q

pub choice_read : (r : Option (Bor Text)) (read text : Option Text) (s : Bor Text) (x : Chosen) → option_map (λ b. b.now) r ≡ read → read ≡ text → r ≡ Some s
    → IsChoice s.now x → IsChoiceOf text x
choice_read r read text s x e q h m = subst (λ (t : Option Text). IsChoiceOf t x) (text_read r read text s e q h) m

pub choice_none : (r : Option (Bor Text)) (read text : Option Text) (x : Chosen) → option_map (λ b. b.now) r ≡ read → read ≡ text → r ≡ None → ¬ (IsChoiceOf text x)
choice_none r read text x e q h = subst (λ (t : Option Text). ¬ (IsChoiceOf t x)) (text_none r read text e q h) (λ m. m)

pub choice_if_read : (r : Option (Bor Text)) (read text : Option Text) (s : Bor Text) (x : Chosen) → option_map (λ b. b.now) r ≡ read → read ≡ text → r ≡ Some s
    → IsChoice s.now x → IsChoiceIfAny text (Some x)
choice_if_read r read text s x e q h m = choice_given text s.now x (sym (text_read r read text s e q h)) m

pub choice_if_none : (r : Option (Bor Text)) (read text : Option Text) → option_map (λ b. b.now) r ≡ read → read ≡ text → r ≡ None → IsChoiceIfAny text None
choice_if_none r read text e q h = none_given text (sym (text_none r read text e q h))

-- a flag that was read has the text `true`
pub flag_read : (r : Option (Bor Text)) (read text : Option Text) (s : Bor Text) (answer : Bool) → option_map (λ b. b.now) r ≡ read → read ≡ text → r ≡ Some s
    → IsTrue answer ↔ (s.now ≡ codes "true") → IsTrue answer ↔ (text ≡ Some (codes "true"))
flag_read r read text s answer e q h k =
    let v : Some s.now ≡ text = ap (option_map (λ (b : Bor Text). b.now)) (sym h) ∙ e ∙ q in
    (λ t. sym v ∙ ap Some (k.0 t), λ w. let z : Some s.now ≡ Some (codes "true") = v ∙ w in let y : s.now ≡ codes "true" = cc in k.1 y)

pub flag_none : (r : Option (Bor Text)) (read text : Option Text) → option_map (λ b. b.now) r ≡ read → read ≡ text → r ≡ None → IsTrue false ↔ (text ≡ Some (codes "true"))
flag_none r read text e q h =
    let v : None ≡ text = ap (option_map (λ (b : Bor Text). b.now)) (sym h) ∙ e ∙ q in
    (λ b. cc, λ w. cc)

pub numbers_read : {V E : Type 0} (o : Result (Option V) E) (items : V → List ℕ) (r : Option (Bor Text)) (read text : Option Text) (s : Bor Text) → option_map (λ b. b.now) r ≡ read → read ≡ text → r ≡ Some s
    → IfOk o (λ p. MatchOption p ((ns : List ℕ) → ¬ (AreNumbers s.now ns)) (λ v. AreNumbers s.now (items v)))
    → IfOk o (λ p. MatchOption p ((ns : List ℕ) → ¬ (AreNumbersOf text ns)) (λ v. AreNumbersOf text (items v)))
numbers_read o items r read text s e q h m =
    let v : Some s.now ≡ text = ap (option_map (λ (b : Bor Text). b.now)) (sym h) ∙ e ∙ q in
    subst (λ (t : Option Text). IfOk o (λ p. MatchOption p ((ns : List ℕ) → ¬ (AreNumbersOf t ns)) (λ v. AreNumbersOf t (items v)))) v m

pub numbers_none : (r : Option (Bor Text)) (read text : Option Text) (ns : List ℕ) → option_map (λ b. b.now) r ≡ read → read ≡ text → r ≡ None → ns ≡ [] → AreNumbersOf text ns
numbers_none r read text ns e q h k =
    let v : None ≡ text = ap (option_map (λ (b : Bor Text). b.now)) (sym h) ∙ e ∙ q in
    subst (λ (t : Option Text). AreNumbersOf t ns) v k

-- the command of the words, or NoCommand
pub answered : (environment : Option Text) (words : List Text) (found : Option (Text × List Row)) (r : Result Command UseError) → fault_of program words ≡ []
    → found ≡ subcommand_of program words → IsCommandOf environment found r → Answers environment words r
answered environment words found (Ok c) none e h = (none, rw (← e) h)
answered environment words found (Err NoCommand) none e h = inr (rw (← e) h)
answered environment words found (Err Memory) none e h = tt
answered environment words found (Err Help) none e h = absurd h
answered environment words found (Err Version) none e h = absurd h

-- a text that was read, or else that of the environment
pub grammar_read : (r e : Option (Bor Text)) (o : Option (Bor Text)) (first : Option Text) → option_map (λ b. b.now) r ≡ first → o ≡ option_or r e
    → option_map (λ b. b.now) o ≡ option_or first (option_map (λ b. b.now) e)
grammar_read None e o first h k = rw (k, ← h) refl
grammar_read (Some b) e o first h k = rw (k, ← h) refl

-- what was read of a command's grammar file and files
pub asked_of : (environment : Option Text) (name : Text) (rows : List Row) (grammar : Option Text) (files : List Text)
    → option_or (first_of (codes "grammar") rows) environment ≡ grammar
    → all_of (codes "file") rows ≡ Some files → IsAsked environment (Some (name, rows)) name grammar files
asked_of environment name rows grammar files g f = rw (g, f) refl

-- one more word is that one, or is not
at_word : (words : List (Bor Text)) (at : ℕ) (any : Bor Text) → at < length words → get_or (map (λ w. w.now) words) at any.now ≡ (get_or words at any).now
at_word words at any h = get_or-map (λ (w : Bor Text). w.now) words at any any.now h

at_length : (words : List (Bor Text)) (at : ℕ) → at < length words → at < length (map (λ w. w.now) words)
at_length words at h = rw (length-map words (λ (w : Bor Text). w.now)) h

pub word_more : (sought : Text) (words : List (Bor Text)) (at : ℕ) (word : Text) (any : Bor Text) (count : ℕ) → at < length words → word ≡ (get_or words at any).now
    → true ≡ bytes_eq word sought → count ≡ count_of sought (take at (map (λ w. w.now) words)) → count + 1 ≡ count_of sought (take (at + 1) (map (λ w. w.now) words))
word_more sought words at word any count h n is c =
    let named : bytes_eq (get_or (map (λ (w : Bor Text). w.now) words) at any.now) sought ≡ true =
    ap (λ (t : Text). bytes_eq t sought) (at_word words at any h ∙ sym n) ∙ sym is in
    ap (λ (k : ℕ). k + 1) c ∙ sym (count_by_more_yes (λ (t : Text). bytes_eq t sought) (map (λ (w : Bor Text). w.now) words) at any.now (at_length words at h) named)

pub no_word_more : (sought : Text) (words : List (Bor Text)) (at : ℕ) (word : Text) (any : Bor Text) (count : ℕ) → at < length words → word ≡ (get_or words at any).now
    → false ≡ bytes_eq word sought → count ≡ count_of sought (take at (map (λ w. w.now) words)) → count ≡ count_of sought (take (at + 1) (map (λ w. w.now) words))
no_word_more sought words at word any count h n is c =
    let named : bytes_eq (get_or (map (λ (w : Bor Text). w.now) words) at any.now) sought ≡ false =
    ap (λ (t : Text). bytes_eq t sought) (at_word words at any h ∙ sym n) ∙ sym is in
    c ∙ sym (count_by_more_no (λ (t : Text). bytes_eq t sought) (map (λ (w : Bor Text). w.now) words) at any.now (at_length words at h) named)
