-- What a command answers of what its file gave.
use Rattle.std.proofs.Common.{◌≡◌, ◌≢◌, ◌⊎◌, ◌↔◌, ◌*◌, ◌++◌, length, ℕ, List, [], Bool, true, false, Option, Some, None}
use Rattle.std.proofs.Common.{Result, Ok, Err, IfOk, IfErr, IsTrue, ap, sym, take, refl, arith, inl, inr, ◌∙◌}
use Rattle.std.proofs.lemmas.List.{take_all}
use Rattle.std.specs.Prelude.{string_bytes}
use Rattle.spv_words.specs.Header.{IsFirstBroken, IsModule}
use Rattle.spv_words.specs.declared.words.Order.{Order}
use Rattle.spv_words.specs.declared.words.WordError.{WordError}
use Rattle.spv_words.specs.declared.words.WordError.TheVariants.{W8}
use Rattle.spv_table.specs.Table.{Table}
use Rattle.spv_extended.specs.declared.reach.Reach.{Reach}
use Rattle.spv_builtin.specs.Source.{IsTableOf, breaks}
use Rattle.spv_grammar.specs.declared.error.GrammarError.{GrammarError}
use Rattle.spv_grammar.specs.declared.error.GrammarError.TheVariants.{J1, J2, J3, J4, J5, J6, J7, J8}
use Rattle.spv_module.specs.declared.fault.Rule.{Rule}
use Rattle.spv_check.specs.Stream.{TellsVerdict}
use Rattle.spv_check.specs.Text.{line_of}
use Rattle.spv_check.specs.Verdict.{IsVerdict, fault_line, refused_line, valid_line}
use Rattle.spv_check.proofs.Verdicts.{fault_is_not_valid, refused_is_not_valid}
use Rattle.spv_facts.specs.declared.fact.Detail.{Detail}
use Rattle.spv_explain.specs.Stream.{Explains, IsExplanation}
use Rattle.spv_explain.specs.declared.stream.Explanation.{Explanation}
use Rattle.spv_views.specs.View.{IsViewing, Views}
use Rattle.spv_views.specs.declared.view.View.{View}
use Rattle.spv_views.specs.declared.view.View.TheVariants as views
use Rattle.spv_views.proofs.Viewings.{no_words}
use Rattle.spv_command_line.specs.declared.command_line.Command.{Command}
use Rattle.spv_commands.specs.Answer.{Answers, IsRefusal, grammar, done, told, refused, no_text, no_entry, no_function}
use Rattle.spv_names.specs.declared.chosen.Chosen.{Chosen}
use Rattle.spv_commands.specs.Answer.{memory, several, unread}
use Rattle.spv_rules.specs.declared.errors.AnyCode.{AnyCode}
use Rattle.spv_command_line.specs.declared.command_line.Command.TheVariants.{Judge, Show, Asm, Trace, Rules}
use Rattle.spv_command_line.specs.declared.command_line.Command.TheVariants.{Grammar as GrammarOf, Annotate, Graph}
use Rattle.spv_command_line.specs.declared.command_line.Task.TheVariants as tasks
use Rattle.spv_words.specs.Words.{StandFor}
use Rattle.spv_commands.specs.Assemble.{Assembles, HoldsModule, IsFaultOf, IsImageOf, in_version, minor_asked, text_read}
use Rattle.spv_commands.specs.Output.{is_done, made_of, out_of, status_of, written_err, written_made, written_out}
use Rattle.spv_commands.specs.Show.{IsShowing, Shows}
use Rattle.spv_commands.specs.Task.{ReadsGrammar, IsAmbiguous, IsNoText, LacksAsked, LacksEntry, WritesRules, detail_of}
use Rattle.spv_commands.specs.Task.{view_of}
use Rattle.spv_scope.specs.Scope.{reach_of, taken}
use Rattle.spv_scope.proofs.Lengths.{length_with_minor, long_taken}
use Rattle.spv_commands.specs.Trace.{IsTracing, Traces}
use Rattle.spv_commands.specs.Trouble.{file_trouble, grammar_text, trouble_text}
use Rattle.spv_commands.specs.inner.Answered.{Gives, IsAnswerBy, IsUnreadAnswer, WhyNot}
use Rattle.spv_commands.specs.inner.Asked.{is_explaining, reads_of}
use Rattle.spv_commands.specs.declared.asked.Reads.TheVariants.{Module, Nothing, Text}
use Rattle.spv_commands.specs.declared.replying.Reply.{Reply}
use Rattle.spv_commands.specs.declared.replying.Reply.TheVariants.{Done, Fault, Made}
use Rattle.spv_commands.specs.declared.trouble.Trouble.{Trouble}
use Rattle.spv_commands.specs.declared.trouble.Trouble.TheVariants.{File, Memory, NoEntry, NoFunction, NotText}
use Rattle.spv_commands.specs.declared.trouble.Trouble.TheVariants.{SeveralFunctions, Use}
use Rattle.spv_commands.specs.declared.trouble.Trouble.TheVariants.{Grammar as Refused}

-- what a writer that held nothing gets
pub gives : (Whole : List ℕ → List ℕ → Option (List ℕ) → Bool → Type 0) (bytes line : List ℕ) (answer : Bool)
    (a : Reply) → out_of a ≡ line → is_done a ≡ answer → made_of a ≡ []
    → Whole bytes [] (Some line) answer → Gives Whole bytes a
gives Whole bytes line answer a o d m h = (rw (o, d) h, m)

-- the line of a verdict, told alone
pub tells_refused : (G : Table) (reach : Reach) (bytes : List ℕ) (code : WordError) → IsFirstBroken code bytes
    → TellsVerdict G reach bytes [] (Some (refused_line code)) false
tells_refused G reach bytes code h =
    record {
      line = refused_line code;
      verdict = IsVerdict.refused code h;
      written = refl;
      answered = (λ t. cc, λ e. absurd (refused_is_not_valid code e));
    }

pub tells_fault : (G : Table) (reach : Reach) (bytes : List ℕ) (r : Rule) (inst word : ℕ)
    → IsVerdict G reach bytes (fault_line r inst word)
    → TellsVerdict G reach bytes [] (Some (fault_line r inst word)) false
tells_fault G reach bytes r inst word h =
    record {
      line = fault_line r inst word;
      verdict = h;
      written = refl;
      answered = (λ t. cc, λ e. absurd (fault_is_not_valid r inst word e));
    }

pub tells_valid : (G : Table) (reach : Reach) (bytes : List ℕ) → IsVerdict G reach bytes valid_line
    → TellsVerdict G reach bytes [] (Some valid_line) true
tells_valid G reach bytes h =
    record { line = valid_line; verdict = h; written = refl; answered = (λ t. refl, λ e. refl) }

-- the lines that explain it
pub explains : (d : Detail) (G : Table) (reach : Reach) (bytes : List ℕ) (e : Explanation) (a : Reply)
    → IsExplanation d G reach bytes e → out_of a ≡ line_of e.judgment ++ string_bytes e.lines
    → made_of a ≡ [] → IsTrue (is_done a) ↔ (line_of e.judgment ≡ valid_line) → Gives (Explains d G reach) bytes a
explains d G reach bytes e a h o m t = (
  rw o (record {
    line = line_of e.judgment;
    lines = string_bytes e.lines;
    verdict = h.verdict;
    explain = h.explain;
    dead = h.dead;
    others = h.others;
    written = refl;
    answered = t;
  }),
  m,
)

-- what is shown, traced and viewed
pub shows_it : (G : Table) (reach : Reach) (bytes output : List ℕ) (answer : Bool) → IsShowing G reach bytes output answer
    → Shows G reach bytes [] (Some output) answer
shows_it G reach bytes output answer h = record { output = output; showing = h; written = refl }

pub traces_it : (G : Table) (reach : Reach) (function : Chosen) (choices : List ℕ) (limit : ℕ) (bytes output : List ℕ)
    (answer : Bool) → IsTracing G reach function choices limit bytes output answer
    → Traces G reach function choices limit bytes [] (Some output) answer
traces_it G reach function choices limit bytes output answer h = record { output = output; tracing = h; written = refl }

pub traces_refused : (G : Table) (reach : Reach) (function : Chosen) (choices : List ℕ) (limit : ℕ) (bytes : List ℕ)
    (code : WordError) → IsFirstBroken code bytes
    → Traces G reach function choices limit bytes [] (Some (refused_line code)) false
traces_refused G reach function choices limit bytes code h =
    traces_it G reach function choices limit bytes (refused_line code) false
    (IsTracing.judged (refused_line code) (IsVerdict.refused code h) (λ e. refused_is_not_valid code e))

pub views_it : (how : View) (G : Table) (reach : Reach) (function : Option Chosen) (bytes output : List ℕ) (answer : Bool)
    → IsViewing how G reach function bytes output answer → Views how G reach function bytes [] (Some output) answer
views_it how G reach function bytes output answer h = record { output = output; viewing = h; written = refl }

pub views_refused : (how : View) (G : Table) (reach : Reach) (function : Option Chosen) (bytes : List ℕ) (code : WordError)
    → ((e : WordError) (o : Order) (bs ws : List ℕ) → IsModule o bs ws → ¬ IsFirstBroken e bs)
    → IsFirstBroken code bytes → Views how G reach function bytes [] (Some (refused_line code)) false
views_refused how G reach function bytes code never h =
    views_it how G reach function bytes (refused_line code) false
    (IsViewing.judged (refused_line code) (no_words how G reach bytes code function never h) (IsVerdict.refused code h))

-- what is told of a module that is too long: the line of its code, or that line and those that explain it
pub too_long_line : ((e : WordError) (o : Order) (bs ws : List ℕ) → IsModule o bs ws → ¬ IsFirstBroken e bs)
    → (command : Command) (G : Table) (bytes : List ℕ) (a : Reply) → is_explaining command ≡ false
    → reads_of command ≡ Module → IsFirstBroken W8 bytes
    → out_of a ≡ refused_line W8 → made_of a ≡ [] → is_done a ≡ false → IsAnswerBy command G bytes a
too_long_line never (Judge tasks.Check g fs s n q j) G bytes a x r h o m d =
    (rw (o, d) (tells_refused G (reach_of s bytes) (taken s bytes) W8 (long_taken s bytes h)), λ _. m)
too_long_line never (Judge (tasks.Explain full) g fs s n q j) G bytes a x r h o m d =
    let never_explains : true ≡ false = x in cc
too_long_line never (Show g f s) G bytes a x r h o m d = (
  rw (o, d) (shows_it G (reach_of s bytes) (taken s bytes) (refused_line W8) false
      (IsShowing.refused W8 (long_taken s bytes h))),
  λ _. m,
)
too_long_line never (Asm g f out b explain l) G bytes a x r h o m d = let no_module : Text ≡ Module = r in cc
too_long_line never (Trace g f id choices limit s) G bytes a x r h o m d =
    (rw (o, d) (traces_refused G (reach_of s bytes) id choices.items limit (taken s bytes) W8 (long_taken s bytes h)), λ _. m)
too_long_line never (Annotate g f s id form color) G bytes a x r h o m d = (
  rw (o, d) (views_refused (view_of form color f) G (reach_of s bytes) id (taken s bytes) W8 never (long_taken s bytes h)),
  λ _. m,
)
too_long_line never (Graph g f s id) G bytes a x r h o m d =
    (rw (o, d) (views_refused views.Graph G (reach_of s bytes) id (taken s bytes) W8 never (long_taken s bytes h)), λ _. m)
too_long_line never (Rules code j) G bytes a x r h o m d = let no_module : Nothing ≡ Module = r in cc
too_long_line never (GrammarOf f) G bytes a x r h o m d = let no_module : Nothing ≡ Module = r in cc

pub too_long_explained : (command : Command) (G : Table) (bytes : List ℕ) (r : Result Reply Trouble)
    → is_explaining command ≡ true
    → ((detail : Detail) (reach : Reach) (read : List ℕ) → IsFirstBroken W8 read → IfOk r (Gives (Explains detail G reach) read))
    → IsFirstBroken W8 bytes → IfOk r (IsAnswerBy command G bytes)
too_long_explained command G bytes (Err t) x w h = tt
too_long_explained (Judge tasks.Check g fs s n q j) G bytes (Ok a) x w h = let no : false ≡ true = x in cc
too_long_explained (Judge (tasks.Explain full) g fs s n q j) G bytes (Ok a) x w h =
    let given = w (detail_of full) (reach_of s bytes) (taken s bytes) (long_taken s bytes h) in (given.0, λ _. given.1)
too_long_explained (Show g f s) G bytes (Ok a) x w h = let no : false ≡ true = x in cc
too_long_explained (Asm g f out b explain l) G bytes (Ok a) x w h = let no : false ≡ true = x in cc
too_long_explained (Trace g f id choices limit s) G bytes (Ok a) x w h = let no : false ≡ true = x in cc
too_long_explained (Annotate g f s id form color) G bytes (Ok a) x w h = let no : false ≡ true = x in cc
too_long_explained (Graph g f s id) G bytes (Ok a) x w h = let no : false ≡ true = x in cc
too_long_explained (Rules code j) G bytes (Ok a) x w h = let no : false ≡ true = x in cc
too_long_explained (GrammarOf f) G bytes (Ok a) x w h = let no : false ≡ true = x in cc

-- memory is a reason for every command
pub for_memory : (command : Command) (G : Table) (bytes : List ℕ) (r : Result Reply Trouble) → IfErr r (λ t. t ≡ Memory)
    → IfErr r (WhyNot command G bytes)
for_memory command G bytes (Ok a) h = tt
for_memory command G bytes (Err t) h = inr (inr (inr (inr h)))

pub for_entry : (command : Command) (G : Table) (bytes : List ℕ) (P Q : Type 0) (r : Result Reply Trouble)
    → (P → LacksEntry command G (Some bytes)) → (Q → IsAmbiguous command G (Some bytes))
    → IfErr r (λ t. ((t ≡ NoEntry) × P) ⊎ ((t ≡ SeveralFunctions) × Q) ⊎ (t ≡ Memory))
    → IfErr r (WhyNot command G bytes)
for_entry command G bytes P Q (Ok a) f g h = tt
for_entry command G bytes P Q (Err t) f g (inl e) = inr (inl (e.0, f e.1))
for_entry command G bytes P Q (Err t) f g (inr (inl e)) = inr (inr (inr (inl (e.0, g e.1))))
for_entry command G bytes P Q (Err t) f g (inr (inr e)) = inr (inr (inr (inr e)))

pub for_function : (command : Command) (G : Table) (bytes : List ℕ) (P Q : Type 0) (r : Result Reply Trouble)
    → (P → LacksAsked command G (Some bytes)) → (Q → IsAmbiguous command G (Some bytes))
    → IfErr r (λ t. ((t ≡ NoFunction) × P) ⊎ ((t ≡ SeveralFunctions) × Q) ⊎ (t ≡ Memory))
    → IfErr r (WhyNot command G bytes)
for_function command G bytes P Q (Ok a) f g h = tt
for_function command G bytes P Q (Err t) f g (inl e) = inr (inr (inl (e.0, f e.1)))
for_function command G bytes P Q (Err t) f g (inr (inl e)) = inr (inr (inr (inl (e.0, g e.1))))
for_function command G bytes P Q (Err t) f g (inr (inr e)) = inr (inr (inr (inr e)))

pub for_text : (command : Command) (G : Table) (bytes : List ℕ) (P : Type 0) (r : Result Reply Trouble)
    → (P → IsNoText command (Some bytes))
    → IfErr r (λ t. ((t ≡ NotText) × P) ⊎ (t ≡ Memory)) → IfErr r (WhyNot command G bytes)
for_text command G bytes P (Ok a) f h = tt
for_text command G bytes P (Err t) f (inl e) = inl (e.0, f e.1)
for_text command G bytes P (Err t) f (inr e) = inr (inr (inr (inr e)))

-- why there is no answer, as a line
why_not : (command : Command) (text : Option (List ℕ)) (G : Table) (bytes : List ℕ) (t : Trouble) → IsTableOf text G
    → WhyNot command G bytes t
    → IsRefusal command text (Some bytes) (trouble_text t)
why_not command text G bytes t given (inl e) =
    rw (e.0) (no_text G bytes given refl e.1)
why_not command text G bytes t given (inr (inl e)) =
    rw (e.0) (no_entry bytes refl (record { table = G; given = given; lacks = e.1 }))
why_not command text G bytes t given (inr (inr (inl e))) =
    rw (e.0) (no_function bytes refl (record { table = G; given = given; lacks = e.1 }))
why_not command text G bytes t given (inr (inr (inr (inl e)))) =
    rw (e.0) (several bytes refl (record { table = G; given = given; ambiguous = e.1 }))
why_not command text G bytes t given (inr (inr (inr (inr e)))) = rw e memory

-- what is answered of the bytes of a file
pub answers_bytes : (command : Command) (text : Option (List ℕ)) (G : Table) (bytes : List ℕ) (r : Result Reply Trouble)
    → IsTableOf text G
    → IfOk r (IsAnswerBy command G bytes) → IfErr r (WhyNot command G bytes)
    → Answers command text (Some bytes) (written_out r) (written_made r) (written_err r) (status_of r)
answers_bytes command text G bytes (Ok (Done output)) given h w =
    done bytes refl (record { table = G; given = given; does = h.0 }) h.1 refl (omega arith)
answers_bytes command text G bytes (Ok (Fault output)) given h w =
    done bytes refl (record { table = G; given = given; does = h.0 }) h.1 refl (omega arith)
answers_bytes command text G bytes (Ok (Made made)) given h w =
    done bytes refl (record { table = G; given = given; does = h.0 }) h.1 refl (omega arith)
answers_bytes command text G bytes (Err t) given h w = refused (why_not command text G bytes t given w) refl refl refl

-- of one that was not read
pub answers_unread : (command : Command) (text : Option (List ℕ)) (G : Table) (t : Trouble) → IsTableOf text G
    → Answers command text None [] [] (trouble_text (file_trouble t)) 2
answers_unread command text G Memory given = refused memory refl refl refl
answers_unread command text G Use given = refused (unread G given refl) refl refl refl
answers_unread command text G File given = refused (unread G given refl) refl refl refl
answers_unread command text G NotText given = refused (unread G given refl) refl refl refl
answers_unread command text G NoEntry given = refused (unread G given refl) refl refl refl
answers_unread command text G NoFunction given = refused (unread G given refl) refl refl refl
answers_unread command text G SeveralFunctions given = refused (unread G given refl) refl refl refl
answers_unread command text G (Refused e) given = refused (unread G given refl) refl refl refl

-- what codes say
pub answers_rules : (command : Command) (text file : Option (List ℕ)) (code : Option AnyCode) (json : Bool)
    (r : Result Reply Trouble) → command ≡ Rules code json
    → IfOk r (IsUnreadAnswer (WritesRules code json)) → IfErr r (λ t. t ≡ Memory)
    → Answers command text file (written_out r) (written_made r) (written_err r) (status_of r)
answers_rules command text file code json (Ok (Done output)) e h w = rw e (told h.0 refl refl refl)
answers_rules command text file code json (Ok (Fault output)) e h w = let f = h.1 in cc
answers_rules command text file code json (Ok (Made made)) e h w = rw e (told h.0 h.2 refl refl)
answers_rules command text file code json (Err t) e h w = rw w (refused memory refl refl refl)

-- another version has as many bytes
length_in_version : (minor : Option ℕ) (bytes : List ℕ) → length (in_version minor bytes) ≡ length bytes
length_in_version None bytes = refl
length_in_version (Some minor) bytes = length_with_minor minor bytes

-- the bytes of an image, in another version
pub held_in : (o : Order) (minor : Option ℕ) (words bytes written : List ℕ) → written ≡ in_version minor bytes
    → StandFor o bytes words → HoldsModule o minor words [] (Some written) (4 * length words)
held_in o minor words bytes written e s =
    let size : length bytes ≡ 4 * length words = s.whole in
    let long : length written ≡ 4 * length words = ap length e ∙ length_in_version minor bytes ∙ size in
    record {
      plain = bytes;
      stands = s;
      bytes = written;
      version = e;
      fits = omega (arith, long);
      front = ap Some (sym (take_all (4 * length words) written (omega (arith, long))));
    }

-- the module of a text, and what is written of its fault
pub made_assembles : (G : Table) (o : Order) (explain opencl : Bool) (text words : List ℕ) (minor : Option ℕ)
    (a : Reply) → minor ≡ minor_asked opencl text
    → IsImageOf G (text_read opencl text) words
    → HoldsModule o minor words [] (Some (made_of a)) (4 * length words) → out_of a ≡ [] → is_done a ≡ true
    → Assembles G o explain opencl text (Some []) (Some (out_of a)) (Some []) (Some (made_of a)) (is_done a)
made_assembles G o explain opencl text words minor a v h m e d = rw (e, d) (Assembles.made words h refl (rw v at m))

pub failed_assembles : (G : Table) (o : Order) (explain opencl : Bool) (text written out : List ℕ) → out ≡ written
    → IsFaultOf G explain (text_read opencl text) written
    → Assembles G o explain opencl text (Some []) (Some out) (Some []) (Some []) false
failed_assembles G o explain opencl text written out e h = Assembles.failed written h e refl

-- a grammar file that is refused
pub grammar_refused : (command : Command) (text file : Option (List ℕ)) (e : GrammarError)
    → ReadsGrammar command → (e ≢ J8 → breaks text e) → IsRefusal command text file (grammar_text e)
grammar_refused command text file J8 reads h = memory
grammar_refused command text file J1 reads h = grammar J1 reads (h (λ q. cc))
grammar_refused command text file J2 reads h = grammar J2 reads (h (λ q. cc))
grammar_refused command text file J3 reads h = grammar J3 reads (h (λ q. cc))
grammar_refused command text file J4 reads h = grammar J4 reads (h (λ q. cc))
grammar_refused command text file J5 reads h = grammar J5 reads (h (λ q. cc))
grammar_refused command text file J6 reads h = grammar J6 reads (h (λ q. cc))
grammar_refused command text file J7 reads h = grammar J7 reads (h (λ q. cc))

-- every command but `rules` reads a grammar
pub reads_grammar : (command : Command) → ((code : Option AnyCode) (json : Bool) → ¬ (command ≡ Rules code json))
    → ReadsGrammar command
reads_grammar (Rules code json) h = h code json refl
reads_grammar command h = tt
