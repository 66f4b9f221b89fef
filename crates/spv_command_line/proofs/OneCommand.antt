-- The command line of one command reads words that begin with its name as the whole one does.
use Rattle.std.proofs.Common.{◌≡◌, ◌∙◌, ◌++◌, ◌∷◌, ◌<◌, [], ℕ, zero, suc, List, Option, Some, None, true, false, inl}
use Rattle.std.proofs.Common.{inr, ap, sym, subst, refl, codes, find, is_some, map, get_or, length, slice_get}
use Rattle.std.proofs.Common.{option_map, append-nil, arith}
use Rattle.std.specs.List.{fold}
use Rattle.std.specs.Option.{option_map_or}
use Rattle.std.specs.Borrow.{Bor}
use Rattle.std.specs.Prelude.{IfSome}
use Rattle.std.specs.Option.{option_or}
use Rattle.std.proofs.lemmas.List.{append_assoc}
use Rattle.clap.specs.Words.{App, Shape, Text, is_simple, is_simple_and_free, new_app, with_subcommand}
use Rattle.clap.specs.Walk.{Names, Rule, Walk, answers_to, finished, nothing_held, settled, stop_after, walk, walk_from}
use Rattle.clap.specs.Walk.{walked}
use Rattle.clap.specs.Simple.{built, entered, label_of, names_of, rows_at}
use Rattle.clap.specs.Faults.{built_fault, check_fault, defaults_fault, entered_fault, level_fault, settle_fault}
use Rattle.clap.specs.Faults.{turn_fault, walk_fault}
use Rattle.clap.specs.Kinds.{Kinds, or_else}
use Rattle.clap.proofs.OnLiterals.{clap_on_literals}
use Rattle.spv_command_line.specs.CommandLine.{annotate_command, asm_command, bare_program, check_command}
use Rattle.spv_command_line.specs.CommandLine.{explain_command, grammar_command, graph_command, program, rules_command}
use Rattle.spv_command_line.specs.CommandLine.{show_command, trace_command}
use Rattle.spv_command_line.specs.declared.program.Argument.{Argument}
use Rattle.spv_command_line.specs.declared.program.Entry.{Entry}
use Rattle.spv_command_line.specs.inner.Program.{IsOneOf, IsRowOf, ReadsAsProgram, shape_by, with_argument}
use Rattle.spv_command_line.specs.inner.Program.{with_arguments, with_command}
use Rattle.spv_command_line.proofs.Asking.{is_free_lem, is_simple_lem}

-- where the walk stands behind the name of a command and these words
abbrev behind : Text → List Text → Walk
behind name words = record (walk_from nothing_held) { stopped = Some (name, words) }

-- the walk takes each word behind the name for the command
goes_on : (c : List Rule) (names : Names) (name : Text) (before words : List Text)
    → fold (walked c names) (behind name before) words ≡ behind name (before ++ words)
unfolding walked
goes_on c names name before [] = ap (behind name) (sym (append-nil before))
goes_on c names name before (word ∷ words) =
    goes_on c names name (before ++ word ∷ []) words
    ∙ ap (behind name) (append_assoc before (word ∷ []) words)

no_fault_behind : (s : Shape) (names : Names) (name : Text) (before words : List Text)
    → walk_fault s names (behind name before) words ≡ []
unfolding walked walk_fault
no_fault_behind s names name before [] = refl
no_fault_behind s names name before (word ∷ words) = no_fault_behind s names name (before ++ word ∷ []) words

-- by its first word a built command line enters this command
record Enters (a : App) (name : Text) (sub : Shape) : Type 0 where
  goes : walked a.top.rules (names_of a) (walk_from nothing_held) name ≡ behind name []
  passes : turn_fault a.top (names_of a) (walk_from nothing_held) name ≡ []
  found : find (λ s. answers_to name (label_of s)) a.subs ≡ Some sub

module _ (a : App) (words : List Text) where
  -- the fault where the walk comes to this end, with this fault of its own
  abbrev fault_at : Kinds → Walk → Kinds
  fault_at own end = or_else own (or_else (entered_fault a end.stopped)
      (or_else (settle_fault a.top.rules a.top.args_override_self end.held)
      (or_else (defaults_fault (settled a.top.rules end.held).rows a.top.rules)
      (check_fault a.top (finished a.top.rules end.held) (is_some (entered a end.stopped))))))

  -- the same behind the name of a command
  abbrev fault_in : Shape → Option Shape → Kinds
  fault_in top sub = or_else (option_map_or (λ s. level_fault s [] nothing_held words false []) sub [])
      (or_else (settle_fault top.rules top.args_override_self nothing_held)
      (or_else (defaults_fault (settled top.rules nothing_held).rows top.rules)
      (check_fault top (finished top.rules nothing_held) (is_some (option_map (λ s. rows_at s words) sub)))))

  module _ (name : Text) (sub : Shape) (e : Enters a name sub) where
    walk_is : walk a.top.rules (names_of a) nothing_held (name ∷ words) ≡ behind name words
    walk_is =
        ap (λ (w : Walk). fold (walked a.top.rules (names_of a)) w words) e.goes
        ∙ goes_on a.top.rules (names_of a) name [] words

    passes_all : walk_fault a.top (names_of a) (walk_from nothing_held) (name ∷ words) ≡ []
    unfolding walk_fault
    passes_all =
        let next : Walk = walked a.top.rules (names_of a) (walk_from nothing_held) name in
        ap (λ (k : Kinds). or_else k (walk_fault a.top (names_of a) next words)) e.passes
        ∙ ap (λ (w : Walk). walk_fault a.top (names_of a) w words) e.goes
        ∙ no_fault_behind a.top (names_of a) name [] words

    entered_is : entered a (stop_after a.top.rules (names_of a) (name ∷ words)) ≡ Some (rows_at sub words)
    entered_is =
        ap (λ (w : Walk). entered a w.stopped) walk_is
        ∙ ap (λ (o : Option Shape). option_map (λ s. rows_at s words) o) e.found

    fault_is : built_fault a nothing_held (name ∷ words) ≡ fault_in a.top (Some sub)
    fault_is =
        ap (λ (k : Kinds). fault_at k (walk a.top.rules (names_of a) nothing_held (name ∷ words))) passes_all
        ∙ ap (fault_at []) walk_is ∙ ap (fault_in a.top) e.found

-- two built command lines that are alike but for what the words do not name
module _ (a b : App) (name : Text) (sub : Shape) (words : List Text) (top : a.top ≡ b.top)
    (e : Enters a name sub) (f : Enters b name sub) where
  same_fault : built_fault a nothing_held (name ∷ words) ≡ built_fault b nothing_held (name ∷ words)
  same_fault =
      fault_is a words name sub e ∙ ap (λ (t : Shape). fault_in a words t (Some sub)) top
      ∙ sym (fault_is b words name sub f)

  same_found : entered a (stop_after a.top.rules (names_of a) (name ∷ words))
      ≡ entered b (stop_after b.top.rules (names_of b) (name ∷ words))
  same_found = entered_is a words name sub e ∙ sym (entered_is b words name sub f)

-- the command line of one command
abbrev alone : Shape → App
alone s = with_subcommand bare_program s

-- the command as it is built
abbrev built_sub : Shape → Shape
built_sub s = built_sub_of (built (alone s)).subs
  where
    built_sub_of : List Shape → Shape
    built_sub_of [] = s
    built_sub_of (t ∷ ts) = t

-- it reads so, where both enter the command
reads_as : (s : Shape) (name : Text) (words : List Text)
    → (is_simple (alone s) ≡ true) × (is_simple_and_free (alone s) ≡ true)
    → (built (alone s)).top ≡ (built program).top → Enters (built (alone s)) name (built_sub s)
    → Enters (built program) name (built_sub s) → ReadsAsProgram (alone s) (name ∷ words)
reads_as s name words is top one whole = record {
  simple = is.0;
  free = is.1;
  faults = same_fault (built (alone s)) (built program) name (built_sub s) words top one whole;
  found = same_found (built (alone s)) (built program) name (built_sub s) words top one whole;
}

check_reads : (words : List Text) → ReadsAsProgram (alone check_command) (codes "check" ∷ words)
unfolding clap_on_literals
check_reads words =
    let whole : Enters (built program) (codes "check") (built_sub check_command) =
    record { goes = refl; passes = refl; found = refl } in
    let one : Enters (built (alone check_command)) (codes "check") (built_sub check_command) =
    record { goes = refl; passes = refl; found = refl } in
    reads_as check_command (codes "check") words (refl, refl) refl one whole

explain_reads : (words : List Text) → ReadsAsProgram (alone explain_command) (codes "explain" ∷ words)
unfolding clap_on_literals
explain_reads words =
    let whole : Enters (built program) (codes "explain") (built_sub explain_command) =
    record { goes = refl; passes = refl; found = refl } in
    let one : Enters (built (alone explain_command)) (codes "explain") (built_sub explain_command) =
    record { goes = refl; passes = refl; found = refl } in
    reads_as explain_command (codes "explain") words (refl, refl) refl one whole

show_reads : (words : List Text) → ReadsAsProgram (alone show_command) (codes "show" ∷ words)
unfolding clap_on_literals
show_reads words =
    let whole : Enters (built program) (codes "show") (built_sub show_command) =
    record { goes = refl; passes = refl; found = refl } in
    let one : Enters (built (alone show_command)) (codes "show") (built_sub show_command) =
    record { goes = refl; passes = refl; found = refl } in
    reads_as show_command (codes "show") words (refl, refl) refl one whole

annotate_reads : (words : List Text) → ReadsAsProgram (alone annotate_command) (codes "annotate" ∷ words)
unfolding clap_on_literals
annotate_reads words =
    let whole : Enters (built program) (codes "annotate") (built_sub annotate_command) =
    record { goes = refl; passes = refl; found = refl } in
    let one : Enters (built (alone annotate_command)) (codes "annotate") (built_sub annotate_command) =
    record { goes = refl; passes = refl; found = refl } in
    reads_as annotate_command (codes "annotate") words (refl, refl) refl one whole

graph_reads : (words : List Text) → ReadsAsProgram (alone graph_command) (codes "graph" ∷ words)
unfolding clap_on_literals
graph_reads words =
    let whole : Enters (built program) (codes "graph") (built_sub graph_command) =
    record { goes = refl; passes = refl; found = refl } in
    let one : Enters (built (alone graph_command)) (codes "graph") (built_sub graph_command) =
    record { goes = refl; passes = refl; found = refl } in
    reads_as graph_command (codes "graph") words (refl, refl) refl one whole

trace_reads : (words : List Text) → ReadsAsProgram (alone trace_command) (codes "trace" ∷ words)
unfolding clap_on_literals
trace_reads words =
    let whole : Enters (built program) (codes "trace") (built_sub trace_command) =
    record { goes = refl; passes = refl; found = refl } in
    let one : Enters (built (alone trace_command)) (codes "trace") (built_sub trace_command) =
    record { goes = refl; passes = refl; found = refl } in
    reads_as trace_command (codes "trace") words (refl, refl) refl one whole

asm_reads : (words : List Text) → ReadsAsProgram (alone asm_command) (codes "asm" ∷ words)
unfolding clap_on_literals
asm_reads words =
    let whole : Enters (built program) (codes "asm") (built_sub asm_command) =
    record { goes = refl; passes = refl; found = refl } in
    let one : Enters (built (alone asm_command)) (codes "asm") (built_sub asm_command) =
    record { goes = refl; passes = refl; found = refl } in
    reads_as asm_command (codes "asm") words (refl, refl) refl one whole

rules_reads : (words : List Text) → ReadsAsProgram (alone rules_command) (codes "rules" ∷ words)
unfolding clap_on_literals
rules_reads words =
    let whole : Enters (built program) (codes "rules") (built_sub rules_command) =
    record { goes = refl; passes = refl; found = refl } in
    let one : Enters (built (alone rules_command)) (codes "rules") (built_sub rules_command) =
    record { goes = refl; passes = refl; found = refl } in
    reads_as rules_command (codes "rules") words (refl, refl) refl one whole

grammar_reads : (words : List Text) → ReadsAsProgram (alone grammar_command) (codes "grammar" ∷ words)
unfolding clap_on_literals
grammar_reads words =
    let whole : Enters (built program) (codes "grammar") (built_sub grammar_command) =
    record { goes = refl; passes = refl; found = refl } in
    let one : Enters (built (alone grammar_command)) (codes "grammar") (built_sub grammar_command) =
    record { goes = refl; passes = refl; found = refl } in
    reads_as grammar_command (codes "grammar") words (refl, refl) refl one whole

-- a command that is known
known : (s : Shape) (words : List Text) (t : Shape) → s ≡ t → ReadsAsProgram (alone t) (t.name ∷ words)
    → ReadsAsProgram (alone s) (s.name ∷ words)
known s words t e h = subst (λ (z : Shape). ReadsAsProgram (alone z) (z.name ∷ words)) (sym e) h

-- each command by its name
named_reads : (s : Shape) (words : List Text) → IsOneOf s program.subs → ReadsAsProgram (alone s) (s.name ∷ words)
named_reads s words (inl e) = known s words check_command e (check_reads words)
named_reads s words (inr (inl e)) = known s words explain_command e (explain_reads words)
named_reads s words (inr (inr (inl e))) = known s words show_command e (show_reads words)
named_reads s words (inr (inr (inr (inl e)))) = known s words annotate_command e (annotate_reads words)
named_reads s words (inr (inr (inr (inr (inl e))))) = known s words graph_command e (graph_reads words)
named_reads s words (inr (inr (inr (inr (inr (inl e)))))) = known s words trace_command e (trace_reads words)
named_reads s words (inr (inr (inr (inr (inr (inr (inl e))))))) = known s words asm_command e (asm_reads words)
named_reads s words (inr (inr (inr (inr (inr (inr (inr (inl e)))))))) =
    known s words rules_command e (rules_reads words)
named_reads s words (inr (inr (inr (inr (inr (inr (inr (inr (inl e))))))))) =
    known s words grammar_command e (grammar_reads words)
named_reads s words (inr (inr (inr (inr (inr (inr (inr (inr (inr none))))))))) = elim none [ ]

-- arguments leave a command its name
same_name : (a : App) (rows : List Argument) → (with_arguments a rows).top.name ≡ a.top.name
same_name a [] = refl
same_name a (row ∷ rows) = same_name (with_argument a row) rows

pub row_reads : (row : Entry) (words : List Text) → IsRowOf row words
    → ReadsAsProgram (with_command bare_program row) words
row_reads row [] h = elim h [ ]
row_reads row (word ∷ words) h =
    let name : (shape_by row).name ≡ word = same_name (new_app row.name.now) row.arguments.now ∙ h.0 in
    subst (λ (t : Text). ReadsAsProgram (with_command bare_program row) (t ∷ words)) name
    (named_reads (shape_by row) words h.1)

pub whole_reads : (words : List Text) → ReadsAsProgram program words
whole_reads words = record { simple = is_simple_lem; free = is_free_lem; faults = refl; found = refl }

-- a row of the table stands among the commands of the table
pub row_listed : (rows : List Entry) (at : ℕ) (any : Entry) → at < length rows
    → IsOneOf (shape_by (get_or rows at any)) (map shape_by rows)
row_listed [] at any h = absurd (omega (arith, h))
row_listed (row ∷ rows) zero any h = inl refl
row_listed (row ∷ rows) (suc at) any h = inr (row_listed rows at any (omega (arith, h)))

module _ (s : Shape) where
  of_judging : (t : List Shape) → t ≡ check_command ∷ explain_command ∷ [] → IsOneOf s t → IsOneOf s program.subs
  of_judging t e h = first (subst (IsOneOf s) e h)
    where
      first : IsOneOf s (check_command ∷ explain_command ∷ []) → IsOneOf s program.subs
      first (inl e) = inl e
      first (inr (inl e)) = inr (inl e)
      first (inr (inr none)) = elim none [ ]

  of_showing : (t : List Shape) → t ≡ show_command ∷ annotate_command ∷ graph_command ∷ trace_command ∷ []
      → IsOneOf s t → IsOneOf s program.subs
  of_showing t e h = next (subst (IsOneOf s) e h)
    where
      next : IsOneOf s (show_command ∷ annotate_command ∷ graph_command ∷ trace_command ∷ []) → IsOneOf s program.subs
      next (inl e) = inr (inr (inl e))
      next (inr (inl e)) = inr (inr (inr (inl e)))
      next (inr (inr (inl e))) = inr (inr (inr (inr (inl e))))
      next (inr (inr (inr (inl e)))) = inr (inr (inr (inr (inr (inl e)))))
      next (inr (inr (inr (inr none)))) = elim none [ ]

  of_others : (t : List Shape) → t ≡ asm_command ∷ rules_command ∷ grammar_command ∷ []
      → IsOneOf s t → IsOneOf s program.subs
  of_others t e h = last (subst (IsOneOf s) e h)
    where
      last : IsOneOf s (asm_command ∷ rules_command ∷ grammar_command ∷ []) → IsOneOf s program.subs
      last (inl e) = inr (inr (inr (inr (inr (inr (inl e))))))
      last (inr (inl e)) = inr (inr (inr (inr (inr (inr (inr (inl e)))))))
      last (inr (inr (inl e))) = inr (inr (inr (inr (inr (inr (inr (inr (inl e))))))))
      last (inr (inr (inr none))) = elim none [ ]

-- the first of the words is the name
row_of_first : (row : Entry) (words : List (Bor Text)) (word : Bor Text) → Some word ≡ slice_get words 0
    → row.name.now ≡ word.now → IsOneOf (shape_by row) program.subs → IsRowOf row (map (λ w. w.now) words)
row_of_first row [] word first named listed = let no : ⊥ = cc in absurd no
row_of_first row (w ∷ ws) word first named listed = (named ∙ ap (λ (o : Option (Bor Text)). now_of o) first, listed)
  where
    now_of : Option (Bor Text) → Text
    now_of None = []
    now_of (Some w) = w.now

-- one of several that may be there
if_some_or : {A : Type 0} (P : A → Type 0) (x y : Option A) → IfSome x P → IfSome y P → IfSome (option_or x y) P
if_some_or P None y h k = k
if_some_or P (Some a) y h k = h

-- what is there has more
if_some_more : {A : Type 0} (P Q : A → Type 0) (x : Option A) → ((a : A) → P a → Q a) → IfSome x P → IfSome x Q
if_some_more P Q None f h = h
if_some_more P Q (Some a) f h = f a h

-- a command of one of the three tables
pub of_tables : (a b c : Option (Bor Entry)) (word : Text) (p q r : List Entry)
    → map shape_by p ≡ check_command ∷ explain_command ∷ []
    → map shape_by q ≡ show_command ∷ annotate_command ∷ graph_command ∷ trace_command ∷ []
    → map shape_by r ≡ asm_command ∷ rules_command ∷ grammar_command ∷ []
    → IfSome a (λ row. (row.now.name.now ≡ word) × IsOneOf (shape_by row.now) (map shape_by p))
    → IfSome b (λ row. (row.now.name.now ≡ word) × IsOneOf (shape_by row.now) (map shape_by q))
    → IfSome c (λ row. (row.now.name.now ≡ word) × IsOneOf (shape_by row.now) (map shape_by r))
    → IfSome (option_or (option_or a b) c) (λ row. (row.now.name.now ≡ word) × IsOneOf (shape_by row.now) program.subs)
of_tables a b c word p q r e f g h k l =
    let Wanted : Bor Entry → Type 0 = λ row. (row.now.name.now ≡ word) × IsOneOf (shape_by row.now) program.subs in
    if_some_or Wanted (option_or a b) c
    (if_some_or Wanted a b (if_some_more _ Wanted a (λ row n. (n.0, of_judging (shape_by row.now) _ e n.1)) h)
    (if_some_more _ Wanted b (λ row n. (n.0, of_showing (shape_by row.now) _ f n.1)) k))
    (if_some_more _ Wanted c (λ row n. (n.0, of_others (shape_by row.now) _ g n.1)) l)

-- the row that is found by the first word
pub of_first : (found : Option (Bor Entry)) (words : List (Bor Text)) (word : Bor Text) → Some word ≡ slice_get words 0
    → IfSome found (λ row. (row.now.name.now ≡ word.now) × IsOneOf (shape_by row.now) program.subs)
    → IfSome found (λ row. IsRowOf row.now (map (λ w. w.now) words))
of_first found words word first h =
    if_some_more _ (λ row. IsRowOf row.now (map (λ w. w.now) words)) found
    (λ row n. row_of_first row.now words word first n.0 n.1) h
