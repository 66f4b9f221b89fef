use Rattle.std.proofs.Common.{◌≡◌, ◌∙◌, ◌∷◌, [], List, Option, Some, None, true, false, inl, inr, unwrap_or, option_map, sum, codes, ap, sym, subst, refl, lit≤, arith}
use Rattle.clap.specs.Words.{IsAmong, Row, Text, fault_of, first_of, subcommand_of}
use Rattle.clap.specs.declared.error.kind.ErrorKind.TheVariants as kind
use Rattle.clap.proofs.OnLiterals.{clap_on_literals}
use Rattle.spv_command_line.specs.declared.command_line.Color.{Color}
use Rattle.spv_command_line.specs.declared.command_line.Color.TheVariants as colors
use Rattle.spv_command_line.specs.CommandLine.{IsColor, IsFlag, IsNoCommand, IsScope, IsScopeIn, IsScopeOf, program, text_in, texts_in, name_in}
use Rattle.spv_command_line.proofs.Asking.{choice_given, no_code, none_given, not_annotated, not_scoped_name}
use Rattle.spv_names.specs.declared.chosen.Chosen.TheVariants.{Id}
use Rattle.spv_scope.specs.declared.scope.Scope.{Scope}
use Rattle.spv_scope.specs.declared.scope.Scope.TheVariants.{Own, Extended, OpenCl}
use Rattle.spv_command_line.proofs.laws.line_examples.Goals as goal

-- what the text of an option comes to
set : (text : Option Text) → text ≡ Some (codes "true") → IsFlag text true
set text e = (λ q. e, λ q. refl)

no_truth : ¬ (codes "false" ≡ codes "true")
no_truth e = let s : 523 ≡ 448 = ap sum e in omega (arith, s)

not_set : (text : Option Text) → text ≡ Some (codes "false") → ¬ (text ≡ Some (codes "true"))
not_set text e q = no_truth (ap (λ (o : Option Text). unwrap_or o []) (sym e ∙ q))

unset : (text : Option Text) → text ≡ Some (codes "false") → IsFlag text false
unset text e = (λ q. cc, λ q. absurd (not_set text e q))

absent : (text : Option Text) → text ≡ None → ¬ (text ≡ Some (codes "true"))
absent text e q = cc

-- what the options of a command ask of a version
abbrev IsScopeBy : Option (Text × List Row) → Scope → Type 0
IsScopeBy found scope =
    IsScope (text_in (codes "as-1.6") found) (text_in (codes "extended") found) (text_in (codes "opencl") found) scope

scoped : (found : Option (Text × List Row)) (texts : Text × Option Text × Option (List Text)) → texts_in None found ≡ Some texts
    → (scope : Scope) → IsScopeBy found scope → IsScopeIn found scope
scoped None texts e scope h = cc
scoped (Some (name, rows)) texts e scope h = h

by_scope : (found : Option (Text × List Row)) (scope : Scope) → IsScopeIn found scope → IsScopeBy found scope
by_scope None scope h = absurd h
by_scope (Some (name, rows)) scope h = h

never_colored : (text : Option Text) → text ≡ Some (codes "never") → IsColor text colors.Never
never_colored text e = subst (λ (t : Option Text). IsColor t colors.Never) (sym e) refl

no_red : (text : Option Text) (color : Color) → text ≡ Some (codes "red") → ¬ (IsColor text color)
no_red text color e h = red color (subst (λ (t : Option Text). IsColor t color) e h)
  where
    red : (color : Color) → ¬ (IsColor (Some (codes "red")) color)
    red colors.Auto q = let s : 315 ≡ 441 = ap sum q in omega (arith, s)
    red colors.Always q = let s : 315 ≡ 657 = ap sum q in omega (arith, s)
    red colors.Never q = let s : 315 ≡ 544 = ap sum q in omega (arith, s)

-- `rules --json`
abbrev rules_words : List Text
rules_words = codes "rules" ∷ codes "--json" ∷ []

rules_taken : (fault_of program rules_words ≡ []) × (name_in (subcommand_of program rules_words) ≡ Some (codes "rules"))
    × (text_in (codes "code") (subcommand_of program rules_words) ≡ None) × (text_in (codes "json") (subcommand_of program rules_words) ≡ Some (codes "true"))
unfolding clap_on_literals
rules_taken = (refl, refl, refl, refl)

-- `graph --function 4 a.spv`
abbrev graph_words : List Text
graph_words = codes "graph" ∷ codes "--function" ∷ codes "4" ∷ codes "a.spv" ∷ []

graph_taken : (fault_of program graph_words ≡ []) × (texts_in None (subcommand_of program graph_words) ≡ Some (codes "graph", None, Some (codes "a.spv" ∷ [])))
    × (text_in (codes "as-1.6") (subcommand_of program graph_words) ≡ Some (codes "false")) × (text_in (codes "extended") (subcommand_of program graph_words) ≡ None)
    × (text_in (codes "opencl") (subcommand_of program graph_words) ≡ Some (codes "false")) × (text_in (codes "function") (subcommand_of program graph_words) ≡ Some (codes "4"))
unfolding clap_on_literals
graph_taken = (refl, refl, refl, refl, refl, refl)

-- `annotate a.spv --color=never`
abbrev annotate_words : List Text
annotate_words = codes "annotate" ∷ codes "a.spv" ∷ codes "--color=never" ∷ []

annotate_taken : (fault_of program annotate_words ≡ []) × (texts_in None (subcommand_of program annotate_words) ≡ Some (codes "annotate", None, Some (codes "a.spv" ∷ [])))
    × (text_in (codes "as-1.6") (subcommand_of program annotate_words) ≡ Some (codes "false")) × (text_in (codes "extended") (subcommand_of program annotate_words) ≡ None)
    × (text_in (codes "opencl") (subcommand_of program annotate_words) ≡ Some (codes "false")) × (text_in (codes "function") (subcommand_of program annotate_words) ≡ None)
    × (text_in (codes "html") (subcommand_of program annotate_words) ≡ Some (codes "false")) × (text_in (codes "color") (subcommand_of program annotate_words) ≡ Some (codes "never"))
unfolding clap_on_literals
annotate_taken = (refl, refl, refl, refl, refl, refl, refl, refl)

-- `annotate a.spv --color=red`
abbrev red_words : List Text
red_words = codes "annotate" ∷ codes "a.spv" ∷ codes "--color=red" ∷ []

abbrev red_rows : List Row
red_rows = unwrap_or (option_map (λ p. p.1) (subcommand_of program red_words)) []

red_taken : (subcommand_of program red_words ≡ Some (codes "annotate", red_rows)) × (first_of (codes "color") red_rows ≡ Some (codes "red"))
unfolding clap_on_literals
red_taken = (refl, refl)

red_refused : IsNoCommand None (subcommand_of program red_words)
red_refused = subst (λ (o : Option (Text × List Row)). IsNoCommand None o) (sym red_taken.0)
    (not_annotated None red_rows (λ color k. no_red (first_of (codes "color") red_rows) color red_taken.1 k))

-- `check --extended a.spv`
abbrev check_words : List Text
check_words = codes "check" ∷ codes "--extended" ∷ codes "a.spv" ∷ []

check_taken : (fault_of program check_words ≡ []) × (texts_in None (subcommand_of program check_words) ≡ Some (codes "check", None, Some (codes "a.spv" ∷ [])))
    × (text_in (codes "as-1.6") (subcommand_of program check_words) ≡ Some (codes "false")) × (text_in (codes "extended") (subcommand_of program check_words) ≡ Some (codes "true"))
    × (text_in (codes "opencl") (subcommand_of program check_words) ≡ Some (codes "false"))
    × (text_in (codes "with-filename") (subcommand_of program check_words) ≡ Some (codes "false")) × (text_in (codes "no-filename") (subcommand_of program check_words) ≡ Some (codes "false"))
    × (text_in (codes "quiet") (subcommand_of program check_words) ≡ Some (codes "false")) × (text_in (codes "json") (subcommand_of program check_words) ≡ Some (codes "false"))
unfolding clap_on_literals
check_taken = (refl, refl, refl, refl, refl, refl, refl, refl, refl)

-- `show --opencl a.spv`
abbrev opencl_words : List Text
opencl_words = codes "show" ∷ codes "--opencl" ∷ codes "a.spv" ∷ []

opencl_taken : (fault_of program opencl_words ≡ []) × (texts_in None (subcommand_of program opencl_words) ≡ Some (codes "show", None, Some (codes "a.spv" ∷ [])))
    × (text_in (codes "as-1.6") (subcommand_of program opencl_words) ≡ Some (codes "false")) × (text_in (codes "opencl") (subcommand_of program opencl_words) ≡ Some (codes "true"))
unfolding clap_on_literals
opencl_taken = (refl, refl, refl, refl)

-- `show --opencl --as-1.6 a.spv`
abbrev both_words : List Text
both_words = codes "show" ∷ codes "--opencl" ∷ codes "--as-1.6" ∷ codes "a.spv" ∷ []

abbrev both_rows : List Row
both_rows = unwrap_or (option_map (λ p. p.1) (subcommand_of program both_words)) []

both_taken : (subcommand_of program both_words ≡ Some (codes "show", both_rows)) × (first_of (codes "as-1.6") both_rows ≡ Some (codes "true"))
    × (first_of (codes "opencl") both_rows ≡ Some (codes "true"))
unfolding clap_on_literals
both_taken = (refl, refl, refl)

both_scopes : (scope : Scope) → ¬ (IsScopeOf both_rows scope)
both_scopes (Own as_1_6) h = h.2 both_taken.2
both_scopes (Extended as_1_6) h = h.2 both_taken.2
both_scopes OpenCl h = h.0 both_taken.1

both_refused : IsNoCommand None (subcommand_of program both_words)
both_refused = subst (λ (o : Option (Text × List Row)). IsNoCommand None o) (sym both_taken.0)
    (not_scoped_name None (codes "show") both_rows (λ (s : 449 ≡ 321). omega (arith, s)) (λ (s : 449 ≡ 555). omega (arith, s)) (λ (s : 449 ≡ 743). omega (arith, s)) both_scopes)

-- `check a.spv`
abbrev plain_words : List Text
plain_words = codes "check" ∷ codes "a.spv" ∷ []

plain_taken : text_in (codes "extended") (subcommand_of program plain_words) ≡ Some (codes "false")
unfolding clap_on_literals
plain_taken = refl

-- `show a.spv --json`
abbrev show_words : List Text
show_words = codes "show" ∷ codes "a.spv" ∷ codes "--json" ∷ []

show_refused : IsAmong kind.UnknownArgument (fault_of program show_words)
unfolding clap_on_literals
show_refused = inl refl

pub returns : goal.returns
returns c = record {
  rules = (rules_taken.0, record { asked = rules_taken.1; code_is = no_code _ rules_taken.2; json_is = set _ rules_taken.3 });
  graph = λ file n. (
    graph_taken.0,
    record {
      asked = graph_taken.1 ∙ rw n refl;
      scope_is = scoped _ _ graph_taken.1 (Own false) (unset _ graph_taken.2, absent _ graph_taken.3, not_set _ graph_taken.4);
      function_is = choice_given _ (codes "4") (Id 4) graph_taken.5 (record { some = lit≤ tt; digits = refl; is_value = refl; fits = lit≤ tt });
    },
  );
  annotate = λ file n. (
    annotate_taken.0,
    record {
      asked = annotate_taken.1 ∙ rw n refl;
      scope_is = scoped _ _ annotate_taken.1 (Own false) (unset _ annotate_taken.2, absent _ annotate_taken.3, not_set _ annotate_taken.4);
      function_is = none_given _ annotate_taken.5;
      form_is = not_set _ annotate_taken.6;
      color_is = never_colored _ annotate_taken.7;
    },
  );
  no_color = inr red_refused;
  extended = λ files n. (
    check_taken.0,
    record {
      asked = check_taken.1 ∙ rw n refl;
      detail = tt;
      some = rw n (lit≤ tt);
      once = rw n (lit≤ tt);
      scope_is = scoped _ _ check_taken.1 (Extended false) (unset _ check_taken.2, check_taken.3, not_set _ check_taken.4);
      names = (not_set _ check_taken.5, not_set _ check_taken.6);
      quiet_is = unset _ check_taken.7;
      json_is = unset _ check_taken.8;
    },
  );
  not_extended = λ files t. not_set _ plain_taken (by_scope _ (Extended false) t.1.scope_is).1;
  opencl = λ file n. (
    opencl_taken.0,
    (opencl_taken.1 ∙ rw n refl, scoped _ _ opencl_taken.1 OpenCl (not_set _ opencl_taken.2, opencl_taken.3)),
  );
  not_both = inr both_refused;
  no_object = inl (kind.UnknownArgument, show_refused, λ e. cc, λ e. cc);
}
