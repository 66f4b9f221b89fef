-- The table of commands, row by row.
use Rattle.std.proofs.Common.{◌≡◌, ◌+◌, ◌<◌, ◌∙◌, ◌++◌, ℕ, List, [], ◌∷◌, drop, get_or, length, map, false, ap, sym, refl}
use Rattle.std.specs.List.{fold}
use Rattle.std.proofs.lemmas.List.{at_drop_more}
use Rattle.clap.specs.Words.{AddsArg, AddsSubcommand, App, Shape, app_of, rule_of, shape_of, with_rule, with_subcommand}
use Rattle.clap.specs.declared.builder.arg.Arg.{Arg}
use Rattle.clap.specs.declared.builder.command.Command.{Command}
use Rattle.clap.specs.declared.builder.command.Command.TheViews.{out-Command}
use Rattle.spv_command_line.specs.declared.program.Argument.{Argument}
use Rattle.spv_command_line.specs.declared.program.Entry.{Entry}
use Rattle.spv_command_line.specs.inner.Program.{rule_by, shape_by, with_argument, with_arguments, with_command, with_commands}

-- a fold over what is left, one step on
fold_next : {A B : Type 0} (f : B → A → B) (b c : B) (xs : List A) (at : ℕ) (x : A) → at < length xs → c ≡ f b (get_or xs at x)
    → fold f c (drop (at + 1) xs) ≡ fold f b (drop at xs)
fold_next f b c xs at x h e = rw e (sym (at_drop_more (fold f b) xs at x h))

-- one argument more
pub argument_next : (rows : List Argument) (at : ℕ) (any : Argument) (whole : App) (old new : Command) (arg : Arg) → at < length rows
    → rule_of arg ≡ rule_by (get_or rows at any) → arg.global ≡ false → AddsArg old arg new
    → (with_arguments (app_of old) (drop at rows) ≡ whole) × ((out-Command old).has_globals ≡ false)
    → (with_arguments (app_of new) (drop (at + 1) rows) ≡ whole) × ((out-Command new).has_globals ≡ false)
argument_next rows at any whole old new arg h rule local added so_far =
    let told : app_of new ≡ with_argument (app_of old) (get_or rows at any) = added.shape local ∙ ap (with_rule (app_of old)) rule in
    (fold_next with_argument (app_of old) (app_of new) rows at any h told ∙ so_far.0, rw (added.globals, so_far.1, local) refl)

-- one command more
pub command_next : (rows : List Entry) (at : ℕ) (any : Entry) (whole : App) (old sub new : Command) → at < length rows
    → shape_of sub ≡ shape_by (get_or rows at any) → (out-Command sub).has_globals ≡ false → AddsSubcommand old sub new
    → with_commands (app_of old) (drop at rows) ≡ whole → with_commands (app_of new) (drop (at + 1) rows) ≡ whole
command_next rows at any whole old sub new h shape local added so_far =
    let told : app_of new ≡ with_command (app_of old) (get_or rows at any) = added.shape local ∙ ap (with_subcommand (app_of old)) shape in
    fold_next with_command (app_of old) (app_of new) rows at any h told ∙ so_far

-- commands by the shapes of their rows
by_shapes : (a : App) (rows : List Entry) → with_commands a rows ≡ fold with_subcommand a (map shape_by rows)
by_shapes a [] = refl
by_shapes a (row ∷ rows) = by_shapes (with_command a row) rows

fold_append : {A B : Type 0} (f : B → A → B) (b : B) (xs ys : List A) → fold f (fold f b xs) ys ≡ fold f b (xs ++ ys)
fold_append f b [] ys = refl
fold_append f b (x ∷ xs) ys = fold_append f (f b x) xs ys

-- a program with the commands of three tables
pub three_tables : (a b c d : App) (first second third : List Entry) (shapes : List Shape) → b ≡ with_commands a first → c ≡ with_commands b second → d ≡ with_commands c third
    → map shape_by first ++ (map shape_by second ++ map shape_by third) ≡ shapes → d ≡ fold with_subcommand a shapes
three_tables a b c d first second third shapes e f g h =
    let one : b ≡ fold with_subcommand a (map shape_by first) = e ∙ by_shapes a first in
    let two : c ≡ fold with_subcommand (fold with_subcommand a (map shape_by first)) (map shape_by second) =
    f ∙ by_shapes b second ∙ ap (λ (z : App). fold with_subcommand z (map shape_by second)) one in
    let three : d ≡ fold with_subcommand (fold with_subcommand (fold with_subcommand a (map shape_by first)) (map shape_by second)) (map shape_by third) =
    g ∙ by_shapes c third ∙ ap (λ (z : App). fold with_subcommand z (map shape_by third)) two in
    three ∙ fold_append with_subcommand (fold with_subcommand a (map shape_by first)) (map shape_by second) (map shape_by third)
    ∙ fold_append with_subcommand a (map shape_by first) (map shape_by second ++ map shape_by third) ∙ ap (fold with_subcommand a) h

-- the shapes of three lists, one behind the other
pub named_shapes : (a b c p q r : List Shape) → a ≡ p → b ≡ q → c ≡ r → a ++ (b ++ c) ≡ p ++ (q ++ r)
named_shapes a b c p q r e f g = rw (e, f, g) refl
