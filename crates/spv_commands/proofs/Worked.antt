-- Worked examples of grammar files.
use Rattle.std.proofs.Common.{◌∷◌, ◌+◌, ◌<◌, ℕ, List, Option, false, true, ap, arith, get_or, length, length-append}
use Rattle.std.proofs.Common.{◌≡◌, ◌++◌, [], Bool, Some, None, IsUtf8, codes, refl, sym}
use Rattle.std.specs.Borrow.{Bor}
use Rattle.spv_words.specs.Header.{IsFirstBroken}
use Rattle.spv_words.specs.declared.words.WordError.TheVariants.{W2}
use Rattle.spv_command_line.specs.declared.command_line.Command.{Command}
use Rattle.spv_command_line.specs.declared.command_line.Command.TheVariants.{Rules, Show}
use Rattle.spv_scope.specs.declared.scope.Scope.TheVariants.{Own}
use Rattle.spv_commands.specs.Answer.{Answers, IsRefusal}
use Rattle.spv_commands.specs.Show.{IsShowing}
use Rattle.spv_commands.specs.Task.{ReadsGrammar}
use Rattle.spv_commands.specs.Trouble.{file_line}
use Rattle.spv_check.specs.Verdict.{refused_line}
use Rattle.spv_table.specs.Table.{Table}
use Rattle.spv_grammar.specs.declared.error.GrammarError.TheVariants.{J1, J2, J3, J4, J5, J6, J7, J8}
use Rattle.serde_json.specs.Read.{read as read_text}
use Rattle.serde_json.proofs.OnLiterals.{serde_json_on_literals}
use Rattle.spv_grammar.specs.Answer.{Gives}
use Rattle.spv_table.specs.Example.{empty_table}
use Rattle.spv_grammar.specs.Example.{empty_tree}
use Rattle.spv_commands.specs.Example.{empty_grammar}
use Rattle.spv_builtin.specs.Source.{IsTableOf}
use Rattle.json.specs.Print.{print}
use Rattle.spv_rules.specs.declared.errors.AnyCode.{AnyCode}
use Rattle.spv_explain.specs.Json.{json_line, rule_object, told_json}
use Rattle.spv_fault_json.specs.Quiet.{quiet_of}
use Rattle.spv_check.specs.Verdict.{line_end}

-- the text of two empty lists, and no text at all
pub empty_utf8 : IsUtf8 empty_grammar
unfolding lib.Utf8.encode
empty_utf8 = (empty_grammar, (refl, refl))

pub empty_read : read_text empty_grammar ≡ Some empty_tree
unfolding serde_json_on_literals
empty_read = refl

pub nothing_read : read_text [] ≡ None
unfolding serde_json_on_literals
nothing_read = refl

pub empty_given : Gives empty_tree empty_table → IsTableOf (Some empty_grammar) empty_table
empty_given g = record { tree = empty_tree; utf8 = empty_utf8; is_tree = empty_read; gives = g }

pub nothing_given : (G : Table) → ¬ (IsTableOf (Some []) G)
nothing_given G t = let e = t.is_tree in let n = nothing_read in cc

-- an object has a line
pub no_object : (code : AnyCode) → ¬ ([] ≡ told_json (Some code))
no_object code e =
    let l : 0 ≡ length (json_line (rule_object true code)) = ap length e in
    let n : length (json_line (rule_object true code)) ≡ length
    (quiet_of (print (rule_object true code))) + 1 =
    length-append (quiet_of (print (rule_object true code))) (10 ∷ []) in
    omega (arith, l, n)

-- a text of three bytes is answered by the line of its fault
pub show_answers : (g : Option (Bor (List ℕ))) (f : Bor (List ℕ)) (G : Table) → IsTableOf (Some empty_grammar) G
    → IsFirstBroken W2 (1 ∷ 2 ∷ 3 ∷ [])
    → Answers (Show g f (Own false)) (Some empty_grammar) (Some (1 ∷ 2 ∷ 3 ∷ [])) (codes "fault W2" ++ line_end) [] [] 1
show_answers g f G given h = Answers.done (1 ∷ 2 ∷ 3 ∷ []) refl
    (record {
      table = G;
      given = given;
      does = record
          { output = refused_line W2; showing = IsShowing.refused W2 h; written = refl };
    }) (λ m. refl) refl (omega arith)

pub no_third : (command : Command) (text file : Option (List ℕ)) (out made err : List ℕ) (status : ℕ) → status ≡ 3
    → ¬ (Answers command text file out made err status)
no_third command text file out made err status e (Answers.done bytes f d m r s) = omega (arith, e, s)
no_third command text file out made err status e (Answers.told w m r s) = omega (arith, e, s)
no_third command text file out made err status e (Answers.refused i o m s) = omega (arith, e, s)

-- no text at all breaks J1, and it is that which is told
pub nothing_refuses : (command : Command) (file : Option (List ℕ)) → ReadsGrammar command
    → IsRefusal command (Some []) file (codes "error J1" ++ line_end)
nothing_refuses command file reads = IsRefusal.grammar J1 reads (λ _. nothing_read)

abbrev letter : List ℕ → ℕ
letter xs = get_or xs 6 0

differ : (a b : ℕ) → a < b → ¬ (a ≡ b)
differ a b h e = omega (arith, h, e)

pub never_unread : (command : Command) (file : Option (List ℕ)) (line : List ℕ) → line ≡ file_line
    → ¬ (IsRefusal command (Some []) file line)
never_unread command file _ q (IsRefusal.grammar J1 reads b) = differ 74 102 (omega arith) (ap letter q)
never_unread command file _ q (IsRefusal.grammar J2 reads b) = differ 74 102 (omega arith) (ap letter q)
never_unread command file _ q (IsRefusal.grammar J3 reads b) = differ 74 102 (omega arith) (ap letter q)
never_unread command file _ q (IsRefusal.grammar J4 reads b) = differ 74 102 (omega arith) (ap letter q)
never_unread command file _ q (IsRefusal.grammar J5 reads b) = differ 74 102 (omega arith) (ap letter q)
never_unread command file _ q (IsRefusal.grammar J6 reads b) = differ 74 102 (omega arith) (ap letter q)
never_unread command file _ q (IsRefusal.grammar J7 reads b) = differ 74 102 (omega arith) (ap letter q)
never_unread command file _ q (IsRefusal.grammar J8 reads b) = differ 102 109 (omega arith) (sym (ap letter q))
never_unread command file _ q (IsRefusal.unread G t f) = nothing_given G t
never_unread command file _ q (IsRefusal.no_text G bytes t f n) = nothing_given G t
never_unread command file _ q (IsRefusal.no_entry bytes f n) = nothing_given n.table n.given
never_unread command file _ q (IsRefusal.no_function bytes f n) = nothing_given n.table n.given
never_unread command file _ q (IsRefusal.several bytes f n) = nothing_given n.table n.given
never_unread command file _ q IsRefusal.memory = differ 102 109 (omega arith) (sym (ap letter q))

-- `rules` reads no grammar, so it is not refused for one
pub rules_unrefused : (code : Option AnyCode) (json : Bool) (file : Option (List ℕ)) (line : List ℕ)
    → line ≡ codes "error J1" ++ line_end → ¬ (IsRefusal (Rules code json) (Some []) file line)
rules_unrefused code json file _ q (IsRefusal.grammar e reads b) = absurd reads
rules_unrefused code json file _ q (IsRefusal.unread G t f) = nothing_given G t
rules_unrefused code json file _ q (IsRefusal.no_text G bytes t f n) = nothing_given G t
rules_unrefused code json file _ q (IsRefusal.no_entry bytes f n) = nothing_given n.table n.given
rules_unrefused code json file _ q (IsRefusal.no_function bytes f n) = nothing_given n.table n.given
rules_unrefused code json file _ q (IsRefusal.several bytes f n) = nothing_given n.table n.given
rules_unrefused code json file _ q IsRefusal.memory = differ 74 109 (omega arith) (sym (ap letter q))
