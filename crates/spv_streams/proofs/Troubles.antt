-- Why a check ends as it does, by the text of its grammar file.
use Rattle.std.proofs.Common.{◌≢◌, ◌⊎◌, ℕ, List, Bool, Option, Some, None, Result, Ok, Err, IfSome, IfOk, IfErr}
use Rattle.std.proofs.Common.{IsErrOf, inl, inr, ap}
use Rattle.spv_builtin.specs.Source.{IsTableOf, breaks}
use Rattle.spv_grammar.specs.declared.error.GrammarError.{GrammarError}
use Rattle.spv_grammar.specs.declared.error.GrammarError.TheVariants.{J1, J2, J3, J4, J5, J6, J7, J8}
use Rattle.spv_table.specs.Table.{Table}
use Rattle.spv_commands.specs.Streams.{AnyFailed, Reading, Writing}
use Rattle.spv_commands.specs.Task.{Does, DoesByText, IsAmbiguousByText, IsNoText, LacksAskedByText}
use Rattle.spv_commands.specs.Task.{LacksEntryByText}
use Rattle.spv_command_line.specs.declared.command_line.Command.{Command}
use Rattle.spv_commands.specs.Trouble.{grammar_text, trouble_text}
use Rattle.spv_streams.specs.Begin.{BeginsToDo}
use Rattle.spv_streams.specs.Run.{IsErrorLine, refused, file, entry, function, memory, several}
use Rattle.spv_streams.specs.inner.Ending.{EndsByTable, EndsByText, IsReason}
use Rattle.spv_streams.proofs.Replies.{any_bytes, ok_by, some_by}
use Rattle.spv_commands.specs.declared.trouble.Trouble.{Trouble}
use Rattle.spv_commands.specs.declared.trouble.Trouble.TheVariants.{File, Grammar}

-- a trouble of a command has its reason
line_of : (command : Command) (text : Option (List ℕ)) (G : Table) (f : Reading) (out made : Writing)
    (r : Result Bool Trouble) → IsTableOf text G
    → IfErr r (IsReason command G f.left)
    → (IsErrOf r File → AnyFailed f out made)
    → IfErr r (λ t. IsErrorLine text (AnyFailed f out made ⊎ IsNoText command f.left)
    (LacksEntryByText command text f.left) (LacksAskedByText command text f.left)
    (IsAmbiguousByText command text f.left) (trouble_text t))
line_of command text G f out made (Ok v) h o w = tt
line_of command text G f out made (Err t) h (inl e) w = rw e (file (inl (w (ap Err e))))
line_of command text G f out made (Err t) h (inr (inl e)) w = rw (e.0) (file (inr e.1))
line_of command text G f out made (Err t) h (inr (inr (inl e))) w =
    rw (e.0) (entry (record { table = G; given = h; lacks = e.1 }))
line_of command text G f out made (Err t) h (inr (inr (inr (inl e)))) w =
    rw (e.0) (function (record { table = G; given = h; lacks = e.1 }))
line_of command text G f out made (Err t) h (inr (inr (inr (inr (inl e))))) w =
    rw (e.0) (several (record { table = G; given = h; ambiguous = e.1 }))
line_of command text G f out made (Err t) h (inr (inr (inr (inr (inr e))))) w = rw e memory

-- how a command ends by the table of its run
pub by_text : (command : Command) (text : Option (List ℕ)) (G : Table) (f : Reading) (out made : Writing)
    (r : Result Bool Trouble) → IsTableOf text G
    → EndsByTable command G f out made r → EndsByText command text f out made r
by_text command text G f out made r given e = record {
  ends = record {
    whole = some_by f.left (λ bytes. IfOk r (Does command G bytes out.held out.holds made.held made.holds))
        (λ bytes. IfOk r (DoesByText command text bytes out.held out.holds made.held made.holds))
        (λ bytes. ok_by r _ _ (λ answer d. record { table = G; given = given; does = d })) e.ends.whole;
    failed = e.ends.failed;
    unwritten = e.ends.unwritten;
    unmade = e.ends.unmade;
    begun = λ w. some_by f.left (λ bytes. BeginsToDo command G bytes out.held out.holds made.held made.holds) _
        (λ bytes b. record { table = G; given = given; begins = b }) (e.ends.begun w);
  };
  reason = line_of command text G f out made r given e.only (λ q. e.ends.failed.1 q);
}

-- so have those of the grammar file
pub grammar_reason : (text : Option (List ℕ)) (failed strange absent ambiguous : Type 0) (e : GrammarError)
    → (e ≢ J8 → breaks text e) → IsErrorLine text failed strange absent ambiguous (grammar_text e)
grammar_reason text failed strange absent ambiguous J8 h = memory
grammar_reason text failed strange absent ambiguous J1 h = refused J1 (h (λ q. cc))
grammar_reason text failed strange absent ambiguous J2 h = refused J2 (h (λ q. cc))
grammar_reason text failed strange absent ambiguous J3 h = refused J3 (h (λ q. cc))
grammar_reason text failed strange absent ambiguous J4 h = refused J4 (h (λ q. cc))
grammar_reason text failed strange absent ambiguous J5 h = refused J5 (h (λ q. cc))
grammar_reason text failed strange absent ambiguous J6 h = refused J6 (h (λ q. cc))
grammar_reason text failed strange absent ambiguous J7 h = refused J7 (h (λ q. cc))

-- a refused grammar file, before anything is read or written
pub grammar_ends : (command : Command) (text : Option (List ℕ)) (f : Reading) (out made : Writing) (e : GrammarError)
    → (e ≢ J8 → breaks text e)
    → ¬ f.failed → ¬ out.failed → ¬ made.failed → out.untouched → made.untouched
    → EndsByText command text f out made (Err (Grammar e))
grammar_ends command text f out made e h x y z o m = record {
  ends = record {
    whole = any_bytes f.left (Unit {0}) tt;
    failed = (
      λ t. elim t [ inl a ↦ absurd (x a) | inr b ↦ elim b [ inl a ↦ absurd (y a) | inr c ↦ absurd (z c) ] ],
      λ q. cc,
    );
    unwritten = λ q. o;
    unmade = λ q. m;
    begun = λ t. elim t [ inl a ↦ absurd (y a) | inr c ↦ absurd (z c) ];
  };
  reason = grammar_reason text _ _ _ _ e h;
}
