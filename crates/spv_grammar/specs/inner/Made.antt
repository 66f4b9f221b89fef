-- The table that a file makes. (Own.) (For the code alone.)
use Rattle.std.specs.Prelude.{◌≡◌, Option, Some, None, Result, Ok, Err}
use Rattle.spv_grammar.specs.declared.error.GrammarError.{GrammarError}
use Rattle.spv_grammar.specs.declared.error.GrammarError.TheVariants.{J8}

-- an answer is what was made, or an error where nothing can be made or memory ran out
abbrev pub Makes : {X Y : Type 0} → (X → Y) → Result X GrammarError → Option Y → Type 0
Makes view (Ok x) known = known ≡ Some (view x)
Makes view (Err J8) known = Unit {0}
Makes view (Err e) known = known ≡ None
