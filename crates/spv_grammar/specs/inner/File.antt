-- How the tree of a grammar file is read. A file that has not this form is refused with J2. (The grammar file's form:
-- own.) (For the code alone.)
use Rattle.std.specs.Prelude.{◌≡◌, Option, Some, None, Result, Ok, Err}
use Rattle.spv_grammar.specs.declared.error.GrammarError.{GrammarError}
use Rattle.spv_grammar.specs.declared.error.GrammarError.TheVariants.{J2, J8}

-- an answer is what was read, or J2 where nothing can be read, but where memory runs out
abbrev pub Reads : {X : Type 0} → Result X GrammarError → Option X → Type 0
Reads (Ok x) known = known ≡ Some x
Reads (Err J8) known = Unit {0}
Reads (Err e) known = (e ≡ J2) × (known ≡ None)
