-- What a pass over the instructions keeps of functions and blocks. (For the code alone.)
use Rattle.std.specs.Prelude.{◌<◌, ◌≤◌, ℕ, List, [], ◌∷◌, Bool, if◌then◌else◌, Option, Some}
use Rattle.std.specs.Prelude.{None, nat_lt, nat_eq}
use Rattle.spv_module.specs.Operand.{PlainInst}
use Rattle.spv_layout.specs.declared.class.Class.{Class}
use Rattle.spv_layout.specs.declared.class.Class.TheVariants as class
use Rattle.spv_layout.specs.declared.span.Spans.{Spans}
use Rattle.spv_layout.specs.Place.{IsAt, IsLast, IsWithin}

-- a function, or a block: none yet, one that has not ended, one that has
pub data Span : Type 0 where
  Outside : Span
  In : ℕ → Span
  After : ℕ → Span

abbrev pub entered : Span → Bool → ℕ → Span
entered s here n = if here then In n else s

abbrev pub left : Span → Bool → Span
left Outside ends = Outside
left (In f) ends = if ends then After f else In f
left (After f) ends = After f

abbrev pub inside : Span → Option ℕ
inside Outside = None
inside (In f) = Some f
inside (After f) = None

-- up to instruction n
pub data UpTo (is : List PlainInst) (c : Class) (es : List Class) (n : ℕ) : Span → Type 0 where
  outside : ((f : ℕ) → ¬ (IsLast is c n f)) → ((k : ℕ) → k ≤ n → ¬ (IsAt is k (c ∷ [])))
      → UpTo is c es n Outside
  within : (f : ℕ) → IsWithin is c es n f → UpTo is c es n (In f)
  after : (f k : ℕ) → IsLast is c n f → f ≤ k → k < n → IsAt is k es → UpTo is c es n (After f)

-- before instruction n
pub data Before (is : List PlainInst) (c : Class) (es : List Class) (n : ℕ) : Span → Type 0 where
  outside : ((k : ℕ) → k < n → ¬ (IsAt is k (c ∷ []))) → Before is c es n Outside
  within : (f : ℕ) → f < n → IsAt is f (c ∷ [])
      → ((k : ℕ) → f < k → k < n → ¬ (IsAt is k (c ∷ [])))
      → ((k : ℕ) → f ≤ k → k < n → ¬ (IsAt is k es)) → Before is c es n (In f)
  after : (f k : ℕ) → f < n → IsAt is f (c ∷ [])
      → ((k : ℕ) → f < k → k < n → ¬ (IsAt is k (c ∷ []))) → f ≤ k → k < n → IsAt is k es
      → Before is c es n (After f)

-- how the code keeps that there is no number
abbrev pub no_number : ℕ
no_number = 4294967295

-- the number that is kept, if it is one
abbrev pub mark : ℕ → Option ℕ
mark n = if nat_lt n no_number then Some n else None

-- a number that is kept, or where there is none another
abbrev pub at_first : ℕ → ℕ → ℕ
at_first kept n = if nat_eq kept no_number then n else kept

abbrev pub no_spans : Spans
no_spans = record { function = no_number; block = no_number; functions = no_number; definitions = no_number }

-- at instruction n
abbrev pub entered_in : Spans → Class → ℕ → Spans
entered_in x class.Function n =
    record { function = n; block = x.block; functions = at_first x.functions n; definitions = x.definitions }
entered_in x class.Label n =
    record {
      function = x.function;
      block = n;
      functions = x.functions;
      definitions =
          at_first x.definitions x.function;
    }
entered_in x c n = x

-- after an instruction
abbrev pub left_in : Spans → Class → Spans
left_in x class.FunctionEnd =
    record { function = no_number; block = x.block; functions = x.functions; definitions = x.definitions }
left_in x class.Branch =
    record { function = x.function; block = no_number; functions = x.functions; definitions = x.definitions }
left_in x class.BranchConditional =
    record { function = x.function; block = no_number; functions = x.functions; definitions = x.definitions }
left_in x class.Switch =
    record { function = x.function; block = no_number; functions = x.functions; definitions = x.definitions }
left_in x class.Return =
    record { function = x.function; block = no_number; functions = x.functions; definitions = x.definitions }
left_in x c = x
