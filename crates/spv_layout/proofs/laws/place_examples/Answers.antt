use Rattle.std.proofs.Common.{◌≡◌, ℕ, [], ◌∷◌, refl, arith}
use Rattle.spv_layout.specs.declared.class.Class.TheVariants.{Function, FunctionEnd, Label, Line, Return}
use Rattle.spv_layout.specs.Rows.{rows}
use Rattle.spv_layout.specs.Place.{terminators, IsLast, IsDefinition, IsOfSection}
use Rattle.spv_layout.specs.inner.Span.{Span, Outside, In, After, UpTo, Before}
use Rattle.spv_layout.specs.Example.{small_function}
use Rattle.spv_layout.proofs.Spans.{before_first, enters, leaves, within}
use Rattle.spv_layout.proofs.Places.{section_same}
use Rattle.spv_layout.proofs.laws.place_examples.Goals as goal

function_before_0 : Before small_function Function (FunctionEnd ∷ []) 0 Outside
function_before_0 = before_first small_function Function (FunctionEnd ∷ [])

function_0 : UpTo small_function Function (FunctionEnd ∷ []) 0 (In 0)
unfolding rows
function_0 = enters small_function Function (FunctionEnd ∷ []) 0 Function Outside (omega arith) refl function_before_0

function_before_1 : Before small_function Function (FunctionEnd ∷ []) 1 (In 0)
unfolding rows
function_before_1 = leaves small_function Function (FunctionEnd ∷ []) 0 Function (In 0) refl function_0

function_1 : UpTo small_function Function (FunctionEnd ∷ []) 1 (In 0)
unfolding rows
function_1 = enters small_function Function (FunctionEnd ∷ []) 1 Label (In 0) (omega arith) refl function_before_1

function_before_2 : Before small_function Function (FunctionEnd ∷ []) 2 (In 0)
unfolding rows
function_before_2 = leaves small_function Function (FunctionEnd ∷ []) 1 Label (In 0) refl function_1

function_2 : UpTo small_function Function (FunctionEnd ∷ []) 2 (In 0)
unfolding rows
function_2 = enters small_function Function (FunctionEnd ∷ []) 2 Line (In 0) (omega arith) refl function_before_2

function_before_3 : Before small_function Function (FunctionEnd ∷ []) 3 (In 0)
unfolding rows
function_before_3 = leaves small_function Function (FunctionEnd ∷ []) 2 Line (In 0) refl function_2

function_3 : UpTo small_function Function (FunctionEnd ∷ []) 3 (In 0)
unfolding rows
function_3 = enters small_function Function (FunctionEnd ∷ []) 3 Return (In 0) (omega arith) refl function_before_3

function_before_4 : Before small_function Function (FunctionEnd ∷ []) 4 (In 0)
unfolding rows
function_before_4 = leaves small_function Function (FunctionEnd ∷ []) 3 Return (In 0) refl function_3

function_4 : UpTo small_function Function (FunctionEnd ∷ []) 4 (In 0)
unfolding rows
function_4 = enters small_function Function (FunctionEnd ∷ []) 4 FunctionEnd (In 0) (omega arith) refl function_before_4

function_before_5 : Before small_function Function (FunctionEnd ∷ []) 5 (After 0)
unfolding rows
function_before_5 = leaves small_function Function (FunctionEnd ∷ []) 4 FunctionEnd (In 0) refl function_4

function_5 : UpTo small_function Function (FunctionEnd ∷ []) 5 (After 0)
unfolding rows
function_5 = enters small_function Function (FunctionEnd ∷ []) 5 Line (After 0) (omega arith) refl function_before_5

function_before_6 : Before small_function Function (FunctionEnd ∷ []) 6 (After 0)
unfolding rows
function_before_6 = leaves small_function Function (FunctionEnd ∷ []) 5 Line (After 0) refl function_5

block_before_0 : Before small_function Label terminators 0 Outside
block_before_0 = before_first small_function Label terminators

block_0 : UpTo small_function Label terminators 0 Outside
unfolding rows
block_0 = enters small_function Label terminators 0 Function Outside (omega arith) refl block_before_0

block_before_1 : Before small_function Label terminators 1 Outside
unfolding rows
block_before_1 = leaves small_function Label terminators 0 Function Outside refl block_0

block_1 : UpTo small_function Label terminators 1 (In 1)
unfolding rows
block_1 = enters small_function Label terminators 1 Label Outside (omega arith) refl block_before_1

block_before_2 : Before small_function Label terminators 2 (In 1)
unfolding rows
block_before_2 = leaves small_function Label terminators 1 Label (In 1) refl block_1

block_2 : UpTo small_function Label terminators 2 (In 1)
unfolding rows
block_2 = enters small_function Label terminators 2 Line (In 1) (omega arith) refl block_before_2

block_before_3 : Before small_function Label terminators 3 (In 1)
unfolding rows
block_before_3 = leaves small_function Label terminators 2 Line (In 1) refl block_2

block_3 : UpTo small_function Label terminators 3 (In 1)
unfolding rows
block_3 = enters small_function Label terminators 3 Return (In 1) (omega arith) refl block_before_3

block_before_4 : Before small_function Label terminators 4 (After 1)
unfolding rows
block_before_4 = leaves small_function Label terminators 3 Return (In 1) refl block_3

block_4 : UpTo small_function Label terminators 4 (After 1)
unfolding rows
block_4 = enters small_function Label terminators 4 FunctionEnd (After 1) (omega arith) refl block_before_4

block_before_5 : Before small_function Label terminators 5 (After 1)
unfolding rows
block_before_5 = leaves small_function Label terminators 4 FunctionEnd (After 1) refl block_4

block_5 : UpTo small_function Label terminators 5 (After 1)
unfolding rows
block_5 = enters small_function Label terminators 5 Line (After 1) (omega arith) refl block_before_5

block_before_6 : Before small_function Label terminators 6 (After 1)
unfolding rows
block_before_6 = leaves small_function Label terminators 5 Line (After 1) refl block_5

last_at : (n f : ℕ) (s : Span) → UpTo small_function Function (FunctionEnd ∷ []) n s → s ≡ After f → IsLast small_function Function n f
last_at n f _ (UpTo.outside h g) e = cc
last_at n f _ (UpTo.within g w) e = cc
last_at n f _ (UpTo.after g k l a b t) e = let x : g ≡ f = cc in rw (← x) l

defined : IsDefinition small_function 0
unfolding rows
defined = record { label = 1; there = refl; of = within small_function Function (FunctionEnd ∷ []) 1 (In 0) function_1 }

last_line : IsOfSection small_function 5 13
unfolding rows
last_line = IsOfSection.definition Line 0 refl refl (last_at 5 0 (After 0) function_5 refl) defined

pub returns : goal.returns
returns c = record {
  line = within small_function Function (FunctionEnd ∷ []) 2 (In 0) function_2;
  end = within small_function Function (FunctionEnd ∷ []) 4 (In 0) function_4;
  after = within small_function Function (FunctionEnd ∷ []) 5 (After 0) function_5;
  terminator = within small_function Label terminators 3 (In 1) block_3;
  no_block = within small_function Label terminators 4 (After 1) block_4;
  definition = last_line;
  section = λ s. let e = section_same small_function 5 12 13 s last_line in absurd (omega (arith, e));
  word = refl;
}
