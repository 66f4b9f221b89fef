-- The ends that come of a state.
use Rattle.std.proofs.Common.{◌≡◌, ◌≢◌, ◌∙◌, ℕ, List, [], ◌∷◌, Bool, true, false, refl, ap}
use Rattle.spv_table.specs.Table.{Table}
use Rattle.spv_module.specs.Operand.{PlainInst}
use Rattle.spv_run.specs.Act.{Act, Function, Parameter, FunctionEnd, Label, Phi, Branch, Choose, Call, Return}
use Rattle.spv_run.specs.Act.{ReturnValue, Other, act_of}
use Rattle.spv_run.specs.State.{Ending, Stuck, Frame, State, Outcome, Last, Before, returned}
use Rattle.spv_run.specs.Machine.{definition, declaration, Moves, Does, step, no_choice, bad_choice}

abbrev free_of : Outcome → Bool
free_of (Last Stuck) = false
free_of (Before Stuck) = false
free_of _ = true

returned_free : (is : List PlainInst) (below : List Frame) (cs : List ℕ) (t : ℕ)
    → free_of (returned is below cs t) ≡ true
returned_free is [] cs t = refl
returned_free is (c ∷ below) cs t = refl

moved_free : (is : List PlainInst) (s : State) (a : Act) (tags : List ℕ) (o : Outcome) → Moves is s a tags o
    → free_of o ≡ true
moved_free is s Function tags o m = absurd m
moved_free is s Parameter tags o m = absurd m
moved_free is s FunctionEnd tags o m = absurd m
moved_free is s Act.Misfit tags o m = absurd m
moved_free is s Label tags o m = ap free_of m
moved_free is s (Phi ps) tags o (t, e, m) = ap free_of m
moved_free is s (Branch x) tags o (fr, l, m) = ap free_of m
moved_free is s (Choose c ls) tags o (x, left, fr, g, l, m) = ap free_of m
moved_free is s (Call x xs) tags o (definition g e bs f d m) = ap free_of m
moved_free is s (Call x xs) tags o (declaration g e bs f d m) = ap free_of m
moved_free is s Return tags o (t, e, m) = ap free_of m ∙ returned_free is s.below s.choices t
moved_free is s (ReturnValue v) tags o (t, e, m) = ap free_of m ∙ returned_free is s.below s.choices t
moved_free is s Act.Unreachable tags o m = ap free_of m
moved_free is s Other tags o m = ap free_of m

outcome_free : (G : Table) (is : List PlainInst) (s : State) (o : Outcome) → Does G is s o → free_of o ≡ true
outcome_free G is s o (step i xs tags at v r others row m) = moved_free is s (act_of i) tags o m
outcome_free G is s o (no_choice i c ls at e empty h) = ap free_of h
outcome_free G is s o (bad_choice i c k ls left at e some out h) = ap free_of h

pub last_not_stuck : (G : Table) (is : List PlainInst) (s : State) (f : Ending) → Does G is s (Last f) → f ≢ Stuck
last_not_stuck G is s f d e = let w = outcome_free G is s (Last f) d in
    let v : free_of (Last f) ≡ false = ap (λ g. free_of (Last g)) e in cc

pub before_not_stuck : (G : Table) (is : List PlainInst) (s : State) (f : Ending) → Does G is s (Before f) → f ≢ Stuck
before_not_stuck G is s f d e = let w = outcome_free G is s (Before f) d in
    let v : free_of (Before f) ≡ false = ap (λ g. free_of (Before g)) e in cc
