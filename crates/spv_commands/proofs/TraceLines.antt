-- The lines of a trace, as they are put together and written.
use Rattle.std.proofs.Common.{◌≡◌, ◌≤◌, ◌<◌, ◌+◌, ◌-◌, ◌*◌, ◌^◌, ◌++◌, ◌∷◌, [], ◌∙◌, ℕ, suc, List, Option, Some, None}
use Rattle.std.proofs.Common.{IfSome, length, take, drop, get_or, set, ap, sym, refl, codes, arith, append_assoc}
use Rattle.std.proofs.Common.{length-append, length-drop, take-add, drop-cons}
use Rattle.std.specs.Prelude.{decimal, flat_map}
use Rattle.std.specs.Io.KnownBytes.{Appends}
use Rattle.std.proofs.KnownBytes.{Appends-nil, Appends-trans}
use Rattle.std.proofs.lemmas.Fmt.{length-decimal-le}
use Rattle.std.proofs.Math.Seq.{take-append-add}
use Rattle.std.proofs.lemmas.List.{drop-set, take_all, take-append-drop, take-append-le, length-take-le, append-nil}
use Rattle.std.proofs.lemmas.Grind.{flat_map-append}
use Rattle.spv_run.specs.declared.parts.Step.{Step}
use Rattle.spv_commands.specs.Trace.{step_line}

-- a number of 32 bits has ten digits at most
pub digits_fit : (n m : ℕ) → n ≡ m → m < 2 ^ 32 → length (decimal n) ≤ 10
digits_fit n m e h = rw e (length-decimal-le 10 m (omega arith) (omega arith) (omega arith))

joined : (d e r : List ℕ) → d ++ (32 ∷ (e ++ (10 ∷ r))) ≡ (d ++ codes " " ++ e ++ (10 ∷ [])) ++ r
joined d e r = sym (append_assoc (d ++ codes " " ++ e) (10 ∷ []) r ∙ append_assoc (d ++ codes " ") e (10 ∷ r)
    ∙ append_assoc d (codes " ") (e ++ (10 ∷ r)))

-- a line that was put in front of what stands behind `end`
pub line_put : (block middle last : List ℕ) (end second begin depth inst d i : ℕ) → d ≡ depth → i ≡ inst → 1 ≤ end
    → end ≤ length block → 1 ≤ second → second ≤ length middle
    → drop second middle ≡ decimal i ++ drop (end - 1) (set block (end - 1) 10)
    → drop begin last ≡ decimal d ++ drop (second - 1) (set middle (second - 1) 32)
    → drop begin last ≡ step_line (record { depth = depth; inst = inst }) ++ drop end block
line_put block middle last end second begin depth inst d i p q h k l m e f =
    let first = drop-set block (end - 1) 10 (omega arith) in
    let behind : end - 1 + 1 ≡ end = omega arith in
    let space = drop-set middle (second - 1) 32 (omega arith) in
    let digits : second - 1 + 1 ≡ second = omega arith in
    let inner : drop second middle ≡ decimal inst ++ (10 ∷ drop end block) = rw (first, behind, q) at e in
    let outer : drop begin last ≡ decimal depth ++ (32 ∷ drop second middle) = rw (space, digits, p) at f in
    outer ∙ rw inner (joined (decimal depth) (decimal inst) (drop end block))

-- the lines of all steps from one on stand at the end of a block
pub record LinesSoFar (steps : List Step) (block : List ℕ) (left begin : ℕ) : Type 0 where
  pub lines : drop begin block ≡ flat_map step_line (drop left steps)
  pub room : 22 * left ≤ begin
  pub within : begin ≤ length block

pub lines_more : (steps : List Step) (block next : List ℕ) (left begin before : ℕ) (s : Step)
    → LinesSoFar steps block left begin → 1 ≤ left → left ≤ length steps
    → s ≡ get_or steps (left - 1) s → drop before next ≡ step_line s ++ drop begin block → begin ≤ before + 22
    → before ≤ begin → length next ≡ length block
    → LinesSoFar steps next (left - 1) before
lines_more steps block next left begin before s l h k at put low high same =
    let one : suc (left - 1) ≡ left = omega arith in
    let cut : drop (left - 1) steps ≡ get_or steps (left - 1) s
    ∷ drop (suc (left - 1)) steps = drop-cons steps (left - 1) s (omega arith) in
    let front : drop (left - 1) steps ≡ s ∷ drop left steps = rw (← at, one) at cut in
    let r = l.room in
    let w = l.within in
    record { lines = rw (front, put, l.lines) refl; room = omega arith; within = omega arith }

-- so many steps were written, and no call failed
pub record StepsSoFar (old new : Option (List ℕ)) (before after : ℕ) (steps : List Step) (at : ℕ) : Type 0 where
  pub fits : at ≤ length steps
  pub written : Appends old new (flat_map step_line (take at steps))
  pub count : after ≡ before

-- the lines of a block of steps
pub block_steps : (steps : List Step) (at n : ℕ)
    → flat_map step_line (take (at + n) steps) ≡ flat_map step_line (take at steps)
    ++ flat_map step_line (take n (drop at steps))
block_steps steps at n =
    ap (flat_map step_line) (take-add at n steps) ∙ flat_map-append step_line (take at steps) (take n (drop at steps))

pub steps_more : (old middle new : Option (List ℕ)) (before after next : ℕ) (steps : List Step) (part : List ℕ)
    (at n : ℕ) → StepsSoFar old middle before after steps at
    → at + n ≤ length steps → part ≡ flat_map step_line (take n (drop at steps)) → Appends middle new part
    → next ≡ after → StepsSoFar old new before next steps (at + n)
steps_more old middle new before after next steps part at n s h e a c = record {
  fits = h;
  written = rw (block_steps steps at n, ← e)
      (Appends-trans old middle new (flat_map step_line (take at steps)) part s.written a);
  count = c ∙ s.count;
}

front_of : (a b r : List ℕ) (m : ℕ) → m ≤ length b → take (length a + m) (a ++ (b ++ r)) ≡ a ++ take m b
front_of a b r m h = take-append-add a (b ++ r) m ∙ ap (λ z. a ++ z) (take-append-le m b r h)

-- a beginning of a part was written, behind what stood before it
pub begun_behind : (old middle new : Option (List ℕ)) (a b r whole : List ℕ) → Appends old middle a
    → whole ≡ a ++ (b ++ r)
    → IfSome middle (λ xs. (m : ℕ) × (m ≤ length b) × (new ≡ Some (xs ++ take m b)))
    → IfSome old (λ xs. (m : ℕ) × (m ≤ length whole) × (new ≡ Some (xs ++ take m whole)))
begun_behind None middle new a b r whole w e i = tt
begun_behind (Some xs) None new a b r whole w e i = absurd w
begun_behind (Some xs) (Some ys) new a b r whole w e i =
    let f = i.1 in
    let long : length whole ≡ length a + (length b + length r) = rw
    (e, length-append a (b ++ r), length-append b r) refl in
    let front : take (length a + i.0) whole ≡ a ++ take i.0 b = rw e (front_of a b r i.0 f) in
    (length a + i.0, omega arith, i.2 ∙ ap Some (rw (w, front) (append_assoc xs a (take i.0 b))))

pub begun_front : (old new : Option (List ℕ)) (b r : List ℕ)
    → IfSome old (λ xs. (m : ℕ) × (m ≤ length b) × (new ≡ Some (xs ++ take m b)))
    → IfSome old (λ xs. (m : ℕ) × (m ≤ length (b ++ r)) × (new ≡ Some (xs ++ take m (b ++ r))))
begun_front old new b r i = begun_behind old old new [] b r (b ++ r) (Appends-nil old) refl i

pub begun_last : (old middle new : Option (List ℕ)) (a b : List ℕ) → Appends old middle a
    → IfSome middle (λ xs. (m : ℕ) × (m ≤ length b) × (new ≡ Some (xs ++ take m b)))
    → IfSome old (λ xs. (m : ℕ) × (m ≤ length (a ++ b)) × (new ≡ Some (xs ++ take m (a ++ b))))
begun_last old middle new a b w i =
    begun_behind old middle new a b [] (a ++ b) w (ap (λ z. a ++ z) (sym (append-nil b))) i

-- all of it was
pub begun_all : (old new : Option (List ℕ)) (whole : List ℕ) → Appends old new whole
    → IfSome old (λ xs. (m : ℕ) × (m ≤ length whole) × (new ≡ Some (xs ++ take m whole)))
begun_all None new whole w = tt
begun_all (Some xs) None whole w = absurd w
begun_all (Some xs) (Some ys) whole w =
    (length whole, omega arith, rw (take_all (length whole) whole (omega arith)) (ap Some w))

pub steps_begun : (old middle new : Option (List ℕ)) (before after : ℕ) (steps : List Step) (part : List ℕ) (at n : ℕ)
    → StepsSoFar old middle before after steps at
    → at + n ≤ length steps → part ≡ flat_map step_line (take n (drop at steps))
    → IfSome middle (λ xs. (m : ℕ) × (m ≤ length part) × (new ≡ Some (xs ++ take m part)))
    → IfSome old (λ xs. (m : ℕ) × (m ≤ length (flat_map step_line steps))
    × (new ≡ Some (xs ++ take m (flat_map step_line steps))))
steps_begun old middle new before after steps part at n s h e i =
    let whole : flat_map step_line steps ≡ flat_map step_line (take (at + n) steps)
    ++ flat_map step_line (drop (at + n) steps) =
    ap (flat_map step_line) (sym (take-append-drop (at + n) steps))
    ∙ flat_map-append step_line (take (at + n) steps) (drop (at + n) steps) in
    let cut : flat_map step_line steps ≡ flat_map step_line (take at steps)
    ++ (part ++ flat_map step_line (drop (at + n) steps)) =
    whole ∙ ap (λ z. z ++ flat_map step_line (drop (at + n) steps))
    (block_steps steps at n ∙ ap (λ z. flat_map step_line (take at steps) ++ z) (sym e))
    ∙ append_assoc (flat_map step_line (take at steps)) part (flat_map step_line (drop (at + n) steps)) in
    begun_behind old middle new (flat_map step_line (take at steps)) part (flat_map step_line (drop (at + n) steps))
    (flat_map step_line steps) s.written cut i

pub steps_all : (old new : Option (List ℕ)) (before after : ℕ) (steps : List Step) (at : ℕ)
    → StepsSoFar old new before after steps at → length steps ≤ at → Appends old new (flat_map step_line steps)
steps_all old new before after steps at s h = let w = s.written in let e = take_all at steps h in rw e at w

-- what is lent of a list from a place on, by a count that reaches its end, is the rest of it
pub rest_by : {X : Type 0} (xs : List X) (i k : ℕ) → length xs ≤ i + k → take k (drop i xs) ≡ drop i xs
rest_by xs i k h = take_all k (drop i xs) (rw (length-drop i xs) (omega arith))

pub part_lent : {X : Type 0} (xs : List X) (at n m : ℕ) → m ≡ n → take m (drop at xs) ≡ take n (drop at xs)
part_lent xs at n m e = ap (λ (k : ℕ). take k (drop at xs)) e

pub part_length : {X : Type 0} (xs : List X) (at n m : ℕ) → m ≡ n → at + n ≤ length xs
    → length (take m (drop at xs)) ≡ n
part_length xs at n m e h = rw e (length-take-le n (drop at xs) (rw (length-drop at xs) (omega arith)))
