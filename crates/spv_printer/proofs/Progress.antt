-- What an encoder keeps over the operands of an instruction.
use Rattle.std.proofs.Common.{◌≡◌, ◌++◌, ◌<◌, ◌≤◌, ◌+◌, ℕ, List, [], ◌∷◌, true, false, map, length, take, drop, get_or}
use Rattle.std.proofs.Common.{refl, ap}
use Rattle.std.proofs.lemmas.List.{drop_more, take_more}
use Rattle.std.proofs.Math.ListN.{drop_of_length-le}
use Rattle.spv_table.specs.Table.{Table, Item}
use Rattle.spv_inst.specs.declared.definitions.Definitions.{Definitions}
use Rattle.spv_module.specs.declared.operand.Operand.{Operand}
use Rattle.spv_inst.specs.declared.reader.Known.{Known}
use Rattle.spv_module.specs.Operand.{Plain, PlainInst, Context, start, and_then}
use Rattle.spv_module.specs.Module.{plain_operand, plain_operands}
use Rattle.spv_module.specs.Shape.{Slot, Shape, AsParts, shape_of}
use Rattle.spv_module.specs.Refusal.{IsLeaf}
use Rattle.spv_module.specs.Spelling.{Match}
use Rattle.spv_inst.specs.Flat.{Due, OneOf, due}
use Rattle.spv_inst.specs.inner.Flat.{Matches}
use Rattle.spv_inst.specs.inner.Pending.{LeadsTo, settled}
use Rattle.spv_inst.specs.inner.Known.{IsNear}
use Rattle.spv_printer.specs.inner.Written.{Steps, Stuck}
use Rattle.spv_inst.proofs.Joined.{match_flat, flat_match}
use Rattle.spv_printer.proofs.Walk.{Walk, walk_start, walk_settled, walk_settled_none, walk_opened, walk_operand}
use Rattle.spv_printer.proofs.Walk.{walk_end, walk_too_many, walk_too_few, walk_unfit}

abbrev pub context_at : List PlainInst → ℕ → List Plain → Context
context_at before opcode os = record { before = before; opcode = opcode; operands = os }

-- Before the operand of that number: what is known, what is due, and the words written.
pub record At (G : Table) (d : Definitions) (before : List PlainInst) (opcode : ℕ) (pattern : List Due)
    (items : List Operand) (known : Known) (ds : List Due) (words : List ℕ) (i : ℕ) : Type 0 where
  pub near : IsNear d known (context_at before opcode (plain_operands (take i items)))
  pub walk : Walk G (start before opcode) pattern (plain_operands items)
      (context_at before opcode (plain_operands (take i items))) ds (plain_operands (drop i items)) words

pub at_first : (G : Table) (d : Definitions) (before : List PlainInst) (opcode : ℕ) (pattern ds : List Due)
    (items : List Operand) (known : Known) (words : List ℕ)
    → IsNear d known (start before opcode) → ds ≡ pattern → words ≡ []
    → At G d before opcode pattern items known ds words 0
at_first G d before opcode pattern ds items known words n e f =
    rw (e, f) (record { near = n; walk = walk_start G (start before opcode) pattern (plain_operands items) })

leaf_no_parts : (sh : Shape) (ts : List Slot) → IsLeaf sh → sh ≡ AsParts ts → ⊥
leaf_no_parts sh ts h e = rw e at h

walk_leads : (G : Table) (c : Context) (pattern : List Due) (all : List Plain) (d : Context) (ds : List Due) (s : Slot)
    (rest : List Due) (left : List Plain) (written : List ℕ)
    → LeadsTo G ds s rest → Walk G c pattern all d ds left written
    → Walk G c pattern all d (OneOf s ∷ rest) left written
walk_leads G c pattern all d ds s rest left written l w =
    walk_opened G c pattern all d l.slot l.rest (OneOf s ∷ rest) left written l.opened (rw l.first at w)

-- the operands left, from a number on
left_is : (items : List Operand) (i : ℕ) (o x : Operand) → i < length items → o ≡ get_or items i x
    → plain_operands (drop i items) ≡ plain_operand o ∷ plain_operands (drop (i + 1) items)
left_is items i o x h e = let f = drop_more items i x h in rw (f, ← e) refl

-- the operands so far, up to a number
so_far : (items : List Operand) (i : ℕ) (o x : Operand) → i < length items → o ≡ get_or items i x
    → plain_operands (take (i + 1) items) ≡ plain_operands (take i items) ++ (plain_operand o ∷ [])
so_far items i o x h e = let f = take_more items i x h in rw (f, ← e) (map_snoc (take i items))
  where
    map_snoc : (xs : List Operand) → plain_operands (xs ++ (o ∷ [])) ≡ plain_operands xs ++ (plain_operand o ∷ [])
    map_snoc [] = refl
    map_snoc (y ∷ xs) = ap (λ zs. plain_operand y ∷ zs) (map_snoc xs)

walk_at : (G : Table) (c : Context) (pattern : List Due) (items : List Operand) (d : Context) (ds : List Due)
    (words : List ℕ) (i : ℕ) (o x : Operand) → i < length items → o ≡ get_or items i x
    → Walk G c pattern (plain_operands items) d ds (plain_operands (drop i items)) words
    → Walk G c pattern (plain_operands items) d (settled true ds)
    (plain_operand o ∷ plain_operands (drop (i + 1) items)) words
walk_at G c pattern items d ds words i o x h e w =
    let f = left_is items i o x h e in
    walk_settled G c pattern (plain_operands items) d ds (plain_operand o) (plain_operands (drop (i + 1) items)) words
    (rw f at w)

-- an operand that is written
pub at_step : (G : Table) (d : Definitions) (before : List PlainInst) (opcode : ℕ) (pattern : List Due)
    (items : List Operand) (known next : Known) (ds es : List Due) (words more : List ℕ) (i : ℕ) (o x : Operand)
    → At G d before opcode pattern items known ds words i → i < length items → o ≡ get_or items i x
    → Steps G (context_at before opcode (plain_operands (take i items))) ds es (plain_operand o) words more
    → IsNear d next (and_then (context_at before opcode (plain_operands (take i items))) (plain_operand o))
    → At G d before opcode pattern items next es more (i + 1)
at_step G d before opcode pattern items known next ds es words more i o x a h e s n =
    let c = context_at before opcode (plain_operands (take i items)) in
    let all = plain_operands items in
    let rest = plain_operands (drop (i + 1) items) in
    let w : Walk G (start before opcode) pattern all c (settled true ds) (plain_operand o ∷ rest) words = walk_at G
    (start before opcode) pattern items c ds words i o x h e a.walk in
    let l = walk_leads G (start before opcode) pattern all c (settled true ds) s.slot s.rest
    (plain_operand o ∷ rest) words s.leads w in
    let q = walk_operand G (start before opcode) pattern all c s.slot s.rest
    (plain_operand o) rest words s.words _ l s.takes in
    record { near = rw (so_far items i o x h e) n; walk = rw (so_far items i o x h e, s.due, s.written) q }

-- one that no words spell there
stuck_out : (G : Table) (c : Context) (pattern : List Due) (all : List Plain) (d : Context) (ds : List Due) (o : Plain)
    (os : List Plain) (written : List ℕ)
    → Walk G c pattern all d ds (o ∷ os) written → Stuck G d ds o → (us : List ℕ) → Matches G c pattern all us → ⊥
stuck_out G c pattern all d ds o os written w (Stuck.none_due e) us m =
    walk_too_many G c pattern all d ds o os written w e us m
stuck_out G c pattern all d ds o os written w (Stuck.unfit s rest l h n) us m =
    walk_unfit G c pattern all d s rest o os written (λ ss e. leaf_no_parts (shape_of G d s) ss h e) n
    (walk_leads G c pattern all d (settled true ds) s rest (o ∷ os) written l
    (walk_settled G c pattern all d ds o os written w)) us m

pub at_stuck : (G : Table) (d : Definitions) (before : List PlainInst) (opcode : ℕ) (is : List Item)
    (items : List Operand) (known : Known) (ds : List Due) (words : List ℕ) (i : ℕ) (o x : Operand)
    → At G d before opcode (map due is) items known ds words i → i < length items → o ≡ get_or items i x
    → Stuck G (context_at before opcode (plain_operands (take i items))) ds (plain_operand o)
    → (vs : List ℕ) → Match G (start before opcode) is (plain_operands items) vs → ⊥
at_stuck G d before opcode is items known ds words i o x a h e s vs m =
    let f = left_is items i o x h e in
    stuck_out G (start before opcode) (map due is) (plain_operands items)
    (context_at before opcode (plain_operands (take i items))) ds (plain_operand o)
    (plain_operands (drop (i + 1) items)) words
    (rw f at a.walk) s vs (match_flat G (start before opcode) is (plain_operands items) vs m)

no_operands_left : (items : List Operand) (i : ℕ) → length items ≤ i → plain_operands (drop i items) ≡ []
no_operands_left items i h = rw (drop_of_length-le items h) refl

-- after the last operand
pub at_done : (G : Table) (d : Definitions) (before : List PlainInst) (opcode : ℕ) (is : List Item)
    (items : List Operand) (known : Known) (ds : List Due) (words : List ℕ) (i : ℕ)
    → At G d before opcode (map due is) items known ds words i → length items ≤ i → settled false ds ≡ []
    → Match G (start before opcode) is (plain_operands items) words
at_done G d before opcode is items known ds words i a h e =
    let f = no_operands_left items i h in
    flat_match G (start before opcode) is (plain_operands items) words
    (walk_end G (start before opcode) (map due is) (plain_operands items)
    (context_at before opcode (plain_operands (take i items))) ds words (rw f at a.walk) e)

pub at_missing : (G : Table) (d : Definitions) (before : List PlainInst) (opcode : ℕ) (is : List Item)
    (items : List Operand) (known : Known) (ds : List Due) (words : List ℕ) (i : ℕ) (s : Slot) (rest : List Due)
    → At G d before opcode (map due is) items known ds words i → length items ≤ i → LeadsTo G (settled false ds) s rest
    → IsLeaf (shape_of G (context_at before opcode (plain_operands (take i items))) s)
    → (vs : List ℕ) → Match G (start before opcode) is (plain_operands items) vs → ⊥
at_missing G d before opcode is items known ds words i s rest a h l leaf vs m =
    let f = no_operands_left items i h in
    let c = context_at before opcode (plain_operands (take i items)) in
    let all = plain_operands items in
    let w : Walk G (start before opcode) (map due is) all c ds [] words = rw f at a.walk in
    walk_too_few G (start before opcode) (map due is) all c s rest words
    (λ ss e. leaf_no_parts (shape_of G c s) ss leaf e)
    (walk_leads G (start before opcode) (map due is) all c (settled false ds) s rest [] words l
    (walk_settled_none G (start before opcode) (map due is) all c ds words w)) vs
    (match_flat G (start before opcode) is all vs m)
