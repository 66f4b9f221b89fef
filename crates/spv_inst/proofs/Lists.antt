-- Instructions, lists of them, and the dead one: each at most once.
use Rattle.std.proofs.Common.{◌≡◌, ◌≢◌, ◌++◌, ◌∙◌, ◌<◌, ◌+◌, ◌*◌, ℕ, List, [], ◌∷◌, Some, None, length, map, refl, sym}
use Rattle.std.proofs.Common.{ap, arith, length-append}
use Rattle.spv_table.specs.declared.table.Entry.{Entry}
use Rattle.spv_table.specs.Table.{Table, entry_of, pattern_of}
use Rattle.spv_module.specs.Operand.{Plain, PlainInst, start}
use Rattle.spv_module.specs.Spelling.{Match}
use Rattle.spv_module.specs.Instruction.{IsInstruction, first_word, Listing}
use Rattle.spv_module.specs.declared.fault.Rule.{Rule}
use Rattle.spv_module.specs.Refusal.{Misfit}
use Rattle.spv_module.specs.Malformed.{IsMalformed, FailsAt}
use Rattle.spv_inst.specs.Flat.{due}
use Rattle.spv_inst.proofs.Texts.{parts_same}
use Rattle.spv_inst.proofs.Flat.{unique, spelled_once}
use Rattle.spv_inst.proofs.Joined.{match_flat}
use Rattle.spv_inst.proofs.Misfits.{misfit_fails}
use Rattle.spv_inst.proofs.Refusals.{SameRefusal}
use Rattle.spv_inst.proofs.Fails.{fails_same, fails_not}

-- what a first word tells
record SameFirst (c d p q : ℕ) : Type 0 where
  pub count : c ≡ d
  pub opcode : p ≡ q

first_same : (c d p q : ℕ) → p < 65536 → q < 65536 → 65536 * c + p ≡ 65536 * d + q → SameFirst c d p q
first_same c d p q h g e = record { count = omega arith; opcode = omega arith }

entry_same : (G : Table) (p q : ℕ) (a b : Entry) → p ≡ q → entry_of G p ≡ Some a → entry_of G q ≡ Some b → a ≡ b
entry_same G p q a b e h g = let h' : entry_of G q ≡ Some a = rw e at h in cc

misfit_moved : (G : Table) (before : List PlainInst) (p q : ℕ) (a b : Entry) (us vs : List ℕ) (x : Rule) (n : ℕ) → p ≡ q
    → a ≡ b → us ≡ vs
    → Misfit G (start before q) (pattern_of b) vs x n → Misfit G (start before p) (pattern_of a) us x n
misfit_moved G before p q a b us vs x n e f g m = rw (e, f, g) m

match_moved : (G : Table) (before : List PlainInst) (p q : ℕ) (a b : Entry) (os : List Plain) (us vs : List ℕ) → p ≡ q
    → a ≡ b → us ≡ vs
    → Match G (start before q) (pattern_of b) os vs → Match G (start before p) (pattern_of a) os us
match_moved G before p q a b os us vs e f g m = rw (e, f, g) m

-- the further words, by the first word's count
record SameHead (p q : ℕ) (us xs vs ys : List ℕ) : Type 0 where
  pub opcode : p ≡ q
  pub further : us ≡ xs
  pub rest : vs ≡ ys

head_same : (p q : ℕ) (us vs xs ys : List ℕ) → p < 65536 → q < 65536
    → first_word p us ∷ (us ++ vs) ≡ first_word q xs ∷ (xs ++ ys) → SameHead p q us xs vs ys
head_same p q us vs xs ys h g e =
    let w : 65536 * (length us + 1) + p ≡ 65536 * (length xs + 1) + q = cc in
    let r = first_same (length us + 1) (length xs + 1) p q h g w in
    let n = r.count in
    let l : length us ≡ length xs = omega arith in
    let f : us ++ vs ≡ xs ++ ys = cc in
    let k = parts_same us xs vs ys l f in
    record { opcode = r.opcode; further = k.first; rest = k.second }

-- a count over what is left is no count of words that are there
passes : (c p q : ℕ) (us xs ys : List ℕ) → p < 65536 → q < 65536 → length us + 1 < c
    → (65536 * c + p) ∷ us ≡ first_word q xs ∷ (xs ++ ys) → ⊥
passes c p q us xs ys h g l e =
    let w : 65536 * c + p ≡ 65536 * (length xs + 1) + q = cc in
    let r = first_same c (length xs + 1) p q h g w in
    let n = r.count in
    let f : us ≡ xs ++ ys = cc in
    let m : length us ≡ length (xs ++ ys) = ap length f in
    let k = length-append xs ys in
    omega arith

no_count_first : (p q : ℕ) (us xs ys : List ℕ) → p < 65536 → p ∷ us ≡ first_word q xs ∷ (xs ++ ys) → ⊥
no_count_first p q us xs ys h e = let w : p ≡ 65536 * (length xs + 1) + q = cc in omega arith

no_count_past : (p q c : ℕ) (us xs : List ℕ) → p < 65536 → length xs + 1 < c → p ∷ us ≡ (65536 * c + q) ∷ xs → ⊥
no_count_past p q c us xs h l e = let w : p ≡ 65536 * c + q = cc in omega arith

pub dead_same : (G : Table) (before : List PlainInst) (ws vs : List ℕ) (a b : Rule) (n m : ℕ)
    → IsMalformed G before ws a n → IsMalformed G before vs b m → ws ≡ vs → SameRefusal a b n m
dead_same G before _ _ _ _ _ _ (IsMalformed.no_count p us h) (IsMalformed.no_count q vs g) e =
    record { code = refl; place = refl }
dead_same G before _ _ _ _ _ _ (IsMalformed.no_count p us h) (IsMalformed.past_end c q vs g l) e =
    absurd (no_count_past p q c us vs h l e)
dead_same G before _ _ _ _ _ _ (IsMalformed.no_count p us h) (IsMalformed.no_entry q vs xs g x) e =
    absurd (no_count_first p q us vs xs h e)
dead_same G before _ _ _ _ _ _ (IsMalformed.no_count p us h) (IsMalformed.misfit q vs xs y b m g x f) e =
    absurd (no_count_first p q us vs xs h e)
dead_same G before _ _ _ _ _ _ (IsMalformed.past_end c p us h l) (IsMalformed.no_count q vs g) e =
    absurd (no_count_past q p c vs us g l (sym e))
dead_same G before _ _ _ _ _ _ (IsMalformed.past_end c p us h l) (IsMalformed.past_end d q vs g k) e =
    record { code = refl; place = refl }
dead_same G before _ _ _ _ _ _ (IsMalformed.past_end c p us h l) (IsMalformed.no_entry q vs xs g x) e =
    absurd (passes c p q us vs xs h g l e)
dead_same G before _ _ _ _ _ _ (IsMalformed.past_end c p us h l) (IsMalformed.misfit q vs xs y b m g x f) e =
    absurd (passes c p q us vs xs h g l e)
dead_same G before _ _ _ _ _ _ (IsMalformed.no_entry p us xs h x) (IsMalformed.no_count q vs g) e =
    absurd (no_count_first q p vs us xs g (sym e))
dead_same G before _ _ _ _ _ _ (IsMalformed.no_entry p us xs h x) (IsMalformed.past_end d q vs g k) e =
    absurd (passes d q p vs us xs g h k (sym e))
dead_same G before _ _ _ _ _ _ (IsMalformed.no_entry p us xs h x) (IsMalformed.no_entry q vs ys g y) e =
    record { code = refl; place = refl }
dead_same G before _ _ _ _ _ _ (IsMalformed.no_entry p us xs h x) (IsMalformed.misfit q vs ys z b m g y f) e =
    let r = head_same p q us xs vs ys h g e in
    let x' : entry_of G q ≡ None = rw r.opcode at x in cc
dead_same G before _ _ _ _ _ _ (IsMalformed.misfit p us xs z a n h x f) (IsMalformed.no_count q vs g) e =
    absurd (no_count_first q p vs us xs g (sym e))
dead_same G before _ _ _ _ _ _ (IsMalformed.misfit p us xs z a n h x f) (IsMalformed.past_end d q vs g k) e =
    absurd (passes d q p vs us xs g h k (sym e))
dead_same G before _ _ _ _ _ _ (IsMalformed.misfit p us xs z a n h x f) (IsMalformed.no_entry q vs ys g y) e =
    let r = head_same p q us xs vs ys h g e in
    let x' : entry_of G q ≡ Some z = rw r.opcode at x in cc
dead_same G before _ _ _ _ _ _ (IsMalformed.misfit p us xs z a n h x f) (IsMalformed.misfit q vs ys w b m g y k) e =
    let r = head_same p q us xs vs ys h g e in
    let same = entry_same G p q z w r.opcode x y in
    let k' = misfit_moved G before p q z w us vs b m r.opcode same r.further k in
    let s = fails_same G (start before p) (map due (pattern_of z)) us us a b n m
    (misfit_fails G (start before p) (pattern_of z) us a n f)
    (misfit_fails G (start before p) (pattern_of z) us b m k') refl in
    let t = s.place in
    record { code = s.code; place = omega arith }

abbrev inst_of : ℕ → List Plain → PlainInst
inst_of p os = record { opcode = p; operands = os }

inst_same : (i j : PlainInst) → i.opcode ≡ j.opcode → i.operands ≡ j.operands → i ≡ j
inst_same i j e f =
    ap (λ p. inst_of p i.operands) e ∙ ap (λ os. inst_of j.opcode os) f

-- what two instructions at the front of the same words share
pub record SameInst (i j : PlainInst) (ws vs us xs : List ℕ) : Type 0 where
  pub inst : i ≡ j
  pub words : ws ≡ vs
  pub rest : us ≡ xs

joined_first : (p : ℕ) (ws further us : List ℕ) → ws ≡ first_word p further ∷ further
    → ws ++ us ≡ first_word p further ∷ (further ++ us)
joined_first p ws further us e = ap (λ zs. zs ++ us) e

pub instruction_same : (G : Table) (before : List PlainInst) (i j : PlainInst) (ws vs us xs : List ℕ)
    → IsInstruction G before i ws → IsInstruction G before j vs → ws ++ us ≡ vs ++ xs → SameInst i j ws vs us xs
instruction_same G before i j ws vs us xs a b e =
    let f = sym (joined_first i.opcode ws a.further us a.spelled)
    ∙ (e ∙ joined_first j.opcode vs b.further xs b.spelled) in
    let r = head_same i.opcode j.opcode a.further us b.further xs a.opcode b.opcode f in
    let n = entry_same G i.opcode j.opcode a.entry b.entry r.opcode a.known b.known in
    let m = match_moved G before i.opcode j.opcode a.entry b.entry j.operands a.further b.further r.opcode n r.further
    b.matches in
    let c = start before i.opcode in
    let is = (pattern_of a.entry) in
    let u = unique G c (map due is) i.operands j.operands a.further a.further
    (match_flat G c is i.operands a.further a.matches) (match_flat G c is j.operands a.further m) refl in
    let p = r.opcode in
    let q = r.further in
    let s = a.spelled in
    let t = b.spelled in
    record { inst = inst_same i j r.opcode u; words = cc; rest = r.rest }

pub instruction_once : (G : Table) (before : List PlainInst) (i : PlainInst) (ws vs : List ℕ)
    → IsInstruction G before i ws → IsInstruction G before i vs → ws ≡ vs
instruction_once G before i ws vs a b =
    let n = entry_same G i.opcode i.opcode a.entry b.entry refl a.known b.known in
    let m = match_moved G before i.opcode i.opcode a.entry b.entry i.operands b.further b.further refl n refl b.matches
    in
    let c = start before i.opcode in
    let is = (pattern_of a.entry) in
    let u = spelled_once G c (map due is) i.operands i.operands a.further b.further
    (match_flat G c is i.operands a.further a.matches) (match_flat G c is i.operands b.further m) refl in
    let s = a.spelled in
    let t = b.spelled in
    cc

pub instruction_nonempty : (G : Table) (before : List PlainInst) (i : PlainInst) (ws us : List ℕ)
    → IsInstruction G before i ws → ws ++ us ≢ []
instruction_nonempty G before i ws us a e =
    let f = sym (joined_first i.opcode ws a.further us a.spelled) ∙ e in cc

pub instruction_not_dead : (G : Table) (before : List PlainInst) (i : PlainInst) (ws us vs : List ℕ) (a : Rule) (n : ℕ)
    → IsInstruction G before i ws → IsMalformed G before vs a n → ws ++ us ≡ vs → ⊥
instruction_not_dead G before i ws us _ _ _ a (IsMalformed.no_count q vs g) e =
    let f = sym (joined_first i.opcode ws a.further us a.spelled) ∙ e in
    no_count_first q i.opcode vs a.further us g (sym f)
instruction_not_dead G before i ws us _ _ _ a (IsMalformed.past_end d q vs g k) e =
    let f = sym (joined_first i.opcode ws a.further us a.spelled) ∙ e in
    passes d q i.opcode vs a.further us g a.opcode k (sym f)
instruction_not_dead G before i ws us _ _ _ a (IsMalformed.no_entry q vs ys g y) e =
    let f = sym (joined_first i.opcode ws a.further us a.spelled) ∙ e in
    let r = head_same i.opcode q a.further us vs ys a.opcode g f in
    let x = a.known in
    let x' : entry_of G q ≡ Some a.entry = rw r.opcode at x in cc
instruction_not_dead G before i ws us _ _ _ a (IsMalformed.misfit q vs ys w b m g y k) e =
    let f = sym (joined_first i.opcode ws a.further us a.spelled) ∙ e in
    let r = head_same i.opcode q a.further us vs ys a.opcode g f in
    let n = entry_same G i.opcode q a.entry w r.opcode a.known y in
    let k' = misfit_moved G before i.opcode q a.entry w a.further vs b m r.opcode n r.further k in
    let c = start before i.opcode in
    let is = (pattern_of a.entry) in
    fails_not G c (map due is) a.further a.further b m i.operands (misfit_fails G c is a.further b m k')
    (match_flat G c is i.operands a.further a.matches) refl

listing_moved : (G : Table) (before : List PlainInst) (i j : PlainInst) (is : List PlainInst) (us : List ℕ) → i ≡ j
    → Listing G (before ++ (j ∷ [])) is us → Listing G (before ++ (i ∷ [])) is us
listing_moved G before i j is us e m = rw e m

pub listing_same : (G : Table) (before is js : List PlainInst) (ws vs : List ℕ) → Listing G before is ws
    → Listing G before js vs → ws ≡ vs → is ≡ js
listing_same G _ _ _ _ _ (Listing.end before) (Listing.end _) e = refl
listing_same G _ _ _ _ _ (Listing.end before) (Listing.more _ j js ws vs b m) e =
    absurd (instruction_nonempty G before j ws vs b (sym e))
listing_same G _ _ _ _ _ (Listing.more before i is ws us a l) (Listing.end _) e =
    absurd (instruction_nonempty G before i ws us a e)
listing_same G _ _ _ _ _ (Listing.more before i is ws us a l) (Listing.more _ j js vs xs b m) e =
    let r = instruction_same G before i j ws vs us xs a b e in
    let q = listing_same G (before ++ (i ∷ [])) is js us xs l (listing_moved G before i j js xs r.inst m) r.rest in
    let p = r.inst in
    cc

pub listing_once : (G : Table) (before is js : List PlainInst) (ws vs : List ℕ) → Listing G before is ws
    → Listing G before js vs → is ≡ js → ws ≡ vs
listing_once G _ _ _ _ _ (Listing.end before) (Listing.end _) e = refl
listing_once G _ _ _ _ _ (Listing.end before) (Listing.more _ j js ws vs b m) e = cc
listing_once G _ _ _ _ _ (Listing.more before i is ws us a l) (Listing.end _) e = cc
listing_once G _ _ _ _ _ (Listing.more before i is ws us a l) (Listing.more _ j js vs xs b m) e =
    let p : i ≡ j = cc in
    let q : is ≡ js = cc in
    let r = listing_once G (before ++ (i ∷ [])) is js us xs l (listing_moved G before i j js xs p m) q in
    let w = instruction_once G before i ws vs a (inst_moved G before i j vs p b) in
    cc
  where
    inst_moved : (G : Table) (before : List PlainInst) (i j : PlainInst) (vs : List ℕ) → i ≡ j
        → IsInstruction G before j vs → IsInstruction G before i vs
    inst_moved G before i j vs e b = rw e b

-- what two deaths of the same words share
pub record SameDeath (a b : Rule) (k l n m : ℕ) : Type 0 where
  pub code : a ≡ b
  pub inst : k ≡ l
  pub word : n ≡ m

death_moved : (G : Table) (before : List PlainInst) (i j : PlainInst) (us : List ℕ) (a : Rule) (k n : ℕ) → i ≡ j
    → FailsAt G (before ++ (j ∷ [])) us a k n → FailsAt G (before ++ (i ∷ [])) us a k n
death_moved G before i j us a k n e m = rw e m

pub dies_same : (G : Table) (before : List PlainInst) (ws vs : List ℕ) (a b : Rule) (k l n m : ℕ)
    → FailsAt G before ws a k n → FailsAt G before vs b l m → ws ≡ vs
    → SameDeath a b k l n m
dies_same G _ _ _ _ _ _ _ _ _ (FailsAt.here before ws a n d) (FailsAt.here _ vs b m g) e =
    let r = dead_same G before ws vs a b n m d g e in
    record { code = r.code; inst = refl; word = r.place }
dies_same G _ _ _ _ _ _ _ _ _ (FailsAt.here before ws a n d) (FailsAt.later _ j vs xs b l m g r) e =
    absurd (instruction_not_dead G before j vs xs ws a n g d (sym e))
dies_same G _ _ _ _ _ _ _ _ _ (FailsAt.later before i ws us a k n d r) (FailsAt.here _ vs b m g) e =
    absurd (instruction_not_dead G before i ws us vs b m d g e)
dies_same G _ _ _ _ _ _ _ _ _ (FailsAt.later before i ws us a k n d r) (FailsAt.later _ j vs xs b l m g q) e =
    let s = instruction_same G before i j ws vs us xs d g e in
    let t = dies_same G (before ++ (i ∷ [])) us xs a b k l n m r (death_moved G before i j xs b l m s.inst q) s.rest in
    let w : length ws ≡ length vs = ap length s.words in
    let x = t.inst in
    let y = t.word in
    record { code = t.code; inst = omega arith; word = omega arith }

pub dies_not : (G : Table) (before is : List PlainInst) (ws vs : List ℕ) (a : Rule) (k n : ℕ)
    → FailsAt G before ws a k n → Listing G before is vs → ws ≡ vs → ⊥
dies_not G _ _ _ _ _ _ _ (FailsAt.here _ _ a n (IsMalformed.no_count p us h)) (Listing.end before) e = cc
dies_not G _ _ _ _ _ _ _ (FailsAt.here _ _ a n (IsMalformed.past_end c p us h l)) (Listing.end before) e = cc
dies_not G _ _ _ _ _ _ _ (FailsAt.here _ _ a n (IsMalformed.no_entry p us xs h x)) (Listing.end before) e = cc
dies_not G _ _ _ _ _ _ _ (FailsAt.here _ _ a n (IsMalformed.misfit p us xs z b m h x f)) (Listing.end before) e = cc
dies_not G _ _ _ _ _ _ _ (FailsAt.here before ws a n d) (Listing.more _ j js vs xs g m) e =
    instruction_not_dead G before j vs xs ws a n g d (sym e)
dies_not G _ _ _ _ _ _ _ (FailsAt.later before i ws us a k n d r) (Listing.end _) e =
    instruction_nonempty G before i ws us d e
dies_not G _ _ _ _ _ _ _ (FailsAt.later before i ws us a k n d r) (Listing.more _ j js vs xs g m) e =
    let s = instruction_same G before i j ws vs us xs d g e in
    dies_not G (before ++ (i ∷ [])) js us xs a k n r (listing_moved G before i j js xs s.inst m) s.rest
