-- Evidence shows that an instruction is dead.
use Rattle.std.proofs.Common.{◌≡◌, ◌++◌, ◌+◌, ◌∙◌, ℕ, suc, List, [], ◌∷◌, length, refl, sym, ap, arith}
use Rattle.std.proofs.Common.{append_assoc, append-nil, length-append}
use Rattle.spv_table.specs.Table.{Table, pattern_of}
use Rattle.spv_module.specs.Operand.{PlainInst, start}
use Rattle.spv_module.specs.Instruction.{IsInstruction, Listing, IsListing}
use Rattle.spv_module.specs.Malformed.{IsMalformed, FailsAt, IsMalformedAt}
use Rattle.spv_module.specs.declared.fault.Rule.{Rule}
use Rattle.spv_evidence.specs.declared.evidence.Evidence.{Evidence}
use Rattle.spv_inst.proofs.Lists.{dead_same, instruction_same}
use Rattle.spv_form_evidence.specs.words.Evidence.{Shows, IsEvidence}
use Rattle.spv_form_evidence.proofs.lemmas.words.Reaching.{left_misfit, refused_misfit}

pub shows_dead : (G : Table) (before : List PlainInst) (words : List ℕ) (r : Rule) (n : ℕ) (e : Evidence)
    → Shows G before words r n e → IsMalformed G before words r n
shows_dead G before _ _ _ _ (Shows.no_count opcode us h) = IsMalformed.no_count opcode us h
shows_dead G before _ _ _ _ (Shows.past_end count opcode us h l) = IsMalformed.past_end count opcode us h l
shows_dead G before _ _ _ _ (Shows.no_entry opcode us vs h e) = IsMalformed.no_entry opcode us vs h e
shows_dead G before _ _ _ _ (Shows.left_over opcode us vs entry os front x left h e r) =
    IsMalformed.misfit opcode us vs entry _ (length front) h e
    (left_misfit G (start before opcode) (pattern_of entry) us
    os front x left r)
shows_dead G before _ _ _ _ (Shows.refused opcode us vs entry os front s ds left code n h e r f) =
    IsMalformed.misfit opcode us vs entry code (length front + n) h e
    (refused_misfit G (start before opcode) (pattern_of
    entry) us os front s ds left code n r f)

-- a list of instructions, and what is dead after it
pub listing_dies : (G : Table) (b is : List PlainInst) (ws : List ℕ) → Listing G b is ws
    → (vs : List ℕ) (a : Rule) (k n : ℕ) → FailsAt G (b ++ is) vs a k n
    → FailsAt G b (ws ++ vs) a (length is + k) (length ws + n)
listing_dies G _ _ _ (Listing.end b) vs a k n d =
    let e : 0 + k ≡ k = omega arith in
    let f : 0 + n ≡ n = omega arith in
    rw (e, f) (rw append-nil at d)
listing_dies G _ _ _ (Listing.more b i is ws us h l) vs a k n d =
    let d' : FailsAt G ((b ++ (i ∷ [])) ++ is) vs a k n = rw (append_assoc b (i ∷ []) is) d in
    let r = listing_dies G (b ++ (i ∷ [])) is us l vs a k n d' in
    let c = length-append ws us in
    let e : length ws + (length us + n) ≡ length (ws ++ us) + n = omega arith in
    let g : suc (length is + k) ≡ length (i ∷ is) + k = omega arith in
    rw (append_assoc ws us vs, ← e, ← g) (FailsAt.later b i ws (us ++ vs) a (length is + k) (length us + n) h r)

pub listed_dies : (G : Table) (words : List ℕ) (is : List PlainInst) (front left : List ℕ) (a : Rule) (n : ℕ)
    → words ≡ front ++ left → IsListing G is front
    → IsMalformed G is left a n → IsMalformedAt G words a (length is) (length front + n)
listed_dies G words is front left a n e l d =
    let z : length is + 0 ≡ length is = omega arith in
    rw (e, ← z) (listing_dies G [] is front l left a 0 n (FailsAt.here is left a n d))

pub suffices : (G : Table) (words : List ℕ) (r : Rule) (k n : ℕ) (e : Evidence) → IsEvidence G words r k n e
    → IsMalformedAt G words r k n
suffices G words r k n e i =
    rw (← i.number, ← i.at) (listed_dies G words i.before i.front i.left r i.place i.all i.spelled (shows_dead G
    i.before i.left r i.place e i.shows))

-- the evidence of a dead instruction is that of its own rule and word
pub pinned : (G : Table) (before : List PlainInst) (words : List ℕ) (a b : Rule) (n m : ℕ) (e : Evidence)
    → Shows G before words a n e → IsMalformed G before words b m → Shows G before words b m e
pinned G before words a b n m e s d =
    let r = dead_same G before words words a b n m (shows_dead G before words a n e s) d refl in
    rw (r.code, r.place) at s

-- one instruction more
pub listing_more : (G : Table) (b is : List PlainInst) (ws : List ℕ) → Listing G b is ws
    → (i : PlainInst) (us : List ℕ) → IsInstruction G (b ++ is) i us → Listing G b (is ++ (i ∷ [])) (ws ++ us)
listing_more G _ _ _ (Listing.end b) i us h =
    let h' : IsInstruction G b i us = rw append-nil at h in
    rw append-nil at (Listing.more b i [] us [] h' (Listing.end (b ++ (i ∷ []))))
listing_more G _ _ _ (Listing.more b j is ws xs g l) i us h =
    let h' : IsInstruction G ((b ++ (j ∷ [])) ++ is) i us = rw (append_assoc b (j ∷ []) is) h in
    rw (append_assoc ws xs us) (Listing.more b j (is ++ (i ∷ [])) ws (xs ++ us) g (listing_more G (b ++ (j ∷ [])) is
    xs l i us h'))

-- what is dead after a list of instructions that begins the words
pub record DeadThere (G : Table) (b : List PlainInst) (vs : List ℕ) (a : Rule) (taken n : ℕ) : Type 0 where
  pub place : ℕ
  pub at : n ≡ taken + place
  pub dead : IsMalformed G b vs a place

same_dies : (G : Table) (b : List PlainInst) (i j : PlainInst) (vs : List ℕ) (a : Rule) (k n : ℕ) → i ≡ j
    → FailsAt G (b ++ (j ∷ [])) vs a k n → FailsAt G (b ++ (i ∷ [])) vs a k n
same_dies G b i j vs a k n e d = rw e d

pub dead_there : (G : Table) (b is : List PlainInst) (ws : List ℕ) → Listing G b is ws
    → (xs vs : List ℕ) (a : Rule) (k n : ℕ) → FailsAt G b xs a k n → xs ≡ ws ++ vs → k ≡ length is
    → DeadThere G (b ++ is) vs a (length ws) n
dead_there G _ _ _ (Listing.end b) _ vs _ _ _ (FailsAt.here _ xs a n d) e c =
    let f : xs ≡ vs = e in
    rw append-nil (record { place = n; at = omega arith; dead = rw f at d })
dead_there G _ _ _ (Listing.end b) _ vs _ _ _ (FailsAt.later _ j ys zs a k n g d) e c = absurd (omega (arith, c))
dead_there G _ _ _ (Listing.more b i is ws us h l) _ vs _ _ _ (FailsAt.here _ xs a n d) e c = absurd (omega (arith, c))
dead_there G _ _ _ (Listing.more b i is ws us h l) _ vs _ _ _ (FailsAt.later _ j ys zs a k n g d) e c =
    let f : ws ++ (us ++ vs) ≡ ys ++ zs = sym (e ∙ append_assoc ws us vs) in
    let s = instruction_same G b i j ws ys (us ++ vs) zs h g f in
    let k' : k ≡ length is = omega (arith, c) in
    let r = dead_there G (b ++ (i ∷ [])) is us l zs vs a k n (same_dies G b i j zs a k n s.inst d) (sym s.rest) k' in
    let w : length ws ≡ length ys = ap length s.words in
    let p = r.at in
    let q = length-append ws us in
    record { place = r.place; at = omega arith; dead = rw (append_assoc b (i ∷ []) is) at r.dead }
