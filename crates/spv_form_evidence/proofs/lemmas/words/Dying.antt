-- What shows that the instruction at a word is dead.
use Rattle.std.proofs.Common.{◌≡◌, ◌++◌, ◌+◌, ◌-◌, ◌*◌, ◌/◌, ◌%◌, ◌<◌, ◌∙◌, ℕ, List, ◌∷◌, Some, None, length}
use Rattle.std.proofs.Common.{drop, slice_index, sym, ap, arith}
use Rattle.std.proofs.lemmas.List.{drop_more, drop-drop, take-append-drop, length-drop}
use Rattle.spv_table.specs.declared.table.Entry.{Entry}
use Rattle.spv_table.specs.Table.{Table, entry_of, pattern_of}
use Rattle.spv_module.specs.Operand.{Plain, PlainInst, start}
use Rattle.spv_module.specs.Spelling.{Match}
use Rattle.spv_module.specs.Instruction.{first_word}
use Rattle.spv_module.specs.Malformed.{IsMalformed}
use Rattle.spv_module.specs.declared.fault.Rule.{Rule}
use Rattle.spv_inst.specs.inner.Reading.{between}
use Rattle.spv_inst.proofs.Instructions.{Front, front_is, is_instruction}
use Rattle.spv_inst.proofs.Lists.{instruction_not_dead}
use Rattle.spv_evidence.specs.declared.evidence.Evidence.TheVariants as evidence
use Rattle.spv_form_evidence.specs.declared.words.operands.Failed.{Failed}
use Rattle.spv_form_evidence.specs.words.Evidence.{Shows}
use Rattle.spv_form_evidence.specs.words.inner.Failed.{Fails}
use Rattle.spv_form_evidence.proofs.lemmas.words.Sufficing.{pinned}

first_is : (ws : List ℕ) (at : ℕ) → at < length ws → drop at ws ≡ slice_index ws at ∷ drop (at + 1) ws
first_is ws at h = drop_more ws at 0 h

pub shown_uncounted : (G : Table) (b : List PlainInst) (ws : List ℕ) (at head : ℕ) (r : Rule) (n : ℕ)
    → at < length ws → head ≡ slice_index ws at → head / 65536 ≡ 0
    → IsMalformed G b (drop at ws) r n → Shows G b (drop at ws) r n (evidence.Opcode (head % 65536))
shown_uncounted G b ws at head r n h e z dead =
    let s : head < 65536 = omega (arith, z) in
    let o : head % 65536 ≡ head = omega (arith, z) in
    let f : drop at ws ≡ head ∷ drop (at + 1) ws = first_is ws at h ∙ ap (λ w. w ∷ drop (at + 1) ws) (sym e) in
    let d : IsMalformed G b (head ∷ drop (at + 1) ws) r n = rw f at dead in
    rw (f, o) (pinned G b (head ∷ drop (at + 1) ws) _ r 0 n (evidence.Opcode head) (Shows.no_count head (drop (at + 1)
    ws) s) d)

pub shown_past : (G : Table) (b : List PlainInst) (ws : List ℕ) (at head len : ℕ) (r : Rule) (n : ℕ)
    → at < length ws → head ≡ slice_index ws at → len ≡ length ws → len - at < head / 65536
    → IsMalformed G b (drop at ws) r n → Shows G b (drop at ws) r n (evidence.Opcode (head % 65536))
shown_past G b ws at head len r n h e c z dead =
    let s : head % 65536 < 65536 = omega arith in
    let l = length-drop (at + 1) ws in
    let m : length (drop (at + 1) ws) + 1 < head / 65536 = omega (arith, l, z, c, h) in
    let o : 65536 * (head / 65536) + head % 65536 ≡ head = omega arith in
    let f : drop at ws ≡ (65536 * (head / 65536) + head % 65536) ∷ drop (at + 1) ws = first_is ws at h ∙ ap (λ w. w ∷
    drop (at + 1) ws) (sym (o ∙ e)) in
    let d : IsMalformed G b ((65536 * (head / 65536) + head % 65536) ∷ drop (at + 1) ws) r n = rw f at dead in
    rw f
    (pinned G b ((65536 * (head / 65536) + head % 65536) ∷ drop (at + 1) ws) _ r 0 n (evidence.Opcode (head % 65536))
    (Shows.past_end (head / 65536) (head % 65536) (drop (at + 1) ws) s m) d)

pub shown_unknown : (G : Table) (b : List PlainInst) (ws : List ℕ) (at count opcode : ℕ) (r : Rule) (n : ℕ)
    → Front ws at count opcode → opcode < 65536 → None ≡ entry_of G opcode
    → IsMalformed G b (drop at ws) r n → Shows G b (drop at ws) r n (evidence.Opcode opcode)
shown_unknown G b ws at count opcode r n f h e dead =
    let us = between ws (at + 1) (at + count) in
    let vs = drop (at + count) ws in
    let g : drop at ws ≡ first_word opcode us ∷ (us ++ vs) = front_is ws at count opcode f in
    let d : IsMalformed G b (first_word opcode us ∷ (us ++ vs)) r n = rw g at dead in
    rw g (pinned G b (first_word opcode us ∷ (us ++ vs)) _ r 0 n (evidence.Opcode opcode) (Shows.no_entry opcode us vs
    h (sym e)) d)

due_shown : (G : Table) (b : List PlainInst) (opcode : ℕ) (us vs : List ℕ) (entry : Entry) (r : Rule) (n : ℕ) (f :
    Failed) → opcode < 65536 → entry_of G opcode ≡ Some entry
    → Fails G (start b opcode) (pattern_of entry) us f → IsMalformed G b (first_word opcode us ∷ (us ++ vs)) r n
    → Shows G b (first_word opcode us ∷ (us ++ vs)) r n (evidence.Due opcode f.operand f.kind)
due_shown G b opcode us vs entry r n _ h k (Fails.left_over os front x left reached) dead =
    pinned G b (first_word opcode us ∷ (us ++ vs)) _ r (1 + length front) n (evidence.Due opcode (length os) None)
    (Shows.left_over opcode us vs entry os front x left h k reached) dead
due_shown G b opcode us vs entry r n _ h k (Fails.refused os front s ds left code m reached refuses) dead =
    pinned G b (first_word opcode us ∷ (us ++ vs)) code r (1 + (length front + m)) n (evidence.Due opcode (length os)
    (Some s.kind))
    (Shows.refused opcode us vs entry os front s ds left code m h k reached refuses) dead

pub shown_failed : (G : Table) (b : List PlainInst) (ws : List ℕ) (at count opcode : ℕ) (entry : Entry) (r : Rule) (n
    : ℕ) (f : Failed) → Front ws at count opcode → opcode < 65536
    → Some entry ≡ entry_of G opcode → Fails G (start b opcode) (pattern_of entry) (between ws (at + 1) (at + count)) f
    → IsMalformed G b (drop at ws) r n → Shows G b (drop at ws) r n (evidence.Due opcode f.operand f.kind)
shown_failed G b ws at count opcode entry r n f front h k fails dead =
    let us = between ws (at + 1) (at + count) in
    let vs = drop (at + count) ws in
    let g : drop at ws ≡ first_word opcode us ∷ (us ++ vs) = front_is ws at count opcode front in
    rw g (due_shown G b opcode us vs entry r n f h (sym k) fails (rw g at dead))

-- an instruction that is spelled is not dead
pub not_matched : (G : Table) (b : List PlainInst) (ws : List ℕ) (at count opcode : ℕ) (entry : Entry) (os : List
    Plain) (r : Rule) (n : ℕ) → Front ws at count opcode → opcode < 65536 → count < 65536
    → Some entry ≡ entry_of G opcode → Match G (start b opcode) (pattern_of entry) os (between ws (at + 1) (at +
    count)) → IsMalformed G b (drop at ws) r n → ⊥
not_matched G b ws at count opcode entry os r n front h l k m dead =
    let i = is_instruction G b ws at count opcode entry os front h l k m in
    let e : (at + count) - at ≡ count = omega arith in
    let d : drop count (drop at ws) ≡ drop (at + count) ws = drop-drop count at ws in
    let g : between ws at (at + count) ++ drop (at + count) ws ≡ drop at ws = rw (e, ← d) (take-append-drop count
    (drop at ws)) in
    instruction_not_dead G b (record { opcode = opcode; operands = os }) (between ws at (at + count)) (drop (at +
    count) ws) (drop at ws) r n i dead g
