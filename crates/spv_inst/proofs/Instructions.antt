-- One instruction at a word of the module.
use Rattle.std.proofs.Common.{◌≡◌, ◌++◌, ◌∙◌, ◌+◌, ◌-◌, ◌*◌, ◌/◌, ◌%◌, ◌≤◌, ◌<◌, ℕ, zero, suc, List, ◌∷◌, Option, Some, None, option_map}
use Rattle.std.proofs.Common.{length, take, drop, slice_index, refl, sym, ap, arith}
use Rattle.std.proofs.lemmas.List.{drop_more, drop-drop, take-append-drop, length-drop}
use Rattle.spv_table.specs.declared.table.Entry.{Entry}
use Rattle.spv_table.specs.declared.table.Item.{Item}
use Rattle.spv_table.specs.Table.{Table, entry_of, pattern_of}
use Rattle.spv_module.specs.declared.fault.Rule.TheVariants.{I1, I2, I3}
use Rattle.spv_module.specs.declared.fault.Stop.{Stop}
use Rattle.spv_module.specs.declared.fault.Stop.TheVariants.{Fault, Memory}
use Rattle.spv_module.specs.Operand.{Plain, PlainInst, start}
use Rattle.spv_module.specs.Spelling.{Match}
use Rattle.spv_module.specs.Instruction.{IsInstruction, first_word}
use Rattle.spv_module.specs.Malformed.{IsMalformed}
use Rattle.spv_inst.specs.inner.Reading.{between}
use Rattle.spv_inst.specs.inner.Step.{IsMisfit, IsDeadFrom}
use Rattle.spv_inst.proofs.Turns.{length-between}

-- the entry of a pattern
pub record EntryOf (G : Table) (opcode : ℕ) (operands : List Item) : Type 0 where
  pub entry : Entry
  pub known : Some entry ≡ entry_of G opcode
  pub pattern : entry.operands ≡ operands

pub entry_known : (G : Table) (opcode : ℕ) (operands : List Item)
    → Some operands ≡ option_map (λ (e : Entry). e.operands) (entry_of G opcode) → EntryOf G opcode operands
entry_known G opcode operands is = by (entry_of G opcode) refl is
  where
    by : (o : Option Entry) → o ≡ entry_of G opcode → Some operands ≡ option_map (λ (e : Entry). e.operands) o
        → EntryOf G opcode operands
    by (Some e) k p = record { entry = e; known = k; pattern = cc }
    by None k p = absurd cc

pub none_known : (G : Table) (opcode : ℕ) → None ≡ option_map (λ (e : Entry). e.operands) (entry_of G opcode)
    → None ≡ entry_of G opcode
none_known G opcode is = by (entry_of G opcode) is
  where
    by : (o : Option Entry) → None ≡ option_map (λ (e : Entry). e.operands) o → None ≡ o
    by None n = refl
    by (Some e) n = absurd cc

-- a count of words from a place on, of those that are there
pub record Front (ws : List ℕ) (at count opcode : ℕ) : Type 0 where
  pub within : at < length ws
  pub some : 0 < count
  pub there : count ≤ length ws - at
  pub head : slice_index ws at ≡ 65536 * count + opcode

first_is : (ws : List ℕ) (at : ℕ) → at < length ws → drop at ws ≡ slice_index ws at ∷ drop (at + 1) ws
first_is ws at h = drop_more ws at 0 h

further_is : (ws : List ℕ) (at count : ℕ) → 0 < count
    → between ws (at + 1) (at + count) ≡ take (count - 1) (drop (at + 1) ws)
further_is ws at count h = let e : (at + count) - (at + 1) ≡ count - 1 = omega arith in rw e refl

further_rest : (ws : List ℕ) (at count : ℕ) → 0 < count
    → drop (at + 1) ws ≡ between ws (at + 1) (at + count) ++ drop (at + count) ws
further_rest ws at count h =
    let e : (at + 1) + (count - 1) ≡ at + count = omega arith in
    let d : drop (count - 1) (drop (at + 1) ws) ≡ drop (at + count) ws = rw e at (drop-drop (count - 1) (at + 1) ws) in
    rw (further_is ws at count h, ← d) (sym (take-append-drop (count - 1) (drop (at + 1) ws)))

further_length : (ws : List ℕ) (at count opcode : ℕ) → Front ws at count opcode
    → length (between ws (at + 1) (at + count)) + 1 ≡ count
further_length ws at count opcode f =
    let a = f.within in
    let b = f.some in
    let t = f.there in
    let l = length-between ws (at + 1) (at + count) (omega arith) in
    omega arith

head_is : (ws : List ℕ) (at count opcode : ℕ) → Front ws at count opcode
    → slice_index ws at ≡ first_word opcode (between ws (at + 1) (at + count))
head_is ws at count opcode f = let l = further_length ws at count opcode f in rw (← l) at f.head

pub front_is : (ws : List ℕ) (at count opcode : ℕ) → Front ws at count opcode
    → drop at ws ≡ first_word opcode (between ws (at + 1) (at + count))
    ∷ (between ws (at + 1) (at + count) ++ drop (at + count) ws)
front_is ws at count opcode f =
    first_is ws at f.within ∙ (ap (λ w. w ∷ drop (at + 1) ws) (head_is ws at count opcode f)
    ∙ ap (λ zs. first_word opcode (between ws (at + 1) (at + count)) ∷ zs) (further_rest ws at count f.some))

take_head : (count w : ℕ) (xs : List ℕ) → 0 < count → take count (w ∷ xs) ≡ w ∷ take (count - 1) xs
take_head zero w xs h = absurd (omega arith)
take_head (suc n) w xs h = let e : suc n - 1 ≡ n = omega arith in rw e refl

whole_is : (ws : List ℕ) (at count opcode : ℕ) → Front ws at count opcode
    → between ws at (at + count) ≡ first_word opcode (between ws (at + 1) (at + count))
    ∷ between ws (at + 1) (at + count)
whole_is ws at count opcode f =
    let e : (at + count) - at ≡ count = omega arith in
    let w : take count (drop at ws) ≡ slice_index ws at
    ∷ take (count - 1) (drop (at + 1) ws) =
    ap (λ zs. take count zs) (first_is ws at f.within)
    ∙ take_head count (slice_index ws at) (drop (at + 1) ws) f.some in
    rw e (w ∙ (ap (λ v. v ∷ take (count - 1) (drop (at + 1) ws)) (head_is ws at count opcode f)
    ∙ ap (λ zs. first_word opcode (between ws (at + 1) (at + count)) ∷ zs) (sym (further_is ws at count f.some))))

same_place : (at : ℕ) → at - at ≡ 0
same_place at = omega arith

pub dies_uncounted : (G : Table) (b : List PlainInst) (ws : List ℕ) (at head : ℕ) → at < length ws
    → head ≡ slice_index ws at → head / 65536 ≡ 0 → IsMalformed G b (drop at ws) I1 (at - at)
dies_uncounted G b ws at head h e z =
    let s : head < 65536 = omega arith in
    rw (same_place at, first_is ws at h, ← e) (IsMalformed.no_count head (drop (at + 1) ws) s)

pub dies_past : (G : Table) (b : List PlainInst) (ws : List ℕ) (at head : ℕ) → at < length ws → head ≡ slice_index ws at
    → length ws - at < head / 65536 → IsMalformed G b (drop at ws) I2 (at - at)
dies_past G b ws at head h e z =
    let s : head % 65536 < 65536 = omega arith in
    let l = length-drop (at + 1) ws in
    let n : length (drop (at + 1) ws) + 1 < head / 65536 = omega arith in
    let f : slice_index ws at ≡ 65536 * (head / 65536) + head % 65536 = omega arith in
    rw (same_place at, first_is ws at h, f) (IsMalformed.past_end (head / 65536) (head % 65536) (drop (at + 1) ws) s n)

pub dies_unknown : (G : Table) (b : List PlainInst) (ws : List ℕ) (at count opcode : ℕ) → Front ws at count opcode
    → opcode < 65536 → None ≡ entry_of G opcode → IsMalformed G b (drop at ws) I3 (at - at)
dies_unknown G b ws at count opcode f h e =
    rw (same_place at, front_is ws at count opcode f)
    (IsMalformed.no_entry opcode (between ws (at + 1) (at + count)) (drop (at + count) ws) h (sym e))

pub dies_misfit : (G : Table) (b : List PlainInst) (ws : List ℕ) (at count opcode : ℕ) (entry : Entry) (number : ℕ)
    (e : Stop) → Front ws at count opcode → opcode < 65536 → Some entry ≡ entry_of G opcode
    → IsMisfit G (start b opcode) (pattern_of entry) (between ws (at + 1) (at + count)) number (at + 1) e
    → IsDeadFrom G b ws number at e
dies_misfit G b ws at count opcode entry number Memory f h k m = tt
dies_misfit G b ws at count opcode entry number (Fault x) f h k m =
    let i = m.1 in
    let e : 1 + (x.word - (at + 1)) ≡ x.word - at = omega arith in (
      m.0,
      omega arith,
      rw (front_is ws at count opcode f, ← e)
          (IsMalformed.misfit opcode (between ws (at + 1) (at + count)) (drop (at + count) ws) entry x.rule
          (x.word - (at + 1)) h (sym k) m.2),
    )

pub is_instruction : (G : Table) (b : List PlainInst) (ws : List ℕ) (at count opcode : ℕ) (entry : Entry)
    (os : List Plain) → Front ws at count opcode → opcode < 65536 → count < 65536
    → Some entry ≡ entry_of G opcode → Match G (start b opcode) (pattern_of entry) os (between ws (at + 1) (at + count))
    → IsInstruction G b (record { opcode = opcode; operands = os }) (between ws at (at + count))
is_instruction G b ws at count opcode entry os f h n k m = record {
  further = between ws (at + 1) (at + count);
  entry = entry;
  opcode = h;
  count = rw (further_length ws at count opcode f) n;
  spelled = whole_is ws at count opcode f;
  known = sym k;
  matches = m;
}

pub front_of : (ws : List ℕ) (at head len : ℕ) → at < length ws → head ≡ slice_index ws at → len ≡ length ws
    → (head / 65536 ≡ 0 → ⊥) → head / 65536 ≤ len - at
    → Front ws at (head / 65536) (head % 65536)
front_of ws at head len h e l z s = record { within = h; some = omega arith; there = omega arith; head = omega arith }
