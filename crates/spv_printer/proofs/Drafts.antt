-- Lines that are put together one operand behind the other.
use Rattle.std.proofs.Common.{◌≡◌, ◌≢◌, ◌++◌, ◌∙◌, ◌<◌, ◌≤◌, ◌+◌, ◌-◌, ℕ, List, [], ◌∷◌, Option, Some, None, true}
use Rattle.std.proofs.Common.{false, get_or, is_some, length, suc, zero, take, drop, set, refl, sym, ap, arith}
use Rattle.std.proofs.Common.{append_assoc, append-nil, length-append, length-drop, length-set, length-take-le}
use Rattle.std.specs.Prelude.{IsUtf8, if◌then◌else◌}
use Rattle.std.specs.Option.{option_or}
use Rattle.std.proofs.lemmas.List.{take-append-le, drop-append-le, take_more, take_more_set, drop_all}
use Rattle.std.proofs.lemmas.Str.{IsUtf8-append, IsUtf8-nil}
use Rattle.std.proofs.Math.Seq.{take-append-add, take-append_seam}
use Rattle.std.proofs.lemmas.Bool.Decides.{nat_tests}
use Rattle.memchr.specs.Find.{is_byte3}
use Rattle.spv_table.specs.Table.{Table}
use Rattle.spv_module.specs.declared.opcode.TheConstants.{SWITCH}
use Rattle.spv_module.specs.Operand.{Plain, PlainInst, OfType, Result, Id, Word, Number, Text, Value, Mask, Argument}
use Rattle.spv_module.specs.Operand.{Mention, Context, after, result_in, start, type_in}
use Rattle.spv_lines.specs.Operand.{escaped, shown_operand}
use Rattle.spv_inst.specs.declared.definitions.Definitions.{Definitions}
use Rattle.spv_inst.specs.inner.Known.{Knows}
use Rattle.spv_lines.proofs.OneMore.{result_snoc, type_snoc}
use Rattle.spv_printer.specs.declared.fast_operand.Draft.{Draft}
use Rattle.spv_printer.specs.inner.Fast.{AreCharacters, AreDrafted, IsLineOf, IsShownAlike, IsTextAdded, piece_of}
use Rattle.spv_printer.specs.inner.Fast.{pieces_of, is_no_number, results_of}
use Rattle.spv_printer.proofs.Escapes.{escaped-append, plain_escaped}
use Rattle.spv_printer.proofs.Pieces.{piece_by, pieces_shown, feed_utf8, lone_by}
use Rattle.spv_printer.proofs.Alike.{alike_by, alike_snoc}
use Rattle.spv_inst.proofs.Steps.{after_is}

pub or_none : (r : Option ℕ) → option_or r None ≡ r
or_none None = refl
or_none (Some x) = refl

-- octets that are copied to a place
pub front_copied : (old ys rest : List ℕ) (at count : ℕ) → at ≤ length old → count ≤ length ys
    → take (at + count) (take at old ++ (ys ++ rest)) ≡ take at old ++ take count ys
front_copied old ys rest at count h l =
    let k : length (take at old) ≡ at = length-take-le at old h in
    ap (λ i. take (i + count) (take at old ++ (ys ++ rest))) (sym k)
    ∙ (take-append-add (take at old) (ys ++ rest) count
    ∙ ap (λ z. take at old ++ z) (take-append-le count ys rest l))

-- what was put before the end of a cell
pub piece_taken : (cell piece rest : List ℕ) (start end room : ℕ) → drop start cell ≡ piece ++ rest
    → length cell ≡ end + room → length rest ≡ room → start ≤ end → take (end - start) (drop start cell) ≡ piece
piece_taken cell piece rest start end room e l m h =
    let a = length-drop start cell in
    let b : length (drop start cell) ≡ length (piece ++ rest) = ap length e in
    let d = length-append piece rest in
    let n : end - start ≡ length piece = omega arith in
    rw (e, n) (take-append_seam piece rest)

pub pieces_snoc : (G : Table) (os : List Plain) (o : Plain)
    → pieces_of G (os ++ (o ∷ [])) ≡ pieces_of G os ++ piece_of G o
pieces_snoc G [] o = append-nil (piece_of G o)
pieces_snoc G (p ∷ os) o =
    ap (λ z. piece_of G p ++ z) (pieces_snoc G os o) ∙ sym (append_assoc (piece_of G p) (pieces_of G os) (piece_of G o))

pub other_count : (os : List Plain) (o : Plain) → result_in (o ∷ []) ≡ None
    → results_of (os ++ (o ∷ [])) ≡ results_of os
other_count [] (Result x) n = cc
other_count [] _ n = refl
other_count (OfType x ∷ os) o n = other_count os o n
other_count (Result x ∷ os) o n = let e = other_count os o n in omega arith
other_count (Id x ∷ os) o n = other_count os o n
other_count (Word x ∷ os) o n = other_count os o n
other_count (Argument x ∷ os) o n = other_count os o n
other_count (Mention x ∷ os) o n = other_count os o n
other_count (Number a b w ∷ os) o n = other_count os o n
other_count (Text u ∷ os) o n = other_count os o n
other_count (Value k x ∷ os) o n = other_count os o n
other_count (Mask k x ∷ os) o n = other_count os o n

one_more : (os : List Plain) (x : ℕ) → results_of (os ++ (Result x ∷ [])) ≡ results_of os + 1
one_more [] x = refl
one_more (OfType y ∷ os) x = one_more os x
one_more (Result y ∷ os) x = let e = one_more os x in omega arith
one_more (Id y ∷ os) x = one_more os x
one_more (Word y ∷ os) x = one_more os x
one_more (Argument y ∷ os) x = one_more os x
one_more (Mention y ∷ os) x = one_more os x
one_more (Number a b w ∷ os) x = one_more os x
one_more (Text u ∷ os) x = one_more os x
one_more (Value k y ∷ os) x = one_more os x
one_more (Mask k y ∷ os) x = one_more os x

-- before all operands
pub drafted_first : (G : Table) (defined : Definitions) (c : Draft) (buffer : List ℕ) → c.at ≡ 128 → c.result ≡ None
    → c.type_id ≡ None → 128 ≤ length buffer → AreDrafted G defined [] c buffer
drafted_first G defined c buffer e r t h =
    let l = length-take-le 128 buffer h in
    let d : drop 128 (take c.at buffer) ≡ [] = rw e (drop_all 128 (take 128 buffer) (omega arith)) in
    record {
      low = omega arith;
      within = omega arith;
      text = d;
      alike = λ before opcode k m. tt;
      result = sym r;
      count = rw r refl;
      type_id = sym t;
      utf8 = rw d IsUtf8-nil;
    }

-- the result
pub drafted_result : (G : Table) (defined : Definitions) (os : List Plain) (o : Plain) (x : ℕ) (c next : Draft)
    (buffer : List ℕ) → o ≡ Result x → c.result ≡ None → AreDrafted G defined os c buffer → next.at ≡ c.at
    → next.result ≡ Some x → next.type_id ≡ c.type_id
    → AreDrafted G defined (os ++ (o ∷ [])) next buffer
drafted_result G defined os o x c next buffer e n a i r t =
    let z : results_of os ≡ 0 = a.count ∙ ap (λ z. if is_some z then 1 else 0) n in
    let m = one_more os x in
    let steps : AreDrafted G defined (os ++ (Result x ∷ [])) next buffer =
    record {
      low = rw i a.low;
      within = rw i a.within;
      text = rw i (a.text ∙ (sym (append-nil (pieces_of G os)) ∙ sym (pieces_snoc G os (Result x))));
      alike = λ before opcode k m. let b = start before opcode in
          alike_snoc G b os (Result x) (a.alike before opcode k m) (alike_by G (after b os) (Result x) refl);
      result = sym (result_snoc os (Result x)) ∙ (ap (λ z. option_or z (Some x)) (a.result ∙ n) ∙ sym r);
      count = m ∙ (ap (λ z. z + 1) z ∙ ap (λ z. if is_some z then 1 else 0) (sym r));
      type_id = sym (type_snoc os (Result x)) ∙ (or_none (type_in os) ∙ (a.type_id ∙ sym t));
      utf8 = rw i a.utf8;
    }
    in
    rw e steps

pub drafted_characters : (G : Table) (defined : Definitions) (os : List Plain) (c : Draft) (buffer : List ℕ)
    → AreDrafted G defined os c buffer → AreCharacters c buffer
drafted_characters G defined os c buffer a = record { low = a.low; within = a.within; utf8 = a.utf8 }

-- the line feed behind them
pub characters_ended : (c : Draft) (buffer : List ℕ) → AreCharacters c buffer → c.at < length buffer
    → drop 128 (take (c.at + 1) (set buffer c.at 10)) ≡ drop 128 (take c.at buffer) ++ (10 ∷ [])
characters_ended c buffer a h =
    let low = a.low in
    let l = length-take-le c.at buffer a.within in
    let m = take_more_set buffer c.at 10 h in
    ap (drop 128) m ∙ drop-append-le 128 (take c.at buffer) (10 ∷ []) (omega arith)

pub ended_utf8 : (c : Draft) (buffer : List ℕ) → AreCharacters c buffer → c.at < length buffer
    → IsUtf8 (drop 128 (take (c.at + 1) (set buffer c.at 10)))
ended_utf8 c buffer a h =
    rw (characters_ended c buffer a h) (IsUtf8-append (drop 128 (take c.at buffer)) (10 ∷ []) a.utf8 feed_utf8)

-- a text in quotes that is put octet by octet
pub quoted_begun : (old : List ℕ) (at : ℕ) → at + 96 ≤ length old
    → take (at + 2 + 0) (set (set old at 32) (at + 1) 34) ≡ take at old ++ (32 ∷ 34 ∷ [])
quoted_begun old at h =
    let s = length-set old at 32 in
    let e : at + 2 + 0 ≡ at + 1 + 1 = omega arith in
    let a = take_more_set old at 32 (omega arith) in
    let b = take_more_set (set old at 32) (at + 1) 34 (omega arith) in
    rw e (b ∙ (ap (λ z. z ++ (34 ∷ [])) a ∙ append_assoc (take at old) (32 ∷ []) (34 ∷ [])))

not_mark : (b : ℕ) → (b ≡ 34 → ⊥) → (b ≡ 92 → ⊥) → (b ≡ 10 → ⊥) → is_byte3 34 92 10 b ≡ true → ⊥
not_mark b x y z e = grind (arith, nat_tests)

one_plain : (b : ℕ) → (b ≡ 34 → ⊥) → (b ≡ 92 → ⊥) → (b ≡ 10 → ⊥) → escaped (b ∷ []) ≡ b ∷ []
one_plain b x y z = plain_escaped (b ∷ []) go
  where
    go : (k : ℕ) → k < length (b ∷ []) → is_byte3 34 92 10 (get_or (b ∷ []) k 0) ≡ true → ⊥
    go zero l e = not_mark b x y z e
    go (suc k) l e = omega arith

pub plain_next : (octets : List ℕ) (count : ℕ) → count < length octets → escaped (take count octets) ≡ take count octets
    → (get_or octets count 0 ≡ 34 → ⊥) → (get_or octets count 0 ≡ 92 → ⊥) → (get_or octets count 0 ≡ 10 → ⊥)
    → escaped (take (count + 1) octets) ≡ take (count + 1) octets
plain_next octets count l e x y z =
    let b = get_or octets count 0 in
    let m = take_more octets count 0 l in
    rw m (escaped-append (take count octets) (b ∷ [])
    ∙ (ap (λ w. w ++ escaped (b ∷ [])) e ∙ ap (λ w. take count octets ++ w) (one_plain b x y z)))

-- one operand more, which is shown alike behind the others
pub drafted_alike : (G : Table) (defined : Definitions) (os : List Plain) (o : Plain) (c next : Draft)
    (old new : List ℕ) → length new ≡ length old → AreDrafted G defined os c old
    → IsTextAdded (shown_operand G false o) c.at next.at old new
    → ((b : Context) → Knows defined b.before → b.opcode ≢ SWITCH → type_in b.operands ≡ c.type_id → IsShownAlike G b o)
    → result_in (o ∷ []) ≡ None → next.result ≡ c.result → next.type_id ≡ option_or c.type_id (type_in (o ∷ []))
    → c.at + 96 ≤ length old → AreDrafted G defined (os ++ (o ∷ [])) next new
drafted_alike G defined os o c next old new s a p y n r t room =
    let low = a.low in
    let w = a.within in
    let g = p.low in
    let h = p.high in
    let l = length-take-le c.at old w in
    let d : drop 128 (take next.at new) ≡ drop 128 (take c.at old)
    ++ (32 ∷ shown_operand G false o) =
    ap (drop 128) p.text ∙ drop-append-le 128 (take c.at old) (32 ∷ shown_operand G false o) (omega arith) in
    record {
      low = omega arith;
      within = omega arith;
      text = d ∙ (ap (λ z. z ++ (32 ∷ shown_operand G false o)) a.text
          ∙ (ap (λ z. pieces_of G os ++ z) (piece_by G o n) ∙ sym (pieces_snoc G os o)));
      alike = λ before opcode k m.
          let b = start before opcode in
          alike_snoc G b os o (a.alike before opcode k m)
          (rw (after_is b os) (y (record { before = before; opcode = opcode; operands = os }) k m a.type_id));
      result = sym (result_snoc os o) ∙ (ap (λ z. option_or (result_in os) z) n
          ∙ (or_none (result_in os) ∙ (a.result ∙ sym r)));
      count = other_count os o n ∙ (a.count ∙ ap (λ z. if is_some z then 1 else 0) (sym r));
      type_id = sym (type_snoc os o) ∙ (ap (λ z. option_or z (type_in (o ∷ []))) a.type_id ∙ sym t);
      utf8 = rw d (IsUtf8-append (drop 128 (take c.at old)) (32 ∷ shown_operand G false o) a.utf8 p.utf8);
    }

-- one that is no number
pub drafted_more : (G : Table) (defined : Definitions) (os : List Plain) (o : Plain) (c next : Draft) (old new : List ℕ)
    → length new ≡ length old → AreDrafted G defined os c old
    → IsTextAdded (shown_operand G false o) c.at next.at old new
    → is_no_number o ≡ true → result_in (o ∷ []) ≡ None → next.result ≡ c.result
    → next.type_id ≡ option_or c.type_id (type_in (o ∷ [])) → c.at + 96 ≤ length old
    → AreDrafted G defined (os ++ (o ∷ [])) next new
drafted_more G defined os o c next old new s a p y n r t room =
    drafted_alike G defined os o c next old new s a p (λ b k m e. alike_by G b o y) n r t room

-- the operands are those of a line
pub drafted_line : (G : Table) (defined : Definitions) (i : PlainInst) (c : Draft) (buffer : List ℕ) → i.opcode ≢ SWITCH
    → AreDrafted G defined i.operands c buffer → IsLineOf G defined i c buffer
drafted_line G defined i c buffer m a =
    record {
      text = λ before r ds us t k w.
          let b = start before i.opcode in
          a.text ∙ sym (pieces_shown G r b ds i.operands us t w (a.alike before i.opcode k m)
          (lone_by (is_some c.result) b i.operands refl a.count));
      result = a.result;
      type_id = a.type_id;
    }
