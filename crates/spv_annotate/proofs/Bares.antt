-- Taking away the comments of the text for reading gives the shown lines.
use Rattle.std.proofs.Common.{◌≡◌, ◌≢◌, ◌<◌, ◌+◌, ◌++◌, ◌∙◌, ℕ, zero, suc, List, [], ◌∷◌, Option, Some, None, Bool}
use Rattle.std.proofs.Common.{true, false, not, ◌&&◌, refl, sym, ap, arith, append_assoc, subst, length, take, drop}
use Rattle.std.proofs.Common.{filter, map, get_or}
use Rattle.std.specs.Prelude.{codes, decimal, if◌then◌else◌, is_some, nat_eq, nat_lt}
use Rattle.std.specs.List.{AllByRecursion, flat_map, list_all, range_with_len}
use Rattle.std.proofs.lemmas.Bool.Decides.{nat_tests}
use Rattle.std.proofs.lemmas.Grind.{flat_map-append}
use Rattle.std.proofs.lemmas.List.{map-append}
use Rattle.std.proofs.lemmas.List.Elements.{filter-append}
use Rattle.spv_table.specs.Table.{Table}
use Rattle.spv_module.specs.Operand.{PlainInst}
use Rattle.spv_module.specs.declared.module.Module.{Module}
use Rattle.spv_module.specs.declared.opcode.TheConstants.{FUNCTION, LABEL}
use Rattle.spv_module.specs.Module.{plain_insts}
use Rattle.spv_layout.specs.Place.{first_word_of}
use Rattle.spv_extended.specs.declared.reach.Reach.{Reach}
use Rattle.spv_lines.specs.Text.{ended, inst_line, lines_of}
use Rattle.spv_lines.proofs.Back.{NoFeed, feedless-append}
use Rattle.spv_lines.proofs.Showing.{AreLines, lines-append, lines_ended}
use Rattle.spv_lines.specs.Plain as plain
use Rattle.spv_lines.specs.Plain.{is_control, is_late_control, plain_byte, plain_of}
use Rattle.spv_annotate.specs.declared.finding.Finding.{Finding}
use Rattle.spv_annotate.specs.Bare.{Outside, asked_lines, bare, bare_below, bare_lines, bare_text, before_comment}
use Rattle.spv_annotate.specs.Bare.{below_verdict, is_blank, trimmed}
use Rattle.spv_annotate.specs.Document.{IsSpelled, IsSubject, Subject, beginning, begun, document, ending, entries}
use Rattle.spv_annotate.specs.Document.{entry, header_piece, is_of, line_of, line_pieces, mark_piece, marks}
use Rattle.spv_annotate.specs.Document.{told_header, verdict_line, verdict_piece, version_line}
use Rattle.spv_annotate.specs.Module.{inst_at, open_function, section_before, section_of}
use Rattle.spv_annotate.specs.Notes.{column, comment, gap, notes, place_text}
use Rattle.spv_annotate.specs.Piece.{PlainPiece, text_of}
use Rattle.spv_annotate.specs.Values.{AreValues, float_of}
use Rattle.spv_annotate.proofs.Cleans.{IsClean, before_clean, plain_clean}
use Rattle.spv_annotate.proofs.Ends.{last_of, plain_last, trimmed_before}
use Rattle.spv_annotate.proofs.Feeds.{comment_feedless, lines_feedless, plain_feedless, value_feedless}
use Rattle.spv_annotate.proofs.Shown.{AreQuiet, IsQuiet, shown_count, shown_quiet}
use Rattle.spv_annotate.proofs.Texts.{no_feed_by, told_feedless}
use Rattle.spv_annotate.proofs.Told.{told_quiet}

-- The spaces before a comment.

abbrev AreSpaces : List ℕ → Type 0
AreSpaces t = AllByRecursion (λ b. b ≡ 32) t

spaces_drop : (k : ℕ) (t : List ℕ) → AreSpaces t → AreSpaces (drop k t)
spaces_drop zero t h = h
spaces_drop (suc k) [] h = tt
spaces_drop (suc k) (b ∷ t) h = spaces_drop k t h.1

both : (a b : Bool) → (a && b) ≡ true → (a ≡ true) × (b ≡ true)
both true b h = (refl, h)
both false b h = cc

spaces_by : (t : List ℕ) → list_all (λ b. nat_eq b 32) t ≡ true → AreSpaces t
spaces_by [] h = tt
spaces_by (b ∷ t) h =
    let r = both (nat_eq b 32) (list_all (λ c. nat_eq c 32) t) h in
    let e = r.0 in
    (grind (arith, nat_tests), spaces_by t r.1)

gap_spaces : (n : ℕ) → AreSpaces (gap n)
gap_spaces n = spaces_drop (if nat_lt n 47 then n else 47) column (spaces_by column refl)

trimmed_spaces : (t : List ℕ) → AreSpaces t → trimmed t ≡ []
trimmed_spaces [] h = refl
trimmed_spaces (b ∷ t) h = let e = trimmed_spaces t h.1 in
    let f : nat_eq b 32 ≡ true = (let g = h.0 in grind (arith, nat_tests)) in rw (e, f) refl

before_spaces : (t u : List ℕ) → AreSpaces t → before_comment Outside (t ++ (59 ∷ u)) ≡ t
before_spaces [] u h = refl
before_spaces (b ∷ t) u h =
    let g = h.0 in
    let e : nat_eq b 59 ≡ false = grind (arith, nat_tests) in
    let f : nat_eq b 34 ≡ false = grind (arith, nat_tests) in
    rw (e, f) (ap (λ z. b ∷ z) (before_spaces t u h.1))

-- a line with spaces and a comment behind it
bare_before : (line space rest : List ℕ) → IsClean Outside Outside line → last_of 33 line ≢ 32 → AreSpaces space
    → bare (line ++ (space ++ (59 ∷ rest))) ≡ line
bare_before line space rest c n s =
    ap trimmed (before_clean Outside Outside line (space ++ (59 ∷ rest)) c
    ∙ ap (λ z. line ++ z) (before_spaces space rest s))
    ∙ trimmed_before line space n (trimmed_spaces space s)

-- The comment behind a line begins behind its spaces.
record Begins (space whole : List ℕ) : Type 0 where
  rest : List ℕ
  all : whole ≡ space ++ (59 ∷ rest)

comment_begins : (is : List PlainInst) (value : List ℕ) (n : ℕ) (line : List ℕ)
    → Begins (gap (length line)) (comment is value n line)
comment_begins is value n line = record {
  rest = codes " inst " ++ decimal n ++ codes " word " ++ decimal (first_word_of is n)
      ++ notes is value n (inst_at is n);
  all = append_assoc (gap (length line)) (place_text n (first_word_of is n)) (notes is value n (inst_at is n));
}

pub bare_line : (is : List PlainInst) (value : List ℕ) (n : ℕ) (line : List ℕ) → IsQuiet line
    → bare (plain_of line ++ comment is value n (plain_of line)) ≡ plain_of line
bare_line is value n line q =
    let b = comment_begins is value n (plain_of line) in
    ap (λ z. bare (plain_of line ++ z)) b.all
    ∙ bare_before (plain_of line) (gap (length (plain_of line))) b.rest (plain_clean Outside Outside line q.clean)
    (plain_last 33 line (λ e. omega arith) q.last) (gap_spaces (length (plain_of line)))

byte_some : (b : ℕ) (t : List ℕ) → is_blank (plain_byte b ++ t) ≡ false
byte_some b t = split (is_control b)
  where
    split : (c : Bool) → is_blank ((if c then plain.escaped b else b ∷ []) ++ t) ≡ false
    split true = refl
    split false = refl

plain_some : (t : List ℕ) → t ≢ [] → is_blank (plain_of t) ≡ false
plain_some [] n = absurd (n refl)
plain_some (a ∷ []) n = split (is_control a)
  where
    split : (c : Bool) → is_blank (if c then plain.escaped a else a ∷ []) ≡ false
    split true = refl
    split false = refl
plain_some (a ∷ b ∷ t) n = split (is_late_control a b)
  where
    split : (l : Bool) → is_blank (if l then plain.escaped a ++ (plain.escaped b ++ plain_of t) else plain_byte a
        ++ plain_of (b ∷ t)) ≡ false
    split true = refl
    split false = byte_some a (plain_of (b ∷ t))

-- The lines of the text for reading.

-- what pieces that begin something have: an empty line, or nothing
abbrev begun_lines : ℕ → ℕ → Bool → List (List ℕ)
begun_lines opcode before inside =
    if nat_eq opcode FUNCTION then [] ∷ []
    else (if nat_eq opcode LABEL then [] else (if not inside && not (nat_eq (section_of opcode) before) then []
    ∷ [] else []))

abbrev mark_lines : Option Finding → ℕ → List (List ℕ)
mark_lines None n = []
mark_lines (Some f) n = if nat_eq f.inst n then map (λ l. codes "; ^ " ++ l) (lines_of f.lines.now) else []

abbrev beginning_lines : List PlainInst → ℕ → List (List ℕ)
beginning_lines is n = begun_lines (inst_at is n).opcode (section_before is n) (is_some (open_function is n))

abbrev noted : Subject → ℕ → List ℕ
noted S n = plain_of (line_of S n) ++ comment S.insts (S.values n) n (plain_of (line_of S n))

abbrev entry_lines : Subject → ℕ → List (List ℕ)
entry_lines S n = if is_of S.insts S.asked n then beginning_lines S.insts n
    ++ (noted S n ∷ mark_lines S.finding n) else []

abbrev ending_lines : Subject → List (List ℕ)
ending_lines S = if is_of S.insts S.asked (length S.insts) then mark_lines S.finding (length S.insts) else []

abbrev later_lines : Subject → List (List ℕ)
later_lines S = flat_map (entry_lines S) (range_with_len 0 (length S.insts)) ++ ending_lines S

-- the text of pieces, without colour
abbrev written : List PlainPiece → List ℕ
written ps = flat_map (text_of false) ps

ended-append : (ls ms : List (List ℕ)) → ended (ls ++ ms) ≡ ended ls ++ ended ms
ended-append [] ms = refl
ended-append (l ∷ ls) ms =
    ap (λ z. l ++ (10 ∷ z)) (ended-append ls ms) ∙ sym (append_assoc l (10 ∷ ended ls) (ended ms))

begun_text : (opcode before : ℕ) (inside : Bool) (n : ℕ)
    → written (begun opcode before inside n) ≡ ended (begun_lines opcode before inside)
begun_text opcode before inside n =
    split (nat_eq opcode FUNCTION) (nat_eq opcode LABEL) (not inside && not (nat_eq (section_of opcode) before))
  where
    split : (a b d : Bool)
        → written (if a then Rattle.spv_annotate.specs.Piece.Function n
        ∷ [] else (if b then Rattle.spv_annotate.specs.Piece.Block n
        ∷ [] else (if d then Rattle.spv_annotate.specs.Piece.Section n (section_of opcode) ∷ [] else [])))
        ≡ ended (if a then [] ∷ [] else (if b then [] else (if d then [] ∷ [] else [])))
    split true b d = refl
    split false true d = refl
    split false false true = refl
    split false false false = refl

mark_text : (ls : List (List ℕ)) → written (flat_map mark_piece ls) ≡ ended (map (λ l. codes "; ^ " ++ l) ls)
mark_text [] = refl
mark_text (l ∷ ls) = ap (λ z. (codes "; ^ " ++ l) ++ (10 ∷ z)) (mark_text ls)

marks_text : (o : Option Finding) (n : ℕ) → written (marks o n) ≡ ended (mark_lines o n)
marks_text None n = refl
marks_text (Some f) n = split (nat_eq f.inst n)
  where
    split : (z : Bool) → written (if z then flat_map mark_piece (lines_of f.lines.now) else []) ≡ ended
        (if z then map (λ l. codes "; ^ " ++ l) (lines_of f.lines.now) else [])
    split true = mark_text (lines_of f.lines.now)
    split false = refl

line_text : (S : Subject) (n : ℕ) → written (line_pieces S n (plain_of (line_of S n))) ≡ ended (noted S n ∷ [])
line_text S n =
    let line = plain_of (line_of S n) in
    sym (append_assoc line (comment S.insts (S.values n) n line) (10 ∷ []))

entry_text : (S : Subject) (n : ℕ) → written (entry S n) ≡ ended (entry_lines S n)
entry_text S n = split (is_of S.insts S.asked n)
  where
    split : (z : Bool) → written (if z then beginning S.insts n ++ line_pieces S n (plain_of (line_of S n))
        ++ marks S.finding n else [])
        ≡ ended (if z then beginning_lines S.insts n ++ (noted S n ∷ mark_lines S.finding n) else [])
    split true =
        let b = beginning S.insts n in
        let l = line_pieces S n (plain_of (line_of S n)) in
        let m = marks S.finding n in
        let bl = beginning_lines S.insts n in
        let ml = mark_lines S.finding n in
        let one : List (List ℕ) = noted S n ∷ [] in
        flat_map-append (text_of false) (b ++ l) m
        ∙ (ap (λ z. z ++ written m) (flat_map-append (text_of false) b l)
        ∙ (ap (λ z. (z ++ written l) ++ written m)
        (begun_text (inst_at S.insts n).opcode (section_before S.insts n) (is_some (open_function S.insts n)) n)
        ∙ (ap (λ z. (ended bl ++ z) ++ written m) (line_text S n)
        ∙ (ap (λ z. (ended bl ++ ended one) ++ z) (marks_text S.finding n)
        ∙ (append_assoc (ended bl) (ended one) (ended ml)
        ∙ (ap (λ z. ended bl ++ z) (sym (ended-append one ml))
        ∙ sym (ended-append bl (noted S n ∷ ml))))))))
    split false = refl

flat_text : (f : ℕ → List PlainPiece) (g : ℕ → List (List ℕ)) → ((n : ℕ) → written (f n) ≡ ended (g n)) → (xs : List ℕ)
    → written (flat_map f xs) ≡ ended (flat_map g xs)
flat_text f g h [] = refl
flat_text f g h (x ∷ xs) =
    flat_map-append (text_of false) (f x) (flat_map f xs)
    ∙ (ap (λ z. z ++ written (flat_map f xs)) (h x)
    ∙ (ap (λ z. ended (g x) ++ z) (flat_text f g h xs)
    ∙ sym (ended-append (g x) (flat_map g xs))))

header_text : (ls : List (List ℕ)) → written (flat_map header_piece ls) ≡ ended ls
header_text [] = refl
header_text (l ∷ ls) = ap (λ z. l ++ (10 ∷ z)) (header_text ls)

ending_text : (S : Subject) → written (ending S) ≡ ended (ending_lines S)
ending_text S = split (is_of S.insts S.asked (length S.insts))
  where
    split : (z : Bool) → written (if z then marks S.finding (length S.insts) else []) ≡ ended
        (if z then mark_lines S.finding (length S.insts) else [])
    split true = marks_text S.finding (length S.insts)
    split false = refl

-- the line of the verdict, if a fault is told
abbrev verdict_lines : Option Finding → List (List ℕ)
verdict_lines None = []
verdict_lines (Some f) = (codes "; " ++ verdict_line f) ∷ []

verdict_text : (o : Option Finding) → written (verdict_piece o) ≡ ended (verdict_lines o)
verdict_text None = refl
verdict_text (Some f) = refl

first_feedless : (ls : List (List ℕ)) → AreLines ls → NoFeed (get_or ls 0 [])
first_feedless [] h = tt
first_feedless (l ∷ ls) h = h.0

verdict_feedless : (o : Option Finding) → AreLines (verdict_lines o)
verdict_feedless None = tt
verdict_feedless (Some f) = (
  feedless-append (codes "; ") (verdict_line f) (no_feed_by (codes "; ") refl)
      (first_feedless (lines_of f.lines.now) (lines_feedless f.lines.now)),
  tt,
)

below_same : (o : Option Finding) (ls : List (List ℕ)) → below_verdict o (verdict_lines o ++ ls) ≡ ls
below_same None ls = refl
below_same (Some f) ls = refl

below_text : (S : Subject) → written (flat_map header_piece S.header ++ entries S) ≡ ended (S.header ++ later_lines S)
below_text S =
    let r = range_with_len 0 (length S.insts) in
    flat_map-append (text_of false) (flat_map header_piece S.header) (entries S)
    ∙ (ap (λ z. z ++ written (entries S)) (header_text S.header)
    ∙ (ap (λ z. ended S.header ++ z)
    (flat_map-append (text_of false) (flat_map (entry S) r) (ending S)
    ∙ (ap (λ z. z ++ written (ending S)) (flat_text (entry S) (entry_lines S) (entry_text S) r)
    ∙ (ap (λ z. ended (flat_map (entry_lines S) r) ++ z) (ending_text S)
    ∙ sym (ended-append (flat_map (entry_lines S) r) (ending_lines S)))))
    ∙ sym (ended-append S.header (later_lines S))))

document_text : (S : Subject) → written (document S) ≡ ended (verdict_lines S.finding ++ (S.header ++ later_lines S))
document_text S =
    let v = verdict_lines S.finding in
    let below = flat_map header_piece S.header ++ entries S in
    flat_map-append (text_of false) (verdict_piece S.finding) below
    ∙ (ap (λ z. z ++ written below) (verdict_text S.finding)
    ∙ (ap (λ z. ended v ++ z) (below_text S)
    ∙ sym (ended-append v (S.header ++ later_lines S))))

-- None of these lines has a line feed.

begun_feedless : (opcode before : ℕ) (inside : Bool) → AreLines (begun_lines opcode before inside)
begun_feedless opcode before inside =
    split (nat_eq opcode FUNCTION) (nat_eq opcode LABEL) (not inside && not (nat_eq (section_of opcode) before))
  where
    split : (a b d : Bool) → AreLines (if a then [] ∷ [] else (if b then [] else (if d then [] ∷ [] else [])))
    split true b d = (tt, tt)
    split false true d = tt
    split false false true = (tt, tt)
    split false false false = tt

front_feedless : (front : List ℕ) (ls : List (List ℕ)) → NoFeed front → AreLines ls
    → AreLines (map (λ l. front ++ l) ls)
front_feedless front [] f h = tt
front_feedless front (l ∷ ls) f h = (feedless-append front l f h.0, front_feedless front ls f h.1)

marks_feedless : (o : Option Finding) (n : ℕ) → AreLines (mark_lines o n)
marks_feedless None n = tt
marks_feedless (Some f) n = split (nat_eq f.inst n)
  where
    split : (z : Bool) → AreLines (if z then map (λ l. codes "; ^ " ++ l) (lines_of f.lines.now) else [])
    split true = front_feedless (codes "; ^ ") (lines_of f.lines.now) (no_feed_by (codes "; ^ ") refl)
        (lines_feedless f.lines.now)
    split false = tt

entry_feedless : (S : Subject) (n : ℕ) → NoFeed (S.values n) → AreLines (entry_lines S n)
entry_feedless S n h = split (is_of S.insts S.asked n)
  where
    split : (z : Bool) → AreLines (if z then beginning_lines S.insts n ++ (noted S n ∷ mark_lines S.finding n) else [])
    split true =
        let line = plain_of (line_of S n) in
        lines-append (beginning_lines S.insts n) (noted S n ∷ mark_lines S.finding n)
        (begun_feedless (inst_at S.insts n).opcode (section_before S.insts n) (is_some (open_function S.insts n))) (
          feedless-append line (comment S.insts (S.values n) n line) (plain_feedless (line_of S n))
              (comment_feedless S.insts (S.values n) n line h),
          marks_feedless S.finding n,
        )
    split false = tt

range_feedless : (g : ℕ → List (List ℕ)) (a m : ℕ) → ((n : ℕ) → n < a + m → AreLines (g n))
    → AreLines (flat_map g (range_with_len a m))
range_feedless g a zero h = tt
range_feedless g a (suc m) h =
    lines-append (g a) (flat_map g (range_with_len (a + 1) m)) (h a (omega arith))
    (range_feedless g (a + 1) m (λ n l. h n (omega arith)))

ending_feedless : (S : Subject) → AreLines (ending_lines S)
ending_feedless S = split (is_of S.insts S.asked (length S.insts))
  where
    split : (z : Bool) → AreLines (if z then mark_lines S.finding (length S.insts) else [])
    split true = marks_feedless S.finding (length S.insts)
    split false = tt

later_feedless : (S : Subject) → AreValues S.insts S.values → AreLines (later_lines S)
later_feedless S v =
    lines-append (flat_map (entry_lines S) (range_with_len 0 (length S.insts))) (ending_lines S)
    (range_feedless (entry_lines S) 0 (length S.insts)
    (λ n l. entry_feedless S n (value_feedless (float_of S.insts (inst_at S.insts n)) (S.values n)
    (v n (omega arith)))))
    (ending_feedless S)

-- What is left of them without comments.

bare-append : (xs ys : List (List ℕ)) → bare_lines (xs ++ ys) ≡ bare_lines xs ++ bare_lines ys
bare-append xs ys = ap (filter (λ l. if is_blank l then false else true)) (map-append bare xs ys)
    ∙ filter-append (λ l. if is_blank l then false else true) (map bare xs) (map bare ys)

bare_begun : (opcode before : ℕ) (inside : Bool) → bare_lines (begun_lines opcode before inside) ≡ []
bare_begun opcode before inside =
    split (nat_eq opcode FUNCTION) (nat_eq opcode LABEL) (not inside && not (nat_eq (section_of opcode) before))
  where
    split : (a b d : Bool) → bare_lines (if a then [] ∷ [] else (if b then [] else (if d then [] ∷ [] else []))) ≡ []
    split true b d = refl
    split false true d = refl
    split false false true = refl
    split false false false = refl

bare_mark : (ls : List (List ℕ)) → bare_lines (map (λ l. codes "; ^ " ++ l) ls) ≡ []
bare_mark [] = refl
bare_mark (l ∷ ls) = bare_mark ls

bare_marks : (o : Option Finding) (n : ℕ) → bare_lines (mark_lines o n) ≡ []
bare_marks None n = refl
bare_marks (Some f) n = split (nat_eq f.inst n)
  where
    split : (z : Bool) → bare_lines (if z then map (λ l. codes "; ^ " ++ l) (lines_of f.lines.now) else []) ≡ []
    split true = bare_mark (lines_of f.lines.now)
    split false = refl

bare_some : (x l : List ℕ) (ls : List (List ℕ)) → bare x ≡ l → is_blank l ≡ false
    → bare_lines (x ∷ ls) ≡ l ∷ bare_lines ls
bare_some x l ls e f = rw (e, f) refl

bare_entry : (S : Subject) (n : ℕ) → IsQuiet (line_of S n)
    → bare_lines (entry_lines S n) ≡ (if is_of S.insts S.asked n then plain_of (line_of S n) ∷ [] else [])
bare_entry S n q = split (is_of S.insts S.asked n)
  where
    split : (z : Bool) → bare_lines (if z then beginning_lines S.insts n
        ++ (noted S n ∷ mark_lines S.finding n) else []) ≡ (if z then plain_of (line_of S n) ∷ [] else [])
    split true =
        let line = plain_of (line_of S n) in
        let bl = beginning_lines S.insts n in
        let ml = mark_lines S.finding n in
        bare-append bl (noted S n ∷ ml)
        ∙ (ap (λ z. z ++ bare_lines (noted S n ∷ ml))
        (bare_begun (inst_at S.insts n).opcode (section_before S.insts n) (is_some (open_function S.insts n)))
        ∙ (bare_some (noted S n) line ml (bare_line S.insts (S.values n) n (line_of S n) q)
        (plain_some (line_of S n) q.some)
        ∙ ap (λ z. line ∷ z) (bare_marks S.finding n)))
    split false = refl

bare_range : (g : ℕ → List (List ℕ)) (p : ℕ → Bool) (h : ℕ → List ℕ) (a m : ℕ)
    → ((n : ℕ) → n < a + m → bare_lines (g n) ≡ (if p n then h n ∷ [] else []))
    → bare_lines (flat_map g (range_with_len a m)) ≡ map h (filter p (range_with_len a m))
bare_range g p h a zero e = refl
bare_range g p h a (suc m) e =
    bare-append (g a) (flat_map g (range_with_len (a + 1) m))
    ∙ (ap (λ z. z ++ bare_lines (flat_map g (range_with_len (a + 1) m))) (e a (omega arith))
    ∙ (ap (λ z. (if p a then h a ∷ [] else []) ++ z) (bare_range g p h (a + 1) m (λ n l. e n (omega arith)))
    ∙ join (p a)))
  where
    join : (b : Bool) → (if b then h a ∷ [] else [])
        ++ map h (filter p (range_with_len (a + 1) m)) ≡ map h
        (if b then a ∷ filter p (range_with_len (a + 1) m) else filter p (range_with_len (a + 1) m))
    join true = refl
    join false = refl

quiet_at : (ls : List (List ℕ)) (n : ℕ) → AreQuiet ls → n < length ls → IsQuiet (inst_line ls n)
quiet_at [] n h l = absurd (omega arith)
quiet_at (x ∷ ls) zero h l = h.0
quiet_at (x ∷ ls) (suc n) h l = quiet_at ls n h.1 (omega arith)

bare_ending : (S : Subject) → bare_lines (ending_lines S) ≡ []
bare_ending S = split (is_of S.insts S.asked (length S.insts))
  where
    split : (z : Bool) → bare_lines (if z then mark_lines S.finding (length S.insts) else []) ≡ []
    split true = bare_marks S.finding (length S.insts)
    split false = refl

nothing_behind : {A : Type 0} (xs : List A) → xs ++ [] ≡ xs
nothing_behind [] = refl
nothing_behind (x ∷ xs) = ap (λ ys. x ∷ ys) (nothing_behind xs)

bare_later : (S : Subject) → AreQuiet S.lines → length S.lines ≡ length S.insts
    → bare_lines (later_lines S) ≡ asked_lines S
bare_later S q e =
    bare-append (flat_map (entry_lines S) (range_with_len 0 (length S.insts))) (ending_lines S)
    ∙ (ap (λ z. bare_lines (flat_map (entry_lines S) (range_with_len 0 (length S.insts))) ++ z) (bare_ending S)
    ∙ (nothing_behind (bare_lines (flat_map (entry_lines S) (range_with_len 0 (length S.insts))))
    ∙ bare_range (entry_lines S) (is_of S.insts S.asked) (λ n. plain_of (line_of S n)) 0 (length S.insts)
    (λ n l. bare_entry S n (told_quiet S.insts (inst_at S.insts n) (inst_line S.lines n)
    (quiet_at S.lines n q (omega arith))))))

bare_ended : (o : Option Finding) (a b d e f : List ℕ) (ls : List (List ℕ)) → AreLines (a ∷ b ∷ d ∷ e ∷ f ∷ ls)
    → bare_text o (ended (verdict_lines o ++ (a ∷ b ∷ d ∷ e ∷ f ∷ ls))) ≡ ended
    ((a ∷ b ∷ d ∷ e ∷ f ∷ []) ++ bare_lines ls)
bare_ended o a b d e f ls h =
    let all = a ∷ b ∷ d ∷ e ∷ f ∷ ls in
    ap (λ ms. ended (bare_below (below_verdict o ms)))
    (lines_ended (verdict_lines o ++ all) (lines-append (verdict_lines o) all (verdict_feedless o) h))
    ∙ ap (λ ms. ended (bare_below ms)) (below_same o all)

pub bare_document : (G : Table) (reach : Reach) (m : Module) (told : Option Finding) (asked : Option ℕ) (S : Subject)
    → IsSpelled G (plain_insts m) → IsSubject G reach m told asked S
    → bare_text told (written (document S)) ≡ ended (S.header ++ asked_lines S)
bare_document G reach m told asked S s t =
    let is = plain_insts m in
    let v : AreValues S.insts S.values = subst (λ (xs : List PlainInst). AreValues xs S.values)
    (sym t.insts) t.values in
    let q = shown_quiet G is S.lines t.lines s in
    let n = shown_count G [] is S.lines t.lines ∙ ap length (sym t.insts) in
    let lf = later_feedless S v in
    let al = lines-append (told_header reach m.header) (later_lines S) (told_feedless reach m.header) lf in
    let below = told_header reach m.header ++ later_lines S in
    ap (bare_text told) (document_text S
    ∙ (ap (λ h. ended (verdict_lines S.finding ++ (h ++ later_lines S))) t.header
    ∙ ap (λ o. ended (verdict_lines o ++ below)) t.finding))
    ∙ (bare_ended told (codes "; SPIR-V") (version_line reach) (codes "; Generator: " ++ decimal m.header.generator)
    (codes "; Bound: " ++ decimal m.header.bound) (codes "; Schema: 0") (later_lines S) al
    ∙ (ap (λ ls. ended (told_header reach m.header ++ ls)) (bare_later S q n)
    ∙ ap (λ h. ended (h ++ asked_lines S)) (sym t.header)))

-- Where no function is asked for, these are all lines.

filter_all : (ns : List ℕ) → filter (λ n. true) ns ≡ ns
filter_all [] = refl
filter_all (n ∷ ns) = ap (λ z. n ∷ z) (filter_all ns)

none_asked : (S : Subject) (o : Option ℕ) → o ≡ None
    → map (λ n. plain_of (line_of S n)) (filter (is_of S.insts o) (range_with_len 0 (length S.insts))) ≡ map
    (λ n. plain_of (line_of S n)) (range_with_len 0 (length S.insts))
none_asked S None e = ap (map (λ k. plain_of (line_of S k))) (filter_all (range_with_len 0 (length S.insts)))
none_asked S (Some x) e = cc

pub bare_whole : (G : Table) (reach : Reach) (m : Module) (told : Option Finding) (S : Subject) → IsSpelled G (plain_insts m)
    → IsSubject G reach m told None S
    → bare_text told (written (document S)) ≡ ended
    (S.header ++ map (λ n. plain_of (line_of S n)) (range_with_len 0 (length S.insts)))
bare_whole G reach m told S s t =
    bare_document G reach m told None S s t ∙ ap (λ ls. ended (S.header ++ ls)) (none_asked S S.asked t.asked)
